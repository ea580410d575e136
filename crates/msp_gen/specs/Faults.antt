-- When no instance is made.
use Rattle.std.specs.Prelude.{ℕ, ◌≤◌}
use Rattle.msp_class.specs.declared.sizes.TheConstants.{MOST_JOBS}
use Rattle.msp_gen.specs.declared.instance.GenFault.{GenFault}
use Rattle.msp_gen.specs.declared.instance.GenFault.TheVariants.{Jobs, Memory}

-- A number of jobs that an instance may have.
abbrev pub IsCount : ℕ → Type 0
IsCount jobs = (1 ≤ jobs) × (jobs ≤ MOST_JOBS)

-- What a fault says of the number of jobs.
abbrev pub IsGenFault : ℕ → GenFault → Type 0
IsGenFault jobs Jobs = ¬ IsCount jobs
IsGenFault jobs Memory = IsCount jobs
