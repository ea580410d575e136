-- How long the operations on a machine take together, and those of a job, and the laws that shops need this time.
use Rattle.std.specs.Prelude.{◌≡◌, ℕ, ◌<◌, true, length, ℤ, pos, ◌*ℤ◌, ◌≤ℤ◌, sum_by, if◌then◌else◌, ◌==◌}
use Rattle.msp_class.specs.Env.{is_shop}
use Rattle.msp_instance.specs.declared.Instance.{Instance}
use Rattle.msp_instance.specs.Instance.{job_at}
use Rattle.msp_pieces.specs.declared.Schedule.{Schedule}
use Rattle.msp_pieces.specs.Feasible.{Feasible}
use Rattle.msp_pieces.specs.Cost.{end_of}

-- The load of a machine: how long the operations on it take together.
abbrev pub machine_load : Instance → ℕ → ℕ
machine_load i m = sum_by (λ j. sum_by (λ n. if n.machine == m then n.time else 0) j.needs) i.jobs

-- The length of a job: how long its operations take together.
abbrev pub job_length : Instance → ℕ → ℕ
job_length i j = sum_by (λ n. n.time) (job_at i j).needs

-- The law of machines: on open, flow and job shops, cut or not, a moment by which all jobs have ended is not before the load of a machine.
abbrev pub LawOfMachines : Type 0
LawOfMachines = (i : Instance) (s : Schedule) (m : ℕ) (end : ℤ) → is_shop i.class.env ≡ true → Feasible i s → pos 0 ≤ℤ end
    → ((j : ℕ) → j < length i.jobs → end_of s j ≤ℤ end) → (s.unit *ℤ pos (machine_load i m)) ≤ℤ end

-- The law of lines: on open, flow and job shops, cut or not, no job ends before its length.
abbrev pub LawOfLines : Type 0
LawOfLines = (i : Instance) (s : Schedule) (j : ℕ) → is_shop i.class.env ≡ true → Feasible i s → j < length i.jobs → (s.unit *ℤ pos (job_length i j)) ≤ℤ end_of s j
