-- How large the times, loads and speeds of an instance of its class can be.
use Rattle.std.proofs.Common.{◌*◌, ℕ, ◌<◌, ◌≤◌, eqb, List, length, get_or, sum_by, arith}
use Rattle.msp_class.specs.declared.sizes.TheConstants.{MOST_JOBS, MOST_OPERATIONS, GREATEST}
use Rattle.msp_class.proofs.Sums.{cond-le, sum_by-mono, sum_by-constant}
use Rattle.msp_instance.specs.declared.Need.{Need}
use Rattle.msp_instance.specs.declared.Job.{Job}
use Rattle.msp_instance.specs.declared.Instance.{Instance}
use Rattle.msp_instance.specs.Instance.{no_job, job_at}
use Rattle.msp_instance.specs.Conditions.{InClass}
use Rattle.msp_pieces.specs.Loads.{machine_load, job_length}
use Rattle.msp_pieces.specs.BackToBack.{time_at}
use Rattle.msp_cert.specs.Small.{HasSmallNeeds, time_there}
use Rattle.msp_cert.proofs.Facts.{small_needs}
use Rattle.msp_cert.proofs.Tried.{time_small}

needs_short : (j : Job) → HasSmallNeeds j → sum_by (λ n. n.time) j.needs ≤ GREATEST * MOST_OPERATIONS
needs_short j h = omega (arith, sum_by-mono (λ (n : Need). n.time) (λ _. GREATEST) j.needs h.short, sum_by-constant GREATEST j.needs, h.few)

there_short : (m : ℕ) (j : Job) → HasSmallNeeds j → sum_by (time_there m) j.needs ≤ GREATEST * MOST_OPERATIONS
there_short m j h =
    let less : sum_by (time_there m) j.needs ≤ sum_by (λ n. n.time) j.needs =
    sum_by-mono (time_there m) (λ (n : Need). n.time) j.needs (λ k d l. cond-le (eqb (get_or j.needs k d).machine m) (get_or j.needs k d).time) in
    omega (arith, less, needs_short j h)

module _ (i : Instance) (c : InClass i) where
  pub load_short : (m : ℕ) → machine_load i m ≤ GREATEST * MOST_OPERATIONS * MOST_JOBS
  load_short m =
      omega (
        arith,
        sum_by-mono (λ (j : Job). sum_by (time_there m) j.needs) (λ _. GREATEST * MOST_OPERATIONS) i.jobs (λ k d l. there_short m (get_or i.jobs k d) (small_needs i c k d l)),
        sum_by-constant (GREATEST * MOST_OPERATIONS) i.jobs,
        c.conditions.few,
      )

  pub length_short : (j : ℕ) → j < length i.jobs → job_length i j ≤ GREATEST * MOST_OPERATIONS
  length_short j l = needs_short (job_at i j) (small_needs i c j no_job l)

  -- the times of at most MOST_JOBS jobs together
  pub work_short : (jobs : List ℕ) → length jobs ≤ MOST_JOBS → sum_by (time_at i) jobs ≤ (MOST_JOBS * GREATEST)
  work_short jobs few = omega (arith, sum_by-mono (time_at i) (λ _. GREATEST) jobs (λ k d l. time_small i (get_or jobs k d) c), sum_by-constant GREATEST jobs)
