-- The class that Smith's rule solves, and the order in which the rule puts the jobs.
use Rattle.std.specs.Prelude.{◌≡◌, ℕ, ◌*◌, ◌<◌, ◌⊎◌, false, List, length, AllPairs, IsPermutation}
use Rattle.std.specs.List.{range_with_len}
use Rattle.msp_class.specs.declared.class.Class.{Class}
use Rattle.msp_class.specs.declared.class.Env.TheVariants.{One}
use Rattle.msp_class.specs.declared.class.Order.TheVariants.{Free}
use Rattle.msp_class.specs.declared.class.Times.TheVariants.{General}
use Rattle.msp_class.specs.declared.class.Crit.TheVariants.{SumWC}
use Rattle.msp_instance.specs.declared.Instance.{Instance}
use Rattle.msp_instance.specs.Instance.{job_at, need_at}

-- One machine, neither preemption nor precedence nor release dates, any times, and the sum of weighted completion times: `1||sumwC`.
abbrev pub smith_class : Class
smith_class = record { env = One; cut = false; order = Free; heads = false; times = General; crit = SumWC }

-- Job a goes before job b: it has the greater weight for its time, or as great a one and the lesser number.
abbrev pub GoesBefore : Instance → ℕ → ℕ → Type 0
GoesBefore i a b =
    ((job_at i b).weight * (need_at i a 0).time < (job_at i a).weight * (need_at i b 0).time)
    ⊎ (((job_at i b).weight * (need_at i a 0).time ≡ (job_at i a).weight * (need_at i b 0).time) × (a < b))

-- All jobs, each once, by Smith's rule.
pub record IsSmithOrder (i : Instance) (order : List ℕ) : Type 0 where
  pub all : IsPermutation (range_with_len 0 (length i.jobs)) order
  pub sorted : AllPairs (GoesBefore i) order
