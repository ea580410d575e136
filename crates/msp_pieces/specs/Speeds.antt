-- The law of speeds: what jobs on identical and uniform machines take at least, by a threshold of speed.
use Rattle.std.specs.Prelude.{◌≡◌, ℕ, ◌+◌, ◌*◌, ◌-◌, ◌<◌, ◌⊎◌, Bool, true, length, slice_index_or, ℤ, pos, ◌*ℤ◌, ◌≤ℤ◌, sum_by}
use Rattle.std.specs.List.{range_with_len}
use Rattle.msp_class.specs.declared.environments.EnvKind.{EnvKind}
use Rattle.msp_class.specs.declared.environments.EnvKind.TheVariants.{Identical, Uniform, Unrelated, OpenShop, FlowShop, JobShop}
use Rattle.msp_class.specs.Env.{kind_of}
use Rattle.msp_instance.specs.declared.Instance.{Instance}
use Rattle.msp_pieces.specs.declared.Schedule.{Schedule}
use Rattle.msp_pieces.specs.Feasible.{Feasible}
use Rattle.msp_pieces.specs.Cost.{end_of}
use Rattle.msp_pieces.specs.Laws.{time_together, jobs_together, EndsLast}

-- The machines are identical or uniform: each has a speed at which it works on every job.
abbrev pub HaveSpeeds : EnvKind → Type 0
HaveSpeeds kind = (kind ≡ Identical) ⊎ (kind ≡ Uniform)

-- The speed of a machine: its own where machines are uniform, and else 1.
abbrev pub speed_by : EnvKind → Instance → ℕ → ℕ
speed_by Identical i m = 1
speed_by Uniform i m = slice_index_or i.speeds m 0
speed_by Unrelated i m = 1
speed_by OpenShop i m = 1
speed_by FlowShop i m = 1
speed_by JobShop i m = 1

abbrev pub speed_of : Instance → ℕ → ℕ
speed_of i m = speed_by (kind_of i.class.env) i m

-- By how much the machines are faster than a threshold, together. A slower one counts 0.
abbrev pub speed_above : Instance → ℕ → ℕ
speed_above i threshold = sum_by (λ m. speed_of i m - threshold) (range_with_len 0 i.machines)

-- Up to the moment `end` the jobs that pass the test take no more than each of them at the threshold of speed on a machine of its own,
-- and all that machines are faster.
abbrev pub HasSpeedFor : Instance → Schedule → (ℕ → Bool) → ℕ → ℤ → Type 0
HasSpeedFor i s test threshold end = (s.unit *ℤ pos (time_together i test)) ≤ℤ (end *ℤ pos (jobs_together i test * threshold + speed_above i threshold))

-- The law of speeds: jobs on identical or uniform machines, cut or not, end only when the machines have had the time for them, whatever
-- the threshold.
pub record LawOfSpeeds : Type 0 where
  -- at any moment by which they all end
  pub room : (i : Instance) (s : Schedule) (test : ℕ → Bool) (threshold : ℕ) (end : ℤ) → HaveSpeeds (kind_of i.class.env) → Feasible i s → pos 0 ≤ℤ end
      → ((j : ℕ) → j < length i.jobs → test j ≡ true → end_of s j ≤ℤ end) → HasSpeedFor i s test threshold end
  -- at the greatest of their ends, where there is such a job
  pub last : (i : Instance) (s : Schedule) (test : ℕ → Bool) (threshold : ℕ) → HaveSpeeds (kind_of i.class.env) → Feasible i s → (j : ℕ) → j < length i.jobs → test j ≡ true
      → (k : ℕ) × EndsLast i s test k × HasSpeedFor i s test threshold (end_of s k)
