-- The times of a job on two machines. No public contract cites this file.
use Rattle.std.specs.Prelude.{ℕ}
use Rattle.msp_instance.specs.declared.Instance.{Instance}
use Rattle.msp_instance.specs.Instance.{need_at}
use Rattle.msp_shops.specs.declared.pass.JobTimes.{JobTimes}

-- The times of a job at two of its operations.
abbrev pub times_at : Instance → ℕ → ℕ → ℕ → JobTimes
times_at i first second j = record { job = j; first = (need_at i j first).time; second = (need_at i j second).time }
