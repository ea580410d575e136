-- What prices are judged by. No public contract cites this file.
use Rattle.std.specs.Prelude.{◌≡◌, ℕ, ◌+◌, ◌*◌, ◌<◌, false, List, length, slice_index_or, ℤ, pos, ◌+ℤ◌, ◌≤ℤ◌}
use Rattle.msp_class.specs.declared.class.Crit.TheVariants.{SumC}
use Rattle.msp_class.specs.declared.environments.EnvKind.TheVariants.{Unrelated}
use Rattle.msp_class.specs.Env.{kind_of}
use Rattle.msp_instance.specs.declared.Need.{Need}
use Rattle.msp_instance.specs.declared.Instance.{Instance}
use Rattle.msp_instance.specs.Instance.{no_need, job_at}

-- The price of a job and of each position on a machine are together at most what the job costs there. The machine's positions are so many of
-- the column from the start on.
abbrev pub IsFairOn : ℤ → List ℤ → ℕ → ℕ → ℕ → Type 0
IsFairOn price column start count time = (k : ℕ) → k < count → (price +ℤ slice_index_or column (start + k) (pos 0)) ≤ℤ pos ((k + 1) * time)

-- The same for each machine on which the job has a time. So many positions stand for each.
abbrev pub IsFair : ℤ → List ℤ → ℕ → List Need → Type 0
IsFair price column count needs = (m : ℕ) → m < length needs → IsFairOn price column (m * count) count (slice_index_or needs m no_need).time

-- The same for each job.
abbrev pub AreFair : Instance → List ℤ → List ℤ → Type 0
AreFair i row column = (j : ℕ) → j < length i.jobs → IsFair (slice_index_or row j (pos 0)) column (length i.jobs) (job_at i j).needs

-- The sum of completion times on unrelated machines is asked for, no job may be cut, and there is a price for each job and each position.
pub record HasPricedShape (i : Instance) (row column : List ℤ) : Type 0 where
  pub sum : i.class.crit ≡ SumC
  pub unrelated : kind_of i.class.env ≡ Unrelated
  pub uncut : i.class.cut ≡ false
  pub rows : length row ≡ length i.jobs
  pub columns : length column ≡ length i.jobs * i.machines
