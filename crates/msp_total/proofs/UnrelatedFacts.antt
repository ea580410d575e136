-- What an instance of unrelated machines has.
use Rattle.std.proofs.Common.{◌≡◌, ℕ, ◌*◌, ◌<◌, ◌≤◌, length, arith}
use Rattle.msp_class.specs.declared.sizes.TheConstants.{GREATEST, GREATEST_MULTIPLE}
use Rattle.msp_instance.specs.declared.Instance.{Instance}
use Rattle.msp_instance.specs.Instance.{no_need, no_job, job_at, need_at}
use Rattle.msp_pieces.proofs.feasible.OfClass.{IsOfClass}
use Rattle.msp_total.specs.Classes.{unrelated_class}

abbrev pub IsUnrelatedInstance : Instance → Type 0
IsUnrelatedInstance i = IsOfClass i unrelated_class

pub needs : (i : Instance) → IsUnrelatedInstance i → (j : ℕ) → j < length i.jobs → length (job_at i j).needs ≡ i.machines
needs i h j l = (h.jobs j no_job l).needs.shape.0

pub times : (i : Instance) → IsUnrelatedInstance i → (j m : ℕ) → j < length i.jobs → m < i.machines → (1 ≤ (need_at i j m).time) × ((need_at i j m).time ≤ GREATEST * GREATEST_MULTIPLE)
times i h j m l b = let n = (h.jobs j no_job l).needs in n.times m no_need (omega (arith, n.shape.0))
