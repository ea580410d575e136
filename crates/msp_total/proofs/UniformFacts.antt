-- What an instance of uniform machines has.
use Rattle.std.proofs.Common.{ℕ, ◌<◌, ◌≤◌, length, All, arith}
use Rattle.msp_class.specs.declared.sizes.TheConstants.{GREATEST}
use Rattle.msp_instance.specs.declared.Instance.{Instance}
use Rattle.msp_instance.specs.Instance.{no_need, no_job, need_at}
use Rattle.msp_pieces.proofs.feasible.OfClass.{IsOfClass}
use Rattle.msp_total.specs.Classes.{uniform_class}

abbrev pub IsUniformInstance : Instance → Type 0
IsUniformInstance i = IsOfClass i uniform_class

pub times : (i : Instance) → IsUniformInstance i → (j : ℕ) → j < length i.jobs → (1 ≤ (need_at i j 0).time) × ((need_at i j 0).time ≤ GREATEST)
times i h j l = let n = (h.jobs j no_job l).needs in n.times 0 no_need (omega (arith, n.shape.0))

-- each speed is at least 1
pub speeds_some : (i : Instance) → IsUniformInstance i → All (λ s. 1 ≤ s) i.speeds
speeds_some i h k d l = (h.speeds.1 k d l).0
