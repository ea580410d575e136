-- What comes back over one row, put together.
use Rattle.std.proofs.Common.{ℕ, Ok, Err, Result, IfOk}
use Rattle.msp_class.specs.declared.NoMemory.{NoMemory}
use Rattle.msp_instance.specs.declared.Instance.{Instance}
use Rattle.msp_pieces.specs.declared.Solution.{Solution}
use Rattle.msp_pieces.specs.Cost.{IsSolution, IsBest}
use Rattle.msp_route.specs.Law.{IsBack}
use Rattle.msp_route.specs.Rates.{rate_of}
use Rattle.msp_route.specs.Bounds.{KeepsBounds}
use Rattle.msp_carry.specs.Steps.{IsBroughtBack}

pub IfOk-brought : (row : ℕ) (i lower : Instance) (s : Solution) (result : Result Solution NoMemory) → IfOk result (λ t. IsSolution i t) → (IsBest lower s → IfOk result (λ t. IsBest i t))
    → IfOk result (λ t. IsBack (rate_of row i) i lower s.schedule t.schedule) → IfOk result (λ t. KeepsBounds row i lower s.schedule t.schedule) → IfOk result (λ t. IsBroughtBack row i lower s t)
IfOk-brought row i lower s (Ok t) solution best law bounds = record { solution = solution; best = best; law = law; bounds = bounds }
IfOk-brought row i lower s (Err e) solution best law bounds = tt
