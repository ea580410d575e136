-- How a function ends at a `?`.
use Rattle.std.proofs.Common.{◌≡◌, Result, Err, ap, ◌∙◌}
use Rattle.std.specs.Result.{IsErrAnd}
use Rattle.std.proofs.lemmas.Result.{err_from_is_err_and}

-- with an error that has been made from another
pub failed : {T E : Type 0} {e : E} (r : Result T E) → IsErrAnd r (λ d. d ≡ e) → r ≡ Err e
failed {e = e} r is = let q = err_from_is_err_and {Q = λ d. d ≡ e} r is in q.1 ∙ ap Err q.2
