-- The blocks of the table in which a value is not 0.
use Rattle.std.proofs.Common.{◌≡◌, ℕ, zero, suc, ◌<◌, true, cond, List, ap, ◌∙◌, arith}
use Rattle.std.specs.Prelude.{slice_index}
use Rattle.std.proofs.lemmas.Bool.{ne_eqb, both_ways}
use Rattle.msp_weighted.specs.Values.{first_value, is_flagged, AreReached}

-- without jobs only the first one
pub reached-start : (width : ℕ) (values reached : List ℕ) → ((t : ℕ) → t < width → slice_index values t ≡ first_value t) → is_flagged reached 0 ≡ true → AreReached width values reached
reached-start width values reached first flag zero l none = absurd (both_ways (is_flagged reached 0) none flag)
reached-start width values reached first flag (suc t) l none = first (suc t) l ∙ ap (λ b. cond b 1 0) (ne_eqb (suc t) 0 (λ e. absurd (omega (arith, e))))
