use Rattle.std.proofs.Common.{◌≡◌, ◌∙◌, ℕ, ℤ, ◌*◌, ◌*ℤ◌, ◌<◌, FitsSigned, unsigned_abs, sym, ap₂, subst, subst₂}
use Rattle.std.proofs.lemmas.Int.{to_z-of_z, fits_signed_from_abs, unsigned_abs-mul}
use Rattle.std.specs.Int.{w128}
use Rattle.msp_pieces.specs.Within.{i128_limit}
use Rattle.msp_pieces.proofs.job_cost.product.Goals as goal

fits : (a b x y : ℤ) → x ≡ a → y ≡ b → unsigned_abs a * unsigned_abs b < i128_limit → FitsSigned w128 (x *ℤ y)
fits a b x y e f h = subst₂ (λ x y. FitsSigned w128 (x *ℤ y)) (sym e) (sym f)
    (fits_signed_from_abs w128 (a *ℤ b) (subst (λ (k : ℕ). k < i128_limit) (sym (unsigned_abs-mul a b)) h))

pub overflow_mul-result : goal.overflow_mul-result
overflow_mul-result c = fits c.args.a c.args.b _ _ (to_z-of_z w128 c.args.a c.ranges.a) (to_z-of_z w128 c.args.b c.ranges.b) c.requires

pub returns : goal.returns
returns c =
    let a_is = to_z-of_z w128 c.args.a c.ranges.a in
    let b_is = to_z-of_z w128 c.args.b c.ranges.b in
    to_z-of_z w128 _ (fits c.args.a c.args.b _ _ a_is b_is c.requires) ∙ ap₂ (λ x y. x *ℤ y) a_is b_is
