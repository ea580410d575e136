-- A fraction whose numerator and denominator have the greatest common divisor 1 is in lowest terms.
use Rattle.std.proofs.Common.{◌≡◌, ℕ, ◌∙◌, ap, subst, nat_eq, IsTrue, unsigned_abs, ℤ, rules}
use Rattle.std.specs.Int.{IsGcd, w128}
use Rattle.std.proofs.lemmas.Bool.{eqb-true}
use Rattle.std.proofs.lemmas.Int.{to_z-of_z}
use Rattle.msp_tests.proofs.texts.is_lowest.Goals as goal

lowest_by : (x y u v : ℤ) (n w g : ℕ) → u ≡ x → v ≡ y → n ≡ unsigned_abs u → w ≡ unsigned_abs v → IsGcd n w g → IsTrue (nat_eq g 1) → IsGcd (unsigned_abs x) (unsigned_abs y) 1
lowest_by x y u v n w g eu ev en ew common one =
    let P : ℕ → Type 0 = λ k. IsGcd k (unsigned_abs y) 1 in
    let Q : ℕ → Type 0 = λ k. IsGcd n k 1 in
    subst P (en ∙ ap unsigned_abs eu) (subst Q (ew ∙ ap unsigned_abs ev) (subst (IsGcd n w) (eqb-true g 1 one) common))

pub returns : goal.returns
returns c = lowest_by _ _ _ _ _ _ _ (to_z-of_z w128 c.args.f.num (search rules))
    (to_z-of_z w128 c.args.f.den (search rules)) c.unsigned_abs.ensures.value c.unsigned_abs-2.ensures.value c.gcd.ensures.divisor
