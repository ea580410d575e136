use Rattle.std.proofs.Common.{◌≡◌, ℕ, ◌/◌, ap, ◌∙◌, sym, arith, rules, pos, neg_ℤ, ℤ, ◌≤ℤ◌, ◌<ℤ◌, ◌*ℤ◌, unsigned_abs, subst, to_z, of_z, FitsSigned}
use Rattle.std.specs.Int.{IsGcd, w128}
use Rattle.std.proofs.lemmas.Int.{ints, to_z-of_z}
use Rattle.msp_pieces.proofs.costs.Reduced.{Divides, Divides-same, Divides-lowest, Divides-positive}
use Rattle.msp_pieces.proofs.fraction.lowest.Goals as goal

divided_from : (num den s q u v : ℤ) (n w g : ℕ) → u ≡ num → v ≡ den → pos 1 ≤ℤ den → n ≡ unsigned_abs u
    → w ≡ unsigned_abs v → IsGcd n w g → q ≡ pos (w / g) → (pos 0 ≤ℤ u → s ≡ pos (n / g)) → (u <ℤ pos 0 → s ≡ neg_ℤ (pos (n / g))) → Divides num den s q g
divided_from num den s q u v n w g eu ev one en ew common whole above below =
    let num_size : n ≡ unsigned_abs num = en ∙ ap unsigned_abs eu in
    let den_size : w ≡ unsigned_abs den = ew ∙ ap unsigned_abs ev in
    record {
      common = subst (λ (k : ℕ). IsGcd k (unsigned_abs den) g) num_size (subst (λ (k : ℕ). IsGcd n k g) den_size common);
      positive = one;
      whole = whole ∙ ap (λ k. pos (k / g)) den_size;
      above = λ h. above (omega (arith, ints, h, eu)) ∙ ap (λ k. pos (k / g)) num_size;
      below = λ h. below (omega (arith, ints, h, eu)) ∙ ap (λ k. neg_ℤ (pos (k / g))) num_size;
    }

fits : (x : ℤ) → FitsSigned w128 x → to_z w128 (of_z w128 x) ≡ x
fits x f = to_z-of_z w128 x f

same_again : (num den s q u v : ℤ) → u ≡ s → v ≡ q → num *ℤ q ≡ s *ℤ den → num *ℤ v ≡ u *ℤ den
same_again num den s q u v eu ev e = ap (λ k. num *ℤ k) ev ∙ e ∙ sym (ap (λ k. k *ℤ den) eu)

lowest_again : (s q u v : ℤ) → u ≡ s → v ≡ q → IsGcd (unsigned_abs s) (unsigned_abs q) 1 → IsGcd (unsigned_abs u) (unsigned_abs v) 1
lowest_again s q u v eu ev h =
    subst (λ (k : ℤ). IsGcd (unsigned_abs k) (unsigned_abs v) 1) (sym eu) (subst (λ (k : ℤ). IsGcd (unsigned_abs s) (unsigned_abs k) 1) (sym ev) h)

pub invariant_of-result : goal.invariant_of-result
invariant_of-result c =
    let d = divided_from _ _ _ _ _ _ _ _ _ (fits c.args.f.num (search rules)) (fits c.args.f.den (search rules)) c.args.f.positive c.unsigned_abs-size.ensures.value
    c.unsigned_abs-whole.ensures.value c.gcd-divisor.ensures.divisor c.quotient.ensures c.with_sign.ensures.positive c.with_sign.ensures.negative in
    record { positive = subst (λ k. pos 1 ≤ℤ k) (sym (fits c.quotient.result (search rules))) (Divides-positive _ _ _ _ _ d) }

pub returns-clause-same : goal.returns-clause-same
returns-clause-same c =
    let d = divided_from _ _ _ _ _ _ _ _ _ (fits c.args.f.num (search rules)) (fits c.args.f.den (search rules)) c.args.f.positive c.unsigned_abs-size.ensures.value
    c.unsigned_abs-whole.ensures.value c.gcd-divisor.ensures.divisor c.quotient.ensures c.with_sign.ensures.positive c.with_sign.ensures.negative in
    same_again _ _ _ _ _ _ (fits c.with_sign.result (search rules)) (fits c.quotient.result (search rules)) (Divides-same _ _ _ _ _ d)

pub returns-clause-lowest : goal.returns-clause-lowest
returns-clause-lowest c =
    let d = divided_from _ _ _ _ _ _ _ _ _ (fits c.args.f.num (search rules)) (fits c.args.f.den (search rules)) c.args.f.positive c.unsigned_abs-size.ensures.value
    c.unsigned_abs-whole.ensures.value c.gcd-divisor.ensures.divisor c.quotient.ensures c.with_sign.ensures.positive c.with_sign.ensures.negative in
    lowest_again _ _ _ _ (fits c.with_sign.result (search rules)) (fits c.quotient.result (search rules)) (Divides-lowest _ _ _ _ _ d)
