-- Fractions, and that a cost that is read is one.
use Rattle.std.proofs.Common.{◌≡◌, ℕ, ◌≤◌, List, Ok, ap, ◌∙◌, subst, arith, ℤ, pos, nat_le, unsigned_abs}
use Rattle.std.specs.Int.Signed.{◌≤ℤ◌}
use Rattle.std.proofs.Math.Dec.{T_prop}
use Rattle.std.proofs.lemmas.Int.{ints}
use Rattle.msp_pieces.specs.declared.Frac.{Frac}
use Rattle.msp_grammar.specs.declared.limits.TheConstants.{GREATEST_DENOMINATOR}
use Rattle.msp_grammar.specs.declared.lines.fault.FileFault.TheVariants.{Limit}
use Rattle.msp_grammar.specs.declared.lines.fault.What.TheVariants as what
use Rattle.msp_grammar.specs.lines.Reading.{◌>>=◌, Place, field_line_at, natural_in, first_of, others_of}
use Rattle.msp_grammar.specs.lines.Costs.{number_at, denominator_at, cost_of, cost_in, cost_line_at}
use Rattle.msp_grammar.proofs.reading.LineLaws.{bind_ok, provided_ok, ok_is}
use Rattle.msp_grammar.proofs.reading.FieldLaws.{natural_in_takes}
use Rattle.msp_grammar.proofs.reading.CostLaws.{slashed, pair, with_place}

abbrev fraction : (n d : ℤ) → pos 1 ≤ℤ d → Frac
fraction n d h = record { num = n; den = d; positive = h }

-- a fraction is its numerator and its denominator
pub fraction_is : (x y : Frac) → x.num ≡ y.num → x.den ≡ y.den → x ≡ y
fraction_is x y p q =
    let Same : ℤ → Type 0 = λ d. (h : pos 1 ≤ℤ d) → fraction x.num x.den x.positive ≡ fraction x.num d h in
    let one : IsProp (pos 1 ≤ℤ x.den) = hlevel (T_prop) in
    subst Same q (λ h. ap (fraction x.num x.den) (one x.positive h)) y.positive ∙ ap (λ n. fraction n y.den y.positive) p

-- the two numbers of a cost are those of a fraction
unfoldable pub IsOfFraction : ℤ × ℤ → Type 0
IsOfFraction c = (f : Frac) × (pair f.num f.den ≡ c)

cost_of_is : (greatest at : ℕ) (n d : ℤ) (c : ℤ × ℤ) → cost_of greatest at n d ≡ Ok c → IsOfFraction c
unfolding IsOfFraction
cost_of_is greatest at n d c e =
    let g = provided_ok (nat_le (unsigned_abs n) greatest) (Limit at what.Cost) _ c e in
    let k = bind_ok (natural_in at what.Cost 1 GREATEST_DENOMINATOR d) (λ size. Ok (pair n (pos size))) c g.1 in
    let some = (natural_in_takes at what.Cost 1 GREATEST_DENOMINATOR d k.0 k.1).1 in
    (record { num = n; den = pos k.0; positive = omega (arith, ints, some) }, ok_is (pair n (pos k.0)) c k.2)

cost_in_is : (greatest at : ℕ) (field : List ℕ) (c : ℤ × ℤ) → cost_in greatest at field ≡ Ok c → IsOfFraction c
unfolding cost_in
cost_in_is greatest at field c e =
    let n = bind_ok (number_at at (first_of (slashed field))) (λ x. denominator_at at (others_of (slashed field)) >>= cost_of greatest at x) c e in
    let d = bind_ok (denominator_at at (others_of (slashed field))) (cost_of greatest at n.0) c n.2 in
    cost_of_is greatest at n.0 d.0 c d.2

pub cost_is : (word : List ℕ) (greatest : ℕ) (p : Place) (x : (ℤ × ℤ) × Place) → cost_line_at word greatest p ≡ Ok x → IsOfFraction x.0
unfolding cost_line_at
cost_is word greatest p x e =
    let l = bind_ok (field_line_at word p) _ x e in
    let m = bind_ok (cost_in greatest p.at l.0.0) _ x l.2 in
    subst IsOfFraction (ap (λ (y : (ℤ × ℤ) × Place). y.0) (ok_is (with_place m.0 l.0.1) x m.2)) (cost_in_is greatest p.at l.0.0 m.0 m.1)
