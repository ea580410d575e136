-- Fractions that are the same number, and what a stated schedule lies within.
use Rattle.std.proofs.Common.{◌≡◌, ◌++◌, Result, Ok, Err, OnOk, codes, ◌↔◌, Bool, true, false, to_z, of_z, SFits, ℕ, ◌+◌, List, ◌≤ℤ◌, ◌*◌, ◌<◌, ℤ, pos, ◌*ℤ◌, unsigned_abs}
use Rattle.std.proofs.Common.{neg_ℤ, ◌<ℤ◌, ◌^◌, inl, sym, ap, ◌∙◌, subst, append_assoc, arith}
use Rattle.std.proofs.lemmas.Int.{ints, to_z-of_z, unsigned_abs-mul}
use Rattle.std.specs.Int.{IsGcd, w128}
use Rattle.msp_class.proofs.IntegerRing.{natural_some, *ℤ_assoc, *ℤ_comm, *ℤ_exchange, *ℤ-cancel_same}
use Rattle.msp_instance.specs.declared.Instance.{Instance}
use Rattle.msp_instance.specs.Conditions.{InClass}
use Rattle.msp_instance.proofs.Limits.{Inner-from_class}
use Rattle.msp_pieces.specs.declared.Frac.{Frac}
use Rattle.msp_pieces.specs.declared.Schedule.{Schedule}
use Rattle.msp_pieces.specs.Fraction.{IsOver, IsSameFraction, IsLowest}
use Rattle.msp_pieces.specs.Within.{Within}
use Rattle.msp_class.specs.declared.NoMemory.{NoMemory}
use Rattle.msp_schedule.specs.declared.breaks.Break.{Break}
use Rattle.msp_cert.proofs.LeastForms.{least_form}
use Rattle.msp_grammar.specs.ScheduleText.{IsStated, line_feed, fraction_text}
use Rattle.msp_report.specs.CheckText.{break_text, broken_lines, yes_or_no, cost_lines}

pub differ : {X : Type 0} → false ≡ true → X
differ e = cc

-- two numbers as a call takes them
pub as_passed : {A : Type 0} (x y : ℤ) → SFits w128 x → SFits w128 y → A ↔ (to_z w128 (of_z w128 x) ≡ to_z w128 (of_z w128 y)) → A ↔ (x ≡ y)
as_passed x y p q h = (
  λ a. sym (to_z-of_z w128 x p) ∙ h.0 a ∙ to_z-of_z w128 y q,
  λ e. h.1 (ap (λ z. to_z w128 (of_z w128 z)) e),
)

pub ↔_trans : {A B C : Type 0} → A ↔ B → B ↔ C → A ↔ C
↔_trans f g = (λ a. g.0 (f.0 a), λ c. f.1 (g.1 c))

-- ---- texts that are put one after another
put_then : (o p z a b : List ℕ) → p ≡ o ++ a → z ≡ p ++ b → z ≡ o ++ (a ++ b)
put_then o p z a b e f = f ∙ ap (λ l. l ++ b) e ∙ append_assoc o a b

put_last : (o p z a b : List ℕ) (r : Result (Unit {0}) NoMemory) → p ≡ o ++ a → OnOk r (z ≡ p ++ b) → OnOk r (z ≡ o ++ (a ++ b))
put_last o p z a b (Err w) e f = tt
put_last o p z a b (Ok x) e f = put_then o p z a b e f

pub put_broken_is : (names : List (List ℕ)) (broken : Break) (o p q z : List ℕ) (r : Result (Unit {0}) NoMemory) →
    p ≡ o ++ codes "feasible no\nbreak " → q ≡ p ++ break_text names broken → OnOk r (z ≡ q ++ line_feed) → OnOk r (z ≡ o ++ broken_lines names broken)
unfolding broken_lines
put_broken_is names broken o p q z r first second third = put_last o q z _ _ r (put_then o p q _ _ first second) third

pub put_costs_is : (cost stated : Frac) (agrees : Bool) (o p q s t u v z : List ℕ) (r : Result (Unit {0}) NoMemory)
    → p ≡ o ++ codes "feasible yes\ncost " → q ≡ p ++ fraction_text cost → s ≡ q ++ codes "\nstated " → t ≡ s ++ fraction_text stated
    → u ≡ t ++ codes "\nagree " → v ≡ u ++ yes_or_no agrees → OnOk r (z ≡ v ++ line_feed) → OnOk r (z ≡ o ++ cost_lines cost stated agrees)
unfolding cost_lines
put_costs_is cost stated agrees o p q s t u v z r first second third fourth fifth sixth seventh =
    let two = put_then o p q _ _ first second in
    let three = put_then o q s _ _ two third in
    let four = put_then o s t _ _ three fourth in
    let five = put_then o t u _ _ four fifth in
    put_last o v z _ _ r (put_then o u v _ _ five sixth) seventh

-- ---- numbers over numbers
-- a over b is c over d, which is e over f
through : (a b c e f : ℤ) (n : ℕ) → 0 < n → a *ℤ pos n ≡ c *ℤ b → c *ℤ f ≡ e *ℤ pos n → a *ℤ f ≡ e *ℤ b
through a b c e f n some p q = *ℤ-cancel_same n some (
    *ℤ_exchange (pos n) a f
    ∙ sym (*ℤ_assoc a (pos n) f)
    ∙ ap (λ x. x *ℤ f) p
    ∙ *ℤ_assoc c b f
    ∙ *ℤ_exchange c b f
    ∙ ap (λ x. b *ℤ x) q
    ∙ *ℤ_exchange b e (pos n)
    ∙ ap (λ x. e *ℤ x) (*ℤ_comm b (pos n))
    ∙ *ℤ_exchange e (pos n) b)

same_through : (a b c d e f : ℤ) → pos 0 <ℤ d → a *ℤ d ≡ c *ℤ b → c *ℤ f ≡ e *ℤ d → a *ℤ f ≡ e *ℤ b
same_through a b c d e f some p q =
    let (n, is) = natural_some d (omega (arith, ints, some)) in
    through a b c e f n (omega (arith, ints, some, is)) (subst (λ x. a *ℤ x ≡ c *ℤ b) is p) (subst (λ x. c *ℤ f ≡ e *ℤ x) is q)

-- ---- lowest terms
denominators : (x y : ℤ) (n m : ℕ) → 0 < n → 0 < m → IsGcd (unsigned_abs x) n 1 → IsGcd (unsigned_abs y) m 1 → x *ℤ pos m ≡ y *ℤ pos n → n ≡ m
denominators x y n m some more p q e =
    let sizes : unsigned_abs x * m ≡ unsigned_abs y * n = sym (unsigned_abs-mul x (pos m)) ∙ ap unsigned_abs e ∙ unsigned_abs-mul y (pos n) in
    let (least, below) = least_form (unsigned_abs x + n) (unsigned_abs x) n (unsigned_abs y) m (omega arith) some more p sizes in
    let (other, above) = least_form (unsigned_abs y + m) (unsigned_abs y) m (unsigned_abs x) n (omega arith) more some q (sym sizes) in
    omega (arith, below, above)

-- fractions in lowest terms are the same number only where they have the same numerator and the same denominator
pub lowest_once : (a b : Frac) → IsLowest a → IsLowest b → IsSameFraction a b → (a.num ≡ b.num) × (a.den ≡ b.den)
lowest_once a b p q e =
    let (n, a_is) = natural_some a.den (omega (arith, ints, a.positive)) in
    let (m, b_is) = natural_some b.den (omega (arith, ints, b.positive)) in
    let some : 0 < n = omega (arith, ints, a.positive, a_is) in
    let more : 0 < m = omega (arith, ints, b.positive, b_is) in
    let f : a.num *ℤ pos m ≡ b.num *ℤ pos n = subst (λ y. a.num *ℤ y ≡ b.num *ℤ pos n) b_is (subst (λ y. a.num *ℤ b.den ≡ b.num *ℤ y) a_is e) in
    let same : n ≡ m =
    denominators a.num b.num n m some more (subst (λ y. IsGcd (unsigned_abs a.num) (unsigned_abs y) 1) a_is p) (subst (λ y. IsGcd (unsigned_abs b.num) (unsigned_abs y) 1) b_is q) f in
    let g : a.num *ℤ pos n ≡ b.num *ℤ pos n = subst (λ k. a.num *ℤ pos k ≡ b.num *ℤ pos n) (sym same) f in
    (*ℤ-cancel_same n some (*ℤ_comm (pos n) a.num ∙ g ∙ *ℤ_comm b.num (pos n)), a_is ∙ ap pos same ∙ sym b_is)

-- what has the same numerator and the same denominator is the same number
pub same_parts : (a b : Frac) → a.num ≡ b.num → a.den ≡ b.den → IsSameFraction a b
same_parts a b p q = ap (λ x. x *ℤ b.den) p ∙ ap (λ x. b.num *ℤ x) (sym q)

-- ---- costs
-- the stated cost is that of the schedule exactly where their lowest terms are the same
pub states : (stated least cost : Frac) (c unit : ℤ) → pos 1 ≤ℤ unit → IsSameFraction stated least → IsOver cost c unit → IsSameFraction least cost ↔ IsOver stated c unit
states stated least cost c unit u p q = (forth, back)
  where
    forth : IsSameFraction least cost → IsOver stated c unit
    forth r = same_through stated.num stated.den cost.num cost.den c unit (omega (arith, ints, cost.positive))
        (same_through stated.num stated.den least.num least.den cost.num cost.den (omega (arith, ints, least.positive)) p r) q

    back : IsOver stated c unit → IsSameFraction least cost
    back r = same_through least.num least.den c unit cost.num cost.den
        (omega (arith, ints, u)) (same_through least.num least.den stated.num stated.den c unit (omega (arith, ints, stated.positive)) (sym p) r) (sym q)

pub stated_within : (i : Instance) (names : List (List ℕ)) (s : Schedule) (x : Frac) → InClass i → IsStated names s x → Within i s
stated_within i names s x h g = record {
  unit = g.unit;
  few = g.few;
  moments = λ k d l. ((g.pieces k d l).from, (g.pieces k d l).to);
  scaled = λ e. inl h;
}

pub stated_small : (names : List (List ℕ)) (s : Schedule) (x : Frac) → IsStated names s x → neg_ℤ (pos (2 ^ 127)) <ℤ x.num
stated_small names s x g = omega (arith, ints, g.cost.num)

pub ruleset check_rules = (lowest_once, same_parts, states, stated_within, stated_small, Inner-from_class)
