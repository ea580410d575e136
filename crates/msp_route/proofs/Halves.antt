-- Halves of a range of bounds.
use Rattle.std.proofs.Common.{◌≡◌, ℕ, ◌<◌, ◌≤◌, Bool, true, false, inl, inr, ℤ, pos, nat_abs, ◌+ℤ◌, ◌-ℤ◌, ◌≤ℤ◌, ◌<ℤ◌, FitsSigned, to_z, of_z, refl, sym, subst, subst₂, arith}
use Rattle.std.specs.Prelude.{◌↔◌, IsTrue, if◌then◌else◌}
use Rattle.std.specs.Int.{w128}
use Rattle.std.proofs.lemmas.Int.{ints, to_z-of_z}
use Rattle.msp_class.proofs.IntegerRing.{natural, lt-pos, <ℤ_weak, ≤ℤ_total, ≤ℤ_trans}
use Rattle.msp_instance.specs.Conditions.{LiesWithin}
use Rattle.msp_route.specs.declared.halving.Range.{Range}
use Rattle.msp_route.specs.Halving.{greatest_limit, IsLeastBound, IsRange, IsShorter}
use Rattle.std.proofs.lemmas.Bool.{false≢true}

pub bound_fits : (limit : ℕ) (x : ℤ) → limit ≤ greatest_limit → LiesWithin limit x → FitsSigned w128 x
bound_fits limit x small h = omega (arith, ints, small, h.0, h.1)

module _ (Met : ℤ → Type 0) (limit : ℕ) where
  pub halved : ((a b : ℤ) → a ≤ℤ b → Met a → Met b) → (range new : Range) (middle : ℤ) (met : Bool) → IsRange Met limit range → range.low ≤ℤ middle → middle <ℤ range.high → IsTrue met ↔ Met middle
      → new.low ≡ (if met then range.low else middle +ℤ pos 1) → new.high ≡ (if met then middle else range.high) → IsRange Met limit new
  halved rises range new middle true h a b m e f = record {
    met = subst Met (sym f) (m.0 refl);
    least = λ bound c. subst (λ x. x ≤ℤ bound) (sym e) (h.least bound c);
    low = subst (LiesWithin limit) (sym e) h.low;
    high = subst (LiesWithin limit) (sym f) (omega (arith, ints, a, h.low.0), omega (arith, ints, b, h.high.1));
  }
  halved rises range new middle false h a b m e f = record {
    met = subst Met (sym f) h.met;
    least = λ bound c. subst (λ x. x ≤ℤ bound) (sym e) (above bound c);
    low = subst (LiesWithin limit) (sym e) (omega (arith, ints, a, h.low.0), omega (arith, ints, b, h.high.1));
    high = subst (LiesWithin limit) (sym f) h.high;
  }
    where
      above : (bound : ℤ) → Met bound → (middle +ℤ pos 1) ≤ℤ bound
      above bound c = elim (≤ℤ_total bound middle) [
        | inl less ↦ absurd (false≢true (m.1 (rises bound middle less c)))
        | inr more ↦ omega (arith, ints, more)
      ]

  pub least_at : limit ≤ greatest_limit → (range : Range) → IsRange Met limit range → range.high ≤ℤ range.low → IsLeastBound Met (to_z w128 (of_z w128 range.high))
  least_at small range h e = subst (IsLeastBound Met)
      (sym (to_z-of_z w128 range.high (bound_fits limit range.high small h.high))) (record { met = h.met; least = λ other c. ≤ℤ_trans e (h.least other c) })

pub small_at : (limit : ℕ) → limit ≤ greatest_limit → (x : ℤ) → LiesWithin limit x → LiesWithin limit (to_z w128 (of_z w128 x))
small_at limit small x h = subst (LiesWithin limit) (sym (to_z-of_z w128 x (bound_fits limit x small h))) h

pub middle_within : (limit : ℕ) (low high m : ℤ) → low ≤ℤ m → m <ℤ high → LiesWithin limit low → LiesWithin limit high → LiesWithin limit m
middle_within limit low high m a b p q = (omega (arith, ints, a, p.0), omega (arith, ints, b, q.1))

pub middle_is : (limit : ℕ) → limit ≤ greatest_limit → (low high m : ℤ) → low ≤ℤ m → m <ℤ high → LiesWithin limit low → LiesWithin limit high → to_z w128 (of_z w128 m) ≡ m
middle_is limit small low high m a b p q = to_z-of_z w128 m (bound_fits limit m small (middle_within limit low high m a b p q))

less : (a b c d : ℤ) → pos 0 ≤ℤ (a -ℤ b) → (a -ℤ b) <ℤ (c -ℤ d) → nat_abs (a -ℤ b) < nat_abs (c -ℤ d)
less a b c d h k = lt-pos (subst₂ (λ x y. x <ℤ y) (natural (a -ℤ b) h) (natural (c -ℤ d) (≤ℤ_trans h (<ℤ_weak k))) k)

pub smaller : (range new : Range) (m x : ℤ) (met : Bool) → x ≡ m
    → range.low ≤ℤ m → m <ℤ range.high → new.low ≡ (if met then range.low else x +ℤ pos 1) → new.high ≡ (if met then x else range.high) → IsShorter range new
smaller range new m x true e a b f g = less new.high new.low range.high range.low (omega (arith, ints, e, f, g, a)) (omega (arith, ints, e, f, g, b))
smaller range new m x false e a b f g = less new.high new.low range.high range.low (omega (arith, ints, e, f, g, b)) (omega (arith, ints, e, f, g, a))
