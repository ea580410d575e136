-- A best schedule brought back is best.
use Rattle.std.proofs.Common.{◌≡◌, ℕ, ◌≤◌, ℤ, pos, ◌+ℤ◌, ◌*ℤ◌, ◌≤ℤ◌, ◌<ℤ◌, sym, ap, ◌∙◌, subst₂, arith}
use Rattle.std.proofs.lemmas.Int.{ints}
use Rattle.msp_class.proofs.IntegerRing.{≤ℤ_of_same, ≤ℤ_trans, +ℤ_cancel, *ℤ_comm, *ℤ_assoc, *ℤ_exchange, add-*ℤ, *ℤ-mono, *ℤ-cancel, *ℤ-mono_nonneg, *ℤ-cancel_pos}
use Rattle.msp_instance.specs.declared.Instance.{Instance}
use Rattle.msp_pieces.specs.declared.Schedule.{Schedule}
use Rattle.msp_pieces.specs.Feasible.{Feasible}
use Rattle.msp_pieces.specs.Cost.{cost_of, Best}
use Rattle.msp_route.specs.Law.{Rate, IsPositive, cost_above, cost_below, IsForth, IsBack}

swapped : (x y z : ℤ) → x *ℤ (y *ℤ z) ≡ z *ℤ (y *ℤ x)
swapped x y z = *ℤ_exchange x y z ∙ ap (λ w. y *ℤ w) (*ℤ_comm x z) ∙ *ℤ_exchange y z x

-- of three fractions, a over b is at most e over f where c over d lies between them
pub between : (a b c d e f : ℤ) → pos 0 <ℤ d → pos 0 ≤ℤ b → pos 0 ≤ℤ f → (a *ℤ d) ≤ℤ (c *ℤ b) → (c *ℤ f) ≤ℤ (e *ℤ d) → (a *ℤ f) ≤ℤ (e *ℤ b)
between a b c d e f some b0 f0 first second =
    *ℤ-cancel_pos d some (
    ≤ℤ_trans (≤ℤ_of_same (swapped d a f)) (
    ≤ℤ_trans (*ℤ-mono_nonneg f f0 first) (
    ≤ℤ_trans (≤ℤ_of_same (swapped f c b)) (
    ≤ℤ_trans (*ℤ-mono_nonneg b b0 second) (≤ℤ_of_same (swapped b e d))))))

-- the translation of costs keeps their order
translated : (F : ℕ) (A x D y E : ℤ) → 1 ≤ F → (((pos F *ℤ x) +ℤ (A *ℤ D)) *ℤ E) ≤ℤ (((pos F *ℤ y) +ℤ (A *ℤ E)) *ℤ D) → (x *ℤ E) ≤ℤ (y *ℤ D)
translated F A x D y E some h =
    *ℤ-cancel F some (+ℤ_cancel ((A *ℤ D) *ℤ E) (subst₂ (λ a b. a ≤ℤ b) (left x D E) (left y E D ∙ ap (λ z. (pos F *ℤ (y *ℤ D)) +ℤ z) same) h))
  where
    left : (x D E : ℤ) → ((pos F *ℤ x) +ℤ (A *ℤ D)) *ℤ E ≡ (pos F *ℤ (x *ℤ E)) +ℤ ((A *ℤ D) *ℤ E)
    left x D E = add-*ℤ (pos F *ℤ x) (A *ℤ D) E ∙ ap (λ z. z +ℤ ((A *ℤ D) *ℤ E)) (*ℤ_assoc (pos F) x E)

    same : (A *ℤ E) *ℤ D ≡ (A *ℤ D) *ℤ E
    same = *ℤ_assoc A E D ∙ ap (λ z. A *ℤ z) (*ℤ_comm E D) ∙ sym (*ℤ_assoc A D E)

-- what the two halves of the law make of a best lower schedule
pub Best-from_back : (rate : Rate) (upper lower : Instance) (forth : Schedule → Schedule) (t s : Schedule) → IsPositive rate
    → ((u : Schedule) → IsForth rate upper lower u (forth u)) → IsBack rate upper lower t s → Best lower t → Best upper s
Best-from_back rate upper lower forth t s positive_rate forth_is back_is best = record { feasible = (back_is best.feasible).0; least = least }
  where
    positive : (x : ℤ) → pos 1 ≤ℤ x → pos 0 <ℤ x
    positive x h = omega (arith, ints)

    natural : (x : ℤ) → pos 1 ≤ℤ x → pos 0 ≤ℤ x
    natural x h = omega (arith, ints)

    least : (u : Schedule) → Feasible upper u → (cost_of upper s *ℤ u.unit) ≤ℤ (cost_of upper u *ℤ s.unit)
    least u feasible =
        let v = forth u in
        let down = forth_is u feasible in
        let back = back_is best.feasible in
        let scaled : (cost_below rate lower t *ℤ v.unit) ≤ℤ (cost_below rate lower v *ℤ t.unit) =
        subst₂ (λ a b. a ≤ℤ b) (sym (*ℤ_assoc (pos rate.scale) (cost_of lower t) v.unit)) (sym (*ℤ_assoc (pos rate.scale) (cost_of lower v) t.unit))
        (*ℤ-mono rate.scale (best.least v down.0)) in
        let half = between (cost_above rate upper s) s.unit (cost_below rate lower t) t.unit (cost_below rate lower v) v.unit
        (positive t.unit best.feasible.unit) (natural s.unit back.0.unit) (natural v.unit down.0.unit) back.1 scaled in
        translated rate.factor rate.addend (cost_of upper s) s.unit (cost_of upper u) u.unit positive_rate.factor
        (between (cost_above rate upper s) s.unit (cost_below rate lower v) v.unit (cost_above rate upper u) u.unit
        (positive v.unit down.0.unit) (natural s.unit back.0.unit) (natural u.unit feasible.unit) half down.1)
