-- Costs that stay: a half of a law where the units are one and the cost does not grow.
use Rattle.std.proofs.Common.{◌≡◌, pos, ◌+ℤ◌, ◌*ℤ◌, ◌≤ℤ◌, ℤ, sym, ap, ◌∙◌, subst₂, arith}
use Rattle.std.proofs.lemmas.Int.{ints}
use Rattle.msp_class.proofs.IntegerRing.{one-*ℤ, zero-*ℤ, +ℤ_idr, *ℤ_comm, *ℤ-mono_nonneg}
use Rattle.msp_instance.specs.declared.Instance.{Instance}
use Rattle.msp_pieces.specs.declared.Schedule.{Schedule}
use Rattle.msp_pieces.specs.Cost.{cost_of}
use Rattle.msp_route.specs.Law.{cost_above, cost_below}
use Rattle.msp_route.specs.Changes.{same_costs}

below_is : (j : Instance) (t : Schedule) → cost_below same_costs j t ≡ cost_of j t
below_is j t = one-*ℤ (cost_of j t)

above_is : (i : Instance) (s : Schedule) → cost_above same_costs i s ≡ cost_of i s
above_is i s = ap (λ z. (pos 1 *ℤ cost_of i s) +ℤ z) (zero-*ℤ s.unit) ∙ +ℤ_idr (pos 1 *ℤ cost_of i s) ∙ one-*ℤ (cost_of i s)

scaled : (x y u v : ℤ) → v ≡ u → pos 1 ≤ℤ u → x ≤ℤ y → (x *ℤ u) ≤ℤ (y *ℤ v)
scaled x y u v e p h = subst₂ (λ a b. a ≤ℤ b) (*ℤ_comm u x) (*ℤ_comm u y ∙ ap (λ z. y *ℤ z) (sym e)) (*ℤ-mono_nonneg u (omega (arith, ints)) h)

-- down
pub costs_down : (i j : Instance) (s t : Schedule) → t.unit ≡ s.unit → pos 1 ≤ℤ s.unit → cost_of j t ≤ℤ cost_of i s → (cost_below same_costs j t *ℤ s.unit) ≤ℤ (cost_above same_costs i s *ℤ t.unit)
costs_down i j s t e p h = scaled (cost_below same_costs j t) (cost_above same_costs i s) s.unit t.unit e p (subst₂ (λ a b. a ≤ℤ b) (sym (below_is j t)) (sym (above_is i s)) h)

-- and back
pub costs_back : (i j : Instance) (t s : Schedule) → s.unit ≡ t.unit → pos 1 ≤ℤ t.unit → cost_of i s ≤ℤ cost_of j t → (cost_above same_costs i s *ℤ t.unit) ≤ℤ (cost_below same_costs j t *ℤ s.unit)
costs_back i j t s e p h = scaled (cost_above same_costs i s) (cost_below same_costs j t) t.unit s.unit e p (subst₂ (λ a b. a ≤ℤ b) (sym (above_is i s)) (sym (below_is j t)) h)
