-- Rows that give the operations other numbers: feasible schedules go both ways, at the same costs.
use Rattle.std.proofs.Common.{◌≡◌, ℕ, false, map, filter, fold, ℤ, pos, ◌+ℤ◌, ◌*ℤ◌, ◌≤ℤ◌, refl, sym, ap, subst, ◌∙◌, arith}
use Rattle.std.specs.Prelude.{◌==◌}
use Rattle.std.specs.Int.{int_max}
use Rattle.std.proofs.lemmas.Bool.{false≢true}
use Rattle.std.proofs.lemmas.List.{length-map}
use Rattle.std.proofs.lemmas.List.Elements.{All-map}
use Rattle.std.proofs.lemmas.List.Sorted.{IsPermutation-refl}
use Rattle.std.proofs.lemmas.Simd.{map-map}
use Rattle.msp_class.specs.Env.{kind_of}
use Rattle.msp_class.proofs.IntegerRing.{≤ℤ_trans, ≤ℤ_of_same, zero-*ℤ, +ℤ_idr}
use Rattle.msp_instance.specs.declared.Instance.{Instance}
use Rattle.msp_pieces.specs.declared.Piece.{Piece}
use Rattle.msp_pieces.specs.declared.Schedule.{Schedule}
use Rattle.msp_pieces.specs.declared.Solution.{Solution}
use Rattle.msp_pieces.specs.Feasible.{Feasible}
use Rattle.msp_pieces.specs.Cost.{cost_of, end_of, IsSolution}
use Rattle.msp_pieces.proofs.costs.Charges.{SameCharges, cost-same_ends}
use Rattle.msp_pieces.proofs.changes.Moves.{filter-map}
use Rattle.msp_route.specs.Law.{IsLower, IsForth, IsBack, IsReordered, cost_above, cost_below}
use Rattle.msp_route.specs.Bounds.{EndsBy, IsBounded, KeepsBounds, greatest_unit, keeps_schedule, trades_dates}
use Rattle.msp_route.specs.Changes.{same_costs}
use Rattle.msp_route.proofs.Kept.{raises, KeepsBounds-unraised}
use Rattle.msp_machines.specs.Shops.{with_number, numbered}

-- ends, the number of pieces and bounds on moments stay
pub end_of-numbered : (number : Piece → ℕ) (s : Schedule) (k : ℕ) → end_of (numbered number s) k ≡ end_of s k
end_of-numbered number s k =
    ap (λ l. fold int_max (pos 0) (map (λ p. p.to) l)) (filter-map (with_number number) (λ p. p.job == k) (λ p. p.job == k) s.pieces (λ a d l. refl))
    ∙ ap (fold int_max (pos 0)) (map-map (λ p. p.to) (with_number number) (filter (λ p. p.job == k) s.pieces))

EndsBy-numbered : (number : Piece → ℕ) (s : Schedule) (moment : ℤ) → EndsBy moment s → EndsBy moment (numbered number s)
EndsBy-numbered number s moment h = All-map (λ p. p.to ≤ℤ moment) (with_number number) s.pieces h

-- the row changes the schedule, and neither its moments nor dates
pub record IsPlain (row : ℕ) : Type 0 where
  pub changes : keeps_schedule row ≡ false
  pub moments : raises row ≡ false
  pub dates : trades_dates row ≡ false

-- the row leads to the instance, and with the one numbers and the other feasible schedules go both ways
pub record Renumbered (row : ℕ) (i j : Instance) (forth back : Piece → ℕ) : Type 0 where
  pub lower : IsLower row i j
  pub charges : SameCharges i j
  pub units : greatest_unit (kind_of j.class.env) ≤ℤ greatest_unit (kind_of i.class.env)
  pub down : (s : Schedule) → Feasible i s → Feasible j (numbered forth s)
  pub up : (s : Schedule) → Feasible j s → Feasible i (numbered back s)

module _ {row : ℕ} {i j : Instance} {forth back : Piece → ℕ} (h : Renumbered row i j forth back) where
  above_is : (s t : Schedule) → cost_of i s ≡ cost_of j t → cost_above same_costs i s ≡ cost_below same_costs j t
  above_is s t e = ap (λ z. (pos 1 *ℤ cost_of i s) +ℤ z) (zero-*ℤ s.unit) ∙ +ℤ_idr (pos 1 *ℤ cost_of i s) ∙ ap (λ z. pos 1 *ℤ z) e

  cost_down : (s : Schedule) → Feasible i s → cost_of i s ≡ cost_of j (numbered forth s)
  cost_down s f = cost-same_ends i j s (numbered forth s) h.charges refl f.unit (λ k l. sym (end_of-numbered forth s k))

  cost_up : (s : Schedule) → Feasible j s → cost_of i (numbered back s) ≡ cost_of j s
  cost_up s f = cost-same_ends i j (numbered back s) s h.charges refl f.unit (λ k l. end_of-numbered back s k)

  pub IsForth-renumbered : (s : Schedule) → IsForth same_costs i j s (numbered forth s)
  IsForth-renumbered s f = (h.down s f, ≤ℤ_of_same (ap (λ z. z *ℤ s.unit) (sym (above_is s (numbered forth s) (cost_down s f)))))

  pub IsBack-renumbered : (s : Schedule) → IsBack same_costs i j s (numbered back s)
  IsBack-renumbered s f = (h.up s f, ≤ℤ_of_same (ap (λ z. z *ℤ s.unit) (above_is (numbered back s) s (cost_up s f))))

  -- the lower solution with its schedule numbered anew
  abbrev brought : Solution → Solution
  brought s = record s { schedule = numbered back s.schedule }

  IsSolution-renumbered : (s : Solution) → IsSolution j s → IsSolution i (brought s)
  IsSolution-renumbered s f = record { feasible = h.up s.schedule f.feasible; cost = f.cost ∙ ap (λ z. z *ℤ s.cost.den) (sym (cost_up s.schedule f.feasible)) }

  KeepsBounds-renumbered : (s : Schedule) → IsPlain row → IsBounded j s → KeepsBounds row i j s (numbered back s)
  KeepsBounds-renumbered s plain b = KeepsBounds-unraised row i j s (numbered back s) plain.moments plain.dates (λ kept. absurd (false≢true (sym plain.changes ∙ kept))) (λ w. refl)
      (omega (arith, length-map s.pieces (with_number back)))
      (record { few = omega (arith, b.sized.few, length-map s.pieces (with_number back)); unit = ≤ℤ_trans b.sized.unit h.units })
      (EndsBy-numbered back s)

  -- what is brought back
  abbrev pub IsRenumbered : Solution → Solution → Type 0
  IsRenumbered s r = record {
    solution : IsSolution i r;
    law : IsBack same_costs i j s.schedule r.schedule;
    same : IsReordered (numbered back s.schedule) r.schedule;
    bounds : KeepsBounds row i j s.schedule r.schedule;
  }

  pub brought_renumbered : IsPlain row → (s r : Solution) → r ≡ brought s → IsSolution j s → IsBounded j s.schedule → IsRenumbered s r
  brought_renumbered plain s r e f b = subst (IsRenumbered s) (sym e) (record {
    solution = IsSolution-renumbered s f;
    law = IsBack-renumbered s.schedule;
    same = record { unit = refl; pieces = IsPermutation-refl (numbered back s.schedule).pieces };
    bounds = KeepsBounds-renumbered s.schedule plain b;
  })
