-- What is brought back over a row over which schedules stay.
use Rattle.std.proofs.Common.{◌≡◌, ℕ, true, ◌*ℤ◌, refl, sym, ap, ◌∙◌}
use Rattle.std.proofs.lemmas.List.Sorted.{IsPermutation-refl}
use Rattle.msp_class.proofs.IntegerRing.{≤ℤ_trans}
use Rattle.msp_instance.specs.declared.Instance.{Instance}
use Rattle.msp_pieces.specs.declared.Solution.{Solution}
use Rattle.msp_pieces.specs.Cost.{IsSolution}
use Rattle.msp_route.specs.Law.{IsBack, IsReordered}
use Rattle.msp_route.specs.Bounds.{IsBounded, KeepsBounds, keeps_schedule}
use Rattle.msp_route.specs.Changes.{same_costs}
use Rattle.msp_route.specs.Stays.{SchedulesStay}
use Rattle.msp_route.specs.laws.Stays.{IsBack-stays}
use Rattle.msp_route.proofs.Kept.{KeepsBounds-kept}

-- the lower solution itself
abbrev pub IsBrought : ℕ → Instance → Instance → Solution → Type 0
IsBrought row i j s = record {
  solution : IsSolution i s;
  law : IsBack same_costs i j s.schedule s.schedule;
  same : IsReordered s.schedule s.schedule;
  bounds : KeepsBounds row i j s.schedule s.schedule;
}

pub brought : {row : ℕ} {i j : Instance} → SchedulesStay row i j → keeps_schedule row ≡ true → (s : Solution) → IsSolution j s → IsBounded j s.schedule → IsBrought row i j s
brought {row} {i} {j} h kept s f b = record {
  solution = let feasible = (h.feasible s.schedule).1 f.feasible in record { feasible = feasible; cost = f.cost ∙ ap (λ z. z *ℤ s.cost.den) (sym (h.cost s.schedule feasible)) };
  law = IsBack-stays h s.schedule;
  same = record { unit = refl; pieces = IsPermutation-refl s.schedule.pieces };
  bounds = KeepsBounds-kept row i j s.schedule kept (record { few = b.sized.few; unit = ≤ℤ_trans b.sized.unit h.unit });
}
