-- The end of a schedule: no piece ends later, and it is the least such moment.
use Rattle.std.proofs.Common.{ℕ, List, All, map, inl, inr, ℤ, pos, ◌≤ℤ◌, refl, sym, subst}
use Rattle.std.proofs.lemmas.Int.{fold-int_max_bounds, fold-int_max_reached}
use Rattle.std.proofs.lemmas.List.Elements.{All-contains, All-map}
use Rattle.msp_pieces.specs.declared.Schedule.{Schedule}
use Rattle.msp_pieces.specs.Cost.{end_of}
use Rattle.msp_pieces.proofs.feasible.LastEnds.{last_end-least}
use Rattle.msp_stairs.specs.Stairs.{makespan}
use Rattle.msp_pieces.proofs.changes.Shrunk.{All-from_map}

abbrev ends : Schedule → List ℤ
ends s = map (λ p. p.to) s.pieces

pub makespan-natural : (s : Schedule) → pos 0 ≤ℤ makespan s
makespan-natural s = (fold-int_max_bounds (pos 0) (ends s) (makespan s) refl).0

pub makespan-bound : (s : Schedule) → All (λ p. p.to ≤ℤ makespan s) s.pieces
makespan-bound s = All-from_map (λ x. x ≤ℤ makespan s) (λ p. p.to) s.pieces (fold-int_max_bounds (pos 0) (ends s) (makespan s) refl).1

pub makespan-least : (s : Schedule) (b : ℤ) → pos 0 ≤ℤ b → All (λ p. p.to ≤ℤ b) s.pieces → makespan s ≤ℤ b
makespan-least s b h all = elim (fold-int_max_reached (pos 0) (ends s) (makespan s) refl) [
  | inl e ↦ subst (λ x. x ≤ℤ b) (sym e) h
  | inr c ↦ All-contains (λ x. x ≤ℤ b) (ends s) (makespan s) (All-map (λ x. x ≤ℤ b) (λ p. p.to) s.pieces all) c
]

pub end_of-makespan : (s : Schedule) (j : ℕ) → end_of s j ≤ℤ makespan s
end_of-makespan s j = last_end-least s.pieces j (makespan s) (makespan-natural s) (λ k d l e. makespan-bound s k d l)
