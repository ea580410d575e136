-- A flow shop whose jobs take the slots of the earliest schedule on one machine at least cost is feasible and best.
use Rattle.std.proofs.Common.{◌≡◌, ℕ, ◌<◌, Bool, List, length, pos, sym, ap, subst, ◌∙◌, arith}
use Rattle.msp_instance.specs.declared.Instance.{Instance}
use Rattle.msp_instance.specs.Conditions.{Inner}
use Rattle.msp_pieces.specs.declared.Piece.{Piece}
use Rattle.msp_pieces.specs.Cost.{Best}
use Rattle.msp_route.specs.Bounds.{IsBestAnswer}
use Rattle.msp_route.proofs.Placed.{schedule_at}
use Rattle.msp_assign.specs.Prices.{column_of}
use Rattle.msp_slots.specs.Earliest.{start_in, machine_in}
use Rattle.msp_total.specs.LeastSlots.{HasSmallDates}
use Rattle.msp_total.proofs.LeastSlots.{chosen_soon, chosen_machine, chosen_apart, in_time, best_in_slots}
use Rattle.msp_total.specs.LineSteps.{line_class, lines_from, AreLeastLined}
use Rattle.msp_total.proofs.LineFacts.{IsLineShop, small_dates}
use Rattle.msp_total.proofs.LineBegins.{line_begins}
use Rattle.msp_total.proofs.LinePieces.{AreLineBegins, lines_at, lines_feasible, lines_answer, lines_end}
use Rattle.msp_pieces.proofs.feasible.OfClass.{IsOfClass-from}

module _ (i : Instance) (late : Bool) (h : IsLineShop i late) (laid : List Piece) (l : AreLeastLined i late laid) where
  abbrev n : ℕ
  n = length i.jobs

  abbrev begin : ℕ → ℕ
  begin j = start_in l.slots (column_of l.column j)

  small : HasSmallDates i
  small = small_dates i late h

  on_first : (j : ℕ) → j < n → machine_in l.slots (column_of l.column j) < 1
  on_first = chosen_machine i late 1 i.machines small (omega arith) h.machine h.machines l.slots l.column l.least

  begins : AreLineBegins i begin
  begins = record {
    released = in_time i late 1 i.machines small (omega arith) h.machine h.machines l.slots l.column l.least;
    apart = λ a b u v e. chosen_apart i late 1 i.machines small (omega arith) h.machine h.machines l.slots l.column l.least a b u v e (omega (arith, on_first a u, on_first b v));
    early = λ j b. omega (arith, chosen_soon i late 1 i.machines small (omega arith) h.machine h.machines l.slots l.column l.least j b);
  }

  best : Best i (schedule_at (lines_at i begin))
  best = best_in_slots i late 1 i.machines small (omega arith) h.machine h.machines l.slots l.column l.least h.crit
      (lines_from n i.machines begin) (lines_end i late h begin begins) (lines_feasible i late h begin begins) (λ t f. line_begins i late h t f)

  line_answer : IsBestAnswer i (record { unit = pos 1; pieces = laid })
  line_answer =
      subst (λ ps. IsBestAnswer i (record { unit = pos 1; pieces = ps })) (sym (l.laid ∙ ap (λ k. lines_from k i.machines begin) l.least.assigned.all))
      (record { best = best; answer = lines_answer i late h begin begins })

pub IsLineAnswer-from : (i : Instance) (late : Bool)
    → i.class ≡ line_class late → Inner i → (pieces : List Piece) → AreLeastLined i late pieces → IsBestAnswer i (record { unit = pos 1; pieces = pieces })
IsLineAnswer-from i late class inner pieces l = line_answer i late (IsOfClass-from i (line_class late) class inner) pieces l
