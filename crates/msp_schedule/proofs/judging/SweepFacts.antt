-- What the sweep of a schedule answers, where there is memory.
use Rattle.std.proofs.Common.{◌≡◌, ◌≤◌, List, length, All, Option, None, Result, Ok, Err, refl, sym, subst}
use Rattle.std.specs.Prelude.{IsNone, IfOk, IfSome, ◌↔◌}
use Rattle.msp_class.specs.declared.sizes.TheConstants.{MOST_PIECES}
use Rattle.msp_class.specs.Env.{IsCutOnUnrelated}
use Rattle.msp_instance.specs.declared.Instance.{Instance}
use Rattle.msp_instance.specs.Conditions.{Inner}
use Rattle.msp_pieces.specs.declared.Piece.{Piece}
use Rattle.msp_pieces.specs.declared.Schedule.{Schedule}
use Rattle.msp_schedule.specs.declared.breaks.Break.{Break}
use Rattle.msp_schedule.specs.Breaks.{IsDecision, IsFirstBreak}
use Rattle.msp_pieces.specs.Feasible.{Feasible, HasPlace}
use Rattle.msp_pieces.specs.Within.{IsMoment, Within}
use Rattle.msp_schedule.specs.Works.{AreMeasurable}
use Rattle.msp_schedule.proofs.judging.FirstBreaks.{decided, named}

pub swept_none : {E : Type 0} (i : Instance) (s : Schedule) (r : Result (Option Break) E) → IfOk r (IsDecision i s) → IfOk r (λ b. IsNone b ↔ Feasible i s)
swept_none i s (Ok b) h = decided i s b h
swept_none i s (Err e) h = tt

pub swept_first : {E : Type 0} (i : Instance) (s : Schedule) (r : Result (Option Break) E) → IfOk r (IsDecision i s) → IfOk r (λ b. IfSome b (IsFirstBreak i s))
swept_first i s (Ok b) h = named i s b h
swept_first i s (Err e) h = tt

pub none_is : {X : Type 0} (r : Option X) → r ≡ None → IsNone r
none_is r e = subst IsNone (sym e) refl

-- what is known of the pieces when routes and work are looked at
pub measurable : (i : Instance) (s : Schedule) (xs : List Piece) → xs ≡ s.pieces → Inner i → ¬ IsCutOnUnrelated i.class → Within i s → All (HasPlace i) xs → AreMeasurable i xs
measurable i s xs e inner checked within place = record {
  inner = inner;
  checked = checked;
  few = subst (λ pieces. length pieces ≤ MOST_PIECES) (sym e) within.few;
  place = place;
  moments = subst (All (λ p. IsMoment p.from × IsMoment p.to)) (sym e) within.moments;
}
