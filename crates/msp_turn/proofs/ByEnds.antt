-- What is brought back from uncut to cut jobs: lined up in the order of their ends, no job ends later.
use Rattle.std.proofs.Common.{◌<◌, length, get_or, ℤ, nat_abs, refl, arith}
use Rattle.msp_class.proofs.IntegerRing.{≤ℤ_trans}
use Rattle.msp_instance.specs.declared.Instance.{Instance}
use Rattle.msp_instance.specs.Conditions.{Inner}
use Rattle.msp_pieces.specs.declared.Schedule.{Schedule}
use Rattle.msp_pieces.specs.Feasible.{Feasible}
use Rattle.msp_pieces.specs.LineUp.{lined_up, order_of_ends}
use Rattle.msp_pieces.proofs.feasible.LastEnds.{last_end-bound}
use Rattle.msp_pieces.proofs.changes.LineUp.{IsLine, SameLine, order_of_ends-once, order_of_ends-rises, end_of-by_ends}
use Rattle.msp_route.specs.Law.{Applies}
use Rattle.msp_route.specs.Bounds.{EndsBy}
use Rattle.msp_route.specs.Changes.{led}
use Rattle.msp_turn.specs.LinedUp.{by_ends}
use Rattle.msp_turn.specs.laws.OneMachine.{Recuts-50, led-env, line_of, lower_50, back_50}
use Rattle.msp_turn.proofs.JobPieces.{end_by}
use Rattle.msp_turn.proofs.BroughtBack.{LinesUp}

no_later : (i j : Instance) → IsLine j → IsLine i → SameLine j i → Inner j → (t : Schedule) → Feasible j t
    → Feasible i (lined_up i (nat_abs t.unit) (order_of_ends j t)) → (moment : ℤ) → EndsBy moment t → EndsBy moment (lined_up i (nat_abs t.unit) (order_of_ends j t))
no_later i j line other same inner t f g moment h k d l =
    let p = get_or (lined_up i (nat_abs t.unit) (order_of_ends j t)).pieces k d in
    let inside : p.job < length j.jobs = omega (arith, (g.place k d l).job, same.count) in
    ≤ℤ_trans (last_end-bound (lined_up i (nat_abs t.unit) (order_of_ends j t)).pieces k d l)
    (≤ℤ_trans (end_of-by_ends j i line other same t f (order_of_ends j t) (order_of_ends-once j t) (order_of_ends-rises j t) p.job inside) (end_by j inner t f moment h p.job inside))

pub lines_50 : (i : Instance) → Inner i → Applies 50 i → (t : Schedule) → Feasible (led 50 i) t → LinesUp 50 t (by_ends i t)
lines_50 i inner h t f =
    let r = Recuts-50 i h in
    let low = (lower_50 i inner h).inner in
    record {
      changes = refl;
      plain = refl;
      ends = λ moment e early. no_later i (led 50 i) (line_of (led 50 i) (led-env 50 _ i r) low)
          (line_of i r.env inner) (record { count = refl; times = λ k l. refl; arcs = refl }) low t f (back_50 i t inner h f).0 moment e;
    }
