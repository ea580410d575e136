use Rattle.std.proofs.Common.{◌+◌, sym, subst}
use Rattle.msp_schedule.specs.Lanes.{lane_of, IsFirstOverlapBelow}
use Rattle.msp_schedule.proofs.judging.OverlapFacts.{nothing_new, none_overlap}
use Rattle.msp_schedule.proofs.overlaps.first_overlap.Goals as goal
use Rattle.msp_schedule.proofs.overlaps.first_overlap.Goals.{in-Some, in_default}

pub loop-second-preserved : goal.loop-second-preserved
loop-second-preserved c = elim c.match-overlapped.branch [
  | in-Some w ↦ subst (IsFirstOverlapBelow (lane_of c.args.lane) c.args.pieces.now (c.loop-second.second + 1)) (sym w.best-is) w.earlier-best.ensures
  | in_default w ↦ subst (IsFirstOverlapBelow (lane_of c.args.lane) c.args.pieces.now (c.loop-second.second + 1)) (sym w.best-is)
      (nothing_new (lane_of c.args.lane) c.args.pieces.now c.loop-second.best c.loop-second.second w.in_default.ensures.none c.loop-second.invariant)
]

pub returns-in-None-clause-none : goal.returns-in-None-clause-none
returns-in-None-clause-none c = λ e. none_overlap (lane_of c.args.lane) c.args.pieces.now c.loop-second.best c.loop-second.second c.loop-second-test.false c.in-None.is c.loop-second.invariant
