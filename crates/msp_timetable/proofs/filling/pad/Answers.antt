use Rattle.std.proofs.Common.{arith, inl, inr}
use Rattle.msp_timetable.proofs.Fills.{IsCorner-start, IsCorner-row, IsCorner-column, IsPadding-end, corner-small}
use Rattle.msp_timetable.proofs.filling.pad.Goals as goal
use Rattle.msp_timetable.proofs.filling.pad.Goals.{then-corners-test+else-column-size, else-corners-test}

pub corners-init : goal.corners-init
corners-init c = IsCorner-start _ _ _ _ c.in_ok-padding.ensures.length c.in_ok-padding.ensures.zeros c.in_ok-padding.ensures.none c.requires.rows c.requires.columns c.requires.same

pub fill_corner-requires-clause-few : goal.fill_corner-requires-clause-few
fill_corner-requires-clause-few c = corner-small _ _ _ _ _ _ _ _ c.corners.invariant (omega arith) (omega arith) c.requires.few

pub corners-preserved-then-fill_corner : goal.corners-preserved-then-fill_corner
corners-preserved-then-fill_corner c = IsCorner-row _ _ _ _ _ _ _ _ _ _ _ _ c.corners.invariant (omega arith) (omega arith) c.fill_corner.ensures c.if-fill_corner.true

pub corners-preserved : goal.corners-preserved
corners-preserved c = IsCorner-column _ _ _ _ _ _ _ _ _ _ _ _ c.corners.invariant (omega arith) (omega arith) c.fill_corner.ensures c.if-fill_corner.false

pub returns : goal.returns
returns c = IsPadding-end _ _ _ _ _ _ _ _ c.corners.invariant (elim c.corners-test.branch [
  | then-corners-test+else-column-size w ↦ inr (omega arith)
  | else-corners-test w ↦ inl (omega arith)
])
