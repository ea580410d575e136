use Rattle.std.proofs.Common.{refl, rules, subst}
use Rattle.std.proofs.lemmas.List.{take_all}
use Rattle.msp_schedule.specs.Begins.{AreBegins}
use Rattle.msp_schedule.proofs.judging.ArcTimes.{AreBegins-none, AreBegins-next}
use Rattle.msp_schedule.proofs.arcs.begins_of.Goals as goal

pub loop-piece-init : goal.loop-piece-init
loop-piece-init c = AreBegins-none _ c.no_begins-begins.ensures

pub loop-piece-preserved : goal.loop-piece-preserved
loop-piece-preserved c =
    AreBegins-next c.loop-piece.begins c.lower.new.begins c.args.pieces.now c.loop-piece.piece-index _ _ c.loop-piece-test.true refl
    (search rules) (search rules) c.lower.ensures c.loop-piece.invariant

pub returns : goal.returns
returns c = subst (AreBegins c.loop-piece.begins) (take_all c.loop-piece.piece-index c.args.pieces.now c.loop-piece-test.false) c.loop-piece.invariant
