use Rattle.std.proofs.Common.{arith}
use Rattle.msp_uniform.proofs.HeldFacts.{AreWorks-more}
use Rattle.msp_uniform.proofs.turning.works_in.Goals as goal

pub work_in-work-requires-clause-places : goal.work_in-work-requires-clause-places
work_in-work-requires-clause-places c = c.requires.each c.loop-place.place (omega arith)

pub loop-place-preserved : goal.loop-place-preserved
loop-place-preserved c = AreWorks-more _ _ _ _ _ _ c.loop-place.invariant c.in_ok-push.ensures.items c.work_in-work.ensures
