use Rattle.msp_cert.proofs.SegmentFacts.{not_leading}
use Rattle.msp_cert.proofs.segments.lead_on.Goals as goal

pub returns-then-not-lead_to_all : goal.returns-then-not-lead_to_all
returns-then-not-lead_to_all c = not_leading c.args.paths.now c.args.lists.now c.loop-k.k c.index-lists-k.result c.index-lists-k-in-loop-k.result c.as_slice.result.now c.as_slice-in-loop-k.result.now
    c.loop-k.invariant.some c.loop-k-test.true c.index-lists-k.is c.index-lists-k-in-loop-k.is c.as_slice.ensures c.as_slice-in-loop-k.ensures c.if-not-lead_to_all.ensures
