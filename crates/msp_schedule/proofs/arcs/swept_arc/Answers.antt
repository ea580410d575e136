use Rattle.std.proofs.Common.{below_more}
use Rattle.std.specs.Prelude.{slice_index_or}
use Rattle.msp_schedule.specs.Breaks.{KeepsArc, no_arc}
use Rattle.msp_schedule.proofs.judging.ArcTimes.{arc_decided}
use Rattle.msp_schedule.proofs.arcs.swept_arc.Goals as goal

pub returns-then-not-is_kept-clause-some : goal.returns-then-not-is_kept-clause-some
returns-then-not-is_kept-clause-some c = record {
  inside = c.loop-at-test.true;
  holds = λ h. let yes = (arc_decided c.args.pieces.now (slice_index_or c.args.arcs.now c.loop-at.at no_arc) c.ends_of-ends.result c.begins_of-begins.result c.is_kept.result c.begins_of-begins.ensures
      c.ends_of-ends.ensures.ends c.ends_of-ends.ensures.moments c.requires.moments (c.requires.ends c.loop-at.at no_arc c.loop-at-test.true) c.is_kept.ensures).1 h in absurd (cc);
  least = λ l below none. none (c.loop-at.invariant l below);
}

pub loop-at-preserved : goal.loop-at-preserved
loop-at-preserved c = below_more (λ k. KeepsArc c.args.pieces.now (slice_index_or c.args.arcs.now k no_arc)) c.loop-at.at c.loop-at.invariant
    ((arc_decided c.args.pieces.now (slice_index_or c.args.arcs.now c.loop-at.at no_arc) c.ends_of-ends.result c.begins_of-begins.result c.is_kept.result c.begins_of-begins.ensures
    c.ends_of-ends.ensures.ends c.ends_of-ends.ensures.moments c.requires.moments (c.requires.ends c.loop-at.at no_arc c.loop-at-test.true) c.is_kept.ensures).0 (search))
