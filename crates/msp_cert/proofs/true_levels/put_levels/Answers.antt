use Rattle.std.proofs.Common.{refl, arith, ap, length, length-set, ◌∙◌}
use Rattle.msp_class.specs.declared.sizes.TheConstants.{MOST_JOBS}
use Rattle.msp_cert.specs.Certificates.{of_job}
use Rattle.msp_cert.proofs.TrueLevels.{none_raised, all_raised, raise_next, small_at, no_arc}
use Rattle.msp_cert.proofs.true_levels.put_levels.Goals as goal

pub loop-arc-init : goal.loop-arc-init
loop-arc-init c = record { wide = refl; raised = none_raised (of_job c.args.heights.now) c.args.sorted.now c.args.level.now.items c.requires.none }

pub raise-requires-clause-inside : goal.raise-requires-clause-inside
raise-requires-clause-inside c = omega (arith, c.requires.inside c.loop-arc.arc-index no_arc c.loop-arc-test.true, c.loop-arc.invariant.wide)

pub raise-requires-clause-small : goal.raise-requires-clause-small
raise-requires-clause-small c = omega (arith, c.loop-arc.invariant.raised.low, small_at MOST_JOBS c.args.heights.now (omega arith) c.requires.small)

pub loop-arc-preserved : goal.loop-arc-preserved
loop-arc-preserved c = record {
  wide = ap length c.raise.ensures ∙ length-set _ _ _ ∙ c.loop-arc.invariant.wide;
  raised = raise_next (of_job c.args.heights.now) c.args.sorted.now c.loop-arc.arc-index c.loop-arc.level.items _ c.loop-arc-test.true c.requires.falls c.requires.sorted
      (omega (arith, c.requires.inside c.loop-arc.arc-index no_arc c.loop-arc-test.true, c.loop-arc.invariant.wide)) refl c.loop-arc.invariant.raised _ c.raise.ensures;
}

pub returns-clause-levels : goal.returns-clause-levels
returns-clause-levels c = all_raised (of_job c.args.heights.now) c.args.sorted.now c.loop-arc.arc-index _ c.loop-arc-test.false (omega arith) c.loop-arc.invariant.raised
