use Rattle.std.proofs.Common.{arith, length-set, ◌∙◌}
use Rattle.msp_cert.proofs.TrueLevels.{height_next}
use Rattle.msp_cert.proofs.true_levels.put_heights.Goals as goal

pub loop-k-preserved : goal.loop-k-preserved
loop-k-preserved c = record {
  wide = length-set _ _ _ ∙ c.loop-k.invariant.wide;
  after = height_next c.args.order.now c.loop-k.heights.items c.loop-k.k _ c.requires.apart c.loop-k-test.true
      (omega (arith, c.requires.inside c.loop-k.k 0 c.loop-k-test.true, c.loop-k.invariant.wide)) (omega arith) c.loop-k.invariant.after;
}
