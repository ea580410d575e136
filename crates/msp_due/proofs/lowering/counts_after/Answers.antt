use Rattle.std.proofs.Common.{eqb, get_or, arith}
use Rattle.std.specs.Prelude.{◌&&◌}
use Rattle.msp_instance.specs.Paths.{leads}
use Rattle.msp_due.proofs.LoweredSlots.{how_many-most}
use Rattle.msp_due.proofs.lowering.counts_after.Goals as goal

pub count-requires-clause-small : goal.count-requires-clause-small
count-requires-clause-small c =
    let slot = get_or c.args.slots.now c.loop-other.other 0 in
    omega (
      arith,
      c.loop-other.invariant slot,
      how_many-most c.loop-other.other
          (λ z. leads c.args.paths.now c.args.job z && eqb (get_or c.args.slots.now z 0) slot),
      c.loop-other-test.true,
      c.requires.few,
    )
