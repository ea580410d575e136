use Rattle.std.proofs.Common.{arith}
use Rattle.msp_instance.specs.Conditions.{LiesWithin}
use Rattle.msp_pieces.specs.Blocks.{cost_at}
use Rattle.msp_cert.specs.Least.{IsLast}
use Rattle.msp_cert.specs.Worth.{greatest_value}
use Rattle.msp_cert.proofs.BlockFacts.{next_least, next_within, least_of_all}
use Rattle.msp_cert.proofs.block.least_cost.Goals as goal

pub loop-k-preserved : goal.loop-k-preserved
loop-k-preserved c = record {
  value = next_least (IsLast c.args.paths.now c.args.jobs.now) (λ j. cost_at c.args.inst.now j c.args.moment)
      c.args.jobs.now c.loop-k.k 0 (omega arith) c.loop-k.least _ _ c.lesser-least.ensures c.loop-k.invariant.value c.cost_if_last.ensures.value;
  size = next_within (LiesWithin greatest_value) c.loop-k.least _ _ c.lesser-least.ensures c.loop-k.invariant.size c.cost_if_last.ensures.size;
}

pub returns-clause-value : goal.returns-clause-value
returns-clause-value c = least_of_all (IsLast c.args.paths.now c.args.jobs.now)
    (λ j. cost_at c.args.inst.now j c.args.moment) c.args.jobs.now c.loop-k.k c.loop-k.least (omega arith) c.loop-k.invariant.value
