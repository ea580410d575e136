-- Times and weights add up, and stay small.
use Rattle.std.proofs.Common.{ap, sum_by, ◌∙◌, arith}
use Rattle.std.proofs.lemmas.List.{take_all}
use Rattle.msp_pieces.specs.BackToBack.{time_at}
use Rattle.msp_trees.specs.Horn.{weight_at}
use Rattle.msp_trees.proofs.Picks.{sum-next}
use Rattle.msp_trees.proofs.joining.load_of.Goals as goal

pub overflow_add-load : goal.overflow_add-load
overflow_add-load c = omega (arith, c.time_taken.ensures.size, c.loop-k.invariant.short, c.loop-k-test.true, c.requires.few)

pub overflow_add-load-in-loop-k : goal.overflow_add-load-in-loop-k
overflow_add-load-in-loop-k c = omega (arith, c.weight.ensures.size, c.loop-k.invariant.light, c.loop-k-test.true, c.requires.few)

pub loop-k-preserved : goal.loop-k-preserved
loop-k-preserved c = record {
  place = c.loop-k.invariant.place;
  first = c.loop-k.invariant.first;
  time = sum-next (time_at c.args.inst.now) c.args.jobs.now c.loop-k.k _ _ c.loop-k-test.true c.time_taken.ensures.value c.loop-k.invariant.time;
  weight = sum-next (weight_at c.args.inst.now) c.args.jobs.now c.loop-k.k _ _ c.loop-k-test.true c.weight.ensures.value c.loop-k.invariant.weight;
  short = omega (arith, c.time_taken.ensures.size, c.loop-k.invariant.short);
  light = omega (arith, c.weight.ensures.size, c.loop-k.invariant.light);
}

pub returns-clause-place : goal.returns-clause-place
returns-clause-place c = c.loop-k.invariant.place

pub returns-clause-time : goal.returns-clause-time
returns-clause-time c = c.loop-k.invariant.time ∙ ap (sum_by (time_at c.args.inst.now)) (take_all c.loop-k.k c.args.jobs.now c.loop-k-test.false)

pub returns-clause-weight : goal.returns-clause-weight
returns-clause-weight c = c.loop-k.invariant.weight ∙ ap (sum_by (weight_at c.args.inst.now)) (take_all c.loop-k.k c.args.jobs.now c.loop-k-test.false)

pub returns-clause-first : goal.returns-clause-first
returns-clause-first c = c.loop-k.invariant.first
