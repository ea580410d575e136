use Rattle.std.proofs.Common.{◌<◌, length, arith}
use Rattle.std.proofs.lemmas.List.Sorted.{All-permutation, IsPermutation-trans}
use Rattle.msp_threshold.proofs.Seated.{released-swapped}
use Rattle.msp_threshold.proofs.by_due_date.sort_by_due_date.Goals as goal

pub due_first-first-requires-clause-inside : goal.due_first-first-requires-clause-inside
due_first-first-requires-clause-inside c = All-permutation (λ j. j < length c.args.jobs.now) _ _ c.loop-place.invariant.same c.requires.inside

pub loop-place-preserved : goal.loop-place-preserved
loop-place-preserved c = record {
  same = IsPermutation-trans _ _ _ c.loop-place.invariant.same c.swap.ensures.permutation;
  released = released-swapped _ _ _ _ _ _ c.requires.rising (omega (arith, c.requires.slots, c.loop-place.auto.order))
      c.loop-place.invariant.released c.due_first-first.ensures.least c.due_first-first.ensures.most c.due_first-first.ensures.released c.swap.ensures.len c.swap.ensures.by_index;
}
