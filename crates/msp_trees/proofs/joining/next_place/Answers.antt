-- The better one of the best block so far and the next.
use Rattle.std.proofs.Common.{arith}
use Rattle.msp_trees.proofs.Loads.{load_is, best-first, best-next, best-end}
use Rattle.msp_trees.proofs.Picks.{block_takes_time, IsBlock, IsBlock-read}
use Rattle.msp_trees.proofs.joining.next_place.Goals as goal
use Rattle.msp_trees.proofs.joining.next_place.Goals.{After-as_slice, After-as_slice-in-loop-place}

first : (c : After-as_slice) → IsBlock c.args.inst.now c.requires.class c.requires.inner c.args.blocks.now c.requires.joined 1 c.as_slice.result.now
first c = IsBlock-read c.args.inst.now c.requires.class c.requires.inner c.args.blocks.now c.requires.joined 1 c.index-blocks-1.result _ c.requires.some c.index-blocks-1.is c.as_slice.ensures

next : (c : After-as_slice-in-loop-place) → IsBlock c.args.inst.now c.requires.class c.requires.inner c.args.blocks.now c.requires.joined c.loop-place.place c.as_slice-in-loop-place.result.now
next c = IsBlock-read c.args.inst.now c.requires.class c.requires.inner c.args.blocks.now c.requires.joined c.loop-place.place
    c.index-blocks-place.result _ c.loop-place-test.true c.index-blocks-place.is
    c.as_slice-in-loop-place.ensures

pub load_of-best-requires-clause-some : goal.load_of-best-requires-clause-some
load_of-best-requires-clause-some c = (first c).some

pub load_of-best-requires-clause-few : goal.load_of-best-requires-clause-few
load_of-best-requires-clause-few c = (first c).few

pub loop-place-init : goal.loop-place-init
loop-place-init c =
    let block = first (goal.at.loop-place-init c).After-as_slice in
    let best = c.load_of-best.ensures in
    record {
      later = omega arith;
      best = best-first c.args.inst.now c.args.blocks.now c.load_of-best.result
          (load_is c.args.inst.now c.args.blocks.now c.load_of-best.result _ 1 best.place best.first block.is best.time best.weight)
          (block_takes_time c.args.inst.now c.requires.class c.requires.inner c.args.blocks.now c.requires.joined 1 (omega arith) c.requires.some);
    }

pub load_of-requires-clause-some : goal.load_of-requires-clause-some
load_of-requires-clause-some c = (next c).some

pub load_of-requires-clause-few : goal.load_of-requires-clause-few
load_of-requires-clause-few c = (next c).few

pub loop-place-preserved : goal.loop-place-preserved
loop-place-preserved c =
    let blocks = c.args.blocks.now in
    let k = c.loop-place.place in
    let block = next (goal.at.loop-place-preserved c).After-as_slice-in-loop-place in
    let load = c.load_of.ensures in
    record {
      later = omega (arith, c.loop-place.invariant.later);
      best = best-next c.args.inst.now blocks c.loop-place.best c.load_of.result c.better-best.result k (omega (arith, c.loop-place.invariant.later))
          (load_is c.args.inst.now blocks c.load_of.result _ k load.place load.first block.is load.time load.weight)
          (λ m one l. block_takes_time c.args.inst.now c.requires.class c.requires.inner blocks c.requires.joined m one (omega (arith, l, c.loop-place-test.true)))
          c.better-best.ensures.either c.better-best.ensures.a c.better-best.ensures.b c.loop-place.invariant.best;
    }

pub returns-clause-later : goal.returns-clause-later
returns-clause-later c = c.loop-place.invariant.best.one.later

pub returns-clause-inside : goal.returns-clause-inside
returns-clause-inside c = omega (arith, c.loop-place.invariant.best.one.early, c.loop-place.auto.place-end)

pub returns-clause-next : goal.returns-clause-next
returns-clause-next c = best-end c.args.inst.now c.args.blocks.now c.loop-place.best c.loop-place.place c.loop-place-test.false c.loop-place.invariant.best
