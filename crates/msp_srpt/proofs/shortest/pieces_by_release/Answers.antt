use Rattle.std.proofs.Common.{◌≤◌, ◌+◌, ◌*◌, length, arith}
use Rattle.msp_class.specs.declared.sizes.TheConstants.{MOST_JOBS, GREATEST}
use Rattle.msp_srpt.proofs.Arrivals.{inside, comes, early, in_order, carried_out}
use Rattle.msp_srpt.proofs.Instances.{IsShortestInstance-from_class}
use Rattle.msp_srpt.proofs.Queue.{still_put}
use Rattle.msp_srpt.proofs.shortest.pieces_by_release.Goals as goal

pub arrival_of-arrival-requires-clause-inside : goal.arrival_of-arrival-requires-clause-inside
arrival_of-arrival-requires-clause-inside c =
    inside c.args.inst.now (IsShortestInstance-from_class c.args.inst.now c.requires.class c.requires.inner) c.args.order.now c.requires.all c.requires.sorted c.loop-k.k c.loop-k-test.true

pub loop-k-preserved : goal.loop-k-preserved
loop-k-preserved c =
    let i = c.args.inst.now in
    let h = IsShortestInstance-from_class i c.requires.class c.requires.inner in
    let l = c.loop-k.invariant in
    let k = c.loop-k.k in
    let a = c.arrival_of-arrival.result in
    let is = c.arrival_of-arrival.ensures in
    let one = early i h c.args.order.now c.requires.all c.requires.sorted k a c.loop-k-test.true is.release is.job is.left in
    let was = c.in_ok-put.ensures.tasks in
    record {
      later = in_order i h c.args.order.now c.requires.all c.requires.sorted k a c.loop-k-test.true is.release is.job is.left;
      early = one.0;
      left = still_put _ _ _ was one.1 c.in_ok-run_until.ensures.left;
      queue = c.in_ok-put.ensures.queue;
      way = comes i h c.args.order.now c.requires.all c.requires.sorted k a c.loop-k-test.true is.release is.job is.left c.loop-k.moment _ _ _ _ _ c.in_ok-run_until.ensures.next was l.way;
      few = omega (arith, l.few, c.in_ok-run_until.ensures.few, c.in_ok-put.ensures.len);
    }

pub returns : goal.returns
returns c =
    let i = c.args.inst.now in
    let h = IsShortestInstance-from_class i c.requires.class c.requires.inner in
    let l = c.loop-k.invariant in
    let whole : length c.args.order.now ≤ c.loop-k.k = omega (arith, c.loop-k-test.false) in
    let few : length c.run_until-2.new.pieces.items ≤ 2 * length c.args.order.now + 1 = omega (arith, c.in_ok-run_until-2.ensures.few, l.few, whole) in (
      (MOST_JOBS + 3) * GREATEST,
      carried_out i h c.args.order.now c.requires.all c.requires.sorted c.loop-k.k c.loop-k.moment _ _ _ _ _ whole l.way c.in_ok-run_until-2.ensures.next c.from_vec.ensures few,
    )
