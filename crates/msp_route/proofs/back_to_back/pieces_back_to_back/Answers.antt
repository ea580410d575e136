-- One more job is laid behind the others.
use Rattle.std.proofs.Common.{ℕ, ◌≡◌, ◌*◌, ◌+◌, refl, rules, get_or, arith}
use Rattle.std.proofs.lemmas.Int.{ints, to_z-of_z}
use Rattle.std.specs.Int.{w128}
use Rattle.msp_pieces.specs.BackToBack.{time_at}
use Rattle.msp_route.proofs.JobReads.{ends-next}
use Rattle.msp_route.proofs.BackToBackSteps.{laid-next, length_read, moment-next}
use Rattle.msp_route.proofs.back_to_back.pieces_back_to_back.Goals as goal

pub overflow_add-end : goal.overflow_add-end
overflow_add-end c =
    let within = c.requires.jobs c.loop-k.k 0 c.loop-k-test.true in
    let is = length_read c.args.inst.now c.args.unit c.as_slice-jobs.result.now _ _ c.index-jobs-order.result c.as_slice-jobs.ensures within c.index-jobs-order.is c.length_over.ensures in
    let small = moment-next c.args.inst.now c.args.unit c.loop-k.k
    _ c.loop-k.moment c.length_over.result _ c.requires.unit c.requires.needs within is c.loop-k.invariant.early c.loop-k-test.true c.requires.few in
    omega (arith, small.1)

pub overflow_cast-next-in-loop-k : goal.overflow_cast-next-in-loop-k
overflow_cast-next-in-loop-k c =
    let within = c.requires.jobs c.loop-k.k 0 c.loop-k-test.true in
    let is = length_read c.args.inst.now c.args.unit c.as_slice-jobs.result.now _ _ c.index-jobs-order.result c.as_slice-jobs.ensures within c.index-jobs-order.is c.length_over.ensures in
    let small = moment-next c.args.inst.now c.args.unit c.loop-k.k
    _ c.loop-k.moment c.length_over.result _ c.requires.unit c.requires.needs within is c.loop-k.invariant.early c.loop-k-test.true c.requires.few in
    omega (arith, ints, small.1)

pub loop-k-preserved : goal.loop-k-preserved
loop-k-preserved c =
    let p = λ (j : ℕ). c.args.unit * time_at c.args.inst.now j in
    let within = c.requires.jobs c.loop-k.k 0 c.loop-k-test.true in
    let is = length_read c.args.inst.now c.args.unit c.as_slice-jobs.result.now _ _ c.index-jobs-order.result c.as_slice-jobs.ensures within c.index-jobs-order.is c.length_over.ensures in
    let longer : c.loop-k.moment + c.length_over.result ≡ c.loop-k.moment + c.args.unit * time_at c.args.inst.now (get_or c.args.order.now c.loop-k.k 0) = omega (arith, is) in
    let more = c.in_ok-put.ensures.put in
    let small = moment-next c.args.inst.now c.args.unit c.loop-k.k
    _ c.loop-k.moment c.length_over.result _ c.requires.unit c.requires.needs within is c.loop-k.invariant.early c.loop-k-test.true c.requires.few in
    record {
      laid = laid-next p _ _ c.args.order.now c.loop-k.k _ c.loop-k.moment _ _ _ more
          (to_z-of_z w128 _ (search rules)) (to_z-of_z w128 _ (search rules)) longer c.loop-k-test.true refl c.loop-k.invariant.ends c.loop-k.invariant.laid;
      ends = ends-next p c.args.order.now c.loop-k.k _ c.loop-k.moment _ longer c.loop-k-test.true refl c.loop-k.invariant.ends;
      early = small.0;
    }
