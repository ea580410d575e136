use Rattle.std.proofs.Common.{◌≡◌, ℕ, ◌<◌, ◌≤◌, List, length, get_or, All, rules, sym, ap, subst, ◌∙◌, arith}
use Rattle.std.proofs.lemmas.Int.{to_z-of_z}
use Rattle.std.specs.Int.{w64}
use Rattle.msp_class.specs.declared.sizes.TheConstants.{GREATEST}
use Rattle.msp_instance.specs.Instance.{no_need}
use Rattle.msp_instance.specs.declared.Job.{Job}
use Rattle.msp_route.proofs.JobReads.{read_job, time_read}
use Rattle.msp_instance.proofs.BitLemmas.{row_inside}
use Rattle.msp_weighted.proofs.FilledFacts.{filled-start, filled_small, filled_read, weights_light, put_width}
use Rattle.msp_weighted.proofs.table.put_jobs.Goals as goal

at : (P : Job → Type 0) (js ys : List Job) (os : List ℕ) (k : ℕ) (j : Job) → js ≡ ys → All P ys → All (λ o. o < length ys) os → k < length os → j ≡ get_or js (get_or os k 0) j → P j
at P js ys os k j e all jobs l is = subst P (sym is) (subst (All P) (sym e) all (get_or os k 0) j (subst (λ xs. get_or os k 0 < length xs) (sym e) (jobs k 0 l)))

pub loop-k-init : goal.loop-k-init
loop-k-init c = record {
  filled = filled-start _ _ _ _ _ c.requires.start c.requires.clear;
  reached = c.requires.reached;
  room = c.requires.blocks;
}

pub put_job-requires-clause-small : goal.put_job-requires-clause-small
put_job-requires-clause-small c = λ t l.
    let light = weights_light c.args.inst.now c.args.order.now c.requires.light c.requires.jobs in
    filled_small c.args.inst.now c.args.order.now (length c.args.values.now)
    c.loop-k.k c.loop-k-test.true c.loop-k.values c.loop-k.flags c.loop-k.invariant.filled light c.requires.few t (omega (arith, l, c.loop-k.auto.values))

pub put_job-requires-clause-clear : goal.put_job-requires-clause-clear
put_job-requires-clause-clear c = λ m l. c.loop-k.invariant.filled.clear m (omega (arith, l))

pub put_job-requires-clause-room : goal.put_job-requires-clause-room
put_job-requires-clause-room c =
    let row = row_inside (length c.args.values.now) (length c.args.order.now) c.loop-k.k c.loop-k-test.true in
    omega (arith, row, c.requires.room, c.loop-k.auto.values, c.loop-k.auto.flags)

pub put_job-requires-clause-blocks : goal.put_job-requires-clause-blocks
put_job-requires-clause-blocks c = omega (arith, c.loop-k.invariant.room, c.loop-k.auto.values)

pub put_job-requires-clause-reached : goal.put_job-requires-clause-reached
put_job-requires-clause-reached c = λ t l none. c.loop-k.invariant.reached t (omega (arith, l, c.loop-k.auto.values)) none

pub loop-k-preserved : goal.loop-k-preserved
loop-k-preserved c =
    let i = c.args.inst.now in
    let within = c.requires.jobs c.loop-k.k 0 c.loop-k-test.true in
    let inside : get_or c.args.order.now c.loop-k.k 0 < length c.as_slice-jobs.result.now = omega (arith, within, ap length c.as_slice-jobs.ensures) in
    let job = read_job i c.as_slice-jobs.result.now (get_or c.args.order.now c.loop-k.k 0) c.index-jobs-order.result c.as_slice-jobs.ensures inside c.index-jobs-order.is in
    record {
      filled =
          filled_read i c.args.order.now (length c.args.values.now)
          c.loop-k.k c.loop-k-test.true c.loop-k.values c.loop-k.flags c.loop-k.invariant.filled c.put_job.new.values c.put_job.new.flags _ _ _
          (time_read i c.as_slice-jobs.result.now _ _ c.index-jobs-order.result c.as_slice-jobs.ensures within c.index-jobs-order.is c.first_time.ensures)
          (ap (λ j. j.weight) job) (to_z-of_z w64 _ (search rules) ∙ ap (λ j. j.due) job)
          (put_width _ _ _ _ _ _ _ _ _ _ c.loop-k.auto.values c.put_job.ensures.put);
      reached = λ t l none. c.put_job.ensures.reached t (omega (arith, l, c.loop-k.auto.values)) none;
      room = omega (arith, c.loop-k.invariant.room, c.put_job.auto.reached);
    }

pub put_job-requires-clause-light : goal.put_job-requires-clause-light
put_job-requires-clause-light c = at (λ j. j.weight ≤ GREATEST) _ _ _ _ _ c.as_slice-jobs.ensures c.requires.light c.requires.jobs c.loop-k-test.true c.index-jobs-order.is

abbrev HasTime : Job → Type 0
HasTime j = (0 < length j.needs) × (0 < (get_or j.needs 0 no_need).time)

pub first_time-requires : goal.first_time-requires
first_time-requires c = (at HasTime _ _ _ _ _ c.as_slice-jobs.ensures c.requires.needs c.requires.jobs c.loop-k-test.true c.index-jobs-order.is).0

pub put_job-requires-clause-time : goal.put_job-requires-clause-time
put_job-requires-clause-time c =
    subst (λ t. 0 < t) (sym c.first_time.ensures) (at HasTime _ _ _ _ _ c.as_slice-jobs.ensures c.requires.needs c.requires.jobs c.loop-k-test.true c.index-jobs-order.is).1
