use Rattle.std.proofs.Common.{◌≡◌, ◌-◌, ◌<◌, ◌^◌, length, replicate, get_or, sym, ◌∙◌, ap, arith}
use Rattle.std.proofs.lemmas.List.{length-replicate}
use Rattle.std.proofs.lemmas.List.Sums.{sum_by-take-le}
use Rattle.msp_uniform.specs.Runs.{jobs_before as jobs_until}
use Rattle.msp_uniform.proofs.SegmentPieces.{long}
use Rattle.msp_uniform.proofs.LatestFirst.{jobs_of, length_jobs_before, next_small, walked_on, walked_all}
use Rattle.msp_uniform.proofs.pieces.pieces_of.Goals as goal
use Rattle.msp_uniform.proofs.pieces.pieces_of.Goals.{After-as_slice-jobs}

-- the jobs of the segment, one for each machine
jobs_are : (c : After-as_slice-jobs) → c.as_slice-jobs.result.now ≡ jobs_of (get_or c.args.segments.now (length c.args.segments.now - 1 - c.loop-back.back) c.index-segments-place.result)
jobs_are c = c.as_slice-jobs.ensures.value ∙ ap (λ b. b.jobs) c.deref.ensures ∙ ap jobs_of c.index-segments-place.is

all : (c : After-as_slice-jobs) → length c.as_slice-jobs.result.now ≡ c.args.machines
all c = ap length (jobs_are c) ∙ c.requires.machines (length c.args.segments.now - 1 - c.loop-back.back) c.index-segments-place.result (omega (arith, c.loop-back-test.true))

pub put_begun-requires-clause-many : goal.put_begun-requires-clause-many
put_begun-requires-clause-many c = c.loop-back.invariant.walked.many ∙ sym (all (goal.at.put_begun-requires-clause-many c).After-as_slice-jobs)

pub put_begun-requires-clause-few : goal.put_begun-requires-clause-few
put_begun-requires-clause-few c = let each = all (goal.at.put_begun-requires-clause-few c).After-as_slice-jobs in omega (arith, each, c.requires.few)

pub put_begun-requires-clause-moment : goal.put_begun-requires-clause-moment
put_begun-requires-clause-moment c =
    omega (arith, c.loop-back.invariant.walked.moment, sum_by-take-le long c.args.segments.now (length c.args.segments.now - c.loop-back.back), c.requires.short)

pub put_begun-requires-clause-before : goal.put_begun-requires-clause-before
put_begun-requires-clause-before c =
    let p = length c.args.segments.now - 1 - c.loop-back.back in
    let idle_is : c.as_slice.result.now ≡ replicate c.args.machines c.args.none = c.as_slice.ensures.value ∙ c.same-idle.ensures in
    ap length c.jobs_before-before.ensures
    ∙ length_jobs_before c.args.machines c.as_slice.result.now c.args.segments.now p (ap length idle_is ∙ length-replicate c.args.machines c.args.none) c.requires.machines
    ∙ sym (all (goal.at.put_begun-requires-clause-before c).After-as_slice-jobs)

pub loop-back-preserved : goal.loop-back-preserved
loop-back-preserved c =
    let p = length c.args.segments.now - 1 - c.loop-back.back in
    let w = c.loop-back.invariant.walked in
    let idle_is : c.as_slice.result.now ≡ replicate c.args.machines c.args.none = c.as_slice.ensures.value ∙ c.same-idle.ensures in
    let read = (goal.at.loop-back-preserved c).After-as_slice-jobs in
    let short : c.loop-back.moment - c.index-segments-place.result.length < 2 ^ 127 =
    omega (arith, w.moment, sum_by-take-le long c.args.segments.now (length c.args.segments.now - c.loop-back.back), c.requires.short) in
    record {
      walked = walked_on c.args.none c.args.machines c.args.segments.now (replicate c.args.machines c.args.none) p c.loop-back.back c.index-segments-place.result (omega (arith, c.loop-back-test.true))
          c.loop-back.moment c.loop-back.ends.items c.loop-back.pieces w
          c.jobs_before-before.result.now c.as_slice-jobs.result.now (c.loop-back.moment - c.index-segments-place.result.length) c.put_begun.new.ends.items c.put_begun.new.pieces
          (c.jobs_before-before.ensures ∙ ap (λ idle. jobs_until idle c.args.segments.now p) idle_is)
          (jobs_are read) (all read) (ap (λ x. c.loop-back.moment - x.length) c.index-segments-place.is) c.in_ok-put_begun.ensures.ends c.in_ok-put_begun.ensures.pieces;
      small = next_small (2 ^ 127) c.jobs_before-before.result.now c.as_slice-jobs.result.now c.loop-back.ends.items c.put_begun.new.ends.items
          (c.loop-back.moment - c.index-segments-place.result.length) c.in_ok-put_begun.ensures.ends (w.many ∙ sym (all read)) c.loop-back.invariant.small short;
    }

pub returns : goal.returns
returns c = walked_all c.args.none c.args.machines c.args.segments.now c.loop-back.back c.loop-back.moment c.loop-back.ends.items c.loop-back.pieces c.loop-back-test.false c.loop-back.invariant.walked
