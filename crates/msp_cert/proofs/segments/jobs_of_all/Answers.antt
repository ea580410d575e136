use Rattle.std.proofs.Common.{◌++◌, ap, ◌∙◌, arith}
use Rattle.std.specs.List.{flat_map}
use Rattle.std.proofs.lemmas.List.{take_all}
use Rattle.msp_cert.proofs.SegmentFacts.{flat_next}
use Rattle.msp_cert.proofs.segments.jobs_of_all.Goals as goal

pub loop-jobs-preserved : goal.loop-jobs-preserved
loop-jobs-preserved c =
    flat_next c.args.lists.now c.loop-jobs.jobs-index c.jobs-item.result _ _ c.loop-jobs-test.true
    (c.in_ok-extend_from_slice.ensures.items ∙ ap (λ l. c.loop-jobs.all.items ++ l) (c.as_slice.ensures ∙ c.jobs-item.is))
    c.loop-jobs.invariant

pub returns : goal.returns
returns c = c.loop-jobs.invariant ∙ ap (flat_map (λ js. js)) (take_all c.loop-jobs.jobs-index c.args.lists.now (omega (arith, c.loop-jobs-test.false)))
