use Rattle.std.proofs.Common.{◌∙◌}
use Rattle.std.proofs.lemmas.Result.{IfOk-weaker}
use Rattle.msp_srpt.proofs.Arrivals.{sorted_by_release}
use Rattle.msp_srpt.proofs.shortest.jobs_by_release.Goals as goal

pub returns-clause-sorted : goal.returns-clause-sorted
returns-clause-sorted c = IfOk-weaker c.jobs_by_key.result
    _ _ (λ order. sorted_by_release c.args.inst.now c.as_slice.result.now order.items (c.as_slice.ensures.value ∙ c.in_ok-releases.ensures)) c.jobs_by_key.ensures.rising
