-- The goals of `report_on` that are proved by lemmas.
use Rattle.msp_top.proofs.AcceptAnswers.{accept_report}
use Rattle.msp_top.proofs.accepts.report_on.Goals as goal

pub returns : goal.returns
returns c = accept_report c.args.inst.now c.args.certificate.now c.in_ok-accepted.accepted _ c.in_ok-text.text.items c.status_of.ensures c.in_ok-accepted.ensures c.in_ok-text.ensures
