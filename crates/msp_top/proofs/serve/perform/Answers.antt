-- The goals of `perform` that are proved by lemmas.
use Rattle.std.proofs.Common.{ap, subst, Err, ◌≤◌, length}
use Rattle.msp_top.proofs.Exits.{failed}
use Rattle.msp_top.proofs.Endings.{answered_same, right_same, serves_taken, serves_refused, serves_written, breaks_off, right_report, refused_is_no_usage}
use Rattle.msp_top.proofs.serve.perform.Goals as goal

pub returns-in-Err-clause-served : goal.returns-in-Err-clause-served
returns-in-Err-clause-served g c words asked =
    serves_taken words _ _ _ c.args.command.now c.limit_of-limit.result c.in-Err.why c.not_taken.result asked c.limit_of-limit.ensures.limit c.not_taken.ensures
    (λ is. c.in-Err.ensures.fault (ap Err is)) c.in-Err.ensures.stopped

pub returns-in_err-report-clause-served : goal.returns-in_err-report-clause-served
returns-in_err-report-clause-served g c words asked = rw (failed _ c.from_residual.ensures.1)
    (serves_refused words _ _ _ c.args.command.now c.in-Ok.input.items _ asked c.in-Ok.ensures.all
    (subst (λ n. length c.in-Ok.input.items ≤ n) c.limit_of-limit.ensures.limit c.in-Ok.ensures.within)
    (answered_same c.args.command.now c.deref.result.now c.in-Ok.input.items c.in_err-report.field-0.0 c.deref.ensures.value c.in_err-report.ensures))

pub returns-in_err-report-clause-not_usage : goal.returns-in_err-report-clause-not_usage
returns-in_err-report-clause-not_usage g c = rw (failed _ c.from_residual.ensures.1)
    (refused_is_no_usage c.args.command.now c.in-Ok.input.items _
    (answered_same c.args.command.now c.deref.result.now c.in-Ok.input.items c.in_err-report.field-0.0 c.deref.ensures.value c.in_err-report.ensures))

pub returns-in_err-write_all-clause-served : goal.returns-in_err-write_all-clause-served
returns-in_err-write_all-clause-served g c words asked = rw (failed _ c.from_residual-in_err-write_all.ensures.1)
    (breaks_off words _ _ _ _ _ _ c.in_err-write_all.field-0.0
    (right_report words _ c.args.command.now c.in-Ok.input.items c.in_ok-report.report asked c.in-Ok.ensures.all
    (subst (λ n. length c.in-Ok.input.items ≤ n) c.limit_of-limit.ensures.limit c.in-Ok.ensures.within)
    (right_same c.args.command.now c.deref.result.now c.in-Ok.input.items _ c.deref.ensures.value c.in_ok-report.ensures))
    c.deref-2.ensures.value c.in_err-write_all.ensures.put c.in_err-write_all.ensures.fault)

pub returns-clause-served : goal.returns-clause-served
returns-clause-served g c words asked =
    serves_written words _ _ _ c.args.command.now c.in-Ok.input.items c.in_ok-report.report _ asked c.in-Ok.ensures.all
    (subst (λ n. length c.in-Ok.input.items ≤ n) c.limit_of-limit.ensures.limit c.in-Ok.ensures.within)
    (right_same c.args.command.now c.deref.result.now c.in-Ok.input.items _ c.deref.ensures.value c.in_ok-report.ensures) c.deref-2.ensures.value c.in_ok-write_all.ensures.put.all
