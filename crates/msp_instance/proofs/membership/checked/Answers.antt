use Rattle.msp_instance.proofs.FaultLemmas.{MeetsConditions-from_parts, fault_handed_on, test_answers}
use Rattle.msp_instance.proofs.membership.checked.Goals as goal

pub returns-in_err-check_frame-clause-ok : goal.returns-in_err-check_frame-clause-ok
returns-in_err-check_frame-clause-ok c = (fault_handed_on _ _ _ c.from_residual.ensures.1 c.in_err-check_frame.ensures.fault).0

pub returns-in_err-check_jobs-clause-ok : goal.returns-in_err-check_jobs-clause-ok
returns-in_err-check_jobs-clause-ok c = (fault_handed_on _ _ _ c.from_residual-in_err-check_jobs.ensures.1 c.in_err-check_jobs.ensures.fault).0

pub returns-in_err-check_arcs-clause-ok : goal.returns-in_err-check_arcs-clause-ok
returns-in_err-check_arcs-clause-ok c = (fault_handed_on _ _ _ c.from_residual-in_err-check_arcs.ensures.1 c.in_err-check_arcs.ensures.fault).0

pub returns-clause-ok : goal.returns-clause-ok
returns-clause-ok c =
    let parts = MeetsConditions-from_parts c.args.inst.now (record { frame = c.in_ok-check_frame.ensures.ok; jobs = c.in_ok-check_jobs.ensures.ok })
    c.in_ok-check_arcs.ensures.few c.in_ok-check_arcs.ensures.each in
    test_answers c.args.inst.now c.check_degrees.result parts c.check_degrees.ensures.ok c.check_degrees.ensures.fault
