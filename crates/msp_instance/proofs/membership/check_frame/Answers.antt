use Rattle.std.proofs.Common.{refl, sym, subst}
use Rattle.std.proofs.lemmas.Bool.{false≢true}
use Rattle.msp_class.specs.Env.{kind_of}
use Rattle.msp_instance.specs.Conditions.{HasSpeeds, HasSmallMultiple}
use Rattle.msp_instance.proofs.FaultLemmas.{IsFirstFault-multiple}
use Rattle.msp_instance.proofs.membership.check_frame.Goals as goal

pub returns-then-not-has_small_multiple-clause-fault :
    goal.returns-then-not-has_small_multiple-clause-fault
returns-then-not-has_small_multiple-clause-fault c =
    let i = c.args.inst.now in
    IsFirstFault-multiple i (c.if-not-has_jobs.ensures.0 refl) (c.if-not-has_machines.ensures.0 refl)
    (subst (HasSpeeds (kind_of i.class.env) i.machines) c.as_slice.ensures (c.if-not-has_speeds.ensures.0 refl))
    (λ h. absurd (false≢true (c.if-not-has_small_multiple.ensures.1 (subst HasSmallMultiple (sym c.as_slice-2.ensures) h))))

pub returns-clause-ok : goal.returns-clause-ok
returns-clause-ok c =
    let i = c.args.inst.now in
    record {
      jobs = c.if-not-has_jobs.ensures.0 refl;
      machines = c.if-not-has_machines.ensures.0 refl;
      speeds = subst (HasSpeeds (kind_of i.class.env) i.machines) c.as_slice.ensures (c.if-not-has_speeds.ensures.0 refl);
      multiple = subst HasSmallMultiple c.as_slice-2.ensures (c.if-not-has_small_multiple.ensures.0 refl);
    }
