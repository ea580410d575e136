use Rattle.std.proofs.Common.{◌≤◌, refl, sym, ap, subst, ◌∙◌}
use Rattle.std.specs.Prelude.{sum, take, length}
use Rattle.msp_cert.proofs.Facts.{AreSmallSpeeds, small_speeds}
use Rattle.msp_cert.proofs.Decided.{group_is_worth}
use Rattle.msp_cert.proofs.Fastest.{first_some}
use Rattle.msp_cert.proofs.group.group_worth.Goals as goal
use Rattle.msp_cert.proofs.group.group_worth.Goals.{After-as_slice}

small : (c : After-as_slice) → AreSmallSpeeds c.as_slice.result.now
small c = subst AreSmallSpeeds (sym c.as_slice.ensures.value) (small_speeds c.args.inst.now _ c.requires.class (c.if-not-is_group.ensures.0 refl).speeds c.in_ok-speeds.ensures.all)

pub first_together-speed-requires-clause-few : goal.first_together-speed-requires-clause-few
first_together-speed-requires-clause-few c = (small c).few

pub first_together-speed-requires-clause-slow : goal.first_together-speed-requires-clause-slow
first_together-speed-requires-clause-slow c = (small c).slow

pub over-requires-clause-some : goal.over-requires-clause-some
over-requires-clause-some c =
    let s = small (goal.at.over-requires-clause-some c).After-as_slice in
    subst (λ x. 1 ≤ x) (sym c.first_together-speed.ensures.value) (first_some _ (length c.args.jobs.now) (c.if-not-is_group.ensures.0 refl).some s.some s.fast)

pub returns-clause-worth : goal.returns-clause-worth
returns-clause-worth c = group_is_worth c.args.inst.now c.args.jobs.now _ c.total_time-time.result c.first_together-speed.result c.over.result
    (c.if-not-is_group.ensures.0 refl) c.total_time-time.ensures.value
    c.in_ok-speeds.ensures.all c.in_ok-speeds.ensures.falls
    (c.first_together-speed.ensures.value ∙ ap (λ l. sum (take (length c.args.jobs.now) l)) c.as_slice.ensures.value) c.over.ensures.num c.over.ensures.den
