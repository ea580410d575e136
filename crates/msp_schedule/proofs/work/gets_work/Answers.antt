use Rattle.std.proofs.Common.{refl, subst, rules, sym}
use Rattle.std.specs.Prelude.{IsTrue, ◌↔◌}
use Rattle.msp_class.specs.Env.{kind_of}
use Rattle.std.proofs.lemmas.Int.{to_z-of_z}
use Rattle.std.specs.Int.{w128}
use Rattle.msp_pieces.specs.Feasible.{HasPlace, IsWholeWork}
use Rattle.msp_pieces.specs.Within.{IsMoment, AreSmallTimes}
use Rattle.msp_schedule.proofs.judging.WholeWork.{operation_inside, small_time, sole_has, gets_cut, gets_whole}
use Rattle.msp_schedule.proofs.work.gets_work.Goals as goal

pub returns-then-inst : goal.returns-then-inst
returns-then-inst c =
    gets_cut c.args.inst.now c.args.unit _ c.args.pieces.now c.args.job c.args.op c.work_done.result _ c.time_of.result c.takes.result c.if-inst.true
    (λ e. c.requires.measured.checked (c.if-inst.true, e))
    (to_z-of_z w128 c.args.unit c.ranges.unit) (to_z-of_z w128 c.work_done.result (search rules)) c.time_of.ensures c.work_done.ensures c.takes.ensures

pub is_whole_work-requires-clause-place : goal.is_whole_work-requires-clause-place
is_whole_work-requires-clause-place c = sole_has (HasPlace c.args.inst.now) c.args.pieces.now c.args.job c.args.op _ c.in-Some.ensures.some c.requires.measured.place

pub is_whole_work-requires-clause-from : goal.is_whole_work-requires-clause-from
is_whole_work-requires-clause-from c = (sole_has (λ p. IsMoment p.from × IsMoment p.to) c.args.pieces.now c.args.job c.args.op _ c.in-Some.ensures.some c.requires.measured.moments).0

pub is_whole_work-requires-clause-to : goal.is_whole_work-requires-clause-to
is_whole_work-requires-clause-to c = (sole_has (λ p. IsMoment p.from × IsMoment p.to) c.args.pieces.now c.args.job c.args.op _ c.in-Some.ensures.some c.requires.measured.moments).1

pub returns-in-Some : goal.returns-in-Some
returns-in-Some c = gets_whole c.args.inst.now c.args.unit c.args.pieces.now c.args.job c.args.op _ c.is_whole_work.result c.if-inst.false c.in-Some.ensures.some
    (subst (λ u. IsTrue c.is_whole_work.result ↔ IsWholeWork (kind_of c.args.inst.now.class.env) c.args.inst.now u c.in-Some.piece) (to_z-of_z w128 c.args.unit c.ranges.unit) c.is_whole_work.ensures)

pub is_whole_work-requires-clause-small : goal.is_whole_work-requires-clause-small
is_whole_work-requires-clause-small c = subst (AreSmallTimes c.args.inst.now) (sym (to_z-of_z w128 c.args.unit c.ranges.unit)) c.requires.small

pub time_of-requires-clause-need : goal.time_of-requires-clause-need
time_of-requires-clause-need c = operation_inside c.args.inst.now c.args.job c.args.op c.requires.measured.inner c.requires.job c.requires.operation

pub takes-requires : goal.takes-requires
takes-requires c = small_time c.args.inst.now c.args.unit _ c.args.job c.args.op c.args.op c.time_of.result (to_z-of_z w128 c.args.unit c.ranges.unit) refl c.time_of.ensures
    c.requires.small c.requires.job (operation_inside c.args.inst.now c.args.job c.args.op c.requires.measured.inner c.requires.job c.requires.operation)
