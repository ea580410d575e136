use Rattle.std.proofs.Common.{◌∙◌, ap, rules}
use Rattle.std.proofs.lemmas.Int.{to_z-of_z}
use Rattle.std.specs.Int.{w128}
use Rattle.msp_class.specs.Env.{kind_of}
use Rattle.msp_schedule.specs.Works.{need_of}
use Rattle.msp_schedule.proofs.judging.WholeWork.{need_inside, small_time, whole_if-passed}
use Rattle.msp_schedule.proofs.work.is_whole_work.Goals as goal

pub takes-requires : goal.takes-requires
takes-requires c =
    small_time c.args.inst.now c.args.unit _ c.args.piece.now.job (need_of (kind_of c.args.inst.now.class.env) c.args.piece.now) c.need_of-at.result c.time_of.result
    (to_z-of_z w128 c.args.unit c.ranges.unit) (c.need_of-at.ensures ∙ ap (λ k. need_of k c.args.piece.now) c.env_kind.ensures) c.time_of.ensures
    c.requires.small c.requires.place.job (need_inside c.args.inst.now c.args.piece.now c.requires.inner c.requires.place)

pub returns : goal.returns
returns c = whole_if-passed c.args.inst.now c.args.unit _ c.args.piece.now c.measured.result _ c.need_of-at.result c.time_of.result c.takes.result (to_z-of_z w128 c.args.unit c.ranges.unit)
    (to_z-of_z w128 c.measured.result (search rules)) c.measured.ensures.value (c.need_of-at.ensures ∙ ap (λ k. need_of k c.args.piece.now) c.env_kind.ensures) c.time_of.ensures c.takes.ensures
