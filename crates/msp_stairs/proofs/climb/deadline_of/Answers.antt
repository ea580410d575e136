use Rattle.std.proofs.Common.{pos, nat_abs, ap, ◌∙◌, arith}
use Rattle.std.specs.Int.{int_max}
use Rattle.msp_class.proofs.IntegerRing.{≤ℤ_trans, pos-le}
use Rattle.msp_stairs.specs.Bounds.{capped}
use Rattle.msp_stairs.proofs.Tasks.{date_kept, moment_fits, moment_small, moment_held}
use Rattle.msp_stairs.proofs.climb.deadline_of.Goals as goal

pub overflow_add-moment : goal.overflow_add-moment
overflow_add-moment c = moment_fits c.from.result c.from-2.result c.args.limits.now.late c.args.machines c.args.due c.from.ensures
    (c.from-2.ensures ∙ date_kept c.args.due c.requires.date) c.requires.few c.requires.date c.requires.late

pub capped_at-requires : goal.capped_at-requires
capped_at-requires c = ≤ℤ_trans (moment_small c.from.result c.from-2.result c.args.limits.now.late c.args.machines c.args.due c.from.ensures
    (c.from-2.ensures ∙ date_kept c.args.due c.requires.date) c.requires.few c.requires.date c.requires.late) (pos-le (omega arith))

pub returns : goal.returns
returns c = c.capped_at.ensures ∙ ap (λ v. nat_abs (int_max (pos 0) (capped c.args.limits.now.end v)))
    (moment_held c.from.result c.from-2.result c.args.limits.now.late c.args.machines c.args.due c.from.ensures
    (c.from-2.ensures ∙ date_kept c.args.due c.requires.date) c.requires.few c.requires.date c.requires.late)
