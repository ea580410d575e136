-- The goals of `are_equal` that are proved by lemmas.
use Rattle.std.proofs.Common.{sym, ◌∙◌, rules}
use Rattle.msp_report.proofs.CheckLemmas.{lowest_once, same_parts, as_passed, differ}
use Rattle.msp_report.proofs.check.are_equal.Goals as goal

pub returns-then-is_same : goal.returns-then-is_same
returns-then-is_same c =
    let nums = as_passed c.args.a.num c.args.b.num (search rules) (search rules) c.is_same.ensures in
    let dens = as_passed c.args.a.den c.args.b.den (search rules) (search rules) c.is_same-then-is_same.ensures in (
      λ h. same_parts c.args.a c.args.b (nums.0 c.if-is_same.true) (dens.0 h),
      λ e. dens.1 (lowest_once c.args.a c.args.b c.requires.a c.requires.b e).1,
    )

pub returns-else-is_same : goal.returns-else-is_same
returns-else-is_same c =
    let nums = as_passed c.args.a.num c.args.b.num (search rules) (search rules) c.is_same.ensures in (
      λ h. differ (sym c.if-is_same.false ∙ h),
      λ e. nums.1 (lowest_once c.args.a c.args.b c.requires.a c.requires.b e).0,
    )
