-- The goals of `routes_from` that are proved by lemmas.
use Rattle.std.proofs.Common.{ap, subst, ◌∙◌}
use Rattle.msp_table.specs.Rows.{carries}
use Rattle.msp_closure.specs.Outlook.{IsOutlook}
use Rattle.msp_closure.proofs.routes.routes_from.Goals as goal

pub invariant_of-result : goal.invariant_of-result
invariant_of-result c = (
  c.in_ok-outlook.ensures.rows,
  ap (λ v. v.items) c.in_ok-outlook.ensures.starts ∙ c.in_ok-starts.ensures,
  subst (λ xs. IsOutlook carries xs c.in_ok-outlook.outlook.flags c.in_ok-outlook.outlook.links.items) c.in_ok-starts.ensures
      c.in_ok-outlook.ensures.outlook,
)
