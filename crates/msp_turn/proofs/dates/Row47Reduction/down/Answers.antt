-- Release dates fit the type of due dates.
use Rattle.std.proofs.Common.{◌≤◌, All, sym, ap, subst, ◌∙◌}
use Rattle.msp_turn.specs.laws.ReversalDates.{releases_fit}
use Rattle.msp_turn.proofs.dates.Row47Reduction.down.Goals as goal
use Rattle.msp_route.specs.Sizes.{greatest_row_date}

pub date_all-requires : goal.date_all-requires
date_all-requires c =
    subst (All (λ j. j.release ≤ greatest_row_date)) (sym (c.deref_mut.ensures.value ∙ c.take_all-jobs.ensures.all ∙ ap (λ j. j.jobs) c.in_ok-lower.ensures))
    (releases_fit c.args.inst.now c.requires.inner)
