-- The due dates fit their type with either sign.
use Rattle.std.proofs.Common.{All, sym, ap, subst, ◌∙◌}
use Rattle.msp_instance.specs.Conditions.{LiesWithin}
use Rattle.msp_plain.specs.laws.Curves.{dates_fit}
use Rattle.msp_plain.proofs.curves.Row9KeepsSchedules.lead.Goals as goal
use Rattle.msp_route.specs.Sizes.{greatest_row_date}

pub charge_all_by_curves-requires : goal.charge_all_by_curves-requires
charge_all_by_curves-requires c =
    subst (All (λ j. LiesWithin greatest_row_date j.due)) (sym (c.deref_mut.ensures.value ∙ c.take_all-jobs.ensures.all ∙ ap (λ j. j.jobs) c.in_ok-lower.ensures))
    (dates_fit c.args.inst.now c.requires.inner c.requires.applies)
