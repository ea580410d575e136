-- The needs are taken out, set and put back.
use Rattle.std.proofs.Common.{length, map, ap, ◌∙◌}
use Rattle.std.proofs.lemmas.List.{length-map, with_items_is}
use Rattle.msp_plain.specs.Equal.{unit_need}
use Rattle.msp_plain.proofs.equal.make_unit.Goals as goal

pub returns : goal.returns
returns c = ap (λ ns. record c.args.job.now { needs = ns }) (c.from_vec.ensures
    ∙ with_items_is c.take_all-needs.result _ (ap length c.set_times.ensures ∙ length-map _ unit_need ∙ c.deref_mut.ensures.len)
    ∙ c.set_times.ensures ∙ ap (map unit_need) (c.deref_mut.ensures.value ∙ c.take_all-needs.ensures.all))
