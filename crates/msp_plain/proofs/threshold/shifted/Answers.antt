-- The raised due dates fit their type, and the instance is an inner one.
use Rattle.std.proofs.Common.{List, All, ◌+ℤ◌, get_or, length, map, sym, ap, ap₂, subst, ◌∙◌}
use Rattle.std.specs.Int.{w64}
use Rattle.std.proofs.lemmas.Int.{to_z-of_z}
use Rattle.std.proofs.lemmas.List.{length-map, with_items_is}
use Rattle.msp_class.specs.Env.{kind_of}
use Rattle.msp_instance.specs.declared.Job.{Job}
use Rattle.msp_instance.specs.declared.Instance.{Instance}
use Rattle.msp_instance.specs.Conditions.{LiesWithin, Inner}
use Rattle.msp_plain.specs.Changes.{raised}
use Rattle.msp_plain.specs.laws.Curves.{date_fits}
use Rattle.msp_plain.specs.laws.Raised.{Inner-shifted}
use Rattle.msp_plain.proofs.threshold.shifted.Goals as goal
use Rattle.msp_route.specs.Sizes.{greatest_row_date}

pub raise_all-requires : goal.raise_all-requires
raise_all-requires c =
    subst (λ b. All (λ j. LiesWithin greatest_row_date (j.due +ℤ b)) c.deref_mut.result.now) (sym (to_z-of_z w64 c.args.bound c.ranges.bound))
    (subst (All (λ j. LiesWithin greatest_row_date (j.due +ℤ c.args.bound))) (sym (c.deref_mut.ensures.value ∙ c.take_all-jobs.ensures.all ∙ ap (λ j. j.jobs) c.in_ok-shifted.ensures))
    (λ k d l. date_fits (kind_of c.args.inst.now.class.env) ((get_or c.args.inst.now.jobs k d).due +ℤ c.args.bound) (c.requires.dates k d l)))

pub returns-clause-value : goal.returns-clause-value
returns-clause-value c = ap₂ (λ (i : Instance) (js : List Job). record i { jobs = js }) c.in_ok-shifted.ensures (c.from_vec.ensures
    ∙ with_items_is c.take_all-jobs.result _ (ap length c.raise_all.ensures ∙ length-map _ (raised _) ∙ c.deref_mut.ensures.len) ∙ c.raise_all.ensures
    ∙ ap₂ (λ b js. map (raised b) js) (to_z-of_z w64 c.args.bound c.ranges.bound) (c.deref_mut.ensures.value ∙ c.take_all-jobs.ensures.all ∙ ap (λ j. j.jobs) c.in_ok-shifted.ensures))

pub returns-clause-inner : goal.returns-clause-inner
returns-clause-inner c = subst Inner (sym (returns-clause-value c)) (Inner-shifted c.args.inst.now c.args.bound c.args.crit c.requires.inner c.requires.lateness c.requires.sum c.requires.dates)
