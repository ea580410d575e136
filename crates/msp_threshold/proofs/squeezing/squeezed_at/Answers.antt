use Rattle.std.proofs.Common.{◌≤◌, length, map, All, pos, ◌≤ℤ◌, sym, ap, ap₂, subst, ◌∙◌}
use Rattle.std.specs.Int.{w64}
use Rattle.std.proofs.lemmas.Int.{to_z-of_z}
use Rattle.msp_class.specs.declared.sizes.TheConstants.{MOST_JOBS}
use Rattle.msp_instance.specs.declared.Instance.{Instance}
use Rattle.msp_instance.specs.Conditions.{InClass}
use Rattle.msp_threshold.specs.Squeezed.{squeezed_job}
use Rattle.msp_threshold.proofs.Facts.{IsLatenessShop-from, lower_in_class, lower_small}
use Rattle.msp_threshold.proofs.Seated.{whole_slice}
use Rattle.msp_threshold.proofs.squeezing.squeezed_at.Goals as goal

pub returns-clause-value : goal.returns-clause-value
returns-clause-value c =
    let new = c.squeeze_all.new.jobs in
    let whole = whole_slice c.take_all-jobs.result.len (length new) new c.take_all-jobs.result.items (c.squeeze_all.auto.jobs ∙ c.deref_mut.ensures.len) in
    ap₂ (λ (l : Instance) js. record l { jobs = js }) c.in_ok-lower.ensures (c.from_vec.ensures ∙ whole ∙ c.squeeze_all.ensures
    ∙ ap₂ (λ b js. map (squeezed_job c.args.kept.now b) js) (to_z-of_z w64 c.args.bound c.ranges.bound)
    (c.deref_mut.ensures.value ∙ c.take_all-jobs.ensures.all ∙ ap (λ l. l.jobs) c.in_ok-lower.ensures))

pub returns-clause-inside : goal.returns-clause-inside
returns-clause-inside c = subst InClass (sym (returns-clause-value c))
    (lower_in_class c.args.inst.now (IsLatenessShop-from c.args.inst.now c.requires.class c.requires.inner) c.args.kept.now c.args.bound c.requires.few c.requires.inner)

pub returns-clause-small : goal.returns-clause-small
returns-clause-small c = subst (All (λ j. (j.release ≤ MOST_JOBS) × (pos 0 ≤ℤ j.due) × (j.due ≤ℤ pos MOST_JOBS))) (sym (ap (λ l. l.jobs) (returns-clause-value c)))
    (lower_small c.args.inst.now (IsLatenessShop-from c.args.inst.now c.requires.class c.requires.inner) c.args.kept.now c.args.bound c.requires.few)
