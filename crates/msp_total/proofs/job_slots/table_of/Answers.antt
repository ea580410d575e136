use Rattle.std.proofs.Common.{◌-◌, ◌*◌, map, pos, ◌-ℤ◌, All, refl, sym, ap, subst, ◌∙◌}
use Rattle.msp_class.specs.declared.sizes.TheConstants.{GREATEST}
use Rattle.msp_instance.specs.declared.Job.{Job}
use Rattle.msp_instance.specs.Conditions.{LiesWithin}
use Rattle.msp_total.proofs.job_slots.table_of.Goals as goal

pub dues_of-requires-clause-dues : goal.dues_of-requires-clause-dues
dues_of-requires-clause-dues c = subst (All (λ (j : Job). LiesWithin (2 * GREATEST) j.due)) (sym c.as_slice-jobs.ensures) c.requires.dues

pub returns : goal.returns
returns c = record {
  kind = refl;
  start = c.from_vec-start.ensures ∙ c.in_ok-starts_of.ensures;
  release = c.from_vec-release.ensures ∙ c.in_ok-releases_of.ensures ∙ ap (map (λ (j : Job). j.release)) c.as_slice-jobs.ensures;
  due = c.from_vec-due.ensures ∙ c.in_ok-dues_of.ensures ∙ ap (map (λ (j : Job). j.due -ℤ pos (c.args.span - 1))) c.as_slice-jobs.ensures;
  weight = c.from_vec-weight.ensures ∙ c.in_ok-weights_of.ensures ∙ ap (map (λ (j : Job). j.weight)) c.as_slice-jobs.ensures;
}
