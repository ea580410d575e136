use Rattle.std.proofs.Common.{◌≡◌, ℕ, ◌+◌, ◌-◌, ◌*◌, ◌^◌, ◌<◌, List, [], ◌∷◌, ◌++◌, length, get_or, map, take, ℤ, pos, ◌-ℤ◌, All, FitsSigned, to_z, of_z}
use Rattle.std.proofs.Common.{sym, ap, ap₂, ◌∙◌, subst, arith}
use Rattle.std.specs.Int.{w64}
use Rattle.std.proofs.lemmas.Int.{ints}
use Rattle.std.proofs.lemmas.List.{map_more, take_all}
use Rattle.msp_class.specs.declared.sizes.TheConstants.{GREATEST}
use Rattle.msp_instance.specs.declared.Job.{Job}
use Rattle.msp_instance.specs.Conditions.{LiesWithin}
use Rattle.msp_total.proofs.job_slots.dues_of.Goals as goal

module _ (jobs : List Job) (span k : ℕ) (j : Job) (less : ℤ) (dues : All (λ j. LiesWithin (2 * GREATEST) j.due) jobs)
    (small : span < 2 ^ 32) (inside : k < length jobs) (at : j ≡ get_or jobs k j) (is : less ≡ pos (span - 1)) where
  within : LiesWithin (2 * GREATEST) j.due
  within = subst (λ (j : Job). LiesWithin (2 * GREATEST) j.due) (sym at) (dues k j inside)

  due_fits : FitsSigned w64 (to_z w64 (of_z w64 j.due) -ℤ to_z w64 (of_z w64 less))
  due_fits = omega (arith, ints, within.0, within.1)

  due_is : to_z w64 (of_z w64 (to_z w64 (of_z w64 j.due) -ℤ to_z w64 (of_z w64 less))) ≡ j.due -ℤ pos (span - 1)
  due_is = omega (arith, ints, within.0, within.1)

  dues_next : (old new : List ℤ) → new ≡ old ++ to_z w64 (of_z w64 (to_z w64 (of_z w64 j.due) -ℤ to_z w64 (of_z w64 less))) ∷ []
      → old ≡ map (λ j. j.due -ℤ pos (span - 1)) (take k jobs) → new ≡ map (λ j. j.due -ℤ pos (span - 1)) (take (k + 1) jobs)
  dues_next old new e so_far = e ∙ ap₂ (λ all d. all ++ d ∷ []) so_far (due_is ∙ ap (λ (j : Job). j.due -ℤ pos (span - 1)) at)
      ∙ sym (map_more (λ (j : Job). j.due -ℤ pos (span - 1)) jobs k j inside)

pub overflow_sub-job : goal.overflow_sub-job
overflow_sub-job c =
    due_fits c.args.jobs.now c.args.span c.loop-job.job-index c.job-item.result c.from.result c.requires.dues (c.ranges.span).fits c.loop-job-test.true c.job-item.is c.from.ensures

pub loop-job-preserved : goal.loop-job-preserved
loop-job-preserved c =
    dues_next c.args.jobs.now c.args.span c.loop-job.job-index c.job-item.result c.from.result c.requires.dues (c.ranges.span).fits c.loop-job-test.true c.job-item.is c.from.ensures
    _ _ c.in_ok-push.ensures.items c.loop-job.invariant

pub returns : goal.returns
returns c = c.loop-job.invariant
    ∙ ap (map (λ (j : Job). j.due -ℤ pos (c.args.span - 1))) (take_all c.loop-job.job-index c.args.jobs.now (omega (arith, c.loop-job-test.false)))
