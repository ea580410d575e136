use Rattle.std.proofs.Common.{ℕ, List, Some, None, length, sym, subst, ◌∙◌}
use Rattle.std.proofs.lemmas.Bool.{false≢true}
use Rattle.msp_cert.specs.declared.Proof.TheVariants.{Levels}
use Rattle.msp_cert.specs.Places.{IsFirstBelow}
use Rattle.msp_cert.specs.Search.{AreAllLevels, HasValue}
use Rattle.msp_cert.proofs.Tried.{none_placed, first_placed, no_tails}
use Rattle.msp_cert.proofs.SomeLevels.{some_levels}
use Rattle.msp_cert.proofs.search.levels_with.Goals as goal

pub returns-then-not-has_unit_jobs : goal.returns-then-not-has_unit_jobs
returns-then-not-has_unit_jobs c =
    let (level, levels) = some_levels c.args.inst.now c.requires.class in
    (level, levels, no_tails c.args.inst.now c.args.cost.now level (λ h. false≢true (c.if-not-has_unit_jobs.ensures.1 h)))

pub returns-in-Some : goal.returns-in-Some
returns-in-Some c = (
  c.from_vec.result,
  subst (AreAllLevels c.args.inst.now) (sym c.from_vec.ensures) c.in_ok-level.ensures,
  first_placed (HasValue c.args.inst.now c.args.cost.now) (Levels c.from_vec.result) (length c.args.inst.now.jobs) c.in-Some.tail
      (subst (λ (l : List ℕ). IsFirstBelow (λ t. HasValue c.args.inst.now c.args.cost.now (Levels l t)) (length c.args.inst.now.jobs) (Some c.in-Some.tail))
      (c.as_slice.ensures.value ∙ sym c.from_vec.ensures) c.in-Some.ensures),
)

pub returns-in-None : goal.returns-in-None
returns-in-None c = (
  c.in_ok-level.level.items,
  c.in_ok-level.ensures,
  none_placed (HasValue c.args.inst.now c.args.cost.now) (Levels c.in_ok-level.level.items) (length c.args.inst.now.jobs)
      (subst (λ (l : List ℕ). IsFirstBelow (λ t. HasValue c.args.inst.now c.args.cost.now (Levels l t)) (length c.args.inst.now.jobs) None) c.as_slice.ensures.value c.in-None.ensures),
)
