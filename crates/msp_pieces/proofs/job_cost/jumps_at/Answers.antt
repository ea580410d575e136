use Rattle.std.proofs.Common.{◌≡◌, ℕ, ◌≤◌, List, length, take, sum_by, ℤ, pos, ◌*ℤ◌, All, sym, subst₂, ap, ◌∙◌, arith}
use Rattle.std.proofs.lemmas.List.{take_all}
use Rattle.std.proofs.lemmas.Int.{to_z-of_z}
use Rattle.std.specs.Int.{w128}
use Rattle.msp_instance.specs.declared.Step.{Step}
use Rattle.msp_instance.specs.Conditions.{LiesWithin}
use Rattle.std.proofs.lemmas.Grind.{common_steps}
use Rattle.msp_pieces.specs.Within.{greatest_scaled}
use Rattle.msp_pieces.specs.Cost.{jump}
use Rattle.msp_pieces.proofs.job_cost.jumps_at.Goals as goal

at_end : (unit x : ℤ) (steps : List Step) (k t : ℕ) → length steps ≤ k → t ≡ sum_by (λ s. jump unit s x) (take k steps) → t ≡ sum_by (λ s. jump unit s x) steps
at_end unit x steps k t h e = e ∙ ap (λ xs. sum_by (λ s. jump unit s x) xs) (take_all k steps h)

same_jumps : (u v x y : ℤ) (steps : List Step) (t : ℕ) → u ≡ v → x ≡ y → t ≡ sum_by (λ s. jump u s x) steps → t ≡ sum_by (λ s. jump v s y) steps
same_jumps u v x y steps t e f h = h ∙ ap (λ k. sum_by (λ s. jump k s x) steps) e ∙ ap (λ k. sum_by (λ s. jump v s k) steps) f

pub returns-clause-value : goal.returns-clause-value
returns-clause-value c =
    let same = ap length c.as_slice-step-items.ensures in
    same_jumps _ _ _ _ c.args.curve.now.steps _ (to_z-of_z w128 c.args.unit c.ranges.unit)
    (to_z-of_z w128 c.args.end c.ranges.end) (at_end _ _ c.args.curve.now.steps c.loop-step.step-index _ (omega arith) c.loop-step.invariant.total)

pub jump_at-requires : goal.jump_at-requires
jump_at-requires c =
    subst₂ (λ u l. All (λ s. LiesWithin greatest_scaled (u *ℤ pos s.above)) l) (sym (to_z-of_z w128 c.args.unit c.ranges.unit))
    (sym c.as_slice-step-items.ensures) c.requires.small c.loop-step.step-index _ c.loop-step-test.true

pub overflow_add-total : goal.overflow_add-total
overflow_add-total c = grind (arith, common_steps)

pub loop-step-init : goal.loop-step-init
loop-step-init c = grind (arith, common_steps)

pub loop-step-preserved : goal.loop-step-preserved
loop-step-preserved c = grind (arith, common_steps)

pub returns-clause-size : goal.returns-clause-size
returns-clause-size c = grind (arith, common_steps)
