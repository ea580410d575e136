use Rattle.std.proofs.Common.{◌≡◌, ◌≤◌, ℕ, ℤ, pos, ◌+ℤ◌, ◌*ℤ◌, sum_by, ap, ◌∙◌, sym, subst, arith, rules, to_z, of_z}
use Rattle.std.proofs.lemmas.Int.{ints, to_z-of_z}
use Rattle.std.specs.Int.{w64, w128}
use Rattle.msp_instance.specs.declared.Curve.{Curve}
use Rattle.msp_instance.specs.Conditions.{LiesWithin}
use Rattle.msp_pieces.specs.Cost.{jumps}
use Rattle.msp_pieces.specs.Within.{greatest_level}
use Rattle.msp_pieces.proofs.costs.Jumps.{jumps_le}
use Rattle.msp_pieces.proofs.job_cost.curve_cost.Goals as goal

-- the level of a curve is small, at the numbers as they are passed
passed_small : (unit u base b end x : ℤ) (c : Curve) (adds : ℕ) → u ≡ unit → b ≡ base → adds ≡ jumps x c end →
    ((adds : ℕ) → adds ≤ sum_by (λ s. s.add) c.steps → LiesWithin greatest_level (unit *ℤ (base +ℤ pos adds))) →
    LiesWithin greatest_level (u *ℤ (b +ℤ pos adds))
passed_small unit u base b end x c adds eu eb ea h =
    let Q : ℤ → Type 0 = λ k. LiesWithin greatest_level (unit *ℤ (k +ℤ pos adds)) in
    let small = jumps_le x end c.steps in
    let R : ℕ → Type 0 = λ k. k ≤ sum_by (λ s. s.add) c.steps in
    subst (λ (k : ℤ). LiesWithin greatest_level (k *ℤ (b +ℤ pos adds))) (sym eu) (subst Q (sym eb) (h adds (subst R (sym ea) small)))

passed_level : (unit u base b end x : ℤ) (c : Curve) (r : ℤ) (adds : ℕ) → u ≡ unit → b ≡ base → x ≡ end → adds ≡ jumps u c x → r ≡ u *ℤ (b +ℤ pos adds) → r ≡ unit *ℤ (base +ℤ pos (jumps unit c end))
passed_level unit u base b end x c r adds eu eb ex ea e =
    e ∙ ap (λ k. k *ℤ (b +ℤ pos adds)) eu ∙ ap (λ k. unit *ℤ (k +ℤ pos adds)) eb ∙ ap (λ k. unit *ℤ (base +ℤ pos k)) (ea ∙ ap (λ k. jumps k c x) eu ∙ ap (λ k. jumps unit c k) ex)

pub level_at-level-requires-clause-level : goal.level_at-level-requires-clause-level
level_at-level-requires-clause-level c =
    passed_small c.args.unit _ c.args.curve.now.base _ _ _ c.args.curve.now c.jumps_at-adds.result
    (to_z-of_z w128 c.args.unit c.ranges.unit) (to_z-of_z w64 c.args.curve.now.base (search rules)) c.jumps_at-adds.ensures.value c.requires.base

pub overflow_add-result : goal.overflow_add-result
overflow_add-result c =
    let s = c.slope_cost.ensures.size in
    let l = c.level_at-level.ensures.size in
    omega (arith, ints)

pub returns-clause-value : goal.returns-clause-value
returns-clause-value c =
    let s = c.slope_cost.ensures.size in
    let l = c.level_at-level.ensures.size in
    let sum : to_z w128 (of_z w128 (to_z w128 (of_z w128 c.slope_cost.result) +ℤ to_z w128 (of_z w128 c.level_at-level.result)))
    ≡ c.slope_cost.result +ℤ c.level_at-level.result = omega (arith, ints) in
    let level = passed_level c.args.unit _ c.args.curve.now.base _ c.args.end _ c.args.curve.now c.level_at-level.result c.jumps_at-adds.result (to_z-of_z w128 c.args.unit c.ranges.unit)
    (to_z-of_z w64 c.args.curve.now.base (search rules)) (to_z-of_z w128 c.args.end c.ranges.end) c.jumps_at-adds.ensures.value c.level_at-level.ensures.value in
    let slope : c.slope_cost.result ≡ pos c.args.curve.now.slope *ℤ c.args.end = c.slope_cost.ensures.value ∙ ap (λ k. pos c.args.curve.now.slope *ℤ k) (to_z-of_z w128 c.args.end c.ranges.end) in
    sum ∙ ap (λ k. k +ℤ c.level_at-level.result) slope ∙ ap (λ k. (pos c.args.curve.now.slope *ℤ c.args.end) +ℤ k) level

pub returns-clause-size : goal.returns-clause-size
returns-clause-size c =
    let s = c.slope_cost.ensures.size in
    let l = c.level_at-level.ensures.size in
    (omega (arith, ints), omega (arith, ints))
