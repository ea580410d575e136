use Rattle.std.proofs.Common.{◌≡◌, ℕ, ◌+◌, max, take, sym, subst, arith, slice_index, get_or, nat_cmp}
use Rattle.std.specs.Ordering.{ord_max}
use Rattle.std.proofs.lemmas.Bool.Decides.{nat_tests}
use Rattle.std.proofs.lemmas.List.{get_or_default}
use Rattle.msp_instance.specs.declared.Arc.{Arc}
use Rattle.msp_levels.specs.Steps.{IsOver}
use Rattle.msp_levels.proofs.JobLevels.{IsOver-skip, IsOver-take}
use Rattle.msp_levels.proofs.level.level_over.Goals as goal
use Rattle.msp_levels.proofs.level.level_over.Goals.{then-arc-job, else-arc-job}

max_is : (x a b : ℕ) → x ≡ ord_max nat_cmp a b → x ≡ max a b
max_is x a b e = grind (arith, nat_tests)

pub loop-arc-preserved : goal.loop-arc-preserved
loop-arc-preserved c =
    let arcs = c.args.arcs.now in
    let level = slice_index c.args.levels.now in
    let k = c.loop-arc.arc-index in
    let a : Arc = get_or arcs k (record { before = 0; after = 0 }) in
    let at = get_or_default arcs k (record { before = 0; after = 0 }) a c.loop-arc-test.true in
    elim c.if-arc-job.branch [
      | then-arc-job w ↦ subst (IsOver (take (k + 1) arcs) level c.args.job) (sym w.level-is)
          (IsOver-take arcs level c.args.job k a c.loop-arc-test.true at c.loop-arc.level _ w.if-arc-job.true (max_is _ _ _ w.max-level.ensures) c.loop-arc.invariant)
      | else-arc-job w ↦ subst (IsOver (take (k + 1) arcs) level c.args.job)
          (sym w.level-is) (IsOver-skip arcs level c.args.job k a c.loop-arc-test.true at c.loop-arc.level w.if-arc-job.false c.loop-arc.invariant)
    ]
