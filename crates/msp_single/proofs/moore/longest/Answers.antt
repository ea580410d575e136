use Rattle.std.proofs.Common.{◌<◌, ◌+◌, length, take, All, sym, subst, slice_index_or}
use Rattle.std.proofs.lemmas.List.{take_all}
use Rattle.msp_single.proofs.MooreSteps.{Outlasts, outlasts_at, longest-take, longest-keep}
use Rattle.msp_single.proofs.moore.longest.Goals as goal
use Rattle.msp_single.proofs.moore.longest.Goals.{then-outlasts, else-outlasts}

pub loop-place-preserved : goal.loop-place-preserved
loop-place-preserved c =
    let xs = c.args.tasks.now in
    let k = c.loop-place.place in
    let best = c.loop-place.best in
    let inside = c.loop-place-test.true in
    let within = c.loop-place.invariant.within in
    elim c.if-outlasts.branch [
      | then-outlasts w ↦ record {
        within = subst (λ n. n < length xs) (sym w.best-is) inside;
        longest = λ d. subst (λ n. All (Outlasts (slice_index_or xs n d)) (take (k + 1) xs)) (sym w.best-is)
            (longest-take xs best k d inside (outlasts_at xs k best d _ _ inside within (c.outlasts.ensures.yes w.if-outlasts.true)) (c.loop-place.invariant.longest d));
      }
      | else-outlasts w ↦ record {
        within = subst (λ n. n < length xs) (sym w.best-is) within;
        longest = λ d. subst (λ n. All (Outlasts (slice_index_or xs n d)) (take (k + 1) xs)) (sym w.best-is)
            (longest-keep xs best k d inside (outlasts_at xs best k d _ _ within inside (c.outlasts.ensures.no w.if-outlasts.false)) (c.loop-place.invariant.longest d));
      }
    ]

pub returns-clause-longest : goal.returns-clause-longest
returns-clause-longest c d = subst (All (Outlasts (slice_index_or c.args.tasks.now c.loop-place.best d)))
    (take_all c.loop-place.place c.args.tasks.now c.loop-place-test.false) (c.loop-place.invariant.longest d)
