use Rattle.std.proofs.Common.{◌≡◌, ◌∙◌, ◌<◌, List, ℕ, All, length, pos, ap₂, ap, sym, subst}
use Rattle.std.specs.Int.{w64}
use Rattle.std.proofs.lemmas.Int.{to_z-of_z}
use Rattle.msp_instance.proofs.Limits.{Inner-from_class}
use Rattle.msp_pieces.specs.Cost.{Best, cost_of}
use Rattle.msp_route.specs.Bounds.{IsAnswer}
use Rattle.msp_threshold.specs.Squeezed.{squeezed_by}
use Rattle.msp_threshold.specs.Search.{number_of, pieces_back}
use Rattle.msp_threshold.proofs.Facts.{IsLatenessShop-from}
use Rattle.msp_threshold.proofs.BackMeets.{time_if_met}
use Rattle.msp_threshold.proofs.Bounds.{answer_inside, answer_best, answer_bounds, answer_cost}
use Rattle.msp_threshold.proofs.search.schedule_within.Goals as goal

pub solve-requires-clause-inner : goal.solve-requires-clause-inner
solve-requires-clause-inner g c = Inner-from_class c.in_ok-lower.lower c.in_ok-lower.ensures.inside

pub solve-requires-clause-fits : goal.solve-requires-clause-fits
solve-requires-clause-fits g c =
    let i = c.args.inst.now in
    c.requires.fits c.args.bound c.in_ok-lower.lower c.requires.bound (record {
      possible = time_if_met i (IsLatenessShop-from i c.requires.class c.requires.inner) c.args.bound c.requires.least.met;
      kept = c.in_ok-kept.kept.items;
      moments = c.in_ok-kept.ensures.kept;
      value = c.in_ok-lower.ensures.value ∙ ap₂ (λ k b. squeezed_by k b i) c.as_slice.ensures.value (to_z-of_z w64 c.args.bound c.ranges.bound);
    })

pub pieces_back-requires-clause-inside : goal.pieces_back-requires-clause-inside
pieces_back-requires-clause-inside g c =
    let i = c.args.inst.now in
    let s = c.in_ok-solution.solution.schedule in
    subst (λ (xs : List ℕ). All (λ p. number_of s.unit p < length xs) s.pieces) (sym c.as_slice-2.ensures.value)
    (answer_inside i (IsLatenessShop-from i c.requires.class c.requires.inner) c.in_ok-kept.kept.items c.in_ok-kept.ensures.kept c.args.bound c.requires.bound c.requires.least c.in_ok-lower.lower
    (c.in_ok-lower.ensures.value ∙ ap₂ (λ k b. squeezed_by k b i) c.as_slice.ensures.value (to_z-of_z w64 c.args.bound c.ranges.bound)) s c.in_ok-solution.ensures.best.best)

pub returns-clause-best : goal.returns-clause-best
returns-clause-best g c =
    let i = c.args.inst.now in
    let s = c.in_ok-solution.solution.schedule in
    subst (λ ps. Best i (record { unit = pos 1; pieces = ps })) (sym (c.in_ok-pieces.ensures ∙ ap (λ xs. pieces_back xs s) c.as_slice-2.ensures.value))
    (answer_best i (IsLatenessShop-from i c.requires.class c.requires.inner) c.in_ok-kept.kept.items c.in_ok-kept.ensures.kept c.args.bound c.requires.bound c.requires.least c.in_ok-lower.lower
    (c.in_ok-lower.ensures.value ∙ ap₂ (λ k b. squeezed_by k b i) c.as_slice.ensures.value (to_z-of_z w64 c.args.bound c.ranges.bound)) s c.in_ok-solution.ensures.best.best)

pub returns-clause-bounds : goal.returns-clause-bounds
returns-clause-bounds g c =
    let i = c.args.inst.now in
    let s = c.in_ok-solution.solution.schedule in
    subst (λ ps. IsAnswer i (record { unit = pos 1; pieces = ps })) (sym (c.in_ok-pieces.ensures ∙ ap (λ xs. pieces_back xs s) c.as_slice-2.ensures.value))
    (answer_bounds i (IsLatenessShop-from i c.requires.class c.requires.inner) c.in_ok-kept.kept.items c.in_ok-kept.ensures.kept c.args.bound c.requires.bound c.requires.least c.in_ok-lower.lower
    (c.in_ok-lower.ensures.value ∙ ap₂ (λ k b. squeezed_by k b i) c.as_slice.ensures.value (to_z-of_z w64 c.args.bound c.ranges.bound)) s c.in_ok-solution.ensures.best.best)

pub returns-clause-cost : goal.returns-clause-cost
returns-clause-cost g c =
    let i = c.args.inst.now in
    let s = c.in_ok-solution.solution.schedule in
    subst (λ ps. cost_of i (record { unit = pos 1; pieces = ps }) ≡ c.args.bound) (sym (c.in_ok-pieces.ensures ∙ ap (λ xs. pieces_back xs s) c.as_slice-2.ensures.value))
    (answer_cost i (IsLatenessShop-from i c.requires.class c.requires.inner) c.in_ok-kept.kept.items c.in_ok-kept.ensures.kept c.args.bound c.requires.bound c.requires.least c.in_ok-lower.lower
    (c.in_ok-lower.ensures.value ∙ ap₂ (λ k b. squeezed_by k b i) c.as_slice.ensures.value (to_z-of_z w64 c.args.bound c.ranges.bound)) s c.in_ok-solution.ensures.best.best)
