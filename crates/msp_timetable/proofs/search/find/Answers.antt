use Rattle.std.proofs.Common.{◌<◌, ◌++◌, ◌∷◌, [], length, ap, sym, subst, ◌∙◌, arith}
use Rattle.std.proofs.lemmas.List.{length-replicate, get_or-replicate}
use Rattle.msp_assign.specs.Passing.{at}
use Rattle.msp_timetable.specs.Steps.{Finds}
use Rattle.msp_timetable.proofs.Growth.{IsGrowing-short, IsSearch-start, IsSearch-step}
use Rattle.msp_timetable.proofs.search.find.Goals as goal

pub places-init : goal.places-init
places-init c =
    let from = c.in_ok-from.ensures.items_if_clones_equal (λ y q. q) in
    let tree = c.in_ok-push.ensures.items ∙ ap (λ xs. xs ++ c.args.row ∷ []) c.new-tree.ensures.items in
    record {
      search = IsSearch-start _ _ _ _ c.requires.row c.requires.bare _ _ (ap length from ∙ length-replicate _ _) (λ d l. ap (λ xs. at xs d) from ∙ get_or-replicate _ _ _ _ l) tree;
      here = subst (λ xs. 0 < length xs) (sym tree) (omega arith);
    }

pub returns-then-branch : goal.returns-then-branch
returns-then-branch c =
    subst (λ start. Finds c.args.square.now c.args.seats.now start c.grow.new.search) c.places.invariant.search.first (c.in_ok-grow.ensures.found c.if-branch.true)

pub places-smaller : goal.places-smaller
places-smaller c = omega (arith, IsGrowing-short _ _ _ _ _ c.places.invariant.search.growing, c.places.invariant.here)

pub places-preserved : goal.places-preserved
places-preserved c =
    let w = IsSearch-step _ _ _ c.requires.permuted c.requires.balanced _ _ _ _ _ c.places.invariant.search.first
    (c.in_ok-grow.ensures.search c.if-branch.false) (omega (arith, c.places.invariant.here, c.in_ok-grow.ensures.longer c.if-branch.false)) in
    record { search = w.0; here = w.1 }
