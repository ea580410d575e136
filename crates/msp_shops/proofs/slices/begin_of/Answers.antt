use Rattle.std.proofs.Common.{◌≡◌, to_z, of_z, rules, sym, subst, subst₂, ◌∙◌}
use Rattle.std.specs.Int.{w128}
use Rattle.std.proofs.lemmas.Int.{to_z-of_z}
use Rattle.std.proofs.lemmas.List.{same_from_push}
use Rattle.msp_shops.specs.Sliced.{anew, earlier, IsEndOf}
use Rattle.msp_shops.proofs.slices.begin_of.Goals as goal

pub returns-then-is_end_of-clause-begun : goal.returns-then-is_end_of-clause-begun
returns-then-is_end_of-clause-begun c = earlier c.in-Some.last c.in-Some.ensures.items
    (subst (λ t. IsEndOf c.args.job c.args.machine t c.in-Some.last) (to_z-of_z w128 c.args.row.now.moment (search rules)) (c.is_end_of.ensures.yes c.if-is_end_of.true))
    (to_z-of_z w128 c.in-Some.last.from (search rules))

pub returns-in_ok-push-in-Some-clause-begun : goal.returns-in_ok-push-in-Some-clause-begun
returns-in_ok-push-in-Some-clause-begun c =
    let is : to_z w128 (of_z w128 c.args.row.now.moment) ≡ c.args.row.now.moment = to_z-of_z w128 _ (search rules) in
    anew (c.in_ok-push-in-Some.ensures.items ∙ sym c.in-Some.ensures.items) is (λ front p e ends.
    let same = (same_from_push _ front c.in-Some.last p (sym c.in-Some.ensures.items ∙ e)).1 in
    c.is_end_of.ensures.no c.if-is_end_of.false (subst₂ (IsEndOf c.args.job c.args.machine) (sym is) (sym same) ends))
