use Rattle.std.proofs.Common.{◌≡◌, to_z, of_z, pos, inl, sym, ap, ◌∙◌, rules}
use Rattle.std.specs.Int.{w128}
use Rattle.std.proofs.lemmas.Int.{to_z-of_z}
use Rattle.std.proofs.lemmas.List.{same_from_push}
use Rattle.msp_srpt.proofs.shortest.begin_of.Goals as goal

pub returns-in_ok-push-in-Some-clause-begun : goal.returns-in_ok-push-in-Some-clause-begun
returns-in_ok-push-in-Some-clause-begun c =
    let is : to_z w128 (of_z w128 c.from-moment.result) ≡ pos c.args.from = to_z-of_z w128 _ (search rules) ∙ c.from-moment.ensures in
    inl (
      c.in_ok-push-in-Some.ensures.items ∙ sym c.in-Some.ensures.items,
      is,
      λ front p e job to.
          let same = (same_from_push _ front c.in-Some.last p (sym c.in-Some.ensures.items ∙ e)).1 in
          c.goes_on.ensures.no c.if-goes_on.false (ap (λ q. q.job) same ∙ job) (ap (λ q. q.to) same ∙ to ∙ sym is),
    )
