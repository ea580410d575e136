-- The goals of `route` that are proved by lemmas.
use Rattle.std.proofs.Common.{◌≡◌, rules, ℕ, Some, Ok, [], ◌∷◌, ap, sym, subst, subst₂, ◌∙◌}
use Rattle.std.specs.Prelude.{IfOk}
use Rattle.msp_class.proofs.RankLemmas.{rank_of-injective}
use Rattle.msp_table.specs.Rows.{carries}
use Rattle.msp_closure.specs.Entries.{IsWay}
use Rattle.msp_closure.specs.Outlook.{IsOutlook}
use Rattle.msp_closure.specs.Tables.{allows}
use Rattle.msp_closure.proofs.WayLemmas.{none_between}
use Rattle.msp_closure.proofs.routes.route.Goals as goal

pub returns-then-rank-clause-way : goal.returns-then-rank-clause-way
returns-then-rank-clause-way c =
    let same : c.rank.result ≡ c.rank-2.result = search rules in
    let is : c.args.to ≡ c.args.routes.now =
    rank_of-injective c.args.to c.routes.inside.from (sym c.rank-2.ensures.rank ∙ sym same ∙ c.rank.ensures.rank) ∙ c.routes.view_is in
    subst (λ from. IsWay carries (c.args.to ∷ []) (from ∷ []) (Some c.no_rows.result)) is (c.no_rows.ensures.way carries)

pub returns-then-rank-clause-none : goal.returns-then-rank-clause-none
returns-then-rank-clause-none c = none_between {E = ℕ} carries c.args.routes.now c.args.to (Ok (Some c.no_rows.result)) (returns-then-rank-clause-way c)

pub way_within-requires : goal.way_within-requires
way_within-requires c = subst₂ (λ rows starts. IsOutlook (allows rows) starts c.routes.inside.outlook.flags c.routes.inside.outlook.links.items)
    (sym c.routes.invariant.0) (sym c.routes.invariant.1) c.routes.invariant.2

pub returns-clause-way : goal.returns-clause-way
returns-clause-way c = subst₂ (λ rows starts. IfOk c.way_within.result (λ found. IsWay (allows rows) (c.args.to ∷ []) starts found))
    c.routes.invariant.0 (c.routes.invariant.1 ∙ ap (λ a. a ∷ []) c.routes.view_is) c.way_within.ensures.way

pub returns-clause-none : goal.returns-clause-none
returns-clause-none c = none_between carries c.args.routes.now c.args.to c.way_within.result (returns-clause-way c)
