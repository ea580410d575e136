-- The goals of `route_to` that are proved by lemmas.
use Rattle.std.proofs.Common.{◌≡◌, ◌↔◌, rules, ℕ, Some, Ok, [], ◌∷◌, sym, ◌∙◌, subst}
use Rattle.std.specs.Prelude.{IfOk, IsNone}
use Rattle.msp_class.specs.declared.class.Class.{Class}
use Rattle.msp_class.proofs.RankLemmas.{rank_of-injective}
use Rattle.msp_table.specs.Rows.{carries}
use Rattle.msp_table.specs.Chains.{Reaches}
use Rattle.msp_closure.specs.Entries.{IsWay}
use Rattle.msp_closure.proofs.WayLemmas.{none_between}
use Rattle.msp_closure.proofs.routes.route_to.Goals as goal

pub returns-then-rank-clause-way : goal.returns-then-rank-clause-way
returns-then-rank-clause-way c =
    let same : c.rank.result ≡ c.rank-2.result = search rules in
    let P : Class → Type 0 = λ to. IsWay carries (to ∷ []) (c.args.from ∷ []) (Some c.no_rows.result) in
    subst P (rank_of-injective c.args.from c.args.to (sym c.rank.ensures.rank ∙ same ∙ c.rank-2.ensures.rank)) (c.no_rows.ensures.way carries)

pub returns-then-rank-clause-none : goal.returns-then-rank-clause-none
returns-then-rank-clause-none c = none_between {E = ℕ} carries c.args.from c.args.to (Ok (Some c.no_rows.result)) (returns-then-rank-clause-way c)

pub returns-clause-none : goal.returns-clause-none
returns-clause-none c = subst (λ from. IfOk c.route.result (λ found. IsNone found ↔ (¬ Reaches carries from c.args.to))) c.in_ok-routes.ensures
    c.route.ensures.none

pub returns-clause-way : goal.returns-clause-way
returns-clause-way c = subst (λ from. IfOk c.route.result (λ found. IsWay carries (c.args.to ∷ []) (from ∷ []) found)) c.in_ok-routes.ensures c.route.ensures.way
