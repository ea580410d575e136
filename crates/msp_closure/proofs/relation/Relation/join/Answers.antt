-- The goals of `join` that are proved by lemmas.
use Rattle.std.proofs.Common.{◌≡◌, ℕ, List, length, ap, sym, ◌∙◌, subst, subst₂}
use Rattle.std.proofs.lemmas.List.{take_at}
use Rattle.msp_class.specs.Rank.{rank_of}
use Rattle.msp_closure.specs.Relation.{JoinsWords}
use Rattle.msp_closure.proofs.RelationLemmas.{Joins-from}
use Rattle.msp_closure.proofs.relation.Relation.join.Goals as goal

pub returns-clause-joins : goal.returns-clause-joins
returns-clause-joins c =
    let before : c.deref_mut.result.now ≡ c.args.self.now = c.deref_mut.ensures.value ∙ c.self.view_is in
    let P : List ℕ → Type 0 = λ ws. JoinsWords ws c.join_words.new.words (rank_of c.args.to) (rank_of c.args.from) in
    let both =
    subst₂ (JoinsWords c.deref_mut.result.now c.join_words.new.words) c.rank.ensures.rank c.rank-2.ensures.rank c.join_words.ensures.joins in
    let len = c.join_words.auto.words ∙ ap length c.deref_mut.ensures.value ∙ sym c.self.inside.words.ok.0 in
    rw (take_at c.join_words.new.words _ c.self.inside.words.len len)
    (Joins-from c.args.self.now c.join_words.new.words c.args.to c.args.from (subst P before both))
