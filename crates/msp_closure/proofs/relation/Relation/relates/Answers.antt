-- The goals of `relates` that are proved by lemmas.
use Rattle.std.proofs.Common.{◌≡◌, ◌/◌, ◌^◌, ◌%◌, ℕ, nat_eq, bit_and, List, subst, arith}
use Rattle.std.proofs.lemmas.List.{get_or_read}
use Rattle.msp_closure.specs.Relation.{relates}
use Rattle.msp_closure.proofs.RelationLemmas.{read_bit}
use Rattle.msp_closure.proofs.relation.Relation.relates.Goals as goal

pub returns : goal.returns
returns c =
    let same : c.self.inside.words.items ≡ c.args.self.now = c.self.view_is in
    subst (λ (ws : List ℕ). nat_eq (bit_and (c.index-word.result.now / 2 ^ (c.rank.result % 64)) 1) 1 ≡ relates ws c.args.a c.args.b) same
    (read_bit c.self.inside.words.items c.args.a c.args.b c.place.result c.rank.result c.index-word.result.now c.place.ensures.place c.rank.ensures.rank
    (get_or_read c.self.inside.words.items c.place.result c.index-word.result.now (omega (arith, c.self.invariant, c.place.ensures.below)) c.index-word.ensures 0))
