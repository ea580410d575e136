use Rattle.std.proofs.Common.{ℤ, ◌<ℤ◌, ◌≤ℤ◌, arith, rules, lt_of_lt_of_le, below_more}
use Rattle.std.proofs.lemmas.Int.{ints}
use Rattle.std.proofs.lemmas.List.Elements.{All-from_get_or}
use Rattle.msp_pieces.specs.Piece.{no_piece, piece_at}
use Rattle.msp_schedule.proofs.breaks.first_empty.Goals as goal

pub loop-at-preserved : goal.loop-at-preserved
loop-at-preserved c =
    below_more (λ k. (piece_at c.args.pieces.now k).from <ℤ (piece_at c.args.pieces.now k).to) c.loop-at.at c.loop-at.invariant (search rules)

not_both : {a b : ℤ} → a <ℤ b → b ≤ℤ a → ⊥
not_both h l = omega (arith, ints)

pub returns-then-pieces-at-clause-some : goal.returns-then-pieces-at-clause-some
returns-then-pieces-at-clause-some c = record { inside = c.loop-at-test.true; holds = search rules; least = λ k below. not_both (c.loop-at.invariant k below) }

pub returns-clause-none : goal.returns-clause-none
returns-clause-none c e =
    All-from_get_or (λ p. p.from <ℤ p.to) c.args.pieces.now no_piece (λ k l. c.loop-at.invariant k (lt_of_lt_of_le l c.loop-at-test.false))
