use Rattle.std.proofs.Common.{◌≡◌, ◌<◌, ◌≤ℤ◌, length, map, subst, sym, arith, ap, ◌∙◌, pos}
use Rattle.std.proofs.lemmas.List.{length-map, take_all, take-append-le}
use Rattle.msp_pieces.specs.declared.Piece.{Piece}
use Rattle.msp_pieces.specs.Divisor.{divided}
use Rattle.msp_pieces.proofs.changes.SettledSchedules.{Halfway, Halfway-start, Halfway-step, Halfway-all}
use Rattle.msp_pieces.proofs.settling.divide_all.Goals as goal

abbrev none : Piece
none = record { job = 0; op = 0; machine = 0; from = pos 0; to = pos 0 }

pub loop-piece-init : goal.loop-piece-init
loop-piece-init c =
    let xs = c.args.pieces.now.items in
    subst (λ zs. Halfway xs (map (divided c.args.divisor) xs) zs 0) (sym c.deref_mut-piece-items.ensures.value) (Halfway-start xs (map (divided c.args.divisor) xs))

pub divide-requires-clause-from : goal.divide-requires-clause-from
divide-requires-clause-from c =
    let l : c.loop-piece.piece-index < length c.args.pieces.now.items = omega (arith, ap length c.deref_mut-piece-items.ensures.value, c.loop-piece-test.true) in
    subst (λ p. pos 0 ≤ℤ p.from) (sym (c.loop-piece.invariant.left c.loop-piece.piece-index none (omega arith))) (c.requires.natural c.loop-piece.piece-index none l).0

pub divide-requires-clause-to : goal.divide-requires-clause-to
divide-requires-clause-to c =
    let l : c.loop-piece.piece-index < length c.args.pieces.now.items = omega (arith, ap length c.deref_mut-piece-items.ensures.value, c.loop-piece-test.true) in
    subst (λ p. pos 0 ≤ℤ p.to) (sym (c.loop-piece.invariant.left c.loop-piece.piece-index none (omega arith))) (c.requires.natural c.loop-piece.piece-index none l).1

pub loop-piece-preserved : goal.loop-piece-preserved
loop-piece-preserved c = Halfway-step (divided c.args.divisor) c.args.pieces.now.items c.loop-piece.piece-items c.loop-piece.piece-index c.divide.result none
    (omega (arith, c.loop-piece.auto.piece-items, c.loop-piece-test.true)) (c.loop-piece.auto.piece-items ∙ ap length c.deref_mut-piece-items.ensures.value) c.divide.ensures c.loop-piece.invariant

pub returns : goal.returns
returns c =
    let xs = c.args.pieces.now.items in
    let zs = c.loop-piece.piece-items in
    let long : length zs ≡ length xs = c.loop-piece.auto.piece-items ∙ ap length c.deref_mut-piece-items.ensures.value in
    let len : c.args.pieces.now.len ≡ length xs = sym c.deref_mut-piece-items.ensures.len ∙ ap length c.deref_mut-piece-items.ensures.value in
    take-append-le c.args.pieces.now.len zs _ (omega (arith, long, len)) ∙ take_all c.args.pieces.now.len zs (omega (arith, long, len))
    ∙ Halfway-all xs (map (divided c.args.divisor) xs) zs c.loop-piece.piece-index (omega (arith, c.loop-piece.auto.piece-items, c.loop-piece-test.false))
    (omega (arith, c.loop-piece-test.false, long, length-map xs (divided c.args.divisor), c.loop-piece.auto.piece-items)) c.loop-piece.invariant
