use Rattle.std.proofs.Common.{◌≡◌, ◌<◌, ◌∙◌, arith, refl, subst}
use Rattle.std.proofs.lemmas.Bool.{false≢true}
use Rattle.std.proofs.lemmas.List.{get_or_default}
use Rattle.msp_assign.specs.Passing.{at}
use Rattle.msp_timetable.specs.Square.{stock}
use Rattle.msp_timetable.proofs.Lists.{none_held}
use Rattle.msp_timetable.proofs.Ways.{stocks-next}
use Rattle.msp_timetable.proofs.matching.match_rows.Goals as goal
use Rattle.msp_timetable.proofs.matching.match_rows.Goals.{then-not-has_stock+in_ok-give, else-not-has_stock}

pub give-requires : goal.give-requires
give-requires c =
    let so_far = c.loop-row.invariant in
    let column : c.index.result.now ≡ at c.loop-row.seats.columns.items c.loop-row.row =
    c.index.ensures ∙ get_or_default c.loop-row.seats.columns.items c.loop-row.row c.index.result.now 0 (omega (arith, so_far.permuted.size, c.loop-row-test.true)) in
    record {
      square = c.requires.square;
      permuted = so_far.permuted;
      owners = so_far.owners;
      row = c.loop-row-test.true;
      bare = subst (λ x. stock c.args.square.now c.loop-row.row x ≡ 0) column (none_held (λ q. false≢true (c.if-not-has_stock.ensures.1 q)));
      balanced = c.requires.balanced;
    }

pub loop-row-preserved : goal.loop-row-preserved
loop-row-preserved c =
    let so_far = c.loop-row.invariant in
    let column : c.index.result.now ≡ at c.loop-row.seats.columns.items c.loop-row.row =
    c.index.ensures ∙ get_or_default c.loop-row.seats.columns.items c.loop-row.row c.index.result.now 0 (omega (arith, so_far.permuted.size, c.loop-row-test.true)) in
    elim c.if-not-has_stock.branch [
      | then-not-has_stock+in_ok-give w ↦
          let better = w.in_ok-give.ensures.better in
          rw w.seats-is (record { permuted = better.permuted; owners = w.in_ok-give.ensures.owners; stocks = stocks-next _ _ _ _ _ better c.loop-row-test.true so_far.stocks })
      | else-not-has_stock w ↦
          let has = subst (λ x. 0 < stock c.args.square.now c.loop-row.row x) column (w.if-not-has_stock.ensures.0 refl) in
          rw w.seats-is (record {
            permuted = so_far.permuted;
            owners = so_far.owners;
            stocks = stocks-next c.args.square.now.size (stock c.args.square.now) c.loop-row.row c.loop-row.seats.columns.items c.loop-row.seats.columns.items
                (record { permuted = so_far.permuted; first = has; others = λ r l h. h }) c.loop-row-test.true so_far.stocks;
          })
    ]
