use Rattle.std.proofs.Common.{◌<◌, ◌+◌, ◌+ℤ◌, ◌≤ℤ◌, ◌++◌, drop, length, arith, pos, subst, sym}
use Rattle.std.proofs.lemmas.Int.{ints}
use Rattle.msp_timetable.specs.Split.{greatest_sum, total}
use Rattle.msp_shops.specs.Sliced.{row_parts, Joins, as_they_are}
use Rattle.msp_shops.proofs.SlicedPieces.{slice_fits, slice_rest, lasts_at}
use Rattle.msp_shops.proofs.Joining.{Joins-slice, Joins-last, AreInRows-next}
use Rattle.msp_shops.proofs.slices.put_machine.Goals as goal

pub loop-k-init : goal.loop-k-init
loop-k-init c = record { joins = as_they_are; rows = c.requires.rows; begin = omega (arith, ints); short = omega (arith, ints, c.requires.short) }

pub put_part-requires-clause-short : goal.put_part-requires-clause-short
put_part-requires-clause-short c = slice_fits c.args.slices.now c.loop-k.k _ _ c.loop-k.row.moment (omega (arith, c.loop-k-test.true)) c.index-slices-k.is c.requires.lasts c.loop-k.invariant.short

pub loop-k-preserved : goal.loop-k-preserved
loop-k-preserved c =
    let inside : c.loop-k.k < length c.args.slices.now = omega (arith, c.loop-k-test.true) in
    let moment = c.in_ok-put_part.ensures.moment in
    record {
      joins = subst (λ t. Joins (c.args.row.now.pieces.items ++ row_parts c.args.columns (pos 0) c.args.machine c.args.slices.now)
          (c.put_part.new.row.pieces.items ++ row_parts c.args.columns t c.args.machine (drop (c.loop-k.k + 1) c.args.slices.now))) (sym moment)
          (Joins-slice c.args.columns c.args.machine c.loop-k.k c.loop-k.row.moment _ _ c.args.slices.now _ _ _ inside c.index-slices-k.is c.loop-k.invariant.joins c.in_ok-put_part.ensures.joins);
      rows = c.in_ok-put_part.ensures.rows;
      begin = omega (arith, ints, moment, c.loop-k.invariant.begin, lasts_at c.args.slices.now c.loop-k.k _ _ inside c.index-slices-k.is c.requires.lasts);
      short = subst (λ t. (t +ℤ total (λ s. s.length) (drop (c.loop-k.k + 1) c.args.slices.now)) ≤ℤ pos greatest_sum)
          (sym moment) (slice_rest c.args.slices.now c.loop-k.k _ _ c.loop-k.row.moment (pos greatest_sum) inside c.index-slices-k.is c.loop-k.invariant.short);
    }

pub returns-clause-joins : goal.returns-clause-joins
returns-clause-joins c = Joins-last c.args.columns c.args.machine c.loop-k.k c.loop-k.row.moment c.args.slices.now _ _ (omega (arith, c.loop-k-test.false)) c.loop-k.invariant.joins

pub returns-clause-rows : goal.returns-clause-rows
returns-clause-rows c = AreInRows-next c.args.machine c.loop-k.row.moment c.loop-k.row.pieces.items c.loop-k.invariant.rows
