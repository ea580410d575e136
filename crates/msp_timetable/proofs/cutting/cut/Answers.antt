use Rattle.std.proofs.Common.{◌≡◌, ◌<◌, arith, subst, sym, ap, ◌∙◌}
use Rattle.msp_timetable.specs.Square.{used_at}
use Rattle.msp_timetable.proofs.Cuts.{IsCutting, IsCutting-start, IsCutting-next, IsCut-end, used-now}
use Rattle.msp_timetable.proofs.cutting.cut.Goals as goal

pub loop-row-init : goal.loop-row-init
loop-row-init c = λ low e. IsCutting-start _ _ c.requires.permuted _ _ c.requires.square

pub take-requires : goal.take-requires
take-requires c =
    let w = c.requires.least.some in
    let h = c.loop-row.invariant w.0 w.2 in
    let lk : c.loop-row.row < c.args.square.now.size = omega (arith, c.loop-row-test.true) in
    record {
      square = h.square;
      row = omega (arith, lk, h.size);
      column = omega (arith, c.requires.permuted.inside c.loop-row.row lk, h.size);
      enough = omega (arith, used-now _ _ c.requires.permuted _ _ _ _ lk h, c.requires.least.least c.loop-row.row lk);
    }

pub loop-row-preserved : goal.loop-row-preserved
loop-row-preserved c = λ low e.
    let lk : c.loop-row.row < c.args.square.now.size = omega (arith, c.loop-row-test.true) in
    IsCutting-next _ _ c.requires.permuted _ _ _ _ lk (c.loop-row.invariant low e)
    _ c.requires.positive (c.requires.least.least c.loop-row.row lk) (λ q. ap (used_at c.args.square.now c.args.columns.now) (sym q) ∙ e) c.take.ensures

pub returns : goal.returns
returns c =
    let w = c.requires.least.some in
    let end : c.loop-row.row ≡ c.args.square.now.size = omega (arith, c.loop-row-test.false) in
    IsCut-end _ _ c.requires.permuted _ _ _ w.1 (subst (IsCutting _ _ _ _ c.loop-row.square) end (c.loop-row.invariant w.0 w.2))
