use Rattle.std.proofs.Common.{◌*◌, sym, subst, ap₂, arith}
use Rattle.msp_assign.specs.View.{AreInside}
use Rattle.msp_assign.proofs.Least.{IsGiven-read}
use Rattle.msp_assign.proofs.Views.{HasCharges-read}
use Rattle.msp_assign.proofs.assignment.assignment_of.Goals as goal

pub invariant_of-view-clause-inside : goal.invariant_of-view-clause-inside
invariant_of-view-clause-inside g c =
    subst (AreInside (g.L.Lines.line_count c.args.costs.now) (g.L.Lines.line_length c.args.costs.now)) (sym c.as_slice-columns.ensures.value) c.requires.placement.view.inside

pub numbers-requires : goal.numbers-requires
numbers-requires g c =
    let p = rw (← c.as_slice-columns.ensures.value, ← c.as_slice-column_of.ensures.value, ← c.lines-lines.ensures, ← c.length-length.ensures) at c.requires.placement in
    record {
      columns = p.view.inside;
      all = omega (arith, ap₂ (λ a b. a * b) c.lines-lines.ensures c.length-length.ensures, g.met.L.Lines.whole c.args.costs.now, c.requires.columns);
      inside = p.placed.inside;
    }

pub column_prices-requires : goal.column_prices-requires
column_prices-requires g c =
    let p = rw (← c.as_slice-columns.ensures.value, ← c.as_slice-falls.ensures.value, ← c.lines-lines.ensures, ← c.length-length.ensures) at c.requires.placement in
    record {
      columns = p.view.inside;
      all = omega (arith, ap₂ (λ a b. a * b) c.lines-lines.ensures c.length-length.ensures, g.met.L.Lines.whole c.args.costs.now, c.requires.columns);
      falls = p.placed.size;
      low = λ k l. p.placed.low k (omega (arith, l, p.placed.size));
    }

pub row_prices-requires : goal.row_prices-requires
row_prices-requires g c =
    let p = rw (← c.as_slice-columns.ensures.value, ← c.as_slice-falls.ensures.value, ← c.as_slice-column_of.ensures.value) at c.requires.placement in
    record {
      costs = HasCharges-read (g.L.Costs.row_count c.args.costs.now) (g.L.Costs.column_count c.args.costs.now) (g.L.Lines.line_count c.args.costs.now)
          (g.L.Lines.line_length c.args.costs.now) (g.L.Costs.cost c.args.costs.now) _ _ (g.met.L.Lines.whole c.args.costs.now) c.as_slice-columns.ensures.value c.requires.costs
          c.requires.placement.view.inside;
      falls = p.placed.size;
      low = p.placed.low;
      rows = p.all;
      few = omega (arith, p.all, c.requires.few);
      inside = p.placed.inside;
    }

pub returns : goal.returns
returns g c =
    IsGiven-read (g.L.Costs.row_count c.args.costs.now) (g.L.Costs.column_count c.args.costs.now) (g.L.Lines.line_count c.args.costs.now)
    c.lines-lines.result (g.L.Lines.line_length c.args.costs.now) c.length-length.result (g.L.Costs.cost c.args.costs.now)
    _ _ _ _ _ _ (record { column = c.in_ok-column.column; row_price = c.in_ok-row_price.row_price; column_price = c.in_ok-column_price.column_price })
    (g.met.L.Lines.whole c.args.costs.now) c.requires.some c.requires.enough c.requires.costs (g.met.L.Lines.rise c.args.costs.now) c.lines-lines.ensures c.length-length.ensures
    c.as_slice-columns.ensures.value c.as_slice-falls.ensures.value
    c.as_slice-column_of.ensures.value c.requires.placement c.in_ok-column.ensures c.in_ok-row_price.ensures c.in_ok-column_price.ensures
