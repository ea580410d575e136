use Rattle.std.proofs.Common.{◌≡◌, ◌<◌, rules, arith, length, ◌∙◌}
use Rattle.msp_assign.proofs.Lists.{whole_slice}
use Rattle.msp_assign.proofs.Placements.{IsPlacing-start, IsPlacing-next, HasCharges-placing, free-placing, IsPlacement-end}
use Rattle.msp_assign.proofs.placement.placed.Goals as goal

pub rows-init : goal.rows-init
rows-init g c =
    let count : c.len.result ≡ length c.in_ok-columns.columns.items = search rules in
    IsPlacing-start _ _ _ _ _ _ _ _ _ _ (g.met.L.Lines.whole c.args.costs.now) c.lines.ensures count
    (c.in_ok-falls.ensures.items_if_clones_equal (λ y q. q)) c.new-column_of.ensures.items c.requires.some c.requires.enough c.in_ok-columns.ensures

pub place_row-requires-clause-costs : goal.place_row-requires-clause-costs
place_row-requires-clause-costs g c = HasCharges-placing _ _ _ _ _ _ _ _ (g.met.L.Lines.whole c.args.costs.now) c.requires.costs c.rows.invariant _ c.as_slice.ensures.value

pub place_row-requires-clause-placed : goal.place_row-requires-clause-placed
place_row-requires-clause-placed g c = rw (c.as_mut_slice.ensures.value, c.as_slice.ensures.value) c.rows.invariant.placed

pub place_row-requires-clause-free : goal.place_row-requires-clause-free
place_row-requires-clause-free g c =
    free-placing _ _ _ _ _ _ _ _ (g.met.L.Lines.whole c.args.costs.now)
    c.requires.costs c.rows.invariant _ c.as_slice.ensures.value (omega (arith, c.rows-test.true, c.rows-rows.ensures)) c.requires.enough

pub rows-preserved : goal.rows-preserved
rows-preserved g c =
    let more : length c.rows.column_of.items < g.L.Costs.row_count c.args.costs.now = omega (arith, c.rows-test.true, c.rows-rows.ensures) in
    IsPlacing-next _ _ _ _ _ _ _ _ (g.met.L.Lines.whole c.args.costs.now) c.requires.costs c.rows.invariant (g.met.L.Lines.rise c.args.costs.now) more
    _ c.place_row.new.falls _ _ _ _ _ _ c.as_slice.ensures.value
    (whole_slice c.rows.falls.len (length c.place_row.new.falls) c.place_row.new.falls c.rows.falls.items (c.place_row.auto.falls ∙ c.as_mut_slice.ensures.len))
    c.length.ensures c.in_ok-taken.ensures.placed c.in_ok-taken.ensures.longer c.in_ok-taken.ensures.taken c.in_ok-bring_next.ensures

pub returns : goal.returns
returns g c = IsPlacement-end _ _ _ _ _ _ _ _ c.rows-rows.ensures (λ l. omega (arith, l, c.rows-test.false)) c.rows.invariant
