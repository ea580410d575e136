-- The goals of `put_rows` that are proved by lemmas.
use Rattle.std.proofs.Common.{refl, sym, ◌∙◌}
use Rattle.msp_report.specs.ChainText.{row_lines}
use Rattle.msp_report.proofs.PutLemmas.{rows_more, rows_stop, all_put}
use Rattle.msp_report.proofs.chain_text.put_rows.Goals as goal

pub loop-row-preserved : goal.loop-row-preserved
loop-row-preserved c = rows_more _ c.loop-row.out.items _ c.loop-row.here c.in-Some.next c.args.rows.now c.loop-row.row-index c.row-item.result
    c.row-item.result c.loop-row-test.true (sym c.row-item.is) (sym c.goes.ensures ∙ c.in-Some.is) c.in_ok-put_row-in-Some.ensures c.loop-row.invariant

pub returns-in-None : goal.returns-in-None
returns-in-None c = rows_stop _ c.loop-row.out.items c.loop-row.here c.args.rows.now c.loop-row.row-index c.row-item.result c.row-item.result
    c.loop-row-test.true (sym c.row-item.is) (sym c.goes.ensures ∙ c.in-None.is) c.loop-row.invariant

pub returns : goal.returns
returns c = all_put (row_lines c.loop-row.here) _ c.loop-row.out.items c.args.rows.now c.loop-row.row-index refl c.loop-row-test.false c.loop-row.invariant
