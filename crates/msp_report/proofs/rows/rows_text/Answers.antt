-- The goals of `rows_text` that are proved by lemmas.
use Rattle.std.proofs.Common.{sym, subst, lit<, rules, arith}
use Rattle.msp_report.proofs.RowsLemmas.{IsBefore, IsBefore-first, IsBefore-next, IsBefore-last, IsBefore-room, IsBefore-end}
use Rattle.msp_report.proofs.rows.rows_text.Goals as goal

pub loop-k-init : goal.loop-k-init
loop-k-init c = subst (IsBefore 1) (sym c.new-out.ensures) IsBefore-first

pub put_row-requires : goal.put_row-requires
put_row-requires c = IsBefore-room c.loop-k.k c.unwrap.result c.loop-k.out (omega arith) (omega arith) (search rules) c.loop-k.invariant

pub loop-k-preserved : goal.loop-k-preserved
loop-k-preserved c = IsBefore-next c.loop-k.k c.unwrap.result c.loop-k.out _ (omega arith) (omega arith) (search rules) c.loop-k.invariant c.put_row.ensures

pub put-requires : goal.put-requires
put-requires c = (lit< tt, IsBefore-end c.loop-k.k c.loop-k.out (omega arith) c.loop-k.invariant)

pub returns : goal.returns
returns c = IsBefore-last c.loop-k.k c.loop-k.out _ (omega arith) c.loop-k.invariant c.put.ensures
