-- What the loop of `rows_text` keeps.
use Rattle.msp_report.proofs.RowsLemmas.{IsBefore}
use Rattle.msp_report.proofs.rows.rows_text.Given as goal

abbrev pub invariant-loop-k : goal.invariant-loop-k
invariant-loop-k l = IsBefore l.k l.out
