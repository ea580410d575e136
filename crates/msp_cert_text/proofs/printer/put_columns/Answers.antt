-- The goals of `put_columns` that are proved by lemmas.
use Rattle.msp_cert_text.proofs.CertificatePrinting.{column_step}
use Rattle.msp_cert_text.proofs.printer.put_columns.Goals as goal

pub positions-preserved : goal.positions-preserved
positions-preserved c =
    column_step c.args.jobs c.args.column.now c.positions.at _ c.positions.out.items c.put_column.new.out.items _ c.positions-test.true c.in_ok-put_column.ensures c.positions.invariant
