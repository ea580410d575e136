-- The goals of `put_rows` that are proved by lemmas.
use Rattle.std.proofs.Common.{◌<◌, length, arith, codes}
use Rattle.std.specs.Fmt.{signed_decimal}
use Rattle.msp_cert_text.proofs.CertificatePrinting.{numbered_step}
use Rattle.msp_cert_text.proofs.printer.put_rows.Goals as goal

pub jobs-preserved : goal.jobs-preserved
jobs-preserved c =
    let named : c.jobs.at < length c.args.names.now = omega (arith, c.requires, c.jobs-test.true) in
    numbered_step (codes "row") signed_decimal c.args.names.now
    c.args.row.now c.jobs.at _ c.jobs.out.items c.put_price.new.out.items _ named c.jobs-test.true c.in_ok-put_price.ensures c.jobs.invariant
