-- The goals of `put_heads` that are proved by lemmas.
use Rattle.std.proofs.Common.{◌<◌, length, arith, codes, decimal}
use Rattle.msp_cert_text.proofs.CertificatePrinting.{numbered_step}
use Rattle.msp_cert_text.proofs.printer.put_heads.Goals as goal

pub jobs-preserved : goal.jobs-preserved
jobs-preserved c =
    let named : c.jobs.at < length c.args.names.now = omega (arith, c.requires, c.jobs-test.true) in
    numbered_step (codes "head") decimal c.args.names.now
    c.args.heads.now c.jobs.at _ c.jobs.out.items c.put_numbered.new.out.items _ named c.jobs-test.true c.in_ok-put_numbered.ensures c.jobs.invariant
