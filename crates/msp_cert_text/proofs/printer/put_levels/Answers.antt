-- The goals of `put_levels` that are proved by lemmas.
use Rattle.std.proofs.Common.{◌<◌, length, arith, codes, decimal}
use Rattle.msp_cert_text.proofs.CertificatePrinting.{numbered_step}
use Rattle.msp_cert_text.proofs.printer.put_levels.Goals as goal

pub jobs-preserved : goal.jobs-preserved
jobs-preserved c =
    let named : c.jobs.at < length c.args.names.now = omega (arith, c.requires, c.jobs-test.true) in
    numbered_step (codes "level") decimal c.args.names.now
    c.args.levels.now c.jobs.at _ c.jobs.out.items c.put_numbered.new.out.items _ named c.jobs-test.true c.in_ok-put_numbered.ensures c.jobs.invariant
