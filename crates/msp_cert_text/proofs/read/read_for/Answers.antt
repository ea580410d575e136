-- The goals of `read_for` that are proved by lemmas.
use Rattle.std.proofs.Common.{arith}
use Rattle.msp_cert_text.proofs.TextLaws.{certificate_answered, certificate_faults_answered}
use Rattle.msp_cert_text.proofs.read.read_for.Goals as goal

pub returns-clause-again : goal.returns-clause-again
returns-clause-again c =
    certificate_answered c.args.names.now c.args.machines (omega (arith, c.len.ensures.value, c.if-len.false)) (omega (arith, c.ranges.machines.fits))
    c.len.ensures.names c.len.ensures.distinct c.args.line c.args.bytes.now c.certificate_at.result c.certificate_at.ensures

pub returns-clause-certificate_faults : goal.returns-clause-certificate_faults
returns-clause-certificate_faults c = certificate_faults_answered c.args.names.now c.args.machines c.args.line c.args.bytes.now c.certificate_at.result c.certificate_at.ensures
