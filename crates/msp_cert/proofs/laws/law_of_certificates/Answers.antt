use Rattle.msp_cert.proofs.Soundness.{law_of_certificates}
use Rattle.msp_cert.proofs.laws.law_of_certificates.Goals as goal

pub returns : goal.returns
returns c = law_of_certificates
