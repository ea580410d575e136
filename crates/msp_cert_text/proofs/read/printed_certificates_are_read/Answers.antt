-- The goals of `printed_certificates_are_read` that are proved by lemmas.
use Rattle.msp_cert_text.proofs.OneWay.{read_again}
use Rattle.msp_cert_text.proofs.read.printed_certificates_are_read.Goals as goal

pub returns : goal.returns
returns c = read_again
