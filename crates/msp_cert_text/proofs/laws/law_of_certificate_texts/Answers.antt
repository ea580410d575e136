-- The goals of `law_of_certificate_texts` that are proved by lemmas.
use Rattle.msp_cert_text.proofs.OneWay as certificates
use Rattle.msp_cert_text.proofs.laws.law_of_certificate_texts.Goals as goal

pub returns : goal.returns
returns c = certificates.law_of_certificate_texts
