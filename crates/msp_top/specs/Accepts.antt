-- What is right to say of the text of an instance with that of a certificate after it.
use Rattle.std.specs.Prelude.{◌≢◌, ℕ, List, true, false}
use Rattle.msp_instance.specs.declared.Instance.{Instance}
use Rattle.msp_cert.specs.declared.Certificate.{Certificate}
use Rattle.msp_cert.specs.Certificates.{IsAccepted}
use Rattle.msp_grammar.specs.declared.filed.Filed.{Filed}
use Rattle.msp_grammar.specs.declared.lines.fault.FileFault.{FileFault}
use Rattle.msp_grammar.specs.declared.lines.fault.FileFault.TheVariants.{Memory}
use Rattle.msp_file.specs.instance.Answers.{IsFrontFaultOf}
use Rattle.msp_cert_text.specs.CertificateText.{IsCertificateText}
use Rattle.msp_cert_text.specs.Answers.{IsCertificateFaultOf}
use Rattle.msp_grammar.specs.lines.Faults.{file_text}
use Rattle.msp_report.specs.CertifyText.{IsAcceptText}
use Rattle.msp_top.specs.Files.{file_status}
use Rattle.msp_top.specs.Checks.{BeginsWith}
use Rattle.msp_top.specs.Outcome.{Outcome, report, refusal}

-- The status and the report say whether the certificate is accepted: its evidence holds, and its bound is at most its value.
pub data IsAcceptReport (i : Instance) (c : Certificate) : ℕ → List ℕ → Type 0 where
  accepted : (text : List ℕ) → IsAccepted i c → IsAcceptText i c true text → IsAcceptReport i c 0 text
  rejected : (text : List ℕ) → ¬ IsAccepted i c → IsAcceptText i c false text → IsAcceptReport i c 1 text

-- The outcome is right: a report on the certificate; the first fault of the text of the instance at the front; or the first fault of the
-- rest as a text of a certificate. No class is refused.
pub data AcceptIsRight (input : List ℕ) : Outcome → Type 0 where
  judged : (filed : Filed) (c : Certificate) (line : ℕ) (rest : List ℕ) (status : ℕ) (text : List ℕ) → BeginsWith input filed line rest
      → IsCertificateText rest filed.names filed.instance.machines c → IsAcceptReport filed.instance c status text → AcceptIsRight input (report status text)
  misread_front : (fault : FileFault) → fault ≢ Memory → IsFrontFaultOf input fault → AcceptIsRight input (refusal (file_status fault) (file_text fault))
  misread_rest : (filed : Filed) (line : ℕ) (rest : List ℕ) (fault : FileFault) → BeginsWith input filed line rest → fault ≢ Memory
      → IsCertificateFaultOf filed.names filed.instance.machines line rest fault → AcceptIsRight input (refusal (file_status fault) (file_text fault))
