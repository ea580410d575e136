-- What is right to say of the text of an instance of which a best cost is to be certified.
use Rattle.std.specs.Prelude.{◌≡◌, ◌≢◌, ℕ, List}
use Rattle.msp_instance.specs.declared.Instance.{Instance}
use Rattle.msp_cert.specs.declared.Certified.{Certified}
use Rattle.msp_grammar.specs.InstanceText.{IsInstanceText}
use Rattle.msp_grammar.specs.declared.lines.fault.FileFault.{FileFault}
use Rattle.msp_grammar.specs.declared.lines.fault.FileFault.TheVariants.{Memory}
use Rattle.msp_file.specs.instance.Answers.{IsFaultOf}
use Rattle.msp_grammar.specs.lines.Faults.{file_text}
use Rattle.msp_report.specs.CertifyText.{certify_report}
use Rattle.msp_dispatch.specs.declared.Uncertified.{Uncertified}
use Rattle.msp_dispatch.specs.declared.Uncertified.TheVariants.{Memory as NoMemory}
use Rattle.msp_dispatch.specs.Certify.{IsCertified, IsUncertified}
use Rattle.msp_top.specs.Files.{file_status}
use Rattle.msp_top.specs.Cannots.{uncertified_status, uncertified_text}
use Rattle.msp_top.specs.Outcome.{Outcome, report, refusal}

-- The report is one of a best solution of the instance that the input is the text of, and of a certificate of its cost.
pub record IsCertifyReport (input : List ℕ) (text : List ℕ) : Type 0 where
  pub names : List (List ℕ)
  pub instance : Instance
  pub certified : Certified
  pub read : IsInstanceText input instance names
  pub answered : IsCertified instance certified
  pub printed : text ≡ certify_report names certified

-- The outcome is right: a report; the first fault of the text, which is a limit or bad input; or why the instance that the input is the
-- text of gets no certificate.
pub data CertifyIsRight (input : List ℕ) : Outcome → Type 0 where
  certified : (text : List ℕ) → IsCertifyReport input text → CertifyIsRight input (report 0 text)
  misread : (fault : FileFault) → fault ≢ Memory → IsFaultOf input fault → CertifyIsRight input (refusal (file_status fault) (file_text fault))
  uncertified : (names : List (List ℕ)) (instance : Instance) (why : Uncertified) → IsInstanceText input instance names
      → why ≢ NoMemory → IsUncertified instance why → CertifyIsRight input (refusal (uncertified_status why) (uncertified_text why))
