-- What the reader of certificate texts answers.
use Rattle.std.specs.Prelude.{◌≢◌, ℕ, ◌<◌, List, length, All, Ok, Err}
use Rattle.msp_class.specs.declared.list.TheConstants.{PLACES}
use Rattle.msp_name.specs.OneWay.{AreReadOneWay}
use Rattle.msp_text.specs.JobName.{IsJobName, AreDistinct}
use Rattle.msp_cert.specs.declared.Certificate.{Certificate}
use Rattle.msp_grammar.specs.declared.lines.fault.FileFault.{FileFault}
use Rattle.msp_grammar.specs.declared.lines.fault.FileFault.TheVariants.{Head, ArcAgain, Class, Cycle, Memory}
use Rattle.msp_cert_text.specs.CertificateText.{printed_certificate, IsStatedCertificate, IsCertificateText}
use Rattle.msp_cert_text.specs.Reading.{ReadsCertificate}

-- The fault is the first one of the text, whose first line has this number. Out of memory says nothing.
abbrev pub IsCertificateFaultOf : List (List ℕ) → ℕ → ℕ → List ℕ → FileFault → Type 0
IsCertificateFaultOf names machines line bytes Memory = Unit {0}
IsCertificateFaultOf names machines line bytes e = ReadsCertificate names machines line bytes (Err e)

-- The fault is one that a certificate text can have: it has no head, no arcs and no class.
abbrev pub IsCertificateFault : FileFault → Type 0
IsCertificateFault (Head at) = ⊥
IsCertificateFault (ArcAgain at) = ⊥
IsCertificateFault (Class fault name) = ⊥
IsCertificateFault (Cycle job name) = ⊥
IsCertificateFault _ = Unit {0}

-- The names are distinct job names, and they and the machines are as many as 32 bits can count.
pub record AreCounted (names : List (List ℕ)) (machines : ℕ) : Type 0 where
  pub spelled : All IsJobName names
  pub distinct : AreDistinct names
  pub few : length names < PLACES
  pub machine : machines < PLACES

-- The printed text of a certificate is read as that certificate.
abbrev pub CertificatesReadAgain : Type 0
CertificatesReadAgain =
    (names : List (List ℕ)) (machines line : ℕ) (c : Certificate) → AreCounted names machines → IsStatedCertificate names machines c
    → ReadsCertificate names machines line (printed_certificate names c) (Ok c)

-- Bytes are a certificate text for an instance with these names of jobs and so many machines exactly where they have no first fault, and
-- each certificate and each first fault is the only one.
abbrev pub IsCertificateTextOf : List (List ℕ) → ℕ → List ℕ → Certificate → Type 0
IsCertificateTextOf names machines bytes c = IsCertificateText bytes names machines c

abbrev pub IsFirstCertificateFaultOf : List (List ℕ) → ℕ → ℕ → List ℕ → FileFault → Type 0
IsFirstCertificateFaultOf names machines line bytes e = IsCertificateFaultOf names machines line bytes e × (e ≢ Memory)

abbrev pub LawOfCertificateTexts : Type 0
LawOfCertificateTexts =
    (names : List (List ℕ)) (machines line : ℕ) → AreCounted names machines
    → AreReadOneWay (IsCertificateTextOf names machines) (IsFirstCertificateFaultOf names machines line)
