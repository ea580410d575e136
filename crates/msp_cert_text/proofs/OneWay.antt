-- Each certificate text has one value or one first fault, and a printed one is read as its value.
use Rattle.std.proofs.Common.{◌≡◌, ◌≢◌, ℕ, ◌⊎◌, inl, inr, List, Result, Ok, Err, refl}
use Rattle.msp_name.specs.OneWay.{AreReadOneWay}
use Rattle.msp_cert.specs.declared.Certificate.{Certificate}
use Rattle.msp_grammar.specs.declared.lines.fault.FileFault.{FileFault}
use Rattle.msp_grammar.specs.declared.lines.fault.FileFault.TheVariants.{Memory}
use Rattle.msp_cert_text.specs.Reading.{ReadsCertificate}
use Rattle.msp_cert_text.specs.Answers.{IsCertificateFaultOf, AreCounted, CertificatesReadAgain, IsCertificateTextOf, IsFirstCertificateFaultOf, LawOfCertificateTexts}
use Rattle.msp_grammar.proofs.reading.LineLaws.{reads, ok_is}
use Rattle.msp_grammar.proofs.reading.Readings.{err_is, not_fails}
use Rattle.msp_cert_text.proofs.Readings.{certificate_same, certificate_ends}
use Rattle.msp_cert_text.proofs.LineFaults.{certificate_remembers}
use Rattle.msp_cert_text.proofs.TextLaws.{certificate_taken, certificate_again, printed_again, no_certificate_fault}

module _ (names : List (List ℕ)) (machines line : ℕ) (h : AreCounted names machines) where
  one_certificate : (b : List ℕ) (c d : Certificate) → IsCertificateTextOf names machines b c → IsCertificateTextOf names machines b d → c ≡ d
  one_certificate b c d s t = ok_is c d (certificate_same names machines line b (reads c) (reads d)
      (certificate_again names machines h.few h.machine h.spelled h.distinct line b c s) (certificate_again names machines h.few h.machine h.spelled h.distinct line b d t))

  not_both : (b : List ℕ) (c : Certificate) (e : FileFault) → IsCertificateTextOf names machines b c → ¬ IsFirstCertificateFaultOf names machines line b e
  not_both b c e s k = not_fails e c k.1 (no_certificate_fault names machines h.few h.machine h.spelled h.distinct line b e k.0 c s)

  reads_fault : (b : List ℕ) (e : FileFault) → IsCertificateFaultOf names machines line b e → e ≢ Memory → ReadsCertificate names machines line b (Err e)
  reads_fault b Memory k m = absurd (m refl)
  reads_fault b e k m = k

  one_fault : (b : List ℕ) (e f : FileFault) → IsFirstCertificateFaultOf names machines line b e → IsFirstCertificateFaultOf names machines line b f → e ≡ f
  one_fault b e f s t = err_is e f (certificate_same names machines line b (Err e) (Err f) (reads_fault b e s.0 s.1) (reads_fault b f t.0 t.1))

  some_certificate : (b : List ℕ) (r : Result Certificate FileFault) → ReadsCertificate names machines line b r
      → ((c : Certificate) × IsCertificateTextOf names machines b c) ⊎ ((e : FileFault) × IsFirstCertificateFaultOf names machines line b e)
  some_certificate b (Ok c) k = inl (c, certificate_taken names machines h.few h.machine line b c k)
  some_certificate b (Err Memory) k = absurd (certificate_remembers names machines line b k)
  some_certificate b (Err e) k = inr (e, (k, λ m. absurd cc))

  one_way : AreReadOneWay (IsCertificateTextOf names machines) (IsFirstCertificateFaultOf names machines line)
  one_way = record {
    some = λ b. let r = certificate_ends names machines line b in some_certificate b r.0 r.1;
    not_both = not_both;
    one_value = one_certificate;
    one_fault = one_fault;
  }

pub law_of_certificate_texts : LawOfCertificateTexts
law_of_certificate_texts names machines line h = one_way names machines line h

pub read_again : CertificatesReadAgain
read_again names machines line c h stated = printed_again names machines h.few h.machine h.spelled h.distinct line c stated
