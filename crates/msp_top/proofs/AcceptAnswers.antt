-- The answer to `accept`.
use Rattle.std.proofs.Common.{◌≡◌, ◌↔◌, Bool, true, false, IsTrue, List, ℕ, if◌then◌else◌, refl, sym, subst}
use Rattle.msp_instance.specs.declared.Instance.{Instance}
use Rattle.msp_cert.specs.declared.Certificate.{Certificate}
use Rattle.msp_cert.specs.Certificates.{IsAccepted}
use Rattle.msp_report.specs.CertifyText.{IsAcceptText}
use Rattle.msp_top.specs.Accepts.{IsAcceptReport, accepted, rejected}
use Rattle.msp_top.proofs.WordLemmas.{differ}

pub accept_report : (i : Instance) (c : Certificate) (verdict : Bool) (status : ℕ) (text : List ℕ)
    → status ≡ (if verdict then 0 else 1) → IsTrue verdict ↔ IsAccepted i c → IsAcceptText i c verdict text → IsAcceptReport i c status text
accept_report i c true status text is decided printed = subst (λ n. IsAcceptReport i c n text) (sym is) (accepted text (decided.0 refl) printed)
accept_report i c false status text is decided printed = subst (λ n. IsAcceptReport i c n text) (sym is) (rejected text (λ h. differ (decided.1 h)) printed)
