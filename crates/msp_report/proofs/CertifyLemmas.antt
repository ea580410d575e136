-- The report of `accept`.
use Rattle.std.proofs.Common.{◌≡◌, ℕ, Bool, List, [], ◌++◌, ap, ◌∙◌}
use Rattle.msp_instance.specs.declared.Instance.{Instance}
use Rattle.msp_pieces.specs.declared.Frac.{Frac}
use Rattle.msp_pieces.specs.Fraction.{IsSameFraction, IsLowest}
use Rattle.msp_cert.specs.declared.Certificate.{Certificate}
use Rattle.msp_cert_text.specs.CertificateText.{kind_of, kind_word}
use Rattle.msp_report.specs.CertifyText.{accept_lines, IsAcceptText}

pub accept_made : (i : Instance) (c : Certificate) (accepted : Bool) (bound : Frac) (word before text : List ℕ)
    → IsSameFraction c.bound bound → IsLowest bound → word ≡ kind_word (kind_of c.proof) → before ≡ [] → text ≡ before ++ accept_lines i word bound accepted
    → IsAcceptText i c accepted text
accept_made i c accepted bound word before text same low is none e =
    record { bound = bound; same = same; lowest = low; printed = e ∙ ap (λ b. b ++ accept_lines i word bound accepted) none ∙ ap (λ w. accept_lines i w bound accepted) is }
