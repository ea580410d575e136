-- The reports of `certify` and `accept`.
use Rattle.std.specs.Prelude.{◌≡◌, ℕ, Bool, List, ◌++◌, codes}
use Rattle.msp_instance.specs.declared.Instance.{Instance}
use Rattle.msp_pieces.specs.declared.Frac.{Frac}
use Rattle.msp_pieces.specs.Fraction.{IsSameFraction, IsLowest}
use Rattle.msp_cert.specs.declared.Certificate.{Certificate}
use Rattle.msp_cert.specs.declared.Certified.{Certified}
use Rattle.msp_grammar.specs.ScheduleText.{line_feed, fraction_text}
use Rattle.msp_cert_text.specs.CertificateText.{kind_of, kind_word, printed_certificate}
use Rattle.msp_report.specs.ChainText.{end_line}
use Rattle.msp_report.specs.Lines.{class_line, cost_line}
use Rattle.msp_report.specs.CheckText.{yes_or_no}

-- the report of `certify`: the class, the cost, and the text of the certificate
unfoldable pub certify_report : List (List ℕ) → Certified → List ℕ
certify_report names c = class_line c.class ++ cost_line c.solution.cost ++ printed_certificate names c.certificate

-- the report of `accept`, by the kind of the proof, the bound, and whether the certificate is accepted
unfoldable pub accept_lines : Instance → List ℕ → Frac → Bool → List ℕ
accept_lines i word bound accepted =
    class_line i.class
    ++ codes "kind "
    ++ word
    ++ codes "\nbound "
    ++ fraction_text bound
    ++ codes "\naccepted "
    ++ yes_or_no accepted
    ++ line_feed
    ++ end_line

-- The text is the report of `accept`. The bound is in lowest terms.
pub record IsAcceptText (i : Instance) (c : Certificate) (accepted : Bool) (text : List ℕ) : Type 0 where
  pub bound : Frac
  pub same : IsSameFraction c.bound bound
  pub lowest : IsLowest bound
  pub printed : text ≡ accept_lines i (kind_word (kind_of c.proof)) bound accepted
