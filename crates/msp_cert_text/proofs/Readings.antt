-- Each certificate text is read in one way, and always to an end.
use Rattle.std.proofs.Common.{◌≡◌, ℕ, List, Result, Ok, Err, ℤ, refl, sym, ap, subst, ◌∙◌, codes}
use Rattle.msp_pieces.specs.declared.Frac.{Frac}
use Rattle.msp_cert.specs.declared.Proof.{Proof}
use Rattle.msp_cert.specs.declared.Certificate.{Certificate}
use Rattle.msp_grammar.specs.declared.lines.fault.FileFault.{FileFault}
use Rattle.msp_cert_text.specs.declared.kinds.TheConstants.{GREATEST_BOUND}
use Rattle.msp_cert_text.specs.Reading.{kind_at, proof_at, evidence_at, certified_at, certificate_at, said_of, ReadsCertificate}
use Rattle.msp_grammar.specs.lines.Reading.{◌>>=◌, Place, word_line_at, all_of}
use Rattle.msp_grammar.specs.lines.Costs.{cost_line_at}
use Rattle.msp_grammar.proofs.reading.LineLaws.{bind_ok, provided_ok, ok_is}
use Rattle.msp_grammar.proofs.reading.Readings.{seen_is}
use Rattle.msp_grammar.proofs.reading.Fractions.{fraction_is, IsOfFraction, cost_is}

abbrev pub Said : Type 0
Said = (ℤ × ℤ) × Proof

abbrev pub certified_by : Frac → Proof → Certificate
certified_by b x = record { bound = b; proof = x }

certified_is : (c d : Certificate) → said_of c ≡ said_of d → c ≡ d
certified_is c d e =
    ap (λ (b : Frac). certified_by b c.proof) (fraction_is c.bound d.bound (ap (λ (y : Said). y.0.0) e) (ap (λ (y : Said). y.0.1) e)) ∙ ap (certified_by d.bound) (ap (λ (y : Said). y.1) e)

module _ (names : List (List ℕ)) (machines : ℕ) where
  pub certificate_same : (line : ℕ) (b : List ℕ) (r s : Result Certificate FileFault) → ReadsCertificate names machines line b r → ReadsCertificate names machines line b s → r ≡ s
  certificate_same line b r s h k = seen_is said_of certified_is r s (sym h ∙ k)

  -- a bound that was read is a fraction
  bound_read : (start : Place) (y : Said × Place) → certified_at names machines start ≡ Ok y → IsOfFraction y.0.0
  unfolding certified_at evidence_at
  bound_read start y e =
      let t = bind_ok (word_line_at (codes "certificate") start) _ y e in
      let b = bind_ok (cost_line_at (codes "bound") GREATEST_BOUND t.0) _ y t.2 in
      let k = bind_ok (kind_at b.0.1) _ y b.2 in
      let p = bind_ok (proof_at names machines k.0.0 k.0.1) _ y k.2 in
      subst (λ (z : Said × Place). IsOfFraction z.0.0) (ok_is _ y p.2) (cost_is (codes "bound") GREATEST_BOUND t.0 b.0 b.1)

  pub certificate_ends : (line : ℕ) (b : List ℕ) → (r : Result Certificate FileFault) × ReadsCertificate names machines line b r
  unfolding IsOfFraction
  certificate_ends line b = by (certificate_at names machines line b) refl
    where
      by : (r : Result Said FileFault) → certificate_at names machines line b ≡ r → (s : Result Certificate FileFault) × ReadsCertificate names machines line b s
      by (Err e) is = (Err e, is)
      by (Ok y) is =
          let x = bind_ok (certified_at names machines (record { at = line; rest = b })) all_of y is in
          let f = bound_read (record { at = line; rest = b }) x.0 x.1 in
          let same = ok_is x.0.0 y (provided_ok _ _ _ y x.2).1 in
          (Ok (certified_by f.0 x.0.0.1), is ∙ ap Ok (sym same ∙ ap (λ (c : ℤ × ℤ). (c, x.0.0.1)) (sym f.1)))
