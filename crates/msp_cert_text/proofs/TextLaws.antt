-- Certificate texts: what is read is a text of its certificate, and a text of a certificate is read as it.
use Rattle.std.proofs.Common.{◌≡◌, ℕ, ◌<◌, ◌≤◌, Bool, true, false, if◌then◌else◌, List, [], ◌∷◌, ◌++◌, length, Option, Some, None, ok_or, Result, Ok, Err, ℤ, All, bytes_eq, codes}
use Rattle.std.proofs.Common.{refl, sym, ap, subst, ◌∙◌, append_assoc, append-nil, arith, eqb-true}
use Rattle.std.specs.Result.{IfErr}
use Rattle.std.proofs.lemmas.List.{nil_from_length}
use Rattle.msp_text.specs.JobName.{IsJobName, AreDistinct}
use Rattle.msp_text.proofs.NameLists.{same_bytes}
use Rattle.msp_class.specs.declared.list.TheConstants.{PLACES}
use Rattle.msp_pieces.specs.declared.Frac.{Frac}
use Rattle.msp_cert.specs.declared.Proof.{Proof}
use Rattle.msp_cert.specs.declared.Certificate.{Certificate}
use Rattle.msp_grammar.specs.ScheduleText.{IsFractionText}
use Rattle.msp_grammar.specs.InstanceText.{line_text}
use Rattle.msp_grammar.specs.declared.lines.fault.FileFault.{FileFault}
use Rattle.msp_grammar.specs.declared.lines.fault.FileFault.TheVariants.{Key, Memory}
use Rattle.msp_cert_text.specs.declared.kinds.Kind.{Kind}
use Rattle.msp_cert_text.specs.declared.kinds.Kind.TheVariants as kind
use Rattle.msp_cert_text.specs.declared.kinds.TheConstants.{GREATEST_BOUND, MOST_LINES}
use Rattle.msp_cert_text.specs.CertificateText.{kind_of, kind_word, kind_lines, lines_text, certificate_text, printed_certificate, IsStatedBound, IsStatedProof, IsStatedCertificate, IsCertificateText}
use Rattle.msp_cert_text.specs.Reading.{kind_in, kind_at, proof_at, said_of, evidence_at, certified_at, certificate_at, ReadsCertificate}
use Rattle.msp_cert_text.specs.Answers.{IsCertificateFaultOf, IsCertificateFault}
use Rattle.msp_grammar.specs.lines.Answers.{Fails, Gives}
use Rattle.msp_grammar.specs.lines.Reading.{◌>>=◌, Place, word_line_at, all_of}
use Rattle.msp_grammar.specs.lines.Costs.{cost_line_at}
use Rattle.msp_grammar.specs.lines.Steps.{parts_of}
use Rattle.msp_grammar.proofs.reading.LineLaws.{bind_ok, provided_ok, reads, ok_is, bind_again, Takes, Gets, Takes-then, IsField, word_line_takes, word_line_again}
use Rattle.msp_grammar.proofs.reading.LineLaws.{field_line_again, end_text, spread}
use Rattle.msp_grammar.proofs.reading.FieldLaws.{ok_some}
use Rattle.msp_grammar.proofs.reading.CostLaws.{IsCostWithin, with_place, cost_line_takes, cost_line_again}
use Rattle.msp_cert_text.proofs.CertificatePrinting.{printed}
use Rattle.msp_cert_text.proofs.KindTexts.{value_takes, proof_says, proof_again}
use Rattle.msp_cert_text.proofs.LineFaults.{certificate_faults}
use Rattle.msp_cert_text.proofs.Readings.{Said, certificate_same}

-- ---- the kind

some_kind : (k j : Kind) → Some k ≡ Some j → k ≡ j
some_kind k j e = cc

test : (w : List ℕ) (k : Kind) (rest : Option Kind) (j : Kind) → (if bytes_eq w (kind_word k) then Some k else rest) ≡ Some j → (rest ≡ Some j → w ≡ kind_word j) → w ≡ kind_word j
test w k rest j e next = by (bytes_eq w (kind_word k)) refl e
  where
    by : (b : Bool) → bytes_eq w (kind_word k) ≡ b → (if b then Some k else rest) ≡ Some j → w ≡ kind_word j
    by true is e = same_bytes w (kind_word k) is ∙ ap kind_word (some_kind k j e)
    by false is e = next e

none_is : (w : List ℕ) (j : Kind) → None ≡ Some j → w ≡ kind_word j
none_is w j e = absurd cc

kind_is : (w : List ℕ) (j : Kind) → kind_in w ≡ Some j → w ≡ kind_word j
kind_is w j e =
    test w kind.Group _ j e (λ e.
    test w kind.Machine _ j e (λ e.
    test w kind.Line _ j e (λ e.
    test w kind.Levels _ j e (λ e.
    test w kind.Segments _ j e (λ e.
    test w kind.Block _ j e (λ e.
    test w kind.Prices None j e (none_is w j)))))))

kind_again : (k : Kind) → kind_in (kind_word k) ≡ Some k
kind_again kind.Group = refl
kind_again _ = refl

kind_field : (k : Kind) → IsField (kind_word k)
kind_field kind.Group = record { no_space = refl; no_line_feed = refl }
kind_field _ = record { no_space = refl; no_line_feed = refl }

kind_takes : (p : Place) (x : Kind × Place) → kind_at p ≡ Ok x → Takes p (line_text (codes "kind" ∷ kind_word x.0 ∷ [])) x.1
unfolding kind_at
kind_takes p x e = (value_takes (codes "kind") (λ w. ok_or (kind_in w) (Key p.at)) kind_word (λ k. k ≡ k) p x
    (λ w k e. (kind_is w k (ok_some (kind_in w) (Key p.at) k e), refl)) e).0

kind_line_again : (k : Kind) (at : ℕ) (rest : List ℕ) → Gets (kind_at (record { at = at; rest = line_text (codes "kind" ∷ kind_word k ∷ []) ++ rest })) k rest
unfolding kind_at
kind_line_again k at rest =
    let l = field_line_again (codes "kind") (kind_word k) at rest (record { no_space = refl; no_line_feed = refl }) (kind_field k) in
    (l.0, bind_again _ _ _ _ l.1 (rw (kind_again k) refl))

-- ---- the whole

-- What the lines of a certificate text say.
record SaysCertificate (names : List (List ℕ)) (machines : ℕ) (start : Place) (c : Certificate) (q : Place) : Type 0 where
  spelling : List ℕ
  spells : IsFractionText c.bound spelling
  text : Takes start (certificate_text spelling names c.proof) q
  stated : IsStatedCertificate names machines c

stated_bound : (x : Frac) → IsCostWithin GREATEST_BOUND x → IsStatedBound x
stated_bound x h = record { num = h.num; den = h.den }

bound_within : (x : Frac) → IsStatedBound x → IsCostWithin GREATEST_BOUND x
bound_within x h = record { num = h.num; den = h.den }

title : List ℕ
title = line_text (codes "certificate" ∷ [])

bound_line : List ℕ → List ℕ
bound_line w = line_text (codes "bound" ∷ w ∷ [])

kind_line : Kind → List ℕ
kind_line k = line_text (codes "kind" ∷ kind_word k ∷ [])

certificate_is : (spelling : List ℕ) (names : List (List ℕ)) (x : Proof)
    → certificate_text spelling names x ≡ title ++ bound_line spelling ++ kind_line (kind_of x) ++ lines_text (kind_lines names x) ++ end_text
unfolding certificate_text title bound_line kind_line
certificate_is spelling names x = refl

abbrev said_at : (ℤ × ℤ) → Proof → Place → Said × Place
said_at x p q = ((x, p), q)

module _ (names : List (List ℕ)) (machines : ℕ) (named : length names < PLACES) (small : machines < PLACES) where
  certified_takes : (start : Place) (c : Certificate) (q : Place) → certified_at names machines start ≡ Ok (said_at (parts_of c.bound) c.proof q) → SaysCertificate names machines start c q
  unfolding certified_at evidence_at title bound_line kind_line
  certified_takes start c q h =
      let last = said_at (parts_of c.bound) c.proof q in
      let t = bind_ok (word_line_at (codes "certificate") start) _ last h in
      let b = bind_ok (cost_line_at (codes "bound") GREATEST_BOUND t.0) _ last t.2 in
      let k = bind_ok (kind_at b.0.1) _ last b.2 in
      let l = bind_ok (proof_at names machines k.0.0 k.0.1) _ last k.2 in
      let both = ok_is (said_at b.0.0 l.0.0 l.0.1) last l.2 in
      let a = proof_says names machines (omega (arith, named)) (omega (arith, small)) k.0.0 k.0.1 l.0 l.1 in
      let bound = cost_line_takes GREATEST_BOUND (omega arith) (codes "bound") t.0 c.bound b.0.1 (b.1 ∙ ap (λ (y : Said × Place). reads (with_place y.0.0 b.0.1)) both) in
      let proof = ap (λ (y : Said × Place). y.0.1) both in
      let two = Takes-then start t.0 b.0.1 title (bound_line bound.spelling) (word_line_takes (codes "certificate") start t.0 t.1) bound.text in
      let three = Takes-then start b.0.1 k.0.1 (title ++ bound_line bound.spelling) (kind_line k.0.0) two (kind_takes b.0.1 k.0 k.1) in
      let four = Takes-then start k.0.1 l.0.1 (title ++ bound_line bound.spelling ++ kind_line k.0.0) (lines_text (kind_lines names l.0.0) ++ end_text) three a.text in
      let five : Takes start (title ++ bound_line bound.spelling ++ kind_line k.0.0 ++ lines_text (kind_lines names l.0.0) ++ end_text) l.0.1 =
      subst (λ (text : List ℕ). Takes start text l.0.1) (sym (append_assoc (title ++ bound_line bound.spelling ++ kind_line k.0.0) (lines_text (kind_lines names l.0.0)) end_text)) four in
      let six : Takes start (title ++ bound_line bound.spelling ++ kind_line (kind_of l.0.0) ++ lines_text (kind_lines names l.0.0) ++ end_text) l.0.1 =
      subst (λ (j : Kind). Takes start (title ++ bound_line bound.spelling ++ kind_line j ++ lines_text (kind_lines names l.0.0) ++ end_text) l.0.1) (sym a.is) five in
      let whole : Takes start (certificate_text bound.spelling names l.0.0) l.0.1 =
      subst (λ (text : List ℕ). Takes start text l.0.1) (sym (certificate_is bound.spelling names l.0.0)) six in
      record {
        spelling = bound.spelling;
        spells = bound.spells;
        text = subst (λ (p : Place). Takes start (certificate_text bound.spelling names c.proof) p)
            (ap (λ (y : Said × Place). y.1) both) (subst (λ (y : Proof). Takes start (certificate_text bound.spelling names y) l.0.1) proof whole);
        stated = record {
          bound = stated_bound c.bound bound.range;
          few = subst (λ (y : Proof). length (kind_lines names y) ≤ MOST_LINES) proof a.few;
          numbers = subst (IsStatedProof names machines) proof a.numbers;
        };
      }

  pub certificate_taken : (line : ℕ) (b : List ℕ) (c : Certificate) → ReadsCertificate names machines line b (Ok c) → IsCertificateText b names machines c
  certificate_taken line b c h =
      let start : Place = record { at = line; rest = b } in
      let x = bind_ok (certified_at names machines start) all_of (said_of c) h in
      let g = provided_ok _ _ _ (said_of c) x.2 in
      let says = certified_takes start c x.0.1 (x.1 ∙ ap (λ (y : Said). reads (said_at y.0 y.1 x.0.1)) (ok_is x.0.0 (said_of c) g.1)) in
      let nothing : x.0.1.rest ≡ [] = nil_from_length x.0.1.rest (eqb-true _ _ g.0) in
      let text = certificate_text says.spelling names c.proof in
      record { spelling = says.spelling; spells = says.spells; text = says.text ∙ ap (λ (r : List ℕ). text ++ r) nothing ∙ append-nil text; stated = says.stated }

  module _ (spelled : All IsJobName names) (apart : AreDistinct names) where
    certified_again : (at : ℕ) (spelling : List ℕ) (c : Certificate) (rest : List ℕ) → IsFractionText c.bound spelling → IsStatedCertificate names machines c
        → Gets (certified_at names machines (record { at = at; rest = certificate_text spelling names c.proof ++ rest })) (said_of c) rest
    unfolding certified_at evidence_at title bound_line kind_line
    certified_again at spelling c rest spells h =
        let inner = lines_text (kind_lines names c.proof) in
        let lines = (inner ++ end_text) ++ rest in
        let bound = bound_line spelling in
        let k = kind_line (kind_of c.proof) in
        let text : certificate_text spelling names c.proof ++ rest ≡ title ++ (bound ++ (k ++ lines)) =
        ap (λ (b : List ℕ). b ++ rest) (certificate_is spelling names c.proof)
        ∙ spread title bound k inner end_text rest ∙ ap (λ (b : List ℕ). title ++ (bound ++ (k ++ b))) (sym (append_assoc inner end_text rest)) in
        let t = word_line_again (codes "certificate") at (bound ++ (k ++ lines)) (record { no_space = refl; no_line_feed = refl }) in
        let b = cost_line_again GREATEST_BOUND (omega arith)
        (codes "bound") t.0 spelling c.bound (k ++ lines) (record { no_space = refl; no_line_feed = refl }) spells (bound_within c.bound h.bound) in
        let kind_read = kind_line_again (kind_of c.proof) b.0 lines in
        let p = proof_again names machines (omega (arith, named)) (omega (arith, small)) apart spelled c.proof kind_read.0 rest h.numbers h.few in (
          p.0,
          bind_again _ _ _ _ (ap (λ (b : List ℕ). word_line_at (codes "certificate") (record { at = at; rest = b })) text ∙ t.1) (
              bind_again _ _ _ _ b.1 (
              bind_again _ _ _ _ kind_read.1 (
              bind_again _ _ _ _ p.1 refl))),
        )

    pub certificate_again : (line : ℕ) (b : List ℕ) (c : Certificate) → IsCertificateText b names machines c → ReadsCertificate names machines line b (Ok c)
    certificate_again line b c h =
        let g = certified_again line h.spelling c [] h.spells h.stated in
        let text : b ≡ certificate_text h.spelling names c.proof ++ [] = h.text ∙ sym (append-nil (certificate_text h.spelling names c.proof)) in
        ap (λ (t : List ℕ). certified_at names machines (record { at = line; rest = t }) >>= all_of) text ∙ bind_again _ all_of _ _ g.1 refl

    pub printed_again : (line : ℕ) (c : Certificate) → IsStatedCertificate names machines c → ReadsCertificate names machines line (printed_certificate names c) (Ok c)
    printed_again line c h = certificate_again line (printed_certificate names c) c (printed names machines c (printed_certificate names c) h refl)

    -- ---- the reader

    pub no_certificate_fault : (line : ℕ) (b : List ℕ) (e : FileFault) → IsCertificateFaultOf names machines line b e → (c : Certificate) → IsCertificateText b names machines c → Fails e (reads c)
    no_certificate_fault line b Memory k c h = tt
    no_certificate_fault line b e k c h = certificate_same names machines line b (reads c) (Err e) (certificate_again line b c h) k

pub certificate_fault_of : (names : List (List ℕ)) (machines line : ℕ) (b : List ℕ) (e : FileFault) → Fails e (certificate_at names machines line b) → IsCertificateFaultOf names machines line b e
certificate_fault_of names machines line b Memory h = tt
certificate_fault_of names machines line b e h = h

-- what is answered to the text of a certificate
pub certificate_answered : (names : List (List ℕ)) (machines : ℕ)
    → length names < PLACES → machines < PLACES → All IsJobName names → AreDistinct names → (line : ℕ) (b : List ℕ) (r : Result Certificate FileFault)
    → Gives said_of r (certificate_at names machines line b) → (c : Certificate) → IsCertificateText b names machines c → Gives (λ f. f) r (reads c)
certificate_answered names machines named small spelled apart line b (Ok f) k c h =
    certificate_same names machines line b (reads c) (Ok f) (certificate_again names machines named small spelled apart line b c h) k
certificate_answered names machines named small spelled apart line b (Err e) k c h =
    no_certificate_fault names machines named small spelled apart line b e (certificate_fault_of names machines line b e k) c h

-- the faults that are answered
pub certificate_faults_answered : (names : List (List ℕ)) (machines line : ℕ) (b : List ℕ) (r : Result Certificate FileFault)
    → Gives said_of r (certificate_at names machines line b) → IfErr r (λ e. IsCertificateFault e)
certificate_faults_answered names machines line b (Ok f) k = tt
certificate_faults_answered names machines line b (Err Memory) k = tt
certificate_faults_answered names machines line b (Err e) k = certificate_faults names machines line b e k

pub ruleset certificate_rules = (certificate_fault_of, certificate_taken)
