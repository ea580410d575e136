-- The lines of a kind up to the last one: what each of them adds, and how they are read again.
use Rattle.std.proofs.Common.{◌≡◌, ℕ, ◌<◌, Bool, true, false, nat_lt, List, [], ◌∷◌, ◌++◌, length, None, Result, Ok, bytes_eq, codes}
use Rattle.std.proofs.Common.{refl, sym, ap, subst, ◌∙◌, append_assoc, append-nil, ltb-true, lt-ltb, arith}
use Rattle.std.specs.List.{AllByRecursion}
use Rattle.msp_grammar.specs.InstanceText.{line_text}
use Rattle.msp_grammar.specs.declared.lines.fault.FileFault.{FileFault}
use Rattle.msp_grammar.specs.declared.lines.fault.FileFault.TheVariants.{Limit, Line, Count}
use Rattle.msp_grammar.specs.declared.lines.fault.What.TheVariants as what
use Rattle.msp_cert_text.specs.declared.kinds.TheConstants.{MOST_LINES}
use Rattle.msp_cert_text.specs.CertificateText.{lines_text}
use Rattle.msp_cert_text.specs.Reading.{kind_step}
use Rattle.msp_grammar.specs.lines.Reading.{◌>>=◌, provided, Place, line_at, fields_of, first_of, others_of, LineRead, job_read, more_read, end_read, end_at, goes_on, lines_from}
use Rattle.msp_grammar.proofs.reading.LineLaws.{bind_ok, provided_ok, ok_is, Takes, Takes-then, IsField, line_then, end_text, end_field, end_takes}
use Rattle.msp_grammar.proofs.reading.LineFaults.{InBy, fine, chain, given, either}
use Rattle.msp_grammar.proofs.reading.Lines.{line_less, Follows, lines_take, first_take, GetsLines, line_gets}

-- ---- what is read is what was written

-- What one line of a kind adds to what is read: one line to its lines.
pub record OneMore {A : Type 0} (L : A → List (List (List ℕ))) (Fit : A → Type 0) (d : A) (p : Place) (e : A) (q : Place) : Type 0 where
  pub fields : List (List ℕ)
  pub text : Takes p (line_text fields) q
  pub added : L e ≡ L d ++ fields ∷ []
  pub fit : Fit e

-- What a line of a kind says: one line more, or the end.
abbrev pub TakesOne : {A : Type 0} → (A → List (List (List ℕ))) → (A → Type 0) → A → Place → LineRead A → Type 0
TakesOne L Fit d p (job_read e q) = ⊥
TakesOne L Fit d p (more_read e q) = OneMore L Fit d p e q
TakesOne L Fit d p (end_read e q) = (e ≡ d) × Takes p end_text q

-- What a line adds.
abbrev pub Adds : {A : Type 0} → (A → List (List (List ℕ))) → (A → Type 0) → A → List (List ℕ) → A → Type 0
Adds L Fit d fields e = (L e ≡ L d ++ fields ∷ []) × Fit e

pub kind_takes : {A : Type 0} (L : A → List (List (List ℕ))) (Fit : A → Type 0)
    (before : ℕ) (may : Bool) (add : ℕ → A → List (List ℕ) → Result A FileFault) (d : A) (at : ℕ) (fields : List (List ℕ)) (p q : Place) (next : LineRead A)
    → Takes p (line_text (first_of fields ∷ others_of fields)) q
    → ((e : A) → may ≡ true → before < MOST_LINES → add at d (others_of fields) ≡ Ok e → Adds L Fit d (first_of fields ∷ others_of fields) e)
    → kind_step before may add d at fields q ≡ Ok next → TakesOne L Fit d p next
kind_takes L Fit before true add d at fields p q next t adds h =
    let l = bind_ok (provided (nat_lt before MOST_LINES) (Limit at what.Lines) (add at d (others_of fields))) _ next h in
    let a = provided_ok (nat_lt before MOST_LINES) (Limit at what.Lines) (add at d (others_of fields)) l.0 l.1 in
    let one = adds l.0 refl (ltb-true before MOST_LINES a.0) a.1 in
    subst (TakesOne L Fit d p) (ok_is (more_read l.0 q) next l.2) (record { fields = first_of fields ∷ others_of fields; text = t; added = one.0; fit = one.1 })
kind_takes L Fit before false add d at fields p q next t adds h = let l = end_takes at d fields p q next t h in subst (TakesOne L Fit d p) (sym l.0) (refl, l.1)

-- What the lines up to the end add.
pub record MoreTaken {A : Type 0} (L : A → List (List (List ℕ))) (Fit : A → Type 0) (d : A) (p : Place) (e : A) (q : Place) : Type 0 where
  pub more : List (List (List ℕ))
  pub added : L e ≡ L d ++ more
  pub text : Takes p (lines_text more ++ end_text) q
  pub fit : Fit e

one_then : {A : Type 0} (L : A → List (List (List ℕ))) (Fit : A → Type 0) (d : A) (p : Place) (e : A) (q : Place) (x : A × Place)
    → OneMore L Fit d p e q → MoreTaken L Fit e q x.0 x.1 → MoreTaken L Fit d p x.0 x.1
one_then L Fit d p e q x h rest = record {
  more = h.fields ∷ rest.more;
  added = rest.added ∙ ap (λ lines. lines ++ rest.more) h.added ∙ append_assoc (L d) (h.fields ∷ []) rest.more;
  text = subst (λ (b : List ℕ). p.rest ≡ b ++ x.1.rest) (sym (append_assoc (line_text h.fields) (lines_text rest.more) end_text))
      (Takes-then p q x.1 (line_text h.fields) (lines_text rest.more ++ end_text) h.text rest.text);
  fit = rest.fit;
}

module _ {A : Type 0} (step : A → Place → Result (LineRead A) FileFault) (L : A → List (List (List ℕ)))
    (Fit : A → Type 0) (takes : (d : A) (p : Place) (next : LineRead A) → Fit d → step d p ≡ Ok next → TakesOne L Fit d p next) where
  abbrev More : A → Place → A × Place → Type 0
  More d p x = Fit d → MoreTaken L Fit d p x.0 x.1

  more_on : (d : A) (p : Place) (line : LineRead A) (x : A × Place) → step d p ≡ Ok line → Follows None More line x → More d p x
  more_on d p line x e k fit = by line (takes d p line fit e) k
    where
      by : (line : LineRead A) → TakesOne L Fit d p line → Follows None More line x → MoreTaken L Fit d p x.0 x.1
      by (job_read e q) t k = absurd t
      by (more_read e q) t k = one_then L Fit d p e q x t (k t.fit)
      by (end_read e q) t k = subst (λ (y : A × Place). MoreTaken L Fit d p y.0 y.1) (sym (k ∙ ap (λ (y : A). (y, q)) t.0))
          (record { more = []; added = sym (append-nil (L d)); text = t.1; fit = fit })

  pub more_takes : (d : A) (p : Place) (x : A × Place) → Fit d → lines_from step d p ≡ Ok x → MoreTaken L Fit d p x.0 x.1
  more_takes d p x fit e = lines_take step None More more_on _ d p x e fit

  -- the same after a line that is read before the others
  pub more_first : (d : A) (p : Place) (x : A × Place) → Fit d → (step d p >>= goes_on None (lines_from step)) ≡ Ok x → MoreTaken L Fit d p x.0 x.1
  more_first d p x fit e = first_take step None More more_on d p x e fit

-- ---- what was written is read again

pub may_again : {A : Type 0} (before : ℕ) (may : Bool) (add : ℕ → A → List (List ℕ) → Result A FileFault) (d e : A) (at : ℕ) (fields : List (List ℕ)) (q : Place)
    → may ≡ true → before < MOST_LINES → add at d (others_of fields) ≡ Ok e → kind_step before may add d at fields q ≡ Ok (more_read e q)
may_again before may add d e at fields q h few k = rw (h, lt-ltb before MOST_LINES few, k) refl

module _ {A : Type 0} (step : A → Place → Result (LineRead A) FileFault) (by : A → ℕ → List (List ℕ) → Place → Result (LineRead A) FileFault)
    (is : (d : A) (p : Place) → step d p ≡ (line_at p >>= λ l. by d p.at (fields_of l.0) l.1)) where
  pub last_on : (d : A) (at : ℕ) (rest : List ℕ) → ((q : Place) → by d at (codes "end" ∷ []) q ≡ Ok (end_read d q))
      → (next : ℕ) × (step d (record { at = at; rest = end_text ++ rest }) ≡ Ok (end_read d (record { at = next; rest = rest })))
  last_on d at rest h = let l = line_then (by d at) at (codes "end") [] rest end_field in (l.0, is d (record { at = at; rest = end_text ++ rest }) ∙ l.1 ∙ h (record { at = l.0; rest = rest }))

  pub end_on : (d : A) (at : ℕ) (rest : List ℕ) → ((q : Place) → by d at (codes "end" ∷ []) q ≡ Ok (end_read d q)) → GetsLines step None d (record { at = at; rest = end_text ++ rest }) d rest
  end_on d at rest h = let l = last_on d at rest h in line_gets step None d _ (end_read d (record { at = l.0; rest = rest })) d rest l.1 (λ n enough. (l.0, refl))

  -- one line, and the place after it
  pub step_on : (d e : A) (w : List ℕ) (ws : List (List ℕ)) (lines : List (List (List ℕ))) (at : ℕ) (rest : List ℕ)
      → AllByRecursion IsField (w ∷ ws) → ((q : Place) → by d at (w ∷ ws) q ≡ Ok (more_read e q))
      → (next : ℕ) × (step d (record { at = at; rest = (lines_text ((w ∷ ws) ∷ lines) ++ end_text) ++ rest }) ≡ Ok (more_read e (record { at = next; rest = (lines_text lines ++ end_text) ++ rest })))
      × (length ((lines_text lines ++ end_text) ++ rest) < length ((lines_text ((w ∷ ws) ∷ lines) ++ end_text) ++ rest))
  step_on d e w ws lines at rest fields h =
      let left : List ℕ = (lines_text lines ++ end_text) ++ rest in
      let text : (lines_text ((w ∷ ws) ∷ lines) ++ end_text) ++ rest ≡ line_text (w ∷ ws) ++ left =
      ap (λ (b : List ℕ). b ++ rest) (append_assoc (line_text (w ∷ ws)) (lines_text lines) end_text) ∙ append_assoc (line_text (w ∷ ws)) (lines_text lines ++ end_text) rest in
      let l = line_then (by d at) at w ws left fields in
      let one : step d (record { at = at; rest = line_text (w ∷ ws) ++ left }) ≡ Ok (more_read e (record { at = l.0; rest = left })) =
      is d (record { at = at; rest = line_text (w ∷ ws) ++ left }) ∙ l.1 ∙ h (record { at = l.0; rest = left }) in (
        l.0,
        ap (λ (b : List ℕ). step d (record { at = at; rest = b })) text ∙ one,
        line_less (w ∷ ws) (record { at = at; rest = (lines_text ((w ∷ ws) ∷ lines) ++ end_text) ++ rest }) (record { at = l.0; rest = left }) text,
      )

  pub line_on : (d e x : A) (w : List ℕ) (ws : List (List ℕ)) (lines : List (List (List ℕ))) (at : ℕ) (rest : List ℕ)
      → AllByRecursion IsField (w ∷ ws) → ((q : Place) → by d at (w ∷ ws) q ≡ Ok (more_read e q))
      → ((next : ℕ) → GetsLines step None e (record { at = next; rest = (lines_text lines ++ end_text) ++ rest }) x rest)
      → GetsLines step None d (record { at = at; rest = (lines_text ((w ∷ ws) ∷ lines) ++ end_text) ++ rest }) x rest
  line_on d e x w ws lines at rest fields h on =
      let l = step_on d e w ws lines at rest fields h in
      line_gets step None d _ (more_read e (record { at = l.0; rest = (lines_text lines ++ end_text) ++ rest })) x rest l.1 (λ n enough. on l.0 n (omega (arith, enough, l.2)))

-- what one line more adds
pub kind_more : {A : Type 0} (before : ℕ) (may : Bool) (add : ℕ → A → List (List ℕ) → Result A FileFault) (d e : A) (at : ℕ) (fields : List (List ℕ)) (q r : Place)
    → kind_step before may add d at fields q ≡ Ok (more_read e r) → add at d (others_of fields) ≡ Ok e
kind_more before true add d e at fields q r h =
    let l = bind_ok (provided (nat_lt before MOST_LINES) (Limit at what.Lines) (add at d (others_of fields))) _ (more_read e r) h in
    let a = provided_ok (nat_lt before MOST_LINES) (Limit at what.Lines) (add at d (others_of fields)) l.0 l.1 in
    let same = ok_is (more_read l.0 q) (more_read e r) l.2 in
    let is : l.0 ≡ e = cc in
    a.1 ∙ ap Ok is
kind_more before false add d e at fields q r h =
    let a = provided_ok (bytes_eq (first_of fields) (codes "end")) (Line at) _ (more_read e r) h in
    let b = provided_ok _ (Count at) (Ok (end_read d q)) (more_read e r) a.1 in
    let same = ok_is (end_read d q) (more_read e r) b.1 in
    absurd cc

-- ---- faults

pub kind_in_by : {P : FileFault → Type 0} {A : Type 0} (before : ℕ) (may : Bool) (add : ℕ → A → List (List ℕ) → Result A FileFault) (d : A) (at : ℕ) (fields : List (List ℕ)) (q : Place)
    → P (Limit at what.Lines) → InBy P (add at d (others_of fields)) → InBy P (end_at at d fields q) → InBy P (kind_step before may add d at fields q)
kind_in_by before may add d at fields q limit adds ends = either may _ _ (chain _ _ (given (nat_lt before MOST_LINES) (Limit at what.Lines) _ limit adds) (λ e. fine _)) ends
