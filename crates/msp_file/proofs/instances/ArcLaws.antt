-- The lines of arcs: what is read is the text of the arcs, and the text of arcs is read as those arcs.
use Rattle.std.proofs.Common.{◌≡◌, ◌≢◌, ℕ, ◌<◌, ◌≤◌, Bool, true, false, not, ◌&&◌, ◌==◌, if◌then◌else◌, List, [], ◌∷◌, ◌++◌, length, All, AllPairs, Contains, None, Ok, bytes_eq}
use Rattle.std.proofs.Common.{codes, refl, sym, ap, subst, ◌∙◌, append_assoc, append-nil, arith, length-append, ltb-true, lt-ltb, eqb-true, eq-eqb}
use Rattle.std.specs.List.{AllByRecursion}
use Rattle.std.proofs.lemmas.Bool.{and_parts, both_ways, not-true, not_from_false, false_from_ne_true}
use Rattle.std.proofs.lemmas.Map.Views.{Contains-from_any}
use Rattle.std.proofs.lemmas.List.Folds.{list_any_at}
use Rattle.std.proofs.lemmas.List.{get_or_at}
use Rattle.std.proofs.lemmas.List.Elements.{All-push}
use Rattle.msp_instance.specs.declared.Arc.{Arc}
use Rattle.msp_class.specs.declared.sizes.TheConstants.{MOST_ARCS}
use Rattle.msp_file.specs.declared.instance.draft.Draft.{Draft}
use Rattle.msp_text.specs.JobName.{IsJobName, AreDistinct}
use Rattle.msp_grammar.specs.ScheduleText.{name_at}
use Rattle.msp_grammar.specs.InstanceText.{line_text, arc_fields, arcs_text}
use Rattle.msp_file.specs.instance.ArcFlags.{is_arc_among}
use Rattle.msp_grammar.specs.lines.Reading.{◌>>=◌, Place, line_at, fields_of, first_of, others_of, LineRead, job_read, more_read, end_read, end_at}
use Rattle.msp_file.specs.instance.Reading.{with_arc, arc_line_at, arc_or_end, arc_step}
use Rattle.msp_text.proofs.NameLists.{same_bytes}
use Rattle.msp_file.proofs.instances.Apart.{apart_push, apart_before}
use Rattle.msp_grammar.proofs.reading.LineLaws.{bind_ok, provided_ok, ok_is, Takes, Takes-then, IsField, fields_takes, line_then, two_fields, end_text, end_field, end_takes}
use Rattle.msp_grammar.proofs.reading.Lines.{line_less, Follows, GetsLines, line_gets}
use Rattle.msp_grammar.proofs.reading.FieldLaws.{known_takes, known_again, name_field}

-- ---- the line of an arc

abbrev same_arc : Arc → Arc → Bool
same_arc a b = (b.before == a.before) && (b.after == a.after)

same_arc_is : (a b : Arc) → same_arc a b ≡ true → a ≡ b
same_arc_is a b h =
    let parts = and_parts (b.before == a.before) (b.after == a.after) h in
    rw (sym (eqb-true _ _ parts.0), sym (eqb-true _ _ parts.1)) refl

same_arc_itself : (a : Arc) → same_arc a a ≡ true
same_arc_itself a = rw (eq-eqb a.before a.before refl, eq-eqb a.after a.after refl) refl

not_there : (arcs : List Arc) (a : Arc) → not (is_arc_among arcs a.before a.after) ≡ true → ¬ Contains arcs a
not_there arcs a h m =
    both_ways _ (not-true _ h) (list_any_at (same_arc a) arcs m.0 a m.1 (subst (λ (b : Arc). same_arc a b ≡ true) (sym m.2) (same_arc_itself a)))

is_new : (arcs : List Arc) (a : Arc) → ¬ Contains arcs a → not (is_arc_among arcs a.before a.after) ≡ true
is_new arcs a h = not_from_false _ (false_from_ne_true _ (λ e. h (Contains-from_any {eq = same_arc} same_arc_is a arcs e)))

-- What the line of an arc adds to a draft.
pub record AddsArc (d : Draft) (fields : List (List ℕ)) (e : Draft) : Type 0 where
  pub arc : Arc
  pub added : e ≡ with_arc d arc.before arc.after
  pub line : fields ≡ name_at d.names arc.before ∷ name_at d.names arc.after ∷ []
  pub before : arc.before < length d.names
  pub after : arc.after < length d.names
  pub fresh : ¬ Contains d.arcs arc
  pub few : length d.arcs < MOST_ARCS

pub arc_takes : (at : ℕ) (d : Draft) (fields : List (List ℕ)) (e : Draft) → arc_line_at at d fields ≡ Ok e → AddsArc d fields e
unfolding arc_line_at
arc_takes at d fields e h =
    let a = provided_ok _ _ _ e h in
    let b = provided_ok _ _ _ e a.1 in
    let before = bind_ok _ _ e b.1 in
    let after = bind_ok _ _ e before.2 in
    let new = provided_ok _ _ _ e after.2 in
    let first = known_takes at d.names (first_of fields) before.0 before.1 in
    let second = known_takes at d.names (first_of (others_of fields)) after.0 after.1 in
    record {
      arc = record { before = before.0; after = after.0 };
      added = sym (ok_is (with_arc d before.0 after.0) e new.1);
      line = two_fields fields b.0 ∙ ap (λ (w : List ℕ). w ∷ first_of (others_of fields) ∷ []) first.0 ∙ ap (λ (w : List ℕ). name_at d.names before.0 ∷ w ∷ []) second.0;
      before = first.1;
      after = second.1;
      fresh = not_there d.arcs (record { before = before.0; after = after.0 }) new.0;
      few = ltb-true _ _ a.0;
    }

pub arc_again : (at : ℕ) (d : Draft) (a : Arc) → AreDistinct d.names → All IsJobName d.names → a.before < length d.names → a.after < length d.names → ¬ Contains d.arcs a → length d.arcs < MOST_ARCS
    → arc_line_at at d (name_at d.names a.before ∷ name_at d.names a.after ∷ []) ≡ Ok (with_arc d a.before a.after)
unfolding arc_line_at
arc_again at d a apart spelled before after fresh few =
    rw (lt-ltb (length d.arcs) MOST_ARCS few, known_again at d.names a.before apart spelled before, known_again at d.names a.after apart spelled after, is_new d.arcs a fresh) refl

pub arc_line_fields : (names : List (List ℕ)) (a : Arc) → All IsJobName names → a.before < length names → a.after < length names → AllByRecursion IsField (arc_fields names a)
arc_line_fields names a spelled before after =
    (record { no_space = refl; no_line_feed = refl }, (name_field _ (spelled a.before [] before), (name_field _ (spelled a.after [] after), tt)))

-- ---- the lines after an arc

-- Arcs between jobs of these names, each once, as many as a text can have.
pub record AreArcs (names : List (List ℕ)) (arcs : List Arc) : Type 0 where
  pub ends : All (λ a. (a.before < length names) × (a.after < length names)) arcs
  pub once : AllPairs (λ a b. a ≢ b) arcs
  pub few : length arcs ≤ MOST_ARCS

-- The draft with more arcs at the end.
abbrev pub with_arcs : Draft → List Arc → Draft
with_arcs d more = record d { arcs = d.arcs ++ more }

-- What the lines after an arc add to a draft.
pub record AddsArcs (d : Draft) (p : Place) (e : Draft) (q : Place) : Type 0 where
  pub more : List Arc
  pub added : e ≡ with_arcs d more
  pub text : Takes p (arcs_text d.names more ++ end_text) q
  pub fit : AreArcs d.names (d.arcs ++ more)

one_arc : (d : Draft) (fields : List (List ℕ)) (e : Draft) (h : AddsArc d fields e) → AreArcs d.names d.arcs → AreArcs d.names (d.arcs ++ h.arc ∷ [])
one_arc d fields e h fit =
    record {
      ends = All-push (λ a. (a.before < length d.names) × (a.after < length d.names)) d.arcs h.arc fit.ends (h.before, h.after);
      once = apart_push d.arcs h.arc fit.once h.fresh;
      few = omega (arith, h.few, length-append d.arcs (h.arc ∷ []));
    }

-- an arc, and what the lines after it add
pub then_arcs : (d : Draft) (fields : List (List ℕ)) (e : Draft) (p q : Place) (x : Draft × Place) → Takes p (line_text (codes "arc" ∷ fields)) q → AddsArc d fields e → AreArcs d.names d.arcs
    → (AreArcs e.names e.arcs → AddsArcs e q x.0 x.1) → AddsArcs d p x.0 x.1
then_arcs d fields e p q x t h fit rest =
    subst (λ (e : Draft). (AreArcs e.names e.arcs → AddsArcs e q x.0 x.1) → AddsArcs d p x.0 x.1) (sym h.added) (λ after. made (after (one_arc d fields e h fit))) rest
  where
    f : Draft
    f = with_arc d h.arc.before h.arc.after

    line : Takes p (line_text (arc_fields d.names h.arc)) q
    line = subst (λ (ws : List (List ℕ)). Takes p (line_text (codes "arc" ∷ ws)) q) h.line t

    made : AddsArcs f q x.0 x.1 → AddsArcs d p x.0 x.1
    made a =
        record {
          more = h.arc ∷ a.more;
          added = a.added ∙ ap (λ (arcs : List Arc). record d { arcs = arcs }) (append_assoc d.arcs (h.arc ∷ []) a.more);
          text = subst (λ (b : List ℕ). p.rest ≡ b ++ x.1.rest) (sym (append_assoc (line_text (arc_fields d.names h.arc)) (arcs_text d.names a.more) end_text))
              (Takes-then p q x.1 (line_text (arc_fields d.names h.arc)) (arcs_text d.names a.more ++ end_text) line a.text);
          fit = subst (AreArcs d.names) (append_assoc d.arcs (h.arc ∷ []) a.more) a.fit;
        }

no_arcs : (d : Draft) (p : Place) (x : Draft × Place) (q : Place) → AreArcs d.names d.arcs → x ≡ (d, q) → Takes p end_text q → AddsArcs d p x.0 x.1
no_arcs d p x q fit e t =
    subst (λ (y : Draft × Place). AddsArcs d p y.0 y.1) (sym e)
    (record { more = []; added = ap (λ (arcs : List Arc). record d { arcs = arcs }) (sym (append-nil d.arcs)); text = t; fit = subst (AreArcs d.names) (sym (append-nil d.arcs)) fit })

-- What a line that is no job's says: an arc, where there may be one, or the end.
abbrev pub TakesArc : Bool → Draft → Place → LineRead Draft → Type 0
TakesArc may d p (job_read e q) = ⊥
TakesArc may d p (more_read e q) = (fields : List (List ℕ)) × Takes p (line_text (codes "arc" ∷ fields)) q × AddsArc d fields e × (may ≡ true)
TakesArc may d p (end_read e q) = (e ≡ d) × Takes p end_text q

pub arc_or_end_takes : (may : Bool) (at : ℕ) (d : Draft) (fields : List (List ℕ)) (p q : Place) (next : LineRead Draft)
    → Takes p (line_text (first_of fields ∷ others_of fields)) q → arc_or_end may at d fields q ≡ Ok next → TakesArc may d p next
arc_or_end_takes may at d fields p q next t = by (may && bytes_eq (first_of fields) (codes "arc")) refl
  where
    by : (b : Bool) → (may && bytes_eq (first_of fields) (codes "arc")) ≡ b
        → (if b then (arc_line_at at d (others_of fields) >>= λ more. Ok (more_read more q)) else end_at at d fields q) ≡ Ok next → TakesArc may d p next
    by true is e =
        let parts = and_parts may (bytes_eq (first_of fields) (codes "arc")) is in
        let l = bind_ok _ _ next e in
        let line = subst (λ (w : List ℕ). Takes p (line_text (w ∷ others_of fields)) q) (same_bytes (first_of fields) (codes "arc") parts.1) t in
        subst (TakesArc may d p) (ok_is (more_read l.0 q) next l.2) (others_of fields, line, arc_takes at d (others_of fields) l.0 l.1, parts.0)
    by false is e = let l = end_takes at d fields p q next t e in subst (TakesArc may d p) (sym l.0) (refl, l.1)

pub arc_step_takes : (d : Draft) (p : Place) (next : LineRead Draft) → arc_step d p ≡ Ok next → TakesArc true d p next
unfolding arc_step
arc_step_takes d p next e =
    let l = bind_ok (line_at p) _ next e in
    arc_or_end_takes true p.at d (fields_of l.0.0) p l.0.1 next (fields_takes p l.0 l.1) l.2

abbrev pub Arcs : Draft → Place → Draft × Place → Type 0
Arcs d p x = AreArcs d.names d.arcs → AddsArcs d p x.0 x.1

pub arcs_on : (d : Draft) (p : Place) (line : LineRead Draft) (x : Draft × Place) → arc_step d p ≡ Ok line → Follows None Arcs line x → Arcs d p x
arcs_on d p line x e = by line (arc_step_takes d p line e)
  where
    by : (line : LineRead Draft) → TakesArc true d p line → Follows None Arcs line x → Arcs d p x
    by (job_read e q) t k fit = absurd t
    by (more_read e q) t k fit = then_arcs d t.0 e p q x t.1 t.2 fit k
    by (end_read e q) t k fit = no_arcs d p x q fit (k ∙ ap (λ (y : Draft). (y, q)) t.0) t.1

-- an arc at its place among others
pub arc_in : (names : List (List ℕ)) (arcs : List Arc) (a : Arc) (more : List Arc) → AreArcs names (arcs ++ a ∷ more)
    → (a.before < length names) × (a.after < length names) × (¬ Contains arcs a) × (length arcs < MOST_ARCS) × AreArcs names ((arcs ++ a ∷ []) ++ more)
arc_in names arcs a more fit =
    let within : length arcs < length (arcs ++ a ∷ more) = omega (arith, length-append arcs (a ∷ more)) in
    let ends = subst (λ (b : Arc). (b.before < length names) × (b.after < length names)) (get_or_at arcs a more a (length arcs) refl) (fit.ends (length arcs) a within) in
    (ends.0, ends.1, apart_before arcs a more fit.once, omega (arith, fit.few), subst (AreArcs names) (sym (append_assoc arcs (a ∷ []) more)) fit)

pub arcs_again : (more : List Arc) (d : Draft) (at : ℕ) (rest : List ℕ) → AreDistinct d.names → All IsJobName d.names → AreArcs d.names (d.arcs ++ more)
    → GetsLines arc_step None d (record { at = at; rest = (arcs_text d.names more ++ end_text) ++ rest }) (with_arcs d more) rest
unfolding arc_step
arcs_again [] d at rest apart spelled fit =
    let l = line_then (arc_or_end true at d) at (codes "end") [] rest end_field in
    let q : Place = record { at = l.0; rest = rest } in
    subst (λ (arcs : List Arc). GetsLines arc_step None d (record { at = at; rest = end_text ++ rest }) (record d { arcs = arcs }) rest)
    (sym (append-nil d.arcs)) (line_gets arc_step None d _ (end_read d q) d rest l.1 (λ n enough. (l.0, refl)))
arcs_again (a ∷ more) d at rest apart spelled fit =
    let in_range = arc_in d.names d.arcs a more fit in
    let left = (arcs_text d.names more ++ end_text) ++ rest in
    let line = line_text (arc_fields d.names a) in
    let text : (arcs_text d.names (a ∷ more) ++ end_text) ++ rest ≡ line ++ left =
    ap (λ (b : List ℕ). b ++ rest) (append_assoc line (arcs_text d.names more) end_text) ∙ append_assoc line (arcs_text d.names more ++ end_text) rest in
    let l = line_then (arc_or_end true at d) at (codes "arc") (name_at d.names a.before ∷ name_at d.names a.after ∷ []) left (arc_line_fields d.names a spelled in_range.0 in_range.1) in
    let p : Place = record { at = at; rest = line ++ left } in
    let q : Place = record { at = l.0; rest = left } in
    let one = arc_again at d a apart spelled in_range.0 in_range.1 in_range.2 in_range.3 in
    let g = arcs_again more (with_arc d a.before a.after) l.0 rest apart spelled in_range.4 in
    let all = subst (λ (arcs : List Arc). GetsLines arc_step None (with_arc d a.before a.after) q (record d { arcs = arcs }) rest) (append_assoc d.arcs (a ∷ []) more) g in
    subst (λ (b : List ℕ). GetsLines arc_step None d (record { at = at; rest = b }) (with_arcs d (a ∷ more)) rest) (sym text)
    (line_gets arc_step None d p (more_read (with_arc d a.before a.after) q) (with_arcs d (a ∷ more)) rest (l.1 ∙ ap (λ r. r >>= λ e. Ok (more_read e q)) one)
    (λ n enough. all n (let less = line_less (arc_fields d.names a) p q refl in omega arith)))
