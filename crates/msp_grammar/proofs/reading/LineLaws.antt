-- A line that is read is the line that was written, and what was written is read again.
use Rattle.std.proofs.Common.{◌≡◌, ℕ, suc, ◌+◌, ◌≤◌, Bool, true, false, ltb, ◌==◌, List, [], ◌∷◌, ◌++◌, length, take, drop, get_or, position, bytes_eq, Option, Some, None}
use Rattle.std.proofs.Common.{Result, Ok, Err, refl, sym, ap, subst, ◌∙◌, append_assoc, length-append, take-append-drop, drop-cons, take_at, drop_at, add-one, arith}
use Rattle.std.proofs.Common.{codes}
use Rattle.std.specs.List.{AllByRecursion, join_with_byte, position_or_len}
use Rattle.std.proofs.lemmas.Bool.{eqb-true, lt-ltb, false_from_ne_true, both_ways}
use Rattle.std.proofs.lemmas.Slice.Eq.{bytes_eq-Decides}
use Rattle.std.proofs.lemmas.List.{nil_from_length, get_or_append_left, get_or_at}
use Rattle.std.proofs.lemmas.List.Folds.{list_any-append, list_any_at}
use Rattle.std.proofs.lemmas.List.Sums.{position_or_len_is}
use Rattle.std.proofs.lemmas.List.Quantifiers.{position-Some}
use Rattle.std.proofs.lemmas.List.Splits.{join_with_byte-slice_split, length-slice_split}
use Rattle.msp_name.proofs.Separators.{Lacks, parts-whole, parts-first}
use Rattle.msp_grammar.specs.declared.lines.fault.FileFault.{FileFault}
use Rattle.msp_grammar.specs.declared.lines.fault.FileFault.TheVariants.{Missing, Cut, Line, Count}
use Rattle.msp_grammar.specs.ScheduleText.{line_feed}
use Rattle.msp_grammar.specs.InstanceText.{line_text}
use Rattle.msp_grammar.specs.lines.Reading.{◌>>=◌, provided, Place, line_at, fields_of, first_of, others_of, worded_at, word_line_at, field_line_at, LineRead, end_read, end_at}
use Rattle.msp_text.proofs.NameLists.{same_bytes}

-- ---- steps that did not fail

pub bind_ok : {A B : Type 0} (r : Result A FileFault) (f : A → Result B FileFault) (y : B) → (r >>= f) ≡ Ok y → (x : A) × (r ≡ Ok x) × (f x ≡ Ok y)
bind_ok (Ok x) f y e = (x, refl, e)
bind_ok (Err d) f y e = absurd cc

pub provided_ok : {A : Type 0} (b : Bool) (d : FileFault) (next : Result A FileFault) (y : A) → provided b d next ≡ Ok y → (b ≡ true) × (next ≡ Ok y)
provided_ok true d next y e = (refl, e)
provided_ok false d next y e = absurd cc

abbrev pub reads : {A : Type 0} → A → Result A FileFault
reads x = Ok x

pub ok_is : {A : Type 0} (x y : A) → reads x ≡ reads y → x ≡ y
ok_is x y e = cc

-- ---- steps that go on

pub bind_again : {A B : Type 0} (r : Result A FileFault) (f : A → Result B FileFault) (x : A) (z : Result B FileFault) → r ≡ Ok x → f x ≡ z → (r >>= f) ≡ z
bind_again r f x z e h = rw e h

pub provided_again : {A : Type 0} (b : Bool) (d : FileFault) (next z : Result A FileFault) → b ≡ true → next ≡ z → provided b d next ≡ z
provided_again b d next z e h = rw e h

-- ---- places

-- The text was taken from the front, and the rest is left.
abbrev pub Takes : Place → List ℕ → Place → Type 0
Takes p text q = p.rest ≡ text ++ q.rest

-- Reading gives the value and leaves the rest.
abbrev pub Gets : {A : Type 0} → Result (A × Place) FileFault → A → List ℕ → Type 0
Gets read x rest = (at : ℕ) × (read ≡ Ok (x, record { at = at; rest = rest }))

pub Takes-then : (p q r : Place) (a b : List ℕ) → Takes p a q → Takes q b r → Takes p (a ++ b) r
Takes-then p q r a b h k = h ∙ ap (λ t. a ++ t) k ∙ sym (append_assoc a b r.rest)

-- ---- lines and fields

-- What can stand between two spaces of a line.
pub record IsField (w : List ℕ) : Type 0 where
  pub no_space : Lacks 32 w
  pub no_line_feed : Lacks 10 w

-- a text cut at its first line feed
cut : (text : List ℕ) (k : ℕ) → position (λ x. x == 10) text ≡ Some k → text ≡ (take k text ++ line_feed) ++ drop (k + 1) text
cut text k e =
    let h = position-Some (λ x. x == 10) text k 0 e in
    let is : get_or text k 0 ≡ 10 = eqb-true (get_or text k 0) 10 h.1 in
    sym (take-append-drop k text)
    ∙ ap (λ t. take k text ++ t) (drop-cons text k 0 h.0 ∙ ap (λ x. x ∷ drop (suc k) text) is ∙ ap (λ n. 10 ∷ drop n text) (sym (add-one k)))
    ∙ sym (append_assoc (take k text) line_feed (drop (k + 1) text))

-- what reading makes of the place of a line feed
ends_at : Place → Option ℕ → Result (List ℕ × Place) FileFault
ends_at p (Some k) = Ok (take k p.rest, record { at = p.at + 1; rest = drop (k + 1) p.rest })
ends_at p None = Err (elim p.rest [ [] ↦ Missing p.at | _ ∷ _ ↦ Cut p.at ])

pub line_takes : (p : Place) (x : List ℕ × Place) → line_at p ≡ Ok x → Takes p (x.0 ++ line_feed) x.1
unfolding line_at ends_at
line_takes p x e = by (position (λ y. y == 10) p.rest) refl e
  where
    by : (o : Option ℕ) → position (λ y. y == 10) p.rest ≡ o → ends_at p o ≡ Ok x → Takes p (x.0 ++ line_feed) x.1
    by (Some k) is e = subst (λ y. Takes p (y.0 ++ line_feed) y.1) (ok_is (take k p.rest, record { at = p.at + 1; rest = drop (k + 1) p.rest }) x e) (cut p.rest k is)
    by None is e = absurd cc

feed_at : (line rest : List ℕ) → Lacks 10 line → position (λ x. x == 10) (line ++ (10 ∷ rest)) ≡ Some (length line)
feed_at line rest h =
    let within : ltb (length line) (length (line ++ (10 ∷ rest))) ≡ true = lt-ltb _ _ (omega (arith, length-append line (10 ∷ rest))) in
    let first : position_or_len (λ x. x == 10) (line ++ (10 ∷ rest)) ≡ length line =
    position_or_len_is (λ x. x == 10) (line ++ (10 ∷ rest)) (length line) 0 (omega (arith, length-append line (10 ∷ rest)))
    (λ k l. ap (λ b. b == 10) (get_or_append_left line (10 ∷ rest) 0 k l) ∙ false_from_ne_true _ (λ e. both_ways _ h (list_any_at (λ x. x == 10) line k 0 l e)))
    (λ _. ap (λ b. b == 10) (get_or_at line 10 rest 0 (length line) refl)) in
    rw (first, within) refl

pub line_again : (at : ℕ) (line rest : List ℕ) → Lacks 10 line → Gets (line_at (record { at = at; rest = (line ++ line_feed) ++ rest })) line rest
unfolding line_at ends_at
line_again at line rest h =
    let text : List ℕ = (line ++ line_feed) ++ rest in
    let there : position (λ x. x == 10) text ≡ Some (length line) = ap (position (λ x. x == 10)) (append_assoc line line_feed rest) ∙ feed_at line rest h in
    let front : take (length line) text ≡ line = ap (take (length line)) (append_assoc line line_feed rest) ∙ take_at line (10 ∷ rest) (length line) refl in
    let back : drop (length line + 1) text ≡ rest = drop_at (line ++ line_feed) rest (length line + 1) (length-append line line_feed) in
    (at + 1, ap (ends_at (record { at = at; rest = text })) there ∙ rw (front, back) refl)

pub fields_join : (line : List ℕ) → join_with_byte 32 (fields_of line) ≡ line
fields_join line = join_with_byte-slice_split 32 line

pub fields_again : (w : List ℕ) (ws : List (List ℕ)) → AllByRecursion IsField (w ∷ ws) → fields_of (join_with_byte 32 (w ∷ ws)) ≡ w ∷ ws
fields_again w [] h = parts-whole 32 w h.0.no_space
fields_again w (v ∷ vs) h = parts-first 32 w (join_with_byte 32 (v ∷ vs)) h.0.no_space ∙ ap (λ ps. w ∷ ps) (fields_again v vs h.1)

pub join_lacks : (w : List ℕ) (ws : List (List ℕ)) → AllByRecursion IsField (w ∷ ws) → Lacks 10 (join_with_byte 32 (w ∷ ws))
join_lacks w [] h = h.0.no_line_feed
join_lacks w (v ∷ vs) h = list_any-append (λ x. x == 10) w (32 ∷ join_with_byte 32 (v ∷ vs)) ∙ rw (h.0.no_line_feed) (join_lacks v vs h.1)

-- a line has a first field
pub begun : (ws : List (List ℕ)) → 1 ≤ length ws → first_of ws ∷ others_of ws ≡ ws
begun [] h = absurd (omega arith)
begun (w ∷ ws) h = refl

fields_begin : (line : List ℕ) → first_of (fields_of line) ∷ others_of (fields_of line) ≡ fields_of line
fields_begin line = begun (fields_of line) (omega (arith, length-slice_split (λ x. x == 32) line))

-- a line by its first field and the others
pub fields_takes : (p : Place) (x : List ℕ × Place) → line_at p ≡ Ok x → Takes p (line_text (first_of (fields_of x.0) ∷ others_of (fields_of x.0))) x.1
fields_takes p x e =
    let whole : join_with_byte 32 (first_of (fields_of x.0) ∷ others_of (fields_of x.0)) ≡ x.0 = ap (join_with_byte 32) (fields_begin x.0) ∙ fields_join x.0 in
    line_takes p x e ∙ ap (λ line. (line ++ line_feed) ++ x.1.rest) (sym whole)

pub fields_line_again : (at : ℕ) (w : List ℕ) (ws : List (List ℕ)) (rest : List ℕ)
    → AllByRecursion IsField (w ∷ ws) → Gets (line_at (record { at = at; rest = line_text (w ∷ ws) ++ rest })) (join_with_byte 32 (w ∷ ws)) rest
fields_line_again at w ws rest h = line_again at (join_with_byte 32 (w ∷ ws)) rest (join_lacks w ws h)

pub worded_takes : (word : List ℕ) (p : Place) (x : List (List ℕ) × Place) → worded_at word p ≡ Ok x → Takes p (line_text (word ∷ x.0)) x.1
unfolding worded_at
worded_takes word p x e =
    let l = bind_ok (line_at p) (λ l. provided (bytes_eq (first_of (fields_of l.0)) word) (Line p.at) (Ok (others_of (fields_of l.0), l.1))) x e in
    let line = l.0 in
    let t = provided_ok (bytes_eq (first_of (fields_of line.0)) word) (Line p.at) (Ok (others_of (fields_of line.0), line.1)) x l.2 in
    let is : first_of (fields_of line.0) ≡ word = same_bytes _ _ t.0 in
    subst (λ y. Takes p (line_text (word ∷ y.0)) y.1) (ok_is (others_of (fields_of line.0), line.1) x t.1)
    (subst (λ v. Takes p (line_text (v ∷ others_of (fields_of line.0))) line.1) is (fields_takes p line l.1))

pub worded_again : (word : List ℕ) (ws : List (List ℕ)) (at : ℕ) (rest : List ℕ)
    → AllByRecursion IsField (word ∷ ws) → Gets (worded_at word (record { at = at; rest = line_text (word ∷ ws) ++ rest })) ws rest
unfolding worded_at
worded_again word ws at rest h =
    let line = fields_line_again at word ws rest h in
    (line.0, rw (line.1, fields_again word ws h, (bytes_eq-Decides word word).1 refl) refl)

-- a line of one field
pub one_field : (fields : List (List ℕ)) → (length fields == 1) ≡ true → fields ≡ first_of fields ∷ []
one_field (w ∷ []) h = refl
one_field fields h = absurd (omega (arith, eqb-true (length fields) 1 h))

-- a line of one word, and one with one field behind its word
pub word_line_takes : (word : List ℕ) (p q : Place) → word_line_at word p ≡ Ok q → Takes p (line_text (word ∷ [])) q
unfolding word_line_at
word_line_takes word p q e =
    let l = bind_ok (worded_at word p) _ q e in
    let t = provided_ok (length l.0.0 == 0) (Count p.at) (Ok l.0.1) q l.2 in
    let none : l.0.0 ≡ [] = nil_from_length l.0.0 (eqb-true _ _ t.0) in
    subst (Takes p (line_text (word ∷ []))) (ok_is l.0.1 q t.1) (subst (λ (ws : List (List ℕ)). Takes p (line_text (word ∷ ws)) l.0.1) none (worded_takes word p l.0 l.1))

pub word_line_again : (word : List ℕ) (at : ℕ) (rest : List ℕ)
    → IsField word → (next : ℕ) × (word_line_at word (record { at = at; rest = line_text (word ∷ []) ++ rest }) ≡ Ok (record { at = next; rest = rest }))
unfolding word_line_at
word_line_again word at rest worded = let line = worded_again word [] at rest (worded, tt) in (line.0, rw line.1 refl)

pub field_line_takes : (word : List ℕ) (p : Place) (x : List ℕ × Place) → field_line_at word p ≡ Ok x → Takes p (line_text (word ∷ x.0 ∷ [])) x.1
unfolding field_line_at
field_line_takes word p x e =
    let l = bind_ok (worded_at word p) _ x e in
    let t = provided_ok (length l.0.0 == 1) (Count p.at) (Ok (first_of l.0.0, l.0.1)) x l.2 in
    subst (λ y. Takes p (line_text (word ∷ y.0 ∷ [])) y.1) (ok_is (first_of l.0.0, l.0.1) x t.1)
    (subst (λ (ws : List (List ℕ)). Takes p (line_text (word ∷ ws)) l.0.1) (one_field l.0.0 t.0) (worded_takes word p l.0 l.1))

pub field_line_again : (word w : List ℕ) (at : ℕ) (rest : List ℕ) → IsField word → IsField w → Gets (field_line_at word (record { at = at; rest = line_text (word ∷ w ∷ []) ++ rest })) w rest
unfolding field_line_at
field_line_again word w at rest worded field = let line = worded_again word (w ∷ []) at rest (worded, (field, tt)) in (line.0, rw line.1 refl)

-- ---- a line by its fields

-- what reading does with the fields of a line that was written
pub line_then : {A : Type 0} → (f : List (List ℕ) → Place → Result A FileFault) (at : ℕ) (w : List ℕ) (ws : List (List ℕ)) (rest : List ℕ) → AllByRecursion IsField (w ∷ ws)
    → (next : ℕ) × ((line_at (record { at = at; rest = line_text (w ∷ ws) ++ rest }) >>= λ l. f (fields_of l.0) l.1) ≡ f (w ∷ ws) (record { at = next; rest = rest }))
line_then f at w ws rest h =
    let g = fields_line_again at w ws rest h in
    (g.0, ap (λ r. r >>= λ l. f (fields_of l.0) l.1) g.1 ∙ ap (λ fields. f fields (record { at = g.0; rest = rest })) (fields_again w ws h))

pub two_fields : (fields : List (List ℕ)) → (length fields == 2) ≡ true → fields ≡ first_of fields ∷ first_of (others_of fields) ∷ []
two_fields (w ∷ v ∷ []) h = refl
two_fields fields h = absurd (omega (arith, eqb-true (length fields) 2 h))

-- ---- the last line

abbrev pub end_text : List ℕ
end_text = line_text (codes "end" ∷ [])

pub end_field : AllByRecursion IsField (codes "end" ∷ [])
end_field = (record { no_space = refl; no_line_feed = refl }, tt)

pub end_takes : {A : Type 0} (at : ℕ) (d : A) (fields : List (List ℕ)) (p q : Place) (next : LineRead A)
    → Takes p (line_text (first_of fields ∷ others_of fields)) q → end_at at d fields q ≡ Ok next → (next ≡ end_read d q) × Takes p end_text q
end_takes at d fields p q next t e =
    let a = provided_ok _ _ _ next e in
    let b = provided_ok _ _ _ next a.1 in
    let first : first_of fields ≡ codes "end" = same_bytes (first_of fields) (codes "end") a.0 in
    let others : others_of fields ≡ [] = ap others_of (one_field fields b.0) in (
      sym (ok_is (end_read d q) next b.1),
      subst (λ (ws : List (List ℕ)). Takes p (line_text (codes "end" ∷ ws)) q) others (subst (λ (w : List ℕ). Takes p (line_text (w ∷ others_of fields)) q) first t),
    )

pub spread : (a b c d e f : List ℕ) → a ++ b ++ c ++ d ++ e ++ f ≡ a ++ (b ++ (c ++ (d ++ (e ++ f))))
spread a b c d e f = append_assoc (a ++ b ++ c ++ d) e f ∙ append_assoc (a ++ b ++ c) d (e ++ f) ∙ append_assoc (a ++ b) c (d ++ (e ++ f)) ∙ append_assoc a b (c ++ (d ++ (e ++ f)))
