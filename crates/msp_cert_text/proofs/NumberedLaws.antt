-- The lines that each job has: what is read is what was written, and what was written is read again.
use Rattle.std.proofs.Common.{◌≡◌, ℕ, suc, ◌+◌, ◌<◌, ◌≤◌, nat_lt, ◌==◌, List, [], ◌∷◌, ◌++◌, length, Result, Ok, All, bytes_eq, refl, sym, ap, subst, ◌∙◌, append_assoc, append-nil}
use Rattle.std.proofs.Common.{length-append, arith, ltb-true, lt-ltb}
use Rattle.std.proofs.lemmas.Slice.Eq.{bytes_eq-Decides}
use Rattle.std.proofs.lemmas.List.Elements.{All-nil, All-head, All-tail, All-push}
use Rattle.msp_text.specs.JobName.{IsJobName}
use Rattle.msp_text.proofs.NameLists.{same_bytes}
use Rattle.msp_grammar.specs.InstanceText.{line_text}
use Rattle.msp_grammar.specs.declared.lines.fault.FileFault.{FileFault}
use Rattle.msp_grammar.specs.declared.lines.fault.FileFault.TheVariants.{Count, Limit, Unknown}
use Rattle.msp_grammar.specs.declared.lines.fault.What.TheVariants as what
use Rattle.msp_cert_text.specs.declared.kinds.TheConstants.{MOST_LINES}
use Rattle.msp_cert_text.specs.CertificateText.{numbered_lines, lines_text}
use Rattle.msp_cert_text.specs.Reading.{named_field_at, named_line_at, numbers_at}
use Rattle.msp_grammar.specs.lines.Reading.{Place, first_of, others_of, worded_at, job_name_at}
use Rattle.msp_grammar.proofs.reading.LineLaws.{bind_ok, provided_ok, ok_is, bind_again, Takes, Gets, Takes-then, IsField, worded_takes, worded_again, two_fields}
use Rattle.msp_grammar.proofs.reading.FieldLaws.{name_takes, name_again, name_field}

-- The line of a job by its name, and the field behind the name.
record SaysNamed (word : List ℕ) (before : ℕ) (name : List ℕ) (p : Place) (x : List ℕ × Place) : Type 0 where
  text : Takes p (line_text (word ∷ name ∷ x.0 ∷ [])) x.1
  room : before < MOST_LINES

named_field_takes : (before : ℕ) (name : List ℕ) (at : ℕ) (fields : List (List ℕ)) (w : List ℕ) → named_field_at before name at fields ≡ Ok w → (fields ≡ name ∷ w ∷ []) × (before < MOST_LINES)
unfolding named_field_at
named_field_takes before name at fields w e =
    let room = provided_ok (nat_lt before MOST_LINES) (Limit at what.Lines) _ w e in
    let two = provided_ok (length fields == 2) (Count at) _ w room.1 in
    let given = bind_ok (job_name_at at (first_of fields)) _ w two.1 in
    let same = provided_ok (bytes_eq given.0 name) (Unknown at) (Ok (first_of (others_of fields))) w given.2 in
    let first : first_of fields ≡ name = (name_takes at (first_of fields) given.0 given.1).0 ∙ same_bytes given.0 name same.0 in
    let second : first_of (others_of fields) ≡ w = ok_is (first_of (others_of fields)) w same.1 in
    (two_fields fields two.0 ∙ ap (λ (v : List ℕ). v ∷ first_of (others_of fields) ∷ []) first ∙ ap (λ (v : List ℕ). name ∷ v ∷ []) second, ltb-true before MOST_LINES room.0)

named_takes : (word : List ℕ) (before : ℕ) (name : List ℕ) (p : Place) (x : List ℕ × Place) → named_line_at word before name p ≡ Ok x → SaysNamed word before name p x
unfolding named_line_at
named_takes word before name p x e =
    let l = bind_ok (worded_at word p) _ x e in
    let f = bind_ok (named_field_at before name p.at l.0.0) _ x l.2 in
    let t = named_field_takes before name p.at l.0.0 f.0 f.1 in
    subst (SaysNamed word before name p) (ok_is (f.0, l.0.1) x f.2) (record {
      text = subst (λ (ws : List (List ℕ)). Takes p (line_text (word ∷ ws)) l.0.1) t.0 (worded_takes word p l.0 l.1);
      room = t.1;
    })

named_again : (word : List ℕ) (before : ℕ) (name w : List ℕ) (at : ℕ) (rest : List ℕ) → IsField word → IsJobName name
    → IsField w → before < MOST_LINES → Gets (named_line_at word before name (record { at = at; rest = line_text (word ∷ name ∷ w ∷ []) ++ rest })) w rest
unfolding named_line_at named_field_at
named_again word before name w at rest worded named field room =
    let line = worded_again word (name ∷ w ∷ []) at rest (worded, (name_field name named, (field, tt))) in
    (line.0, rw (line.1, lt-ltb before MOST_LINES room, name_again at name named, (bytes_eq-Decides name name).1 refl) refl)

-- A field is read as its value exactly where it spells it.
pub record IsReadBy {A : Type 0} (read : ℕ → List ℕ → Result A FileFault) (spell : A → List ℕ) (Good : A → Type 0) : Type 0 where
  pub takes : (at : ℕ) (w : List ℕ) (x : A) → read at w ≡ Ok x → (w ≡ spell x) × Good x
  pub again : (at : ℕ) (x : A) → Good x → read at (spell x) ≡ Ok x
  pub field : (x : A) → Good x → IsField (spell x)

module _ {A : Type 0} (read : ℕ → List ℕ → Result A FileFault) (spell : A → List ℕ) (Good : A → Type 0) (is : IsReadBy read spell Good) (word : List ℕ) (before : ℕ) where
  -- What the lines of the jobs say.
  record SaysNumbers (numbers : List A) (names : List (List ℕ)) (p : Place) (after : List A) (q : Place) : Type 0 where
    more : List A
    added : after ≡ numbers ++ more
    each : length more ≡ length names
    text : Takes p (lines_text (numbered_lines word spell names more)) q
    good : All Good after
    room : before + length after ≤ MOST_LINES

  numbers_take : (names : List (List ℕ)) (numbers : List A) (p : Place) (x : List A × Place)
      → All Good numbers → before + length numbers ≤ MOST_LINES → numbers_at read word before numbers names p ≡ Ok x → SaysNumbers numbers names p x.0 x.1
  unfolding numbers_at
  numbers_take [] numbers p x good room e =
      let last : List A × Place = (numbers, p) in
      subst (λ (y : List A × Place). SaysNumbers numbers [] p y.0 y.1) (ok_is last x e) (record { more = []; added = sym (append-nil numbers); each = refl; text = refl; good = good; room = room })
  numbers_take (name ∷ names) numbers p x good room e =
      let l = bind_ok (named_line_at word (before + length numbers) name p) _ x e in
      let n = bind_ok (read p.at l.0.0) _ x l.2 in
      let line = named_takes word (before + length numbers) name p l.0 l.1 in
      let number = is.takes p.at l.0.0 n.0 n.1 in
      let more = line.room in
      let rest = numbers_take names (numbers ++ n.0 ∷ []) l.0.1 x (All-push Good numbers n.0 good number.1) (omega (arith, length-append numbers (n.0 ∷ []))) n.2 in
      let text : Takes p (line_text (word ∷ name ∷ spell n.0 ∷ [])) l.0.1 = subst (λ (w : List ℕ). Takes p (line_text (word ∷ name ∷ w ∷ [])) l.0.1) number.0 line.text in
      record {
        more = n.0 ∷ rest.more;
        added = rest.added ∙ append_assoc numbers (n.0 ∷ []) rest.more;
        each = ap suc rest.each;
        text = Takes-then p l.0.1 x.1 (line_text (word ∷ name ∷ spell n.0 ∷ [])) (lines_text (numbered_lines word spell names rest.more)) text rest.text;
        good = rest.good;
        room = rest.room;
      }

  -- the same of all numbers
  pub record SaysAll (names : List (List ℕ)) (p : Place) (xs : List A) (q : Place) : Type 0 where
    pub text : Takes p (lines_text (numbered_lines word spell names xs)) q
    pub each : length xs ≡ length names
    pub good : All Good xs
    pub room : before + length xs ≤ MOST_LINES

  pub numbers_said : (names : List (List ℕ)) (p : Place) (x : List A × Place) → before ≤ MOST_LINES → numbers_at read word before [] names p ≡ Ok x → SaysAll names p x.0 x.1
  numbers_said names p x few e =
      let s = numbers_take names [] p x (All-nil Good) (omega arith) e in
      let text = subst (λ (xs : List A). Takes p (lines_text (numbered_lines word spell names xs)) x.1) (sym s.added) s.text in
      record { text = text; each = ap length s.added ∙ s.each; good = s.good; room = s.room }

  pub numbers_again : (names : List (List ℕ)) (more numbers : List A) (at : ℕ) (rest : List ℕ)
      → IsField word → All IsJobName names → length more ≡ length names → All Good more → before + length numbers + length more ≤ MOST_LINES
      → Gets (numbers_at read word before numbers names (record { at = at; rest = lines_text (numbered_lines word spell names more) ++ rest })) (numbers ++ more) rest
  unfolding numbers_at
  numbers_again [] [] numbers at rest worded named each good room = (at, ap (λ (ns : List A). Ok (ns, record { at = at; rest = rest })) (sym (append-nil numbers)))
  numbers_again [] (x ∷ more) numbers at rest worded named each good room = absurd (omega arith)
  numbers_again (name ∷ names) [] numbers at rest worded named each good room = absurd (omega arith)
  numbers_again (name ∷ names) (x ∷ more) numbers at rest worded named each good room =
      let lines = lines_text (numbered_lines word spell names more) in
      let fine = All-head Good x more good in
      let l = named_again word (before + length numbers) name (spell x) at (lines ++ rest) worded (All-head IsJobName name names named) (is.field x fine) (omega arith) in
      let r = numbers_again names more (numbers ++ x ∷ [])
      l.0 rest worded (All-tail IsJobName name names named) (omega arith) (All-tail Good x more good) (omega (arith, length-append numbers (x ∷ []))) in
      let text : (line_text (word ∷ name ∷ spell x ∷ []) ++ lines) ++ rest ≡ line_text (word ∷ name ∷ spell x ∷ []) ++ (lines ++ rest) =
      append_assoc (line_text (word ∷ name ∷ spell x ∷ [])) lines rest in
      let goes = ap (λ (b : List ℕ). named_line_at word (before + length numbers) name (record { at = at; rest = b })) text ∙ l.1 in
      (r.0, bind_again _ _ _ _ goes (bind_again _ _ _ _ (is.again at x fine) (r.1 ∙ ap (λ (ns : List A). Ok (ns, record { at = r.0; rest = rest })) (append_assoc numbers (x ∷ []) more))))
