-- What is read are the entries of the bytes, and the other way round.
use Rattle.std.proofs.Common.{◌≡◌, ◌≢◌, ◌≤◌, ℕ, ◌+◌, ◌-◌, List, [], ◌∷◌, length, refl, sym, ap, subst, ◌∙◌, Bool, true, false, cond, not, ◌&&◌, ◌==◌, Option, Some, None, Result}
use Rattle.std.proofs.Common.{Ok, Err, bytes_eq, codes, arith, ◌⊎◌, inl, inr}
use Rattle.std.specs.Prelude.{nat_lt, nat_le, IfOk, IsTrue}
use Rattle.std.specs.List.{AllZip, AllByRecursion, list_all}
use Rattle.std.specs.Str.{is_utf8}
use Rattle.std.proofs.lemmas.Bool.{le-ltb, le-leb, ltb-false, leb-true, eq-eqb, eqb-true, and_parts}
use Rattle.std.proofs.lemmas.List.Elements.{All-from_recursion, recursion_from_All}
use Rattle.std.proofs.lemmas.Slice.Eq.{bytes_eq-Decides}
use Rattle.std.proofs.lemmas.Str.{IsUtf8-from_is_utf8, is_utf8-from_IsUtf8}
use Rattle.msp_results.specs.declared.limits.TheConstants.{MOST_ENTRIES, LONGEST_SOURCE}
use Rattle.msp_class.specs.declared.class.Class.{Class}
use Rattle.msp_closure.specs.declared.entry.Entry.{Entry}
use Rattle.msp_closure.specs.declared.entry.Verdict.{Verdict}
use Rattle.msp_closure.specs.declared.entry.Verdict.TheVariants.{Easy, Pseudo, Hard, Strong}
use Rattle.msp_name.specs.declared.fault.NameFault.{NameFault}
use Rattle.msp_name.specs.Names.{NameOf}
use Rattle.msp_name.specs.Reading.{reading_of}
use Rattle.msp_name.proofs.NameLemmas.{NameOf-from_reading, reading_of-NameOf}
use Rattle.msp_results.specs.declared.fault.ResultFault.{ResultFault}
use Rattle.msp_results.specs.declared.fault.ResultFault.TheVariants as fault
use Rattle.msp_results.specs.declared.version.Version.{Version}
use Rattle.msp_results.specs.declared.version.Version.TheVariants.{First, Second}
use Rattle.msp_results.specs.Results.{IsEntry, IsPlainText, ResultsOf, column_text, has_verdict, header, records_of, verdict_text}
use Rattle.msp_results.specs.Laws.{IsFirstFault, LawOfResults}
use Rattle.msp_results.specs.Reading.{then_after, column_read, columns_read, entries_read, fields_read, headed_read, is_plain, is_printable, judged, known, named, results_of}
use Rattle.msp_results.specs.Reading.{row_read, rows_read, sourced, three_of, verdict_read, version_read, word_read}

if_ok : {A : Type 0} (b : Bool) (e : ResultFault) (r : Result A ResultFault) (x : A) → cond b (Err e) r ≡ Ok x → (b ≡ false) × (r ≡ Ok x)
if_ok true e r x h = cc
if_ok false e r x h = (refl, h)

not_false : (b : Bool) → not b ≡ false → b ≡ true
not_false true h = refl
not_false false h = cc

unequal : (a b : ℕ) → not (a == b) ≡ true → a ≢ b
unequal a b h e = let k = eq-eqb a b e in let m : not true ≡ true = rw k at h in cc

equal_test : (a b : ℕ) (t : Bool) → (a == b) ≡ t → a ≢ b → not t ≡ true
equal_test a b true e n = absurd (n (eqb-true a b e))
equal_test a b false e n = refl

printable-all : (s : List ℕ) → list_all is_printable s ≡ true → AllByRecursion (λ b. (32 ≤ b) × (b ≢ 127)) s
printable-all [] h = tt
printable-all (b ∷ bs) h =
    let both = and_parts (is_printable b) (list_all is_printable bs) h in
    let here = and_parts (nat_le 32 b) (not (b == 127)) both.0 in
    ((leb-true 32 b here.0, unequal b 127 here.1), printable-all bs both.1)

all-printable : (s : List ℕ) → AllByRecursion (λ b. (32 ≤ b) × (b ≢ 127)) s → list_all is_printable s ≡ true
all-printable [] h = refl
all-printable (b ∷ bs) h =
    let low : nat_le 32 b ≡ true = le-leb 32 b h.0.0 in
    let other : not (b == 127) ≡ true = equal_test b 127 (b == 127) refl h.0.1 in
    rw (low, other) (all-printable bs h.1)

plain-is : (s : List ℕ) → is_plain s ≡ true → IsPlainText s
unfolding is_plain
plain-is s h =
    let both = and_parts (is_utf8 s) (list_all is_printable s) h in
    record { utf8 = IsUtf8-from_is_utf8 s both.0; printable = All-from_recursion (λ b. (32 ≤ b) × (b ≢ 127)) s (printable-all s both.1) }

is-plain : (s : List ℕ) → IsPlainText s → is_plain s ≡ true
unfolding is_plain
is-plain s p =
    let utf8 : is_utf8 s ≡ true = is_utf8-from_IsUtf8 s p.utf8 in
    let rest : list_all is_printable s ≡ true = all-printable s (recursion_from_All (λ b. (32 ≤ b) × (b ≢ 127)) s p.printable) in
    rw (utf8, rest) refl

-- what three fields that give an entry are
record Says (version : Version) (name verdict source : List ℕ) (e : Entry) : Type 0 where
  named : NameOf name e.class
  may_be : IsTrue (has_verdict version e.verdict)
  judged : verdict ≡ verdict_text e.verdict
  sourced : source ≡ e.source
  plain : IsPlainText source
  short : length source ≤ LONGEST_SOURCE

named-ok : (version : Version) (at : ℕ) (r : Result Class NameFault) (v s : List ℕ) (e : Entry) → named version at r v s ≡ Ok e
    → (c : Class) × (r ≡ Ok c) × (judged at c (verdict_read version v) s ≡ Ok e)
named-ok version at (Err f) v s e h = cc
named-ok version at (Ok c) v s e h = (c, refl, h)

judged-ok : (at : ℕ) (c : Class) (o : Option Verdict) (s : List ℕ) (e : Entry) → judged at c o s ≡ Ok e → (w : Verdict) × (o ≡ Some w) × (sourced at c w s ≡ Ok e)
judged-ok at c None s e h = cc
judged-ok at c (Some w) s e h = (w, refl, h)

entry_of : Class → Verdict → List ℕ → Entry
entry_of c w s = record { class = c; verdict = w; source = s }

sourced-ok : (at : ℕ) (c : Class) (w : Verdict) (s : List ℕ) (e : Entry) → sourced at c w s ≡ Ok e → (is_plain s ≡ true) × (length s ≤ LONGEST_SOURCE) × (entry_of c w s ≡ e)
unfolding entry_of
sourced-ok at c w s e h =
    let a = if_ok (not (is_plain s)) (fault.Source at) _ e h in
    let b = if_ok (nat_lt LONGEST_SOURCE (length s)) (fault.Long at) _ e a.1 in
    let k : entry_of c w s ≡ e = cc b.1 in
    (not_false (is_plain s) a.0, ltb-false LONGEST_SOURCE (length s) b.0, k)

-- a verdict that is read stands there as its word
by_words : (v : List ℕ) (w : Verdict) (a b c d : Bool) → bytes_eq v (codes "easy") ≡ a → bytes_eq v (codes "pseudo") ≡ b → bytes_eq v (codes "hard") ≡ c
    → bytes_eq v (codes "strong") ≡ d
    → cond a (Some Easy) (cond b (Some Pseudo) (cond c (Some Hard) (cond d (Some Strong) None))) ≡ Some w → v ≡ verdict_text w
by_words v w true b c d e f g i h = let k : Easy ≡ w = cc in (bytes_eq-Decides v (codes "easy")).0 e ∙ ap verdict_text k
by_words v w false true c d e f g i h = let k : Pseudo ≡ w = cc in (bytes_eq-Decides v (codes "pseudo")).0 f ∙ ap verdict_text k
by_words v w false false true d e f g i h = let k : Hard ≡ w = cc in (bytes_eq-Decides v (codes "hard")).0 g ∙ ap verdict_text k
by_words v w false false false true e f g i h = let k : Strong ≡ w = cc in (bytes_eq-Decides v (codes "strong")).0 i ∙ ap verdict_text k
by_words v w false false false false e f g i h = cc

known-some : (version : Version) (o : Option Verdict) (w : Verdict) → known version o ≡ Some w → (o ≡ Some w) × IsTrue (has_verdict version w)
known-some version None w h = cc
known-some version (Some v) w h = by (has_verdict version v) refl h
  where
    by : (b : Bool) → has_verdict version v ≡ b → cond b (Some v) None ≡ Some w → (Some v ≡ Some w) × IsTrue (has_verdict version w)
    by true e k = let same : v ≡ w = cc in (k, let P : Verdict → Type 0 = λ x. IsTrue (has_verdict version x) in subst P same e)
    by false e k = cc

fields_read-ok : (version : Version) (at : ℕ) (n v s : List ℕ) (e : Entry) → fields_read version at n v s ≡ Ok e → Says version n v s e
unfolding fields_read entry_of
fields_read-ok version at n v s e h =
    let a = named-ok version at (reading_of n) v s e h in
    let b = judged-ok at a.0 (verdict_read version v) s e a.2 in
    let w = known-some version (word_read v) b.0 b.1 in
    let d = sourced-ok at a.0 b.0 s e b.2 in
    let same_class : a.0 ≡ e.class = ap (λ (x : Entry). x.class) d.2 in
    let same_verdict : b.0 ≡ e.verdict = ap (λ (x : Entry). x.verdict) d.2 in
    record {
      named = NameOf-from_reading n e.class (a.1 ∙ ap (λ c. Ok c) same_class);
      may_be = let P : Verdict → Type 0 = λ x. IsTrue (has_verdict version x) in subst P same_verdict w.1;
      judged = by_words v b.0 _ _ _ _ refl refl refl refl w.0 ∙ ap verdict_text same_verdict;
      sourced = ap (λ (x : Entry). x.source) d.2;
      plain = plain-is s d.0;
      short = d.1;
    }

three_of-some : (fs : List (List ℕ)) (a b c : List ℕ) → three_of fs ≡ Some (a, b, c) → fs ≡ a ∷ b ∷ c ∷ []
three_of-some (x ∷ y ∷ z ∷ []) a b c h =
    let k : ◌≡◌ {A = List ℕ × List ℕ × List ℕ} (x, y, z) (a, b, c) = cc in
    λ j. (k j).0 ∷ (k j).1 ∷ (k j).2 ∷ []
three_of-some _ a b c h = cc

by_fields : (version : Version) (at : ℕ) (o : Option (List ℕ × List ℕ × List ℕ)) (e : Entry)
    → elim o as (λ _. Result Entry ResultFault) [ Some t ↦ fields_read version at t.0 t.1 t.2 | None ↦ Err (fault.Width at) ] ≡ Ok e
    → (n : List ℕ) × (v : List ℕ) × (s : List ℕ) × (o ≡ Some (n, v, s)) × (fields_read version at n v s ≡ Ok e)
by_fields version at None e h = cc
by_fields version at (Some t) e h = (t.0, t.1, t.2, refl, h)

row_read-ok : (version : Version) (at : ℕ) (fs : List (List ℕ)) (e : Entry) → row_read version at fs ≡ Ok e → IsEntry version fs e
row_read-ok version at fs e h =
    let t = by_fields version at (three_of fs) e h in
    let said = fields_read-ok version at t.0 t.1 t.2 e t.4 in
    record {
      name = t.0;
      three = three_of-some fs t.0 t.1 t.2 t.3 ∙ (λ j. t.0 ∷ said.judged j ∷ said.sourced j ∷ []);
      named = said.named;
      known = said.may_be;
      plain = subst IsPlainText said.sourced said.plain;
      short = let P : List ℕ → Type 0 = λ v. length v ≤ LONGEST_SOURCE in subst P said.sourced said.short;
    }

word_read-text : (w : Verdict) → word_read (verdict_text w) ≡ Some w
word_read-text Easy = refl
word_read-text _ = refl

verdict_read-text : (version : Version) (w : Verdict) → IsTrue (has_verdict version w) → verdict_read version (verdict_text w) ≡ Some w
verdict_read-text version w may = rw (word_read-text w, may) refl

row_read-from : (version : Version) (at : ℕ) (fs : List (List ℕ)) (e : Entry) → IsEntry version fs e → row_read version at fs ≡ Ok e
unfolding fields_read
row_read-from version at fs e i =
    let name : reading_of i.name ≡ Ok e.class = reading_of-NameOf i.name e.class i.named in
    let plain : is_plain e.source ≡ true = is-plain e.source i.plain in
    let short : nat_lt LONGEST_SOURCE (length e.source) ≡ false = le-ltb LONGEST_SOURCE (length e.source) i.short in
    rw (i.three, name, verdict_read-text version e.verdict i.known, plain, short) refl

then_after-ok : (r : Result Entry ResultFault) (q : Result (List Entry) ResultFault) (es : List Entry)
    → then_after r q ≡ Ok es → (e : Entry) × (rest : List Entry) × (r ≡ Ok e) × (q ≡ Ok rest) × (e ∷ rest ≡ es)
then_after-ok (Err f) q es h = cc
then_after-ok (Ok e) (Err f) es h = cc
then_after-ok (Ok e) (Ok rest) es h = let k : e ∷ rest ≡ es = cc in (e, rest, refl, refl, k)

-- entries in place of the records from `at` on
record Covers (version : Version) (at : ℕ) (rows : List (List (List ℕ))) (es : List Entry) : Type 0 where
  each : AllZip (IsEntry version) rows es
  few : length es ≤ MOST_ENTRIES + 1 - at

entries_read-ok : (version : Version) (at : ℕ) (rows : List (List (List ℕ))) (es : List Entry) → entries_read version at rows ≡ Ok es → Covers version at rows es
entries_read-ok version at [] es h =
    let k : [] ≡ es = cc in
    let P : List Entry → Type 0 = λ v. Covers version at [] v in
    subst P k (record { each = tt; few = omega arith })
entries_read-ok version at (r ∷ rs) es h =
    let a = if_ok (nat_lt MOST_ENTRIES at) fault.Many _ es h in
    let low : at ≤ MOST_ENTRIES = ltb-false MOST_ENTRIES at a.0 in
    let t = then_after-ok (row_read version at r) (entries_read version (at + 1) rs) es a.1 in
    let rest = entries_read-ok version (at + 1) rs t.1 t.3 in
    let few = rest.few in
    let P : List Entry → Type 0 = λ v. Covers version at (r ∷ rs) v in
    subst P t.4 (record { each = (row_read-ok version at r t.0 t.2, rest.each); few = omega arith })

entries_read-from : (version : Version) (at : ℕ) (rows : List (List (List ℕ))) (es : List Entry) → AllZip (IsEntry version) rows es
    → length es ≤ MOST_ENTRIES + 1 - at → entries_read version at rows ≡ Ok es
entries_read-from version at [] [] z n = refl
entries_read-from version at [] (e ∷ es) z n = absurd z
entries_read-from version at (r ∷ rs) [] z n = absurd z
entries_read-from version at (r ∷ rs) (e ∷ es) z n =
    let low : nat_lt MOST_ENTRIES at ≡ false = le-ltb MOST_ENTRIES at (omega arith) in
    let here : row_read version at r ≡ Ok e = row_read-from version at r e z.0 in
    let rest : entries_read version (at + 1) rs ≡ Ok es = entries_read-from version (at + 1) rs es z.1 (omega arith) in
    rw (low, here, rest) refl

column_read-some : (w : List ℕ) (version : Version) → column_read w ≡ Some version → w ≡ column_text version
column_read-some w version h = by (bytes_eq w (codes "verdict")) (bytes_eq w (codes "strength")) refl refl h
  where
    by : (a b : Bool) → bytes_eq w (codes "verdict") ≡ a → bytes_eq w (codes "strength") ≡ b
        → cond a (Some First) (cond b (Some Second) None) ≡ Some version → w ≡ column_text version
    by true b e f k = let is : First ≡ version = cc in (bytes_eq-Decides w (codes "verdict")).0 e ∙ ap column_text is
    by false true e f k = let is : Second ≡ version = cc in (bytes_eq-Decides w (codes "strength")).0 f ∙ ap column_text is
    by false false e f k = cc

columns_read-some : (t : List ℕ × List ℕ × List ℕ) (version : Version) → columns_read t ≡ Some version
    → Some t ≡ Some (codes "class", column_text version, codes "source")
columns_read-some t version h = by (bytes_eq t.0 (codes "class") && bytes_eq t.2 (codes "source")) refl h
  where
    by : (b : Bool) → (bytes_eq t.0 (codes "class") && bytes_eq t.2 (codes "source")) ≡ b → cond b (column_read t.1) None ≡ Some version
        → Some t ≡ Some (codes "class", column_text version, codes "source")
    by true e k =
        let a = and_parts (bytes_eq t.0 (codes "class")) (bytes_eq t.2 (codes "source")) e in
        let x = (bytes_eq-Decides t.0 (codes "class")).0 a.0 in
        let y = column_read-some t.1 version k in
        let z = (bytes_eq-Decides t.2 (codes "source")).0 a.1 in
        λ j. Some (x j, y j, z j)
    by false e k = cc

headed : (o : Option (List ℕ × List ℕ × List ℕ)) (version : Version)
    → elim o as (λ _. Option Version) [ Some t ↦ columns_read t | None ↦ None ] ≡ Some version → o ≡ Some (codes "class", column_text version, codes "source")
headed None version h = cc
headed (Some t) version h = columns_read-some t version h

version_read-some : (fs : List (List ℕ)) (version : Version) → version_read fs ≡ Some version → fs ≡ header version
version_read-some fs version h = three_of-some fs _ _ _ (headed (three_of fs) version h)

version_read-header : (version : Version) → version_read (header version) ≡ Some version
version_read-header First = refl
version_read-header Second = refl

rows_read-ok : (rs : List (List (List ℕ))) (es : List Entry) → rows_read rs ≡ Ok es
    → (version : Version) × (rows : List (List (List ℕ))) × (rs ≡ header version ∷ rows) × (entries_read version 1 rows ≡ Ok es)
rows_read-ok [] es h = cc
rows_read-ok (r ∷ rs) es h = by (version_read r) refl h
  where
    by : (o : Option Version) → version_read r ≡ o → headed_read o rs ≡ Ok es
        → (version : Version) × (rows : List (List (List ℕ))) × (r ∷ rs ≡ header version ∷ rows) × (entries_read version 1 rows ≡ Ok es)
    by (Some version) e k = (version, rs, ap (λ v. v ∷ rs) (version_read-some r version e), k)
    by None e k = cc

-- what is read are the entries
pub ResultsOf-from_reading : (b : List ℕ) (es : List Entry) → results_of b ≡ Ok es → ResultsOf b es
unfolding results_of
ResultsOf-from_reading b es h =
    let t = rows_read-ok (records_of b) es h in
    let c = entries_read-ok t.0 1 t.1 es t.3 in
    record { version = t.0; rows = t.1; headed = t.2; each = c.each; few = c.few }

-- the entries are read
pub results_of-ResultsOf : (b : List ℕ) (es : List Entry) → ResultsOf b es → results_of b ≡ Ok es
unfolding results_of
results_of-ResultsOf b es r = rw (r.headed, version_read-header r.version) (entries_read-from r.version 1 r.rows es r.each r.few)

-- the bytes have one list of entries at most
pub ResultsOf-determined : (b : List ℕ) (es fs : List Entry) → ResultsOf b es → ResultsOf b fs → es ≡ fs
ResultsOf-determined b es fs m n =
    let p = results_of-ResultsOf b es m in
    let q = results_of-ResultsOf b fs n in
    cc

pub IfOk-reading : (b : List ℕ) (r : Result (List Entry) ResultFault) → (r ≡ Err fault.Memory) ⊎ (r ≡ results_of b) → IfOk r (λ es. ResultsOf b es)
IfOk-reading b (Err f) h = tt
IfOk-reading b (Ok es) (inl h) = cc
IfOk-reading b (Ok es) (inr h) = ResultsOf-from_reading b es (sym h)

either : (b : List ℕ) (r : Result (List Entry) ResultFault) → results_of b ≡ r → ((es : List Entry) × ResultsOf b es) ⊎ ((f : ResultFault) × IsFirstFault b f)
either b (Ok es) h = inl (es, ResultsOf-from_reading b es h)
either b (Err f) h = inr (f, h)

-- the bytes have entries or a first fault
pub law_of_results : LawOfResults
law_of_results = record {
  some = λ b. either b (results_of b) refl;
  not_both = λ b es f r h. let k = results_of-ResultsOf b es r in cc;
  one_value = ResultsOf-determined;
  one_fault = λ b e f h k. let same : ◌≡◌ {A = Result (List Entry) ResultFault} (Err e) (Err f) = sym h ∙ k in cc;
}
