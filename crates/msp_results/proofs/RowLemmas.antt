-- The records of a text, one by one: a record takes bytes off the front, and its fields hold no more bytes than these.
use Rattle.std.proofs.Common.{◌≡◌, ℕ, ◌+◌, ◌≤◌, ◌<◌, zero, suc, List, [], ◌∷◌, ◌++◌, length, refl, sym, ap, subst, ◌∙◌, Bool, true, false, cond, ◌⊎◌, inl, inr, Option, Some, None}
use Rattle.std.proofs.Common.{All, arith, length-append, add-one}
use Rattle.std.specs.Prelude.{IsSomeAnd}
use Rattle.std.specs.List.{AllByRecursion}
use Rattle.std.proofs.lemmas.List.Elements.{All-from_recursion}
use Rattle.msp_class.specs.declared.list.TheConstants.{PLACES}
use Rattle.msp_results.specs.declared.limits.TheConstants.{LONGEST_FILE}
use Rattle.csv.specs.Machine.{Read, next_record, step, is_end, fields_after, field_after, ends_at_end}
use Rattle.csv.specs.Reading.{Ready, ReadRecord, Reached, default_config, records_from, records_next, reader_config, reader_trim, names_headers, reader_headers, strip_bom, is_bom}
use Rattle.csv.specs.declared.parser.Config.{Config}
use Rattle.csv.specs.declared.parser.State.{State}
use Rattle.csv.specs.declared.parser.State.TheVariants as st
use Rattle.csv.specs.declared.parser.Action.{Action}
use Rattle.csv.specs.declared.parser.Action.TheVariants as act
use Rattle.csv.specs.declared.reader.Trim.TheVariants as trim
use Rattle.csv.specs.declared.reader.Reader.{Reader}
use Rattle.csv.proofs.ReadFacts.{rows-end, rows-more}
use Rattle.msp_results.specs.Records.{AreShort, IsReading, NextRow, bytes_left, rows_from, rows_in, rows_left}
use denote.Ref.{Bor}

ends : (b : Bool) (q : Read) (o : Option Read) (p : Read) → cond b (Some q) o ≡ Some p → (q ≡ p) ⊎ (o ≡ Some p)
ends true q o p h = inl (cc)
ends false q o p h = inr h

-- the end of a text
next-empty : (cfg : Config) (s : State) (f : List (List ℕ)) (g : List ℕ) (p : Read) → next_record cfg s f g [] ≡ Some p → (f ++ (g ∷ []), st.StartRecord, []) ≡ p
unfolding next_record
next-empty cfg s f g p h = elim (ends (ends_at_end s) _ None p h) [ inl e ↦ e | inr e ↦ cc ]

-- bytes that are left
next-shorter : (cfg : Config) (s : State) (f : List (List ℕ)) (g : List ℕ) (c : ℕ) (rest : List ℕ) (p : Read) → next_record cfg s f g (c ∷ rest) ≡ Some p → length p.2 ≤ length rest
unfolding next_record
next-shorter cfg s f g c [] p h = elim (ends (is_end (step cfg s c).1) _ _ p h) [
  | inl e ↦ let k = ap (λ (q : Read). length q.2) e in omega arith
  | inr e ↦ let k = ap (λ (q : Read). length q.2) (next-empty cfg _ _ _ p e) in omega arith
]
next-shorter cfg s f g c (d ∷ r) p h = elim (ends (is_end (step cfg s c).1) _ _ p h) [
  | inl e ↦ let k = ap (λ (q : Read). length q.2) e in omega arith
  | inr e ↦ let k = next-shorter cfg (step cfg s c).0 (fields_after (step cfg s c).1 f g) (field_after (step cfg s c).1 c g) d r p e in omega arith
]

bytes_in : List (List ℕ) → ℕ
bytes_in [] = 0
bytes_in (f ∷ fs) = length f + bytes_in fs

bytes_in-nil : bytes_in [] ≡ 0
unfolding bytes_in
bytes_in-nil = refl

bytes_in-push : (fs : List (List ℕ)) (g : List ℕ) → bytes_in (fs ++ (g ∷ [])) ≡ bytes_in fs + length g
unfolding bytes_in
bytes_in-push [] g = omega arith
bytes_in-push (f ∷ fs) g = let k = bytes_in-push fs g in omega arith

step_size : (a : Action) (c : ℕ) (f : List (List ℕ)) (g : List ℕ) → bytes_in (fields_after a f g) + length (field_after a c g) ≤ bytes_in f + length g + 1
step_size act.EndField c f g = let k = bytes_in-push f g in omega arith
step_size act.Skip c f g = omega arith
step_size act.Copy c f g = let k = length-append g (c ∷ []) in omega arith
step_size act.EndRecord c f g = let k = bytes_in-push f g in omega arith

-- the fields and what is left hold no more bytes than the text
next-bytes : (cfg : Config) (s : State) (f : List (List ℕ)) (g : List ℕ) (xs : List ℕ) (p : Read) → next_record cfg s f g xs ≡ Some p → bytes_in p.0 + length p.2 ≤ bytes_in f + length g + length xs
unfolding next_record
next-bytes cfg s f g [] p h =
    let e = next-empty cfg s f g p h in
    let k = ap (λ (q : Read). bytes_in q.0 + length q.2) e in
    let m = bytes_in-push f g in
    omega arith
next-bytes cfg s f g (c ∷ rest) p h =
    let m = step_size (step cfg s c).1 c f g in
    elim (ends (is_end (step cfg s c).1) _ _ p h) [
      | inl e ↦ let k = ap (λ (q : Read). bytes_in q.0 + length q.2) e in omega arith
      | inr e ↦ let k = next-bytes cfg (step cfg s c).0 (fields_after (step cfg s c).1 f g) (field_after (step cfg s c).1 c g) rest p e in omega arith
    ]

short_fields : (n : ℕ) (fs : List (List ℕ)) → bytes_in fs < n → AllByRecursion (λ f. length f < n) fs
unfolding bytes_in
short_fields n [] h = tt
short_fields n (f ∷ fs) h = (omega arith, short_fields n fs (omega arith))

none_left : (cfg : Config) (n : ℕ) → records_from cfg n st.StartRecord [] ≡ []
unfolding records_from next_record
none_left cfg zero = refl
none_left cfg (suc n) = refl

turned : (cfg : Config) (n m : ℕ) (o : Option Read) → ((p : Read) → o ≡ Some p → records_from cfg n p.1 p.2 ≡ records_from cfg m p.1 p.2)
    → records_next (records_from cfg n) o ≡ records_next (records_from cfg m) o
turned cfg n m None k = refl
turned cfg n m (Some p) k = ap (λ t. p.0 ∷ t) (k p refl)

at_end : (cfg : Config) (n m : ℕ) (s : State) (p : Read) → next_record cfg s [] [] [] ≡ Some p → records_from cfg n p.1 p.2 ≡ records_from cfg m p.1 p.2
at_end cfg n m s p e =
    let P : Read → Type 0 = λ q. records_from cfg n q.1 q.2 ≡ records_from cfg m q.1 q.2 in
    subst P (next-empty cfg s [] [] p e) (none_left cfg n ∙ sym (none_left cfg m))

-- enough turns are enough
turns : (cfg : Config) (n m : ℕ) (s : State) (xs : List ℕ) → length xs ≤ n → length xs ≤ m → records_from cfg (suc n) s xs ≡ records_from cfg (suc m) s xs
unfolding records_from
turns cfg n m s [] h k = turned cfg n m (next_record cfg s [] [] []) (at_end cfg n m s)
turns cfg zero m s (c ∷ r) h k = absurd (omega arith)
turns cfg (suc n) zero s (c ∷ r) h k = absurd (omega arith)
turns cfg (suc n) (suc m) s (c ∷ r) h k =
    turned cfg (suc n) (suc m) (next_record cfg s [] [] (c ∷ r)) (λ p e. let less = next-shorter cfg s [] [] c r p e in turns cfg n m p.1 p.2 (omega arith) (omega arith))

-- one record more
first_row : (s : State) (xs : List ℕ) (p : Read) → next_record default_config s [] [] xs ≡ Some p → records_from default_config (length xs) p.1 p.2 ≡ rows_from p.1 p.2
first_row s [] p e = at_end default_config _ _ s p e
first_row s (c ∷ r) p e = let less = next-shorter default_config s [] [] c r p e in rw (add-one (length p.2)) (turns default_config (length r) (length p.2) p.1 p.2 less (omega arith))

rows_from-more : (s : State) (xs : List ℕ) (p : Read) → next_record default_config s [] [] xs ≡ Some p → rows_from s xs ≡ p.0 ∷ rows_from p.1 p.2
unfolding records_from
rows_from-more s xs p e = rw (add-one (length xs), e) (ap (λ t. p.0 ∷ t) (first_row s xs p e))

rows_from-none : (s : State) (xs : List ℕ) → next_record default_config s [] [] xs ≡ None → rows_from s xs ≡ []
unfolding records_from
rows_from-none s xs e = rw (add-one (length xs), e) refl

known_bytes : (o : Option (List ℕ)) → IsSomeAnd o (λ xs. length xs ≤ LONGEST_FILE) → (xs : List ℕ) × (o ≡ Some xs) × (length xs ≤ LONGEST_FILE)
known_bytes None h = absurd h
known_bytes (Some xs) h = (xs, refl, h)

IsFew : Option (List ℕ) → Type 0
IsFew o = IsSomeAnd o (λ xs. length xs ≤ LONGEST_FILE)

row_goes : (a b : Reader (Bor (List ℕ))) (f : List (List ℕ)) (xs z : List ℕ) (p : Read) → Ready b → reader_config b ≡ default_config → reader_trim b ≡ trim.None
    → bytes_left a ≡ Some xs → length xs ≤ LONGEST_FILE → next_record default_config a.state [] [] xs ≡ Some p → f ≡ p.0 → p.1 ≡ b.state → p.2 ≡ z → bytes_left b ≡ Some z → NextRow true a f b
unfolding IsFew
row_goes a b f xs z p ready config trim at_a few next fields state left at_b =
    let size = next-bytes default_config a.state [] [] xs p next in
    let none : bytes_in [] ≡ 0 = bytes_in-nil in
    let tail : rows_from p.1 p.2 ≡ rows_left b = rw (state, left, at_b) refl in
    let rest = ap length left in
    let all : All (λ g. length g < PLACES) p.0 = All-from_recursion (λ g. length g < PLACES) p.0 (short_fields PLACES p.0 (omega arith)) in
    let fits : length z ≤ LONGEST_FILE = omega arith in (
      ap (λ o. rows_in a.state o) at_a ∙ rows_from-more a.state xs p next ∙ ap (λ t. p.0 ∷ t) tail ∙ ap (λ t. t ∷ rows_left b) (sym fields),
      record { config = config; trim = trim; ready = ready; known = subst IsFew (sym at_b) fits },
      subst AreShort (sym fields) all,
    )

-- a read that found a record
row_found : (a b : Reader (Bor (List ℕ))) (f : List (List ℕ)) → IsReading a → Ready b → ReadRecord (λ s. Some s.now) a b true f → NextRow true a f b
unfolding Reached
row_found a b f r ready h =
    let known = known_bytes (bytes_left a) r.known in
    let more = rows-more (λ (s : Bor (List ℕ)). Some s.now) a b f default_config a.state known.0 known.0 [] r.config known.1 (refl, refl) h in
    row_goes a b f known.0 more.0 more.2.0 ready (h.2 ∙ r.config) (h.3 ∙ r.trim) known.1 known.2 more.2.1 more.2.2 more.2.3.0 more.2.3.1 more.1

-- a read that found none
row_none : (a b : Reader (Bor (List ℕ))) (f : List (List ℕ)) → IsReading a → ReadRecord (λ s. Some s.now) a b false f → NextRow false a f b
row_none a b f r h =
    let known = known_bytes (bytes_left a) r.known in
    let none = rows_from-none a.state known.0 (rows-end (λ (s : Bor (List ℕ)). Some s.now) a b f default_config known.0 r.config known.1 h) in
    rw known.1 none

-- a read
pub row_read : (found : Bool) (a b : Reader (Bor (List ℕ))) (f : List (List ℕ)) → IsReading a → Ready b → ReadRecord (λ s. Some s.now) a b found f → NextRow found a f b
row_read true a b f r ready h = row_found a b f r ready h
row_read false a b f r ready h = row_none a b f r h

strip_shorter : (b : Bool) (x y z : ℕ) (xs : List ℕ) → length (cond b xs (x ∷ y ∷ z ∷ xs)) ≤ length (x ∷ y ∷ z ∷ xs)
strip_shorter true x y z xs = omega arith
strip_shorter false x y z xs = omega arith

strip_bom-shorter : (xs : List ℕ) → length (strip_bom xs) ≤ length xs
unfolding strip_bom
strip_bom-shorter [] = omega arith
strip_bom-shorter (x ∷ []) = omega arith
strip_bom-shorter (x ∷ y ∷ []) = omega arith
strip_bom-shorter (x ∷ y ∷ z ∷ xs) = strip_shorter (is_bom x y z) x y z xs

-- a new reader
pub opened : (r : Reader (Bor (List ℕ))) (xs : List ℕ) → reader_config r ≡ default_config → reader_trim r ≡ trim.None → names_headers r ≡ false → reader_headers r ≡ None
    → bytes_left r ≡ Some (strip_bom xs) → length xs ≤ LONGEST_FILE → IsReading r
unfolding IsFew
opened r xs config trim named headers left few =
    let less = strip_bom-shorter xs in
    let fits : length (strip_bom xs) ≤ LONGEST_FILE = omega arith in
    record { config = config; trim = trim; ready = inr (inr (named, headers)); known = subst IsFew (sym left) fits }
