-- Lists of distinct names.
use Rattle.std.proofs.Common.{◌≡◌, ◌≢◌, ℕ, ◌+◌, ◌<◌, ◌≤◌, List, [], ◌∷◌, ◌++◌, length, take, get_or, Bool, true, false, not, Option, None, Some, Contains, MatchOption, MatchBool}
use Rattle.std.proofs.Common.{IfSome, All, bytes_eq, position, slice_get, refl, sym, ap, subst, ◌∙◌, arith, length-take}
use Rattle.std.specs.Option.{is_some}
use Rattle.std.specs.Cmp.Lexicographic.{nat_list_eq_equiv}
use Rattle.std.proofs.lemmas.Slice.Eq.{bytes_eq-Decides}
use Rattle.std.proofs.lemmas.Map.Views.{list_any-from_Contains, Contains-from_any}
use Rattle.std.proofs.lemmas.Map.Made.{AllPairs-from_IsDistinct}
use Rattle.std.proofs.lemmas.List.Quantifiers.{position-Some, all_pairs_push}
use Rattle.std.proofs.lemmas.List.{get_or-take, get_or_default, take_all}
use Rattle.std.proofs.Math.Seq.{take-suc}
use Rattle.std.proofs.Common.{add-one}
use Rattle.std.proofs.lemmas.Option.{slice_get-get_or, slice_get_within, get_or_from_slice_get}
use Rattle.std.specs.List.{IsDistinct, list_any}
use Rattle.indexmap.specs.IndexSet.{insert_key}
use Rattle.msp_text.specs.declared.job_name.TheConstants.{LONGEST_NAME}
use Rattle.msp_text.specs.JobName.{AreDistinct, IsJobName}

pub same_bytes : (x y : List ℕ) → bytes_eq x y ≡ true → x ≡ y
same_bytes x y h = grind (arith, bytes_eq-Decides)

pub is_among : (names : List (List ℕ)) (w : List ℕ) → list_any (bytes_eq w) names ≡ true → Contains names w
is_among names w h = Contains-from_any same_bytes w names h

pub not_among : (names : List (List ℕ)) (w : List ℕ) → list_any (bytes_eq w) names ≡ false → ¬ (Contains names w)
not_among names w h m = let e : list_any (bytes_eq w) names ≡ true = list_any-from_Contains nat_list_eq_equiv w names m in cc

-- what an insertion answers
pub adds : (before after : List (List ℕ)) (w : List ℕ) (b : Bool) → b ≡ not (list_any (bytes_eq w) before) → after ≡ insert_key bytes_eq before w
    → MatchBool b ((¬ (Contains before w)) × (after ≡ before ++ w ∷ [])) (Contains before w × (after ≡ before))
adds before after w b e f = by (list_any (bytes_eq w) before) refl b e
  where
    by : (a : Bool) → list_any (bytes_eq w) before ≡ a → (b : Bool)
        → b ≡ not (list_any (bytes_eq w) before) → MatchBool b ((¬ (Contains before w)) × (after ≡ before ++ w ∷ [])) (Contains before w × (after ≡ before))
    by true h true e = absurd (cc)
    by true h false e = (is_among before w h, rw h at f)
    by false h true e = (not_among before w h, rw h at f)
    by false h false e = absurd (cc)

-- what a search answers
pub placed : (names : List (List ℕ)) (w : List ℕ) (r : Option ℕ) → r ≡ position (bytes_eq w) names → is_some r ≡ list_any (bytes_eq w) names
    → MatchOption r (¬ (Contains names w)) (λ at. slice_get names at ≡ Some w)
placed names w None e f = not_among names w (sym f)
placed names w (Some at) e f =
    let h = position-Some (bytes_eq w) names at [] (sym e) in
    slice_get-get_or names at [] h.0 ∙ ap Some (sym (same_bytes w (get_or names at []) h.1))

-- what stands at a place of job names is one of them
pub name_there : (names : List (List ℕ)) (at : ℕ) (w : List ℕ) → All IsJobName names → slice_get names at ≡ Some w → IsJobName w
name_there names at w h e = subst IsJobName (get_or_from_slice_get names at w [] e) (h at [] (slice_get_within names at w e))

-- bytes that are found among job names are one of them
pub name_found : (names : List (List ℕ)) (w : List ℕ) (r : Option ℕ) → All IsJobName names → r ≡ position (bytes_eq w) names → IfSome r (λ at. IsJobName w)
name_found names w None h e = tt
name_found names w (Some at) h e =
    let found = position-Some (bytes_eq w) names at [] (sym e) in
    subst IsJobName (sym (same_bytes w (get_or names at []) found.1)) (h at [] found.0)

-- no job name is so long
pub none_long : (names : List (List ℕ)) (w : List ℕ) → All IsJobName names → LONGEST_NAME < length w → None ≡ position (bytes_eq w) names
none_long names w h long = by (position (bytes_eq w) names) refl
  where
    by : (r : Option ℕ) → position (bytes_eq w) names ≡ r → None ≡ r
    by None e = refl
    by (Some at) e = let short = (name_found names w (Some at) h (sym e)).short in absurd (omega arith)

pub ruleset place_rules = (name_found, none_long)

pub distinct : (names : List (List ℕ)) → IsDistinct bytes_eq names → AreDistinct names
distinct names h = AllPairs-from_IsDistinct bytes_eq-Decides names h

-- a name that stands before its place
pub repeated : (names : List (List ℕ)) (i : ℕ) (w : List ℕ) → i < length names → w ≡ get_or names i w → Contains (take i names) w → ¬ (AreDistinct names)
repeated names i w h is m d =
    let shorter : length (take i names) ≡ i = omega (arith, length-take i names) in
    let below : m.0 < i = omega arith in
    d m.0 i w below h (sym (get_or-take i names m.0 w below) ∙ m.2 ∙ is)

-- the names of a list up to a place, all distinct
pub record IsGathered (names gathered : List (List ℕ)) (i : ℕ) : Type 0 where
  pub front : gathered ≡ take i names
  pub apart : AreDistinct gathered

pub gathered_none : (names : List (List ℕ)) → IsGathered names [] 0
gathered_none names = record { front = refl; apart = λ i j d h k. absurd (omega arith) }

pub gathered_next : (names gathered after : List (List ℕ)) (i : ℕ) (w : List ℕ) → IsGathered names gathered i → i < length names → w ≡ get_or names i w → ¬ (Contains gathered w)
    → after ≡ gathered ++ w ∷ [] → IsGathered names after (i + 1)
gathered_next names gathered after i w h within is fresh e =
    record {
      front = e ∙ ap (λ f. f ++ w ∷ []) h.front ∙ ap (λ v. take i names ++ v ∷ []) is ∙ sym (take-suc names i w within) ∙ ap (λ n. take n names) (sym (add-one i));
      apart = subst AreDistinct (sym e) (all_pairs_push (λ a b. a ≢ b) gathered w h.apart (λ k d below same. fresh (k, below, get_or_default gathered k w d below ∙ same)));
    }

pub gathered_twice : (names gathered : List (List ℕ)) (i : ℕ) (w : List ℕ) → IsGathered names gathered i → i < length names → w ≡ get_or names i w → Contains gathered w → ¬ (AreDistinct names)
gathered_twice names gathered i w h within is again = repeated names i w within is (subst (λ f. Contains f w) h.front again)

pub gathered_all : (names gathered : List (List ℕ)) (i : ℕ) → length names ≤ i → IsGathered names gathered i → (gathered ≡ names) × AreDistinct names
gathered_all names gathered i past h = let e : gathered ≡ names = h.front ∙ take_all i names past in (e, subst AreDistinct e h.apart)

pub ruleset gather_rules = (gathered_none, gathered_next, gathered_twice, gathered_all)
