-- Lemmas on setting the bits of jobs from the last job to the first, and on the paths that they tell.
use Rattle.std.proofs.Common.{◌≡◌, ◌≢◌, ℕ, ◌<◌, ◌≤◌, ◌+◌, ◌-◌, ◌*◌, ◌/◌, true, false, ◌==◌, List, length, get_or}
use Rattle.std.proofs.Common.{filter, All, AllPairs, Contains, IsTrue, refl, ap, ap₂, sym, ◌∙◌, subst, inl, inr, arith}
use Rattle.std.proofs.Math.Nat.{div-mul-le_self}
use Rattle.std.proofs.lemmas.Nat.{le-div}
use Rattle.std.proofs.lemmas.Bool.{cases_eq, eqb-true, eq-eqb, false≢true}
use Rattle.std.proofs.lemmas.List.{get_or_default}
use Rattle.std.proofs.lemmas.List.Elements.{All-contains, Contains-get_or}
use Rattle.std.proofs.lemmas.Option.{get_or_from_slice_get, slice_get_within}
use Rattle.std.proofs.lemmas.List.Sorted.{All-permutation, IsPermutation-sym}
use Rattle.std.specs.List.Sorted.{IsPermutation}
use Rattle.msp_class.proofs.Sums.{Contains-filter, Contains-from_filter, OnceBelow, OnceBelow-distinct}
use Rattle.msp_instance.specs.declared.Arc.{Arc}
use Rattle.msp_instance.specs.declared.Instance.{Instance}
use Rattle.msp_instance.specs.Conditions.{IsSequence, GoesForward}
use Rattle.msp_instance.specs.Bits.{has_bit}
use Rattle.msp_instance.specs.Paths.{HasStep, HasPath, one, more, ShowsPaths}
use Rattle.msp_instance.proofs.SearchLemmas.{HasPath-permutation}
use Rattle.msp_instance.proofs.CycleLemmas.{OnceBelow-from_sequence}
use Rattle.msp_instance.specs.PathBits.{FollowsAll, IsOrder, HasPathBits}
pub use Rattle.msp_instance.proofs.BitLemmas.{row_inside}
use Rattle.msp_instance.proofs.ListingLemmas.{one_place}

-- ---- the bits set from the last job on
pub record IsFilling (order : List ℕ) (arcs : List Arc) (width : ℕ) (words : List ℕ) (done : ℕ) : Type 0 where
  pub whole : length words ≡ length order * width
  pub sound : (j k : ℕ) → k / 64 < width → has_bit words width j k ≡ true → HasPath arcs j k
  pub full : (p k : ℕ) → length order ≤ p + done → p < length order → HasPath arcs (get_or order p 0) k → has_bit words width (get_or order p 0) k ≡ true

word_inside : (n width k : ℕ) → width ≡ n / 64 + 1 → k < n → k / 64 < width
word_inside n width k wide low = omega (arith, wide, le-div (k / 64) n 64 (omega arith) (omega (arith, div-mul-le_self k 64)))

path_ends : (n : ℕ) (arcs : List Arc) → All (λ a. (a.before < n) × (a.after < n)) arcs → {j k : ℕ} → HasPath arcs j k → (j < n) × (k < n)
path_ends n arcs ends (one s) = All-contains (λ a. (a.before < n) × (a.after < n)) arcs _ ends s
path_ends n arcs ends (more s h) = ((All-contains (λ a. (a.before < n) × (a.after < n)) arcs _ ends s).0, (path_ends n arcs ends h).1)

short_path : (n width : ℕ) (arcs : List Arc) → width ≡ n / 64 + 1 → All (λ a. (a.before < n) × (a.after < n)) arcs → {j k : ℕ} → HasPath arcs j k → k / 64 < width
short_path n width arcs wide ends {j} {k} h = word_inside n width k wide (path_ends n arcs ends h).1

-- the arcs of a job whose bits are next
module _ (order : List ℕ) (arcs : List Arc) (h : IsOrder order arcs) (p : ℕ) (inside : p < length order) where
  abbrev leaving : List Arc
  leaving = filter (λ a. a.before == get_or order p 0) arcs

  -- an arc of the job leads to one that stands later
  goes_on : (a : Arc) → Contains leaving a → Contains arcs a × (a.before ≡ get_or order p 0) × ((q : ℕ) × (p < q) × (q < length order) × (get_or order q 0 ≡ a.after))
  goes_on a c =
      let from = Contains-from_filter (λ b. b.before == get_or order p 0) arcs a c in
      let own : a.before ≡ get_or order p 0 = eqb-true _ _ from.1 in
      let f = All-contains (GoesForward order) arcs a h.forward from.0 in
      let in_p : f.0 < length order = slice_get_within order f.0 _ f.3 in
      let in_q : f.1 < length order = slice_get_within order f.1 _ f.4 in
      let at_p : get_or order f.0 0 ≡ a.before = get_or_from_slice_get order f.0 _ 0 f.3 in
      let at_q : get_or order f.1 0 ≡ a.after = get_or_from_slice_get order f.1 _ 0 f.4 in
      let same : f.0 ≡ p = one_place order f.0 p (h.apart) in_p inside (at_p ∙ own) in
      (from.0, own, (f.1, omega (arith, f.2, same), in_q, at_q))

-- what the arcs of the next job meet
module _ (order : List ℕ) (arcs : List Arc) (width : ℕ) (words : List ℕ) (done job : ℕ)
    (passed : List Arc) (h : IsOrder order arcs) (wide : width ≡ length order / 64 + 1) (f : IsFilling order arcs width words done) (left : done < length order)
    (is : job ≡ get_or order (length order - 1 - done) 0) (own : passed ≡ filter (λ a. a.before == job) arcs) where
  abbrev place : ℕ
  place = length order - 1 - done

  inside : place < length order
  inside = let l : length order - 1 - done < length order = omega arith in l

  arcs_is : passed ≡ leaving order arcs h (length order - 1 - done) inside
  arcs_is = own ∙ ap (λ j. filter (λ a. a.before == j) arcs) is

  abbrev Known : Arc → Type 0
  Known a = Contains arcs a × (a.before ≡ get_or order place 0) × ((q : ℕ) × (place < q) × (q < length order) × (get_or order q 0 ≡ a.after))

  known : All Known passed
  known = subst (All Known) (sym arcs_is) (λ k d t. goes_on order arcs h place inside _ (Contains-get_or (leaving order arcs h (length order - 1 - done) inside) k d t))

  ends_of : (a : Arc) → Contains arcs a → (a.before < length order) × (a.after < length order)
  ends_of a c = All-contains (λ b. (b.before < length order) × (b.after < length order)) arcs a h.ends c

  fits : (j : ℕ) → j < length order → j * width + width ≤ length words
  fits j t = subst (λ m. j * width + width ≤ m) (sym f.whole) (row_inside width (length order) j t)

  pub passed_before : All (λ a. a.before * width + width ≤ length words) passed
  passed_before k d t = fits _ (ends_of _ (known k d t).0).0

  pub passed_after : All (λ a. a.after * width + width ≤ length words) passed
  passed_after k d t = fits _ (ends_of _ (known k d t).0).1

  pub passed_wide : All (λ a. a.after / 64 < width) passed
  passed_wide k d t = word_inside (length order) width _ wide (ends_of _ (known k d t).0).1

  pub passed_apart : All (λ a. a.before ≢ a.after) passed
  passed_apart k d t e =
      let g = known k d t in
      h.apart place g.2.0 0 g.2.1 g.2.2 (sym g.1 ∙ e ∙ sym g.2.3)

  -- the job has the bits of its paths
  row_full : (after : List ℕ) → FollowsAll width passed words after → (k : ℕ) → HasPath arcs (get_or order place 0) k → has_bit after width (get_or order place 0) k ≡ true
  row_full after fa k path = by path refl
    where
      job' : ℕ
      job' = get_or order place 0

      there : (j m : ℕ) → j ≡ job' → HasStep arcs j m → Contains passed (record { before = j; after = m })
      there j m e s = subst (λ l. Contains l (record { before = j; after = m })) (sym arcs_is) (Contains-filter (λ a. a.before == job') arcs (record { before = j; after = m }) s (eq-eqb j job' e))

      by : {j m : ℕ} → HasPath arcs j m → j ≡ job' → has_bit after width j m ≡ true
      by {j} {m} (one s) e = All-contains (λ a. has_bit after width a.before a.after ≡ true) passed _ fa.is_set (there j m e s)
      by {j} {m} (more {k = l} s rest) e =
          let c = there j l e s in
          let q = (All-contains Known passed _ known c).2 in
          let low = short_path (length order) width arcs wide h.ends rest in
          let path : HasPath arcs (get_or order q.0 0) m = subst (λ x. HasPath arcs x m) (sym q.3) rest in
          let old : has_bit words width l m ≡ true = subst (λ x. has_bit words width x m ≡ true) q.3 (f.full q.0 m (omega (arith, q.1)) q.2 path) in
          All-contains (λ a. has_bit words width a.after m ≡ true → has_bit after width a.before m ≡ true) passed _ (fa.joined m low) c old

  pub IsFilling-next : (after : List ℕ) → FollowsAll width passed words after → IsFilling order arcs width after (done + 1)
  IsFilling-next after fa = record {
    whole = fa.whole ∙ f.whole;
    sound = fa.only arcs (λ k d t. (known k d t).0) f.sound;
    full = full;
  }
    where
      full : (p k : ℕ) → length order ≤ p + (done + 1) → p < length order → HasPath arcs (get_or order p 0) k → has_bit after width (get_or order p 0) k ≡ true
      full p k near t path = elim (cases_eq p place) as (λ _. has_bit after width (get_or order p 0) k ≡ true) [
        | inl same ↦ subst (λ x. has_bit after width (get_or order x 0) k ≡ true) (sym same) (row_full after fa k (subst (λ x. HasPath arcs (get_or order x 0) k) same path))
        | inr other ↦ fa.kept _ k (short_path (length order) width arcs wide h.ends path) (f.full p k (omega (arith, other)) t path)
      ]

pub IsFilling-start : (order : List ℕ) (arcs : List Arc) (width : ℕ) (words : List ℕ)
    → length words ≡ length order * width → ((j k : ℕ) → has_bit words width j k ≡ false) → IsFilling order arcs width words 0
IsFilling-start order arcs width words whole none = record {
  whole = whole;
  sound = λ j k low now. absurd (false≢true (sym (none j k) ∙ now));
  full = λ p k near t. absurd (omega arith);
}

pub HasPathBits-end : (order : List ℕ) (arcs : List Arc) (width : ℕ) (words : List ℕ) (done : ℕ)
    → IsOrder order arcs → width ≡ length order / 64 + 1 → length order ≤ done → IsFilling order arcs width words done → HasPathBits order arcs width words
HasPathBits-end order arcs width words done h wide all f j k in_j in_k = (λ e. f.sound j k (word_inside (length order) width k wide in_k) e, back)
  where
    back : HasPath arcs j k → IsTrue (has_bit words width j k)
    back path =
        let c = h.each j in_j in
        let at : get_or order c.0 0 ≡ j = get_or_default order c.0 0 j c.1 ∙ c.2 in
        subst (λ x. has_bit words width x k ≡ true) at (f.full c.0 k (omega arith) c.1 (subst (λ x. HasPath arcs x k) (sym at) path))

-- ---- the paths of an instance
module _ (i : Instance) (order shown : List ℕ) (listed arcs sorted : List Arc)
    (same : shown ≡ order) (listed_is : listed ≡ i.arcs) (all : IsPermutation listed arcs) (sorted_is : sorted ≡ arcs) (seq : IsSequence i order) where
  whole : length shown ≡ length i.jobs
  whole = ap length same ∙ seq.whole

  permuted : IsPermutation i.arcs sorted
  permuted = subst (λ l. IsPermutation l sorted) listed_is (subst (IsPermutation listed) (sym sorted_is) all)

  pub IsOrder-from_sequence : All (GoesForward order) i.arcs → All (λ a. (a.before < length i.jobs) × (a.after < length i.jobs)) i.arcs → IsOrder shown sorted
  IsOrder-from_sequence forward ends = record {
    inside = subst (λ n. All (λ j. j < n) shown) (sym whole) (subst (All (λ j. j < length i.jobs)) (sym same) once.within);
    each = λ j t. subst (λ l. Contains l j) (sym same) (seq.each j (subst (λ n. j < n) whole t));
    apart = subst (AllPairs (λ j k. j ≢ k)) (sym same) (OnceBelow-distinct once);
    ends = subst (λ n. All (λ a. (a.before < n) × (a.after < n)) sorted) (sym whole) (All-permutation (λ a. (a.before < length i.jobs) × (a.after < length i.jobs)) i.arcs sorted permuted ends);
    forward = subst (λ l. All (GoesForward l) sorted) (sym same) (All-permutation (GoesForward order) i.arcs sorted permuted forward);
  }
    where
      once : OnceBelow (length i.jobs) order
      once = OnceBelow-from_sequence i order seq

  pub ShowsPaths-from_bits : (width wide : ℕ) (words kept : List ℕ) → wide ≡ width → kept ≡ words → HasPathBits shown sorted width words → ShowsPaths i (record { width = wide; words = kept })
  ShowsPaths-from_bits width wide words kept wide_is kept_is h j k in_j in_k =
      let there = h j k (subst (λ n. j < n) (sym whole) in_j) (subst (λ n. k < n) (sym whole) in_k) in
      let e : has_bit kept wide j k ≡ has_bit words width j k = ap₂ (λ l w. has_bit l w j k) kept_is wide_is in (
        λ t. HasPath-permutation sorted i.arcs (IsPermutation-sym i.arcs sorted permuted) (there.0 (sym e ∙ t)),
        λ p. e ∙ there.1 (HasPath-permutation i.arcs sorted permuted p),
      )
