-- Lemmas on the words of jobs joined, and on arcs followed one after the other.
use Rattle.std.proofs.Common.{◌≡◌, ◌≢◌, ◌⊎◌, ℕ, ◌<◌, ◌≤◌, ◌+◌, ◌*◌, ◌/◌, ◌%◌, true, eqb, bit_or, List, [], ◌∷◌, ◌++◌, length, get_or, take}
use Rattle.std.proofs.Common.{All, Contains, ap, ap₂, sym, ◌∙◌, subst, inl, inr, arith}
use Rattle.std.specs.Int.{bit_at}
use Rattle.std.proofs.lemmas.Bool.{cases_eq}
use Rattle.std.proofs.lemmas.List.{take_more}
use Rattle.std.proofs.lemmas.List.Elements.{All-push, All-take, All-contains, Contains-push}
use Rattle.msp_instance.specs.declared.Arc.{Arc}
use Rattle.msp_instance.specs.Bits.{has_bit}
use Rattle.msp_instance.specs.Paths.{HasStep, HasPath, one, more}
use Rattle.msp_instance.proofs.MultipleLemmas.{All-append_left}
use Rattle.msp_instance.specs.PathBits.{JoinsWords, SetsBit, Follows, FollowsAll}
use Rattle.msp_instance.proofs.BitLemmas.{or_bit, or_bit_left, or_bit_right, rows_disjoint}

-- ---- the first words joined
pub record JoinedTo (to from k : ℕ) (before words : List ℕ) : Type 0 where
  pub joined : (j : ℕ) → j < k → get_or words (to + j) 0 ≡ bit_or (get_or before (to + j) 0) (get_or before (from + j) 0)
  pub others : (i : ℕ) → (i < to) ⊎ (to + k ≤ i) → get_or words i 0 ≡ get_or before i 0

-- ---- an arc followed
pub places_apart : (width : ℕ) (a : Arc) (to from : ℕ) → to ≡ a.before * width + 0 / 64 → from ≡ a.after * width + 0 / 64 → a.before ≢ a.after → (to + width ≤ from) ⊎ (from + width ≤ to)
places_apart width a to from to_is from_is differs = grind (arith, rows_disjoint width a.before a.after differs)

module _ (width : ℕ) (a : Arc) (to from : ℕ) (before middle after : List ℕ) (to_is : to ≡ a.before * width + 0 / 64)
    (from_is : from ≡ a.after * width + 0 / 64) (h : JoinsWords width to from before middle) (m : SetsBit width a.before a.after middle after) where
  row_word : (k : ℕ) → k / 64 < width → get_or middle (a.before * width + k / 64) 0 ≡ bit_or (get_or before (a.before * width + k / 64) 0) (get_or before (a.after * width + k / 64) 0)
  row_word k low = let j = h.joined (k / 64) low in
      ap (λ n. get_or middle n 0) (omega (arith, to_is)) ∙ j ∙ ap₂ (λ p q. bit_or (get_or before p 0) (get_or before q 0)) (omega (arith, to_is)) (omega (arith, from_is))

  other_word : (j k : ℕ) → k / 64 < width → j ≢ a.before → get_or middle (j * width + k / 64) 0 ≡ get_or before (j * width + k / 64) 0
  other_word j k low differs = h.others (j * width + k / 64) (grind (arith, rows_disjoint width j a.before differs))

  kept_middle : (j k : ℕ) → k / 64 < width → has_bit before width j k ≡ true → has_bit middle width j k ≡ true
  unfolding has_bit
  kept_middle j k low was = elim (cases_eq j a.before) as (λ _. has_bit middle width j k ≡ true) [
    | inl same ↦
        let P : ℕ → Type 0 = λ n. has_bit middle width n k ≡ true in
        let old : has_bit before width a.before k ≡ true = ap (λ n. has_bit before width n k) (sym same) ∙ was in
        subst P (sym same) (ap (λ w. eqb (bit_at w (k % 64)) 1) (row_word k low) ∙ or_bit_left _ _ (k % 64) old)
    | inr differs ↦ ap (λ w. eqb (bit_at w (k % 64)) 1) (other_word j k low differs) ∙ was
  ]

  joined_middle : (k : ℕ) → k / 64 < width → has_bit before width a.after k ≡ true → has_bit middle width a.before k ≡ true
  unfolding has_bit
  joined_middle k low was = ap (λ w. eqb (bit_at w (k % 64)) 1) (row_word k low) ∙ or_bit_right _ _ (k % 64) was

  only_middle : (j k : ℕ) → k / 64 < width → has_bit middle width j k ≡ true → (has_bit before width j k ≡ true) ⊎ ((j ≡ a.before) × (has_bit before width a.after k ≡ true))
  unfolding has_bit
  only_middle j k low now = elim (cases_eq j a.before) as (λ _. (has_bit before width j k ≡ true) ⊎ ((j ≡ a.before) × (has_bit before width a.after k ≡ true))) [
    | inl same ↦
        let here : has_bit middle width a.before k ≡ true = ap (λ n. has_bit middle width n k) (sym same) ∙ now in
        elim (or_bit (get_or before (a.before * width + k / 64) 0) (get_or before (a.after * width + k / 64) 0) (k % 64)
        (ap (λ w. eqb (bit_at w (k % 64)) 1) (sym (row_word k low)) ∙ here)) as (λ _. (has_bit before width j k ≡ true) ⊎ ((j ≡ a.before) × (has_bit before width a.after k ≡ true))) [
          | inl own ↦ inl (ap (λ n. has_bit before width n k) same ∙ own)
          | inr new ↦ inr (same, new)
        ]
    | inr differs ↦ inl (ap (λ w. eqb (bit_at w (k % 64)) 1) (sym (other_word j k low differs)) ∙ now)
  ]

  pub Follows-from : Follows width a before after
  Follows-from = record {
    kept = λ j k low was. m.kept j k low (kept_middle j k low was);
    is_set = m.is_set;
    joined = λ k low was. m.kept a.before k low (joined_middle k low was);
    only = only;
  }
    where
      only : (j k : ℕ) → k / 64 < width → has_bit after width j k ≡ true → (has_bit before width j k ≡ true) ⊎ ((j ≡ a.before) × ((k ≡ a.after) ⊎ (has_bit before width a.after k ≡ true)))
      only j k low now = elim (m.others j k low now) as (λ _. (has_bit before width j k ≡ true) ⊎ ((j ≡ a.before) × ((k ≡ a.after) ⊎ (has_bit before width a.after k ≡ true)))) [
        | inl there ↦ elim (only_middle j k low there) as (λ _. (has_bit before width j k ≡ true) ⊎ ((j ≡ a.before) × ((k ≡ a.after) ⊎ (has_bit before width a.after k ≡ true)))) [
          | inl was ↦ inl was
          | inr new ↦ inr (new.0, inr new.1)
        ]
        | inr pair ↦ inr (pair.0, inl pair.1)
      ]

-- ---- arcs followed one after the other
pub FollowsAll-more : (width : ℕ) (arcs : List Arc) (i : ℕ) (d : Arc) (before now after : List ℕ) → i < length arcs → All (λ a. a.after / 64 < width) arcs → length after ≡ length now
    → Follows width (get_or arcs i d) now after → FollowsAll width (take i arcs) before now → FollowsAll width (take (i + 1) arcs) before after
FollowsAll-more width arcs i d before now after t wide same f h = record {
  whole = same ∙ h.whole;
  kept = λ j k low was. f.kept j k low (h.kept j k low was);
  is_set = subst (All (λ b. has_bit after width b.before b.after ≡ true)) (sym cut)
      (All-push (λ b. has_bit after width b.before b.after ≡ true) (take i arcs) a (λ k e u. f.kept _ _ (All-take (λ b. b.after / 64 < width) i arcs wide k e u) (h.is_set k e u)) f.is_set);
  joined = λ k low. subst (All (λ b. has_bit before width b.after k ≡ true → has_bit after width b.before k ≡ true)) (sym cut)
      (All-push (λ b. has_bit before width b.after k ≡ true → has_bit after width b.before k ≡ true)
      (take i arcs) a (λ p e u was. f.kept _ k low (h.joined k low p e u was)) (λ was. f.joined k low (h.kept _ k low was)));
  only = only;
}
  where
    a : Arc
    a = get_or arcs i d

    cut : take (i + 1) arcs ≡ take i arcs ++ a ∷ []
    cut = take_more arcs i d t

    only : (all : List Arc) → All (λ b. Contains all b) (take (i + 1) arcs) → ((j k : ℕ) → k / 64 < width → has_bit before width j k ≡ true → HasPath all j k)
        → (j k : ℕ) → k / 64 < width → has_bit after width j k ≡ true → HasPath all j k
    only all there sound j k low e =
        let there' = subst (All (λ b. Contains all b)) cut there in
        let early = h.only all (All-append_left (λ b. Contains all b) (take i arcs) (a ∷ []) there') sound in
        let own : HasStep all a.before a.after = All-contains (λ b. Contains all b) (take i arcs ++ a ∷ []) a there' (Contains-push (take i arcs) a) in
        elim (f.only j k low e) as (λ _. HasPath all j k) [
          | inl was ↦ early j k low was
          | inr new ↦ subst (λ m. HasPath all m k) (sym new.0) (elim new.1 as (λ _. HasPath all a.before k) [
            | inl same ↦ subst (HasPath all a.before) (sym same) (one own)
            | inr on ↦ more own (early a.after k low on)
          ])
        ]
