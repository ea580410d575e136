-- Jobs with keys, as they are listed and sorted.
use Rattle.std.proofs.Common.{◌≡◌, ℕ, ◌<◌, ◌≤◌, ◌⊎◌, inl, inr, List, [], ◌∷◌, ◌++◌, length, get_or, map, All, AllPairs, IsPermutation, sym, subst, subst₂, arith}
use Rattle.std.specs.List.{range_with_len}
use Rattle.std.proofs.lemmas.List.{length-map, get_or-map}
use Rattle.std.proofs.lemmas.List.Elements.{All-push}
use Rattle.std.proofs.lemmas.List.Sorted.{IsPermutation-map, All-permutation}
use Rattle.msp_route.specs.declared.keyed.Keyed.{Keyed}

abbrev pub HasKey : (ℕ → ℕ) → Keyed → Type 0
HasKey key k = k.key ≡ key k.job

pub keys-next : (key : ℕ → ℕ) (new old : List Keyed) (x : Keyed) → new ≡ old ++ x ∷ [] → HasKey key x → All (HasKey key) old → All (HasKey key) new
keys-next key new old x e is so_far = subst (All (HasKey key)) (sym e) (All-push (HasKey key) old x so_far is)

pub numbers_all : (count : ℕ) (all sorted : List Keyed) (jobs : List ℕ)
    → map (λ k. k.job) all ≡ range_with_len 0 count → IsPermutation all sorted → jobs ≡ map (λ k. k.job) sorted → IsPermutation (range_with_len 0 count) jobs
numbers_all count all sorted jobs e p is =
    subst (IsPermutation (range_with_len 0 count)) (sym is) (subst (λ l. IsPermutation l (map (λ k. k.job) sorted)) e (IsPermutation-map (λ k. k.job) all sorted p))

abbrev pub Rises : (ℕ → ℕ) → ℕ → ℕ → Type 0
Rises key a b = (key a < key b) ⊎ ((key a ≡ key b) × (a ≤ b))

abbrev pub Falls : (ℕ → ℕ) → ℕ → ℕ → Type 0
Falls key a b = (key b < key a) ⊎ ((key b ≡ key a) × (a ≤ b))

-- a relation of jobs, from one of jobs with their keys
numbers_related : (R : ℕ → ℕ → Type 0) (S : Keyed → Keyed → Type 0) (key : ℕ → ℕ) (all sorted : List Keyed) (jobs : List ℕ)
    → ((a b : Keyed) → HasKey key a → HasKey key b → S a b → R a.job b.job) → All (HasKey key) all → IsPermutation all sorted → AllPairs S sorted
    → jobs ≡ map (λ k. k.job) sorted → AllPairs R jobs
numbers_related R S key all sorted jobs one each p up is = subst (AllPairs R) (sym is) related
  where
    have : All (HasKey key) sorted
    have = All-permutation (HasKey key) all sorted p each

    related : AllPairs R (map (λ k. k.job) sorted)
    related a b d l k =
        let kb : b < length sorted = omega (arith, k, length-map sorted (λ k. k.job)) in
        let ka : a < length sorted = omega (arith, kb, l) in
        let r : Keyed = record { job = 0; key = 0 } in
        subst₂ R (sym (get_or-map (λ k. k.job) sorted a r d ka))
        (sym (get_or-map (λ k. k.job) sorted b r d kb)) (one (get_or sorted a r) (get_or sorted b r) (have a r ka) (have b r kb) (up a b r l kb))

pub numbers_rising : (key : ℕ → ℕ) (all sorted : List Keyed) (jobs : List ℕ) → All (HasKey key) all → IsPermutation all sorted
    → AllPairs (λ a b. (a.key < b.key) ⊎ ((a.key ≡ b.key) × (a.job ≤ b.job))) sorted → jobs ≡ map (λ k. k.job) sorted → AllPairs (Rises key) jobs
numbers_rising key all sorted jobs each p up is = numbers_related (Rises key) (λ a b. (a.key < b.key) ⊎ ((a.key ≡ b.key) × (a.job ≤ b.job)))
    key all sorted jobs (λ a b e f h. elim h [ inl l ↦ inl (omega (arith, e, f, l)) | inr s ↦ inr (omega (arith, e, f, s.0), s.1) ]) each p up is

pub numbers_falling : (key : ℕ → ℕ) (all sorted : List Keyed) (jobs : List ℕ) → All (HasKey key) all → IsPermutation all sorted
    → AllPairs (λ a b. (b.key < a.key) ⊎ ((b.key ≡ a.key) × (a.job ≤ b.job))) sorted → jobs ≡ map (λ k. k.job) sorted → AllPairs (Falls key) jobs
numbers_falling key all sorted jobs each p down is = numbers_related (Falls key) (λ a b. (b.key < a.key) ⊎ ((b.key ≡ a.key) × (a.job ≤ b.job)))
    key all sorted jobs (λ a b e f h. elim h [ inl l ↦ inl (omega (arith, e, f, l)) | inr s ↦ inr (omega (arith, e, f, s.0), s.1) ]) each p down is

-- without the ties
pub rises_or_stays : (key : ℕ → ℕ) (jobs : List ℕ) → AllPairs (Rises key) jobs → AllPairs (λ a b. key a ≤ key b) jobs
rises_or_stays key jobs h a b d l k = elim (h a b d l k) [ inl x ↦ omega (arith, x) | inr x ↦ omega (arith, x.0) ]

pub falls_or_stays : (key : ℕ → ℕ) (jobs : List ℕ) → AllPairs (Falls key) jobs → AllPairs (λ a b. key b ≤ key a) jobs
falls_or_stays key jobs h a b d l k = elim (h a b d l k) [ inl x ↦ omega (arith, x) | inr x ↦ omega (arith, x.0) ]
