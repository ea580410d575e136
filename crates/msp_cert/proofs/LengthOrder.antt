-- Falling time and then rising number is a strict weak order of jobs, so a sort by it puts the longest job first, and ties by number.
use Rattle.std.proofs.Common.{◌≡◌, ◌≢◌, ℕ, ◌<◌, Bool, false, ◌⊎◌, inl, inr, List, get_or, AllPairs, IsPermutation, refl, sym, arith}
use Rattle.std.specs.List.{range_with_len}
use Rattle.std.specs.Ordering.{is_lt, nat_cmp, ordering_then, MatchOrdering, then_cmp, on, flip_args}
use Rattle.std.specs.declared.cmp.Ordering.{Ordering}
use Rattle.std.specs.declared.cmp.Ordering.TheVariants.{Equal, Greater}
use Rattle.std.specs.Cmp.{IsTotalOrder, IsStrictWeakOrder}
use Rattle.std.specs.List.Sorted.{IsSortedBy}
use Rattle.std.proofs.lemmas.Cmp.{ranked, nat_cmp_total, on_total, then_total, back_total}
use Rattle.std.proofs.lemmas.List.Sorted.{sorted_far, ranks_by}
use Rattle.msp_class.proofs.Sums.{OnceBelow-range, OnceBelow-distinct}
use Rattle.msp_pieces.proofs.lists.Permuted.{AllPairs-permutation}

-- two different jobs, of which the second does not stand first
stands_first : (t u j k : ℕ) (x y : Ordering) → MatchOrdering x (t < u) (t ≡ u) (u < t)
    → MatchOrdering y (k < j) (k ≡ j) (j < k) → j ≢ k → is_lt (ordering_then x y) ≡ false → (u < t) ⊎ ((u ≡ t) × (j < k))
stands_first t u j k Equal Equal h g apart e = absurd (omega (arith, g, apart))
stands_first t u j k Equal Greater h g apart e = inr (omega (arith, h), g)
stands_first t u j k Greater y h g apart e = inl h
stands_first t u j k _ _ h g apart e = absurd (cc)

module _ (time : ℕ → ℕ) where
  abbrev pub longer : ℕ → ℕ → Bool
  longer x y = is_lt (ordering_then (nat_cmp (time y) (time x)) (nat_cmp x y))

  whole : IsTotalOrder (then_cmp (on time (flip_args nat_cmp)) nat_cmp)
  whole = then_total (on_total time (back_total nat_cmp_total)) nat_cmp_total

  pub longer-order : IsStrictWeakOrder longer
  longer-order = ranks_by whole (λ j. j)

  pub longer_sorted : (jobs : List ℕ) → AllPairs (λ j k. j ≢ k) jobs → IsSortedBy longer jobs → AllPairs (λ j k. (time k < time j) ⊎ ((time k ≡ time j) × (j < k))) jobs
  longer_sorted jobs apart h p q d l b =
      let j = get_or jobs p d in
      let k = get_or jobs q d in
      stands_first (time j) (time k) j k (nat_cmp (time j) (time k)) (nat_cmp k j)
      (ranked (time j) (time k) _ refl) (ranked k j _ refl) (apart p q d l b) (sorted_far longer longer-order jobs h p q d (omega (arith, l)) b)

pub distinct_jobs : (count : ℕ) (jobs : List ℕ) → jobs ≡ range_with_len 0 count → AllPairs (λ j k. j ≢ k) jobs
distinct_jobs count jobs e = rw e (OnceBelow-distinct (OnceBelow-range count))

pub still_distinct : (old new : List ℕ) → IsPermutation old new → AllPairs (λ j k. j ≢ k) old → AllPairs (λ j k. j ≢ k) new
still_distinct old new p h = AllPairs-permutation (λ j k. j ≢ k) (λ j k apart e. apart (sym e)) old new p h
