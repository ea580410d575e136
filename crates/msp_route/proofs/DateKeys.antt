-- Jobs that rise by the keys of their due dates go by due date.
use Rattle.std.proofs.Common.{◌≡◌, ◌≢◌, ℕ, ◌^◌, ◌<◌, ◌≤◌, ◌⊎◌, inl, inr, List, length, get_or, pos, ◌+ℤ◌, AllPairs, IsPermutation, sym, subst, arith}
use Rattle.std.specs.List.{range_with_len}
use Rattle.std.proofs.lemmas.Int.{ints}
use Rattle.msp_class.proofs.Sums.{OnceBelow, OnceBelow-from_permutation, OnceBelow-distinct}
use Rattle.msp_instance.specs.declared.Instance.{Instance}
use Rattle.msp_instance.specs.Instance.{job_at}
use Rattle.msp_route.specs.Dates.{AreDateKeys, IsDueBefore}

module _ (i : Instance) (keys order : List ℕ) (count : length keys ≡ length i.jobs) (each : AreDateKeys i keys) where
  abbrev key : ℕ → ℕ
  key j = get_or keys j 0

  pub by_date : IsPermutation (range_with_len 0 (length keys)) order → AllPairs (λ a b. (key a < key b) ⊎ ((key a ≡ key b) × (a ≤ b))) order → AllPairs (IsDueBefore i) order
  by_date p up a b d l k =
      let once : OnceBelow (length i.jobs) order = OnceBelow-from_permutation (subst (λ n. IsPermutation (range_with_len 0 n) order) count p) in
      one (get_or order a d) (get_or order b d) (each (get_or order a d) (once.within a d (omega (arith, l, k))))
      (each (get_or order b d) (once.within b d k)) (OnceBelow-distinct once a b d l k) (up a b d l k)
    where
      one : (x y : ℕ) → pos (key x) ≡ (job_at i x).due +ℤ pos (2 ^ 63) → pos (key y) ≡ (job_at i y).due +ℤ pos (2 ^ 63) → x ≢ y → (key x < key y) ⊎ ((key x ≡ key y) × (x ≤ y)) → IsDueBefore i x y
      one x y ex ey n (inl h) = inl (omega (arith, ints, ex, ey, h))
      one x y ex ey n (inr h) = inr (omega (arith, ints, ex, ey, h.0), omega (arith, h.1, n))

-- the keys as the code passes them
pub each_at : (i : Instance) (shown keys : List ℕ) → shown ≡ keys → AreDateKeys i keys → AreDateKeys i shown
each_at i shown keys e h = subst (AreDateKeys i) (sym e) h
