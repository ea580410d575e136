-- Groups of the longest jobs, on the fastest machines.
use Rattle.std.proofs.Common.{◌≡◌, ℕ, zero, suc, ◌+◌, ◌*◌, ◌-◌, ◌<◌, ◌≤◌, inl, inr, List, [], ◌∷◌, length, get_or, map, All, AllPairs, Contains, IsPermutation, sum_by, sym, ap}
use Rattle.std.proofs.Common.{◌∙◌, subst, subst₂, arith}
use Rattle.std.specs.Prelude.{take, sum}
use Rattle.std.specs.List.{range_with_len}
use Rattle.std.proofs.lemmas.List.{get_or-map, length-map, take-map}
use Rattle.std.proofs.lemmas.List.Sums.{sum_by-cons, sum-map}
use Rattle.std.proofs.lemmas.List.Sorted.{IsPermutation-map, IsPermutation-sym, IsPermutation-trans, sum_by-IsPermutation}
use Rattle.msp_class.proofs.Sums.{AllPairs-head}
use Rattle.msp_instance.specs.declared.Instance.{Instance}
use Rattle.msp_pieces.specs.BackToBack.{time_at}
use Rattle.msp_pieces.specs.Speeds.{speed_of}
use Rattle.msp_pieces.specs.Blocks.{total_time}
use Rattle.msp_cert.specs.Certificates.{IsSpeedOfFastest}
use Rattle.msp_cert.specs.Search.{AreLongestFirst}
use Rattle.msp_cert.proofs.Fastest.{some_threshold}

-- ---- the first numbers of a falling list depend on its numbers alone
first_low : (k t : ℕ) (xs : List ℕ) → sum (take k xs) ≤ k * t + sum_by (λ x. x - t) xs
first_low zero t xs = omega arith
first_low (suc k) t [] = omega arith
first_low (suc k) t (x ∷ xs) = omega (arith, first_low k t xs, sum_by-cons (λ y. y - t) x xs, sum_by-cons (λ y. y) x (take k xs))

first_most : (k : ℕ) (xs ys : List ℕ) → 1 ≤ k → IsPermutation xs ys → AllPairs (λ x y. y ≤ x) ys → sum (take k xs) ≤ sum (take k ys)
first_most k xs ys some all falls =
    let (t, h) = some_threshold ys k some falls in
    by t h.reached
  where
    by : (t : ℕ) → k * t + sum_by (λ x. x - t) ys ≤ sum (take k ys) → sum (take k xs) ≤ sum (take k ys)
    by t reached = omega (arith, first_low k t xs, reached, sum_by-IsPermutation (λ x. x - t) xs ys all)

pub first_same : (k : ℕ) (xs ys : List ℕ) → 1 ≤ k → IsPermutation xs ys → AllPairs (λ x y. y ≤ x) xs → AllPairs (λ x y. y ≤ x) ys → sum (take k xs) ≡ sum (take k ys)
first_same k xs ys some all down falls = omega (arith, first_most k xs ys some all falls, first_most k ys xs some (IsPermutation-sym xs ys all) down)

-- ---- lists
pub AllPairs-map : (R : ℕ → ℕ → Type 0) (f : ℕ → ℕ) (xs : List ℕ) → AllPairs (λ a b. R (f a) (f b)) xs → AllPairs R (map f xs)
AllPairs-map R f xs h p q d l b =
    let inside : q < length xs = omega (arith, b, length-map xs f) in
    subst₂ R (sym (get_or-map f xs p 0 d (omega (arith, l, inside)))) (sym (get_or-map f xs q 0 d inside)) (h p q 0 l inside)

-- ---- jobs by falling time, and machines by falling speed
module _ (i : Instance) (longest : List ℕ) (first : AreLongestFirst i longest) where
  pub longest_falls : AllPairs (λ a b. time_at i b ≤ time_at i a) longest
  longest_falls p q d l b = elim (first.falls p q d l b) [ inl less ↦ omega arith | inr same ↦ omega (arith, same.0) ]

  -- the k longest jobs take as long together in any other falling order
  pub first_work : (k : ℕ) (jobs : List ℕ) → 1 ≤ k → IsPermutation (range_with_len 0 (length i.jobs)) jobs
      → AllPairs (λ a b. time_at i b ≤ time_at i a) jobs → total_time i (take k longest) ≡ sum_by (time_at i) (take k jobs)
  first_work k jobs some all falls =
      let ordered : IsPermutation longest jobs = IsPermutation-trans longest _ jobs (IsPermutation-sym _ longest first.all) all in
      spread longest
      ∙ first_same k (map (time_at i) longest) (map (time_at i) jobs) some (IsPermutation-map (time_at i) longest jobs ordered)
      (AllPairs-map (λ x y. y ≤ x) (time_at i) longest longest_falls) (AllPairs-map (λ x y. y ≤ x) (time_at i) jobs falls)
      ∙ sym (spread jobs)
    where
      spread : (xs : List ℕ) → sum_by (time_at i) (take k xs) ≡ sum (take k (map (time_at i) xs))
      spread xs = sym (ap sum (take-map (time_at i) k xs) ∙ sum-map (time_at i) (take k xs))

pub first_speed : (i : Instance) (k : ℕ) (machines : List ℕ) → sum_by (speed_of i) (take k machines) ≡ sum (take k (map (speed_of i) machines))
first_speed i k machines = sym (ap sum (take-map (speed_of i) k machines) ∙ sum-map (speed_of i) (take k machines))

pub IsSpeedOfFastest-first : (i : Instance) (k : ℕ) (machines : List ℕ) → IsPermutation (range_with_len 0 i.machines) machines
    → AllPairs (λ a b. speed_of i b ≤ speed_of i a) machines → IsSpeedOfFastest i k (sum_by (speed_of i) (take k machines))
IsSpeedOfFastest-first i k machines all falls = record {
  order = map (speed_of i) machines;
  all = IsPermutation-map (speed_of i) (range_with_len 0 i.machines) machines all;
  falls = AllPairs-map (λ x y. y ≤ x) (speed_of i) machines falls;
  first = first_speed i k machines;
}

-- the first of a falling list is the greatest
pub first_greatest : (f : ℕ → ℕ) (xs : List ℕ) → AllPairs (λ a b. f b ≤ f a) xs → (x : ℕ) → Contains xs x → f x ≤ sum_by f (take 1 xs)
first_greatest f [] falls x (k, inside, at) = absurd (omega (arith, inside))
first_greatest f (y ∷ ys) falls x (zero, inside, at) = subst (λ z. f z ≤ sum_by f (y ∷ [])) at (omega (arith, sum_by-cons f y []))
first_greatest f (y ∷ ys) falls x (suc k, inside, at) =
    let low : f (get_or ys k x) ≤ f y = AllPairs-head (λ a b. f b ≤ f a) y ys falls k x (omega (arith, inside)) in
    subst (λ z. f z ≤ sum_by f (y ∷ [])) at (omega (arith, sum_by-cons f y [], low))

pub first_is : (f : ℕ → ℕ) (xs : List ℕ) (bound : ℕ) → All (λ x. f x ≤ bound) xs → sum_by f (take 1 xs) ≤ bound
first_is f [] bound h = omega arith
first_is f (y ∷ ys) bound h = omega (arith, sum_by-cons f y [], h 0 0 (omega arith))
