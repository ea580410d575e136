-- Jobs back to back, each begun when the one before it ends: the weighted sum of their ends, and orders that no packing of pieces beats.
use Rattle.std.proofs.Common.{◌≡◌, ℕ, ◌+◌, ◌*◌, ◌≤◌, ◌<◌, cond, leb, List, [], ◌∷◌, ◌++◌, get_or, All, AllPairs, sum_by, IsPermutation}
use Rattle.std.proofs.Common.{le_trans, arith, sym, ap, subst, ◌∙◌}
use Rattle.std.specs.List.{range_with_len}
use Rattle.std.proofs.lemmas.List.Sums.{sum_by-cons}
use Rattle.std.proofs.lemmas.Bool.{le-leb}
use native.Mathlib.Nat.{mul-le-mul_left}
use Rattle.msp_class.specs.Sums.{total_below}
use Rattle.msp_class.proofs.Sums.{sum_by-mono, sum_by-agree, sum_by-add, sum_by-scale, sum_by-scale_right, sum_by-OnceBelow, total_below-same, total_below-scale, cond-scale}
use Rattle.msp_class.proofs.Sums.{cond-yes, OnceBelow, OnceBelow-from_permutation, AllPairs-head, AllPairs-tail}
use Rattle.msp_pieces.specs.Intervals.{IsApart, work_of}
use Rattle.msp_pieces.proofs.lists.Intervals.{earlier_ends, last_of, last_of-bound}
use Rattle.msp_pieces.specs.BackToBack.{weighted_ends}
use Rattle.std.proofs.lemmas.Bool.Decides.{nat_tests}

-- how long the jobs of xs take that end no later than j, where job i ends at c i
abbrev pub done_by : {X : Type 0} → (X → ℕ) → (X → ℕ) → List X → X → ℕ
done_by p c xs j = sum_by (λ i. cond (leb (c i) (c j)) (p i) 0) xs

module _ {X : Type 0} (p w : X → ℕ) where
  -- a row that begins s later
  pub weighted_ends-later : (t s : ℕ) (xs : List X) → weighted_ends p w (t + s) xs ≡ weighted_ends p w t xs + s * sum_by w xs
  weighted_ends-later t s [] = omega arith
  weighted_ends-later t s (j ∷ xs) =
      let move : t + s + p j ≡ t + p j + s = omega arith in
      omega (arith, ap (λ u. weighted_ends p w u xs) move, weighted_ends-later (t + p j) s xs, ap (λ n. s * n) (sum_by-cons w j xs))

  pub weighted_ends-append : (t : ℕ) (xs ys : List X) → weighted_ends p w t (xs ++ ys) ≡ weighted_ends p w t xs + weighted_ends p w (t + sum_by p xs) ys
  weighted_ends-append t [] ys = let same : t + 0 ≡ t = omega arith in omega (arith, ap (λ u. weighted_ends p w u ys) same)
  weighted_ends-append t (j ∷ xs) ys =
      let move : t + p j + sum_by p xs ≡ t + sum_by p (j ∷ xs) = omega (arith, sum_by-cons p j xs) in
      omega (arith, weighted_ends-append (t + p j) xs ys, ap (λ u. weighted_ends p w u ys) move)

  -- the sum of weights, each times the time of what ends no later
  abbrev pub weighted_done : (X → ℕ) → List X → ℕ
  weighted_done c xs = sum_by (λ j. w j * done_by p c xs j) xs

  -- of two jobs, a before i, the ends c leave as much as the row takes
  abbrev pub Covers : (X → ℕ) → X → X → Type 0
  Covers c a i = w i * p a ≤ w a * cond (leb (c i) (c a)) (p i) 0 + w i * cond (leb (c a) (c i)) (p a) 0

  -- Smith's rule: the greater weight for its time goes first
  abbrev pub SmithBefore : X → X → Type 0
  SmithBefore a i = w i * p a ≤ w a * p i

  pub Covers-from_smith : (c : X → ℕ) (a i : X) → SmithBefore a i → Covers c a i
  Covers-from_smith c a i h = grind (arith, nat_tests)

  done_by-cons : (c : X → ℕ) (a : X) (xs : List X) (j : X) → done_by p c (a ∷ xs) j ≡ cond (leb (c a) (c j)) (p a) 0 + done_by p c xs j
  done_by-cons c a xs j = sum_by-cons (λ i. cond (leb (c i) (c j)) (p i) 0) a xs

  weighted_done-cons : (c : X → ℕ) (a : X) (xs : List X)
      → weighted_done c (a ∷ xs) ≡ w a * p a + sum_by (λ i. w a * cond (leb (c i) (c a)) (p i) 0 + w i * cond (leb (c a) (c i)) (p a) 0) xs + weighted_done c xs
  weighted_done-cons c a xs =
      let own : cond (leb (c a) (c a)) (p a) 0 ≡ p a = cond-yes (p a) (le-leb (c a) (c a) (omega arith)) in
      let first : w a * done_by p c (a ∷ xs) a ≡ w a * (p a + done_by p c xs a) = ap (λ n. w a * n) (done_by-cons c a xs a ∙ ap (λ n. n + done_by p c xs a) own) in
      let rest : sum_by (λ j. w j * done_by p c (a ∷ xs) j) xs ≡ sum_by (λ j. w j * cond (leb (c a) (c j)) (p a) 0 + w j * done_by p c xs j) xs =
      sum_by-agree _ _ xs (λ j. ap (λ n. w j * n) (done_by-cons c a xs j) ∙ omega arith) in
      omega (
        arith,
        sum_by-cons (λ j. w j * done_by p c (a ∷ xs) j) a xs,
        first,
        rest,
        sum_by-add (λ j. w j * cond (leb (c a) (c j)) (p a) 0) (λ j. w j * done_by p c xs j) xs,
        sum_by-scale (w a) (λ i. cond (leb (c i) (c a)) (p i) 0) xs,
        sum_by-add (λ i. w a * cond (leb (c i) (c a)) (p i) 0) (λ i. w i * cond (leb (c a) (c i)) (p a) 0) xs,
      )

  -- where each pair is covered, the row costs no more than the ends leave
  pub weighted_ends-le-weighted_done : (c : X → ℕ) (xs : List X) → AllPairs (Covers c) xs → weighted_ends p w 0 xs ≤ weighted_done c xs
  weighted_ends-le-weighted_done c [] h = omega arith
  weighted_ends-le-weighted_done c (a ∷ xs) h =
      let cross : sum_by (λ i. w i * p a) xs ≤ sum_by (λ i. w a * cond (leb (c i) (c a)) (p i) 0 + w i * cond (leb (c a) (c i)) (p a) 0) xs = sum_by-mono _ _ xs (AllPairs-head (Covers c) a xs h) in
      let later : weighted_ends p w (0 + p a) xs ≡ weighted_ends p w 0 xs + p a * sum_by w xs = weighted_ends-later 0 (p a) xs in
      omega (arith, cross, sum_by-scale_right (p a) w xs, weighted_done-cons c a xs, later, weighted_ends-le-weighted_done c xs (AllPairs-tail (Covers c) a xs h))

  -- Smith's rule is best: where each job ends no sooner than D times what ends no later takes, D times the row costs no more than the ends
  pub smith_is_best : (D : ℕ) (c : X → ℕ) (xs : List X) → AllPairs SmithBefore xs → All (λ j. D * done_by p c xs j ≤ c j) xs → D * weighted_ends p w 0 xs ≤ sum_by (λ j. w j * c j) xs
  smith_is_best D c xs h ends =
      le_trans (mul-le-mul_left D (weighted_ends-le-weighted_done c xs (λ i j d a b. Covers-from_smith c _ _ (h i j d a b))))
      (subst (λ n. n ≤ sum_by (λ j. w j * c j) xs) (sum_by-scale D (λ j. w j * done_by p c xs j) xs)
      (sum_by-mono (λ j. D * (w j * done_by p c xs j)) (λ j. w j * c j) xs (λ k d l. omega (arith, mul-le-mul_left (w (get_or xs k d)) (ends k d l)))))

-- ---- against any pieces on one machine. xs: pieces of the jobs below n; `last j` bounds the ends of the pieces of j
module _ {X : Type 0} (job from to : X → ℕ) (n : ℕ) (xs : List X) where
  -- each job ends no sooner than D times what ends no later
  pub ends_cover_work : (D : ℕ) (p last : ℕ → ℕ) (order : List ℕ) → OnceBelow n order
      → All (λ q. job q < n) xs → AllPairs (IsApart from to) xs → ((j : ℕ) → j < n → work_of job from to xs j ≡ D * p j)
      → All (λ q. to q ≤ last (job q)) xs → (j : ℕ) → D * done_by p last order j ≤ last j
  ends_cover_work D p last order o jobs apart full ends j =
      subst (λ m. m ≤ last j) (sym same) (earlier_ends job from to last n (last j) xs jobs apart ends)
    where
      same : D * done_by p last order j ≡ total_below n (λ i. cond (leb (last i) (last j)) (work_of job from to xs i) 0)
      same =
          ap (λ m. D * m) (sum_by-OnceBelow (λ i. cond (leb (last i) (last j)) (p i) 0) o)
          ∙ sym (total_below-scale n D (λ i. cond (leb (last i) (last j)) (p i) 0))
          ∙ total_below-same n _ _ (λ i l. sym (cond-scale (leb (last i) (last j)) D (p i)) ∙ ap (λ m. cond (leb (last i) (last j)) m 0) (sym (full i l)))

  -- Smith: no pieces end, weighted, sooner than D times an order of the jobs by Smith's rule
  pub smith_beats_last : (D : ℕ) (p w : ℕ → ℕ) (order : List ℕ) → IsPermutation (range_with_len 0 n) order → AllPairs (SmithBefore p w) order
      → All (λ q. job q < n) xs → AllPairs (IsApart from to) xs → ((j : ℕ) → j < n → work_of job from to xs j ≡ D * p j)
      → D * weighted_ends p w 0 order ≤ total_below n (λ j. w j * last_of job to xs j)
  smith_beats_last D p w order perm smith jobs apart full =
      let o = OnceBelow-from_permutation perm in
      subst (λ m. D * weighted_ends p w 0 order ≤ m) (sum_by-OnceBelow (λ j. w j * last_of job to xs j) o)
      (smith_is_best p w D (last_of job to xs) order smith (λ k d l. ends_cover_work D p (last_of job to xs) order o jobs apart full (last_of-bound job to xs) (get_or order k d)))
