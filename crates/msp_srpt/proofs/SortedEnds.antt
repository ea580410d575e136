-- Numbers in rising order by how many of them are at most a moment, and the sorted ends of a schedule.
use Rattle.std.proofs.Common.{◌≡◌, ℕ, zero, suc, ◌<◌, ◌≤◌, inl, inr, cond, leb, List, length, get_or, map, ℤ, pos, nat_abs, ◌≤ℤ◌, All, sym, ap, subst₂, ◌∙◌, arith}
use Rattle.std.specs.List.{range_with_len}
use Rattle.std.proofs.lemmas.Bool.{cases_lt, le-leb, lt-leb}
use Rattle.std.proofs.lemmas.List.Elements.{All-map}
use Rattle.std.proofs.lemmas.List.FromFn.{length-map-range_with_len}
use Rattle.std.proofs.lemmas.List.Sorted.{All-permutation, length_permutation}
use Rattle.msp_class.proofs.IntegerRing.{natural, le-pos}
use Rattle.msp_class.specs.Sums.{total_below}
use Rattle.msp_class.proofs.Sums.{cond-le, cond-yes, cond-no, sum_by-IsPermutation, sum_by-map, total_below-bound, total_below-same, total_below-constant, total_below-range}
use Rattle.msp_instance.specs.declared.Instance.{Instance}
use Rattle.msp_pieces.specs.declared.Schedule.{Schedule}
use Rattle.msp_pieces.specs.Cost.{end_of}
use Rattle.msp_pieces.proofs.feasible.LastEnds.{last_end-natural}
use Rattle.msp_pieces.proofs.lists.Places.{sum_by-places, total_below-within}
use Rattle.msp_srpt.specs.EqualHeads.{AreSortedEnds, end_number}
use Rattle.msp_srpt.proofs.Counts.{at_most}

-- ---- places that count 0 or 1
-- where none counts from place m on, at most m do
pub few : (n m : ℕ) (f : ℕ → ℕ) → ((p : ℕ) → f p ≤ 1) → ((p : ℕ) → m ≤ p → p < n → f p ≡ 0) → total_below n f ≤ m
few zero m f one none = omega arith
few (suc n) m f one none = elim (cases_lt n m) [
  | inl l ↦ omega (arith, total_below-bound n 1 f (λ p _. one p), one n, l)
  | inr l ↦ omega (arith, none n l (omega arith), few n m f one (λ p a b. none p a (omega (arith, b))))
]

-- where all up to place k do, more than k do
pub many : (n k : ℕ) (f : ℕ → ℕ) → k < n → ((p : ℕ) → p ≤ k → f p ≡ 1) → k < total_below n f
many n k f l h =
    let first = total_below-same (suc k) f (λ _. 1) (λ p m. h p (omega (arith, m))) in
    omega (arith, total_below-within f (suc k) n l, first, total_below-constant (suc k) 1)

-- ---- numbers in rising order
abbrev pub Rises : ℕ → (ℕ → ℕ) → Type 0
Rises n x = (p q : ℕ) → p ≤ q → q < n → x p ≤ x q

-- the number at place k is at most a moment where more than k of them are, and the reverse
pub low_from_count : (n : ℕ) (x : ℕ → ℕ) → Rises n x → (k c : ℕ) → k < n → k < at_most n x c → x k ≤ c
low_from_count n x rises k c l h = elim (cases_lt c (x k)) [
  | inl more ↦
      let none : (p : ℕ) → k ≤ p → p < n → cond {A = ℕ} (leb (x p) c) 1 0 ≡ 0 = λ p b m. cond-no 1 (lt-leb (x p) c (omega (arith, rises k p b m))) in
      omega (arith, h, few n k (λ p. cond (leb (x p) c) 1 0) (λ p. cond-le (leb (x p) c) 1) none)
  | inr less ↦ less
]

pub count_from_low : (n : ℕ) (x : ℕ → ℕ) → Rises n x → (k c : ℕ) → k < n → x k ≤ c → k < at_most n x c
count_from_low n x rises k c l h =
    many n k (λ p. cond (leb (x p) c) 1 0) l (λ p b. cond-yes 1 (le-leb (x p) c (omega (arith, h, rises p k b l))))

-- ---- the sorted ends
-- they rise, and as many of them are at most a moment as jobs end by it
pub record AreCounted (n : ℕ) (end sorted : ℕ → ℕ) : Type 0 where
  pub rises : Rises n sorted
  pub counts : (c : ℕ) → at_most n sorted c ≡ at_most n end c

module _ (i : Instance) (s : Schedule) (end : ℕ → ℕ) (is : (j : ℕ) → j < length i.jobs → end_of s j ≡ pos (end j)) (ends : List ℤ) (h : AreSortedEnds i s ends) where
  abbrev n : ℕ
  n = length i.jobs

  abbrev sorted : ℕ → ℕ
  sorted k = nat_abs (end_number ends k)

  as_many : length ends ≡ n
  as_many = length_permutation (map (end_of s) (range_with_len 0 n)) ends h.0 ∙ length-map-range_with_len (end_of s) 0 n

  from_zero : All (λ x. pos 0 ≤ℤ x) ends
  from_zero = All-permutation (λ x. pos 0 ≤ℤ x) (map (end_of s) (range_with_len 0 n)) ends h.0
      (All-map (λ x. pos 0 ≤ℤ x) (end_of s) (range_with_len 0 n) (λ k d l. last_end-natural s.pieces (get_or _ k d)))

  pub number_at : (k : ℕ) → k < n → end_number ends k ≡ pos (sorted k)
  number_at k l = natural (end_number ends k) (from_zero k (pos 0) (omega (arith, l, as_many)))

  abbrev one : ℕ → ℤ → ℕ
  one c x = cond (leb (nat_abs x) c) 1 0

  pub AreCounted-from_sorted : AreCounted n end sorted
  AreCounted-from_sorted = record {
    rises = λ p q b l. elim (cases_lt p q) [
      | inl less ↦ le-pos (subst₂ (λ u v. u ≤ℤ v) (number_at p (omega (arith, l, b)))
          (number_at q l) (h.1 p q (pos 0) less (omega (arith, l, as_many))))
      | inr more ↦ let e : p ≡ q = omega (arith, b, more) in omega (arith, ap sorted e)
    ];
    counts = λ c.
        ap (λ m. total_below m (λ k. one c (end_number ends k))) (sym as_many)
        ∙ sym (sum_by-places (one c) ends (pos 0))
        ∙ sum_by-IsPermutation (one c) (map (end_of s) (range_with_len 0 n)) ends h.0
        ∙ sum_by-map (one c) (end_of s) (range_with_len 0 n)
        ∙ total_below-range n (λ j. one c (end_of s j))
        ∙ total_below-same n (λ j. one c (end_of s j)) (λ j. cond (leb (end j) c) 1 0) (λ j l. ap (one c) (is j l));
  }
