-- How many jobs have begun before a moment: at whole places never more than can have ended, and what all ends add up to.
use Rattle.std.proofs.Common.{◌≡◌, ℕ, zero, suc, ◌+◌, ◌-◌, ◌*◌, ◌<◌, ◌≤◌, min, Bool, true, false, not, eqb, ltb, length, inl, inr, refl, sym, ap, ap₂, subst, ◌∙◌, arith, mul-suc, mul-zero, le_trans}
use Rattle.std.proofs.lemmas.Bool.{cases_lt, lt-ltb, le-ltb}
use Rattle.std.proofs.lemmas.Bool.Decides.{nat_tests}
use Rattle.std.proofs.Math.Nat.{sub_self, le-min, min-le_left, min-le_right}
use Rattle.msp_class.specs.Sums.{total_below}
use Rattle.msp_class.proofs.Sums.{total_below-mono, total_below-same, total_below-none, total_below-add, total_below-constant, total_below-exchange, cond-le}
use Rattle.msp_instance.specs.declared.Instance.{Instance}
use Rattle.msp_slots.specs.Seating.{one_if, begin_at}
use Rattle.msp_slots.specs.Places.{ArePlaces}
use Rattle.msp_levels.specs.Sums.{has_above, jobs_under, least_to, most_ended}
use Rattle.msp_levels.proofs.Above.{above-place}

-- ---- the jobs that begin before a moment
abbrev pub begun : ℕ → (ℕ → ℕ) → ℕ → ℕ
begun n begin t = total_below n (λ j. one_if (ltb (begin j) t))

pub begun-none : (n : ℕ) (begin : ℕ → ℕ) → begun n begin 0 ≡ 0
begun-none n begin = total_below-none n (λ j. one_if (ltb (begin j) 0)) (λ j l. ap one_if (le-ltb (begin j) 0 (omega arith)))

pub begun-next : (n : ℕ) (begin : ℕ → ℕ) (t : ℕ) → begun n begin (suc t) ≡ begun n begin t + begin_at n begin t
begun-next n begin t =
    total_below-same n (λ j. one_if (ltb (begin j) (suc t))) (λ j. one_if (ltb (begin j) t) + one_if (eqb (begin j) t))
    (λ j l. grind (arith, nat_tests)) ∙ total_below-add n (λ j. one_if (ltb (begin j) t)) (λ j. one_if (eqb (begin j) t))

-- ---- the most that can have ended, by one moment more
least_to-more : (m : ℕ) (f g : ℕ → ℕ) (t : ℕ) → ((k : ℕ) → k ≤ t → g k ≡ f k + m) → least_to t g ≡ least_to t f + m
least_to-more m f g zero h = h 0 (omega arith)
least_to-more m f g (suc t) h = ap₂ min (least_to-more m f g t (λ k l. h k (omega (arith, l)))) (h (suc t) (omega arith)) ∙ both (least_to t f) (f (suc t))
  where
    both : (a b : ℕ) → min (a + m) (b + m) ≡ min a b + m
    both a b = omega arith

module _ (i : Instance) where
  abbrev n : ℕ
  n = length i.jobs

  pub most-next : (t : ℕ) → most_ended i (suc t) ≡ min (most_ended i t + i.machines) (jobs_under i (suc t))
  most-next t =
      ap₂ min (least_to-more i.machines (λ k. jobs_under i k + i.machines * (t - k)) (λ k. jobs_under i k + i.machines * (suc t - k)) t (λ k l. one k (jobs_under i k) l)) (last (jobs_under i (suc t)))
    where
      one : (k u : ℕ) → k ≤ t → u + i.machines * (suc t - k) ≡ u + i.machines * (t - k) + i.machines
      one k u l = let e : suc t - k ≡ suc (t - k) = omega (arith, l) in omega (arith, ap (λ x. i.machines * x) e, mul-suc i.machines (t - k))

      last : (u : ℕ) → u + i.machines * (suc t - suc t) ≡ u
      last u = omega (arith, ap (λ x. i.machines * x) (sub_self (suc t)), mul-zero i.machines)

  pub most-none : most_ended i 0 ≡ 0
  most-none = omega (arith, total_below-none n (λ j. one_if (not (has_above i.arcs 0 j))) (λ j l. refl), ap (λ x. i.machines * x) (sub_self 0))

  -- ---- at whole places no more have begun before a moment than can have ended by it
  pub begun-most : (place : ℕ → ℕ) → ArePlaces i place → (t : ℕ) → begun n place t ≤ most_ended i t
  begun-most place h zero = omega (arith, begun-none n place)
  begun-most place h (suc t) = subst (λ x. begun n place (suc t) ≤ x) (sym (most-next t))
      (le-min (omega (arith, begun-next n place t, begun-most place h t, h.few t)) under)
    where
      under : begun n place (suc t) ≤ jobs_under i (suc t)
      under = total_below-mono n (λ j. one_if (ltb (place j) (suc t))) (λ j. one_if (not (has_above i.arcs (suc t) j))) (λ j l. by j (has_above i.arcs (suc t) j) refl)
        where
          by : (j : ℕ) (b : Bool) → has_above i.arcs (suc t) j ≡ b → one_if (ltb (place j) (suc t)) ≤ one_if (not b)
          by j true e = omega (arith, ap one_if (le-ltb (place j) (suc t) (above-place i.arcs place h.forward (suc t) j e)))
          by j false e = cond-le (ltb (place j) (suc t)) 1

  -- ---- where each slot is full, or is over when all jobs with no more above them than its number have begun, as many have begun
  pub most-begun : (begin : ℕ → ℕ) → ((x : ℕ) → begin_at n begin x < i.machines → (j : ℕ) → j < n → has_above i.arcs (suc x) j ≡ false → begin j ≤ x) → (t : ℕ) → most_ended i t ≤ begun n begin t
  most-begun begin h zero = omega (arith, most-none)
  most-begun begin h (suc t) = subst (λ x. x ≤ begun n begin (suc t)) (sym (most-next t)) (elim (cases_lt (begin_at n begin t) i.machines) [
    | inl room ↦ le_trans (min-le_right _ (jobs_under i (suc t))) (under room)
    | inr full ↦ le_trans (min-le_left (most_ended i t + i.machines) _) (omega (arith, full, begun-next n begin t, most-begun begin h t))
  ])
    where
      under : begin_at n begin t < i.machines → jobs_under i (suc t) ≤ begun n begin (suc t)
      under room = total_below-mono n (λ j. one_if (not (has_above i.arcs (suc t) j))) (λ j. one_if (ltb (begin j) (suc t))) (λ j l. by j l (has_above i.arcs (suc t) j) refl)
        where
          by : (j : ℕ) → j < n → (b : Bool) → has_above i.arcs (suc t) j ≡ b → one_if (not b) ≤ one_if (ltb (begin j) (suc t))
          by j l true e = omega arith
          by j l false e = let early : begin j < suc t = omega (arith, h t room j l e) in omega (arith, ap one_if (lt-ltb (begin j) (suc t) early))

-- ---- all ends together
count_below : (n x : ℕ) → total_below n (λ t. one_if (ltb t x)) ≡ min n x
count_below zero x = omega arith
count_below (suc n) x = elim (cases_lt n x) [
  | inl less ↦ omega (arith, count_below n x, ap one_if (lt-ltb n x less), less)
  | inr more ↦ omega (arith, count_below n x, ap one_if (le-ltb n x more), more)
]

pub sum_of_ends : (n : ℕ) (begin : ℕ → ℕ) → ((j : ℕ) → j < n → begin j < n) → total_below n (λ j. begin j + 1) ≡ total_below n (λ t. n - begun n begin t)
sum_of_ends n begin h =
    total_below-same n (λ j. begin j + 1) (λ j. total_below n (λ t. one_if (ltb t (begin j + 1)))) (λ j l. omega (arith, count_below n (begin j + 1), h j l))
    ∙ total_below-exchange n n (λ j t. one_if (ltb t (begin j + 1)))
    ∙ total_below-same n (λ t. total_below n (λ j. one_if (ltb t (begin j + 1)))) (λ t. n - begun n begin t) (λ t l. rest t)
  where
    rest : (t : ℕ) → total_below n (λ j. one_if (ltb t (begin j + 1))) ≡ n - begun n begin t
    rest t = omega (
      arith,
      total_below-add n (λ j. one_if (ltb t (begin j + 1))) (λ j. one_if (ltb (begin j) t)),
      total_below-same n (λ j. one_if (ltb t (begin j + 1)) + one_if (ltb (begin j) t)) (λ _. 1) (λ j l. grind (arith, nat_tests)),
      total_below-constant n 1,
    )
