-- The fastest machines: a threshold at which the law of speeds speaks of them.
use Rattle.std.proofs.Common.{◌≡◌, ℕ, zero, suc, ◌+◌, ◌*◌, ◌-◌, ◌<◌, ◌≤◌, List, [], ◌∷◌, length, sum_by, All, AllPairs, sym, ap, subst, ◌∙◌, arith}
use Rattle.std.specs.Prelude.{take, sum}
use Rattle.std.proofs.lemmas.List.Sums.{sum_by-cons}
use Rattle.msp_class.proofs.Sums.{sum_by-none, AllPairs-head, AllPairs-tail}

-- the first `count` of falling numbers add up to at least what a threshold says
pub record IsThreshold (xs : List ℕ) (count threshold : ℕ) : Type 0 where
  pub low : (b : ℕ) → All (λ x. x ≤ b) xs → threshold ≤ b
  pub reached : count * threshold + sum_by (λ x. x - threshold) xs ≤ sum (take count xs)

-- the sums of the first numbers and of what exceeds a threshold, of a list with one number more
first_sum : (n x : ℕ) (xs : List ℕ) → sum (take (suc n) (x ∷ xs)) ≡ x + sum (take n xs)
first_sum n x xs = sum_by-cons (λ y. y) x (take n xs)

single : (n x t a b s : ℕ) → a ≡ (x - t) + b → t ≤ x → n * t + b ≤ s → suc n * t + a ≤ x + s
single n x t a b s e low h =
    let k : suc n * t ≡ n * t + t = omega arith in
    omega (arith, k, e, low, h)

pub some_threshold : (xs : List ℕ) (count : ℕ) → 1 ≤ count → AllPairs (λ x y. y ≤ x) xs → (threshold : ℕ) × IsThreshold xs count threshold
some_threshold [] count c falls = (0, record { low = λ b h. omega arith; reached = omega arith })
some_threshold (x ∷ xs) zero c falls = absurd (omega arith)
some_threshold (x ∷ xs) (suc zero) c falls = (
  x,
  record {
    low = λ b h. h 0 0 (omega arith);
    reached =
        let head = AllPairs-head (λ a b. b ≤ a) x xs falls in
        let rest : sum_by (λ y. y - x) xs ≡ 0 = sum_by-none (λ y. y - x) xs (λ k d l. omega (arith, head k d l)) in
        subst (λ s. 1 * x + sum_by (λ y. y - x) (x ∷ xs) ≤ s) (sym (first_sum 0 x xs))
        (single 0 x x _ 0 (sum (take 0 xs)) (sum_by-cons (λ y. y - x) x xs ∙ ap (λ r. (x - x) + r) rest) (omega arith) (omega arith));
  },
)
some_threshold (x ∷ xs) (suc (suc n)) c falls =
    let (t, h) = some_threshold xs (suc n) (omega arith) (AllPairs-tail (λ a b. b ≤ a) x xs falls) in
    let low : t ≤ x = h.low x (AllPairs-head (λ a b. b ≤ a) x xs falls) in (
      t,
      record {
        low = λ b g. omega (arith, low, g 0 0 (omega arith));
        reached =
            subst (λ s. suc (suc n) * t + sum_by (λ y. y - t) (x ∷ xs) ≤ s) (sym (first_sum (suc n) x xs))
            (single (suc n) x t _ _ (sum (take (suc n) xs)) (sum_by-cons (λ y. y - t) x xs) low h.reached);
      },
    )

-- numbers of at least 1 add up to at least 1
pub first_some : (xs : List ℕ) (count : ℕ) → 1 ≤ count → 0 < length xs → All (λ x. 1 ≤ x) xs → 1 ≤ sum (take count xs)
first_some [] count c some h = absurd (omega (arith, some))
first_some (x ∷ xs) zero c some h = absurd (omega arith)
first_some (x ∷ xs) (suc n) c some h = omega (arith, h 0 0 (omega arith), first_sum n x xs)
