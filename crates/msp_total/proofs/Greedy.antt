-- Positions taken one after another, each of least multiplier: the longest times at the least multipliers sum to the least.
use Rattle.std.proofs.Common.{◌≡◌, ℕ, zero, suc, ◌+◌, ◌*◌, ◌-◌, ◌≤◌, ◌<◌, Bool, true, false, cond, eqb, arith, refl, sym, ap, subst, ◌∙◌, le_trans, add-one, add-zero}
use Rattle.std.proofs.Math.Nat.{mul-le-mul_right}
use Rattle.msp_class.specs.Sums.{total_below}
use Rattle.msp_class.proofs.FallingWeights.{abel}
use Rattle.msp_class.proofs.Sums.{total_below-mono, total_below-same, total_below-add, total_below-constant, total_below-none, total_below-only, total_below-split, total_below-bound, cond-le}
use Rattle.msp_pieces.proofs.lists.Places.{total_below-within}
use Rattle.msp_pieces.proofs.lists.Positions.{distinct_pairs}
use Rattle.msp_total.specs.Turns.{multiplier}
use Rattle.msp_total.specs.Multipliers.{seats}

-- ---- totals
-- where all later terms are 0, the total over fewer is the whole
total_below-ends : (f : ℕ → ℕ) (k n : ℕ) → k ≤ n → ((a : ℕ) → k ≤ a → a < n → f a ≡ 0) → total_below n f ≡ total_below k f
total_below-ends f k n l h =
    let whole : n ≡ k + (n - k) = omega (arith, l) in
    ap (λ x. total_below x f) whole ∙ total_below-split k (n - k) f
    ∙ ap (λ x. total_below k f + x) (total_below-none (n - k) (λ a. f (k + a)) (λ a m. h (k + a) (omega arith) (omega (arith, m)))) ∙ omega arith

-- ---- positions taken in turn
-- the positions of the jobs taken so far, over any function of positions
seats-total : (machines : ℕ) (machine : ℕ → ℕ) (h : ℕ → ℕ → ℕ) (n : ℕ) → ((a : ℕ) → a < n → machine a < machines)
    → total_below machines (λ m. total_below (seats machine n m) (h m)) ≡ total_below n (λ a. h (machine a) (seats machine a (machine a)))
seats-total machines machine h zero inside = total_below-none machines _ (λ m l. refl)
seats-total machines machine h (suc n) inside =
    total_below-same machines _ (λ m. total_below (seats machine n m) (h m) + cond (eqb (machine n) m) (h m (seats machine n m)) 0) (λ m l. one m (eqb (machine n) m) (seats machine n m))
    ∙ total_below-add machines (λ m. total_below (seats machine n m) (h m)) (λ m. cond (eqb (machine n) m) (h m (seats machine n m)) 0)
    ∙ ap (λ x. x + total_below machines (λ m. cond (eqb (machine n) m) (h m (seats machine n m)) 0)) (seats-total machines machine h n (λ a l. inside a (omega arith)))
    ∙ ap (λ x. total_below n (λ a. h (machine a) (seats machine a (machine a))) + x) (total_below-only machines (λ m. h m (seats machine n m)) (machine n) (inside n (omega arith)))
  where
    one : (m : ℕ) (b : Bool) (s : ℕ) → total_below (s + cond b 1 0) (h m) ≡ total_below s (h m) + cond b (h m s) 0
    one m true s = ap (λ x. total_below x (h m)) (add-one s)
    one m false s = ap (λ x. total_below x (h m)) (add-zero s) ∙ omega arith

module _ (n machines : ℕ) (step machine : ℕ → ℕ) where
  abbrev pub taken : ℕ → ℕ
  taken r = multiplier step (machine r) (seats machine r (machine r))

  module _ (inside : (r : ℕ) → r < n → machine r < machines) (greedy : (r m : ℕ) → r < n → m < machines → taken r ≤ multiplier step m (seats machine r m)) where
    seats-few : (r m : ℕ) → r ≤ n → seats machine r m ≤ n
    seats-few r m l = omega (arith, total_below-bound r 1 (λ a. cond (eqb (machine a) m) 1 0) (λ a h. cond-le (eqb (machine a) m) 1))

    -- each is no less than those before it
    rising : (r q : ℕ) → r ≤ q → q < n → taken r ≤ taken q
    rising r q l h =
        le_trans (greedy r (machine q) (omega arith) (inside q h))
        (mul-le-mul_right (step (machine q)) (omega (arith, total_below-within (λ a. cond (eqb (machine a) (machine q)) 1 0) r q l)))

    -- and no position that is left is less
    left_over : (r m k : ℕ) → r < n → m < machines → seats machine (suc r) m ≤ k → taken r ≤ multiplier step m k
    left_over r m k l h s =
        le_trans (greedy r m l h)
        (mul-le-mul_right (step m) (omega (arith, total_below-within (λ a. cond (eqb (machine a) m) 1 0) r (suc r) (omega arith), s)))

    -- so many positions without repeats sum to no less
    pub least_positions : (x y : ℕ → ℕ) → ((a : ℕ) → a < n → (x a < machines) × (y a < n)) → ((a b : ℕ) → a < n → b < n → x a ≡ x b → y a ≡ y b → a ≡ b)
        → (q : ℕ) → q ≤ n → total_below q taken ≤ total_below q (λ a. multiplier step (x a) (y a))
    least_positions x y among once zero l = omega arith
    least_positions x y among once (suc t) l = by (total_below q taken) (total_below q (λ a. top - taken a))
        (total_below q (λ a. multiplier step (x a) (y a))) (total_below q (λ a. top - multiplier step (x a) (y a))) (q * top) full enough short
      where
        q : ℕ
        q = suc t

        top : ℕ
        top = taken t

        by : (g d x e w : ℕ) → g + d ≡ w → w ≤ x + e → e ≤ d → g ≤ x
        by g d x e w h k m = omega arith

        full : total_below q taken + total_below q (λ a. top - taken a) ≡ q * top
        full = sym (total_below-add q taken (λ a. top - taken a)) ∙ total_below-same q _ (λ _. top)
            (λ a h. let l : taken a ≤ top = rising a t (omega arith) (omega arith) in omega (arith, l)) ∙ total_below-constant q top

        enough : q * top ≤ total_below q (λ a. multiplier step (x a) (y a)) + total_below q (λ a. top - multiplier step (x a) (y a))
        enough = subst (λ s. s ≤ total_below q (λ a. multiplier step (x a) (y a)) + total_below q (λ a. top - multiplier step (x a) (y a))) (total_below-constant q top)
            (subst (λ s. total_below q (λ _. top) ≤ s) (total_below-add q (λ a. multiplier step (x a) (y a)) (λ a. top - multiplier step (x a) (y a)))
            (total_below-mono q (λ _. top) (λ a. multiplier step (x a) (y a) + (top - multiplier step (x a) (y a))) (λ a h. omega arith)))

        none_left : (m : ℕ) → m < machines → total_below n (λ k. top - multiplier step m k) ≡ total_below (seats machine q m) (λ k. top - multiplier step m k)
        none_left m h = total_below-ends (λ k. top - multiplier step m k) (seats machine q m) n (seats-few q m l)
            (λ k s b. let u : top ≤ multiplier step m k = left_over t m k (omega arith) h s in omega (arith, u))

        short : total_below q (λ a. top - multiplier step (x a) (y a)) ≤ total_below q (λ a. top - taken a)
        short = subst (λ s. total_below q (λ a. top - multiplier step (x a) (y a)) ≤ s)
            (total_below-same machines _ _ none_left ∙ seats-total machines machine (λ m k. top - multiplier step m k) q (λ a h. inside a (omega arith)))
            (distinct_pairs q machines n x y (λ m k. top - multiplier step m k) (λ a h. among a (omega arith)) (λ a b h k. once a b (omega arith) (omega arith)))

    -- the longest jobs at the least multipliers take the least in all
    pub least_in_all : (w x y : ℕ → ℕ) → ((a b : ℕ) → a ≤ b → b < n → w b ≤ w a) → ((a : ℕ) → a < n → (x a < machines) × (y a < n)) → ((a b : ℕ) → a < n → b < n → x a ≡ x b → y a ≡ y b → a ≡ b)
        → total_below n (λ r. w r * taken r) ≤ total_below n (λ r. w r * multiplier step (x r) (y r))
    least_in_all w x y falls among once = abel n w (λ r. multiplier step (x r) (y r)) taken falls (least_positions x y among once)
