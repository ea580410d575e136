-- The cells of a square that stands in a list: their places differ, and what a write does to them, to the lines and to the count.
use Rattle.std.proofs.Common.{◌≡◌, ◌≢◌, ℕ, ◌+◌, ◌*◌, ◌<◌, ◌≤◌, ◌⊎◌, List, ltb, length, set, cond, arith}
use Rattle.std.proofs.Math.Nat.{mul-le-mul_left}
use Rattle.std.proofs.lemmas.List.{get_or-set_same, get_or-set_other}
use Rattle.std.proofs.lemmas.List.Sums.{sum_by-set}
use Rattle.msp_timetable.specs.Square.{cell_at, stocks}

-- the rows of a square do not overlap
rows_apart : (n r i c j : ℕ) → r < i → c < n → r * n + c < i * n + j
rows_apart n r i c j l lc = let more : r + 1 ≤ i = omega arith in let h = mul-le-mul_left n more in omega (arith, h)

pub place_inside : (m n r c : ℕ) → r < m → c < n → r * n + c < m * n
place_inside m n r c lr lc = omega (arith, rows_apart n r m c 0 lr lc)

pub places_apart : (n r c i j : ℕ) → c < n → j < n → (r ≢ i) ⊎ (c ≢ j) → r * n + c ≢ i * n + j
places_apart n r c i j lc lj h e = grind (arith, rows_apart n r i c j, rows_apart n i r j c)

module _ (n : ℕ) (xs : List ℕ) (i j v : ℕ) (size : length xs ≡ n * n) (li : i < n) (lj : j < n) where
  inside : i * n + j < length xs
  inside = omega (arith, place_inside n n i j li lj, size)

  pub cell-same : cell_at n (set xs (i * n + j) v) i j ≡ v
  cell-same = get_or-set_same xs (i * n + j) v 0 inside

  pub cell-other : (r c : ℕ) → c < n → (r ≢ i) ⊎ (c ≢ j) → cell_at n (set xs (i * n + j) v) r c ≡ cell_at n xs r c
  cell-other r c lc h = get_or-set_other xs (i * n + j) (r * n + c) v 0 (places_apart n r c i j lc lj h)

  -- a stock that is replaced
  pub stocks-set : stocks (set xs (i * n + j) v) + cond (ltb 0 (cell_at n xs i j)) 1 0 ≡ stocks xs + cond (ltb 0 v) 1 0
  stocks-set = sum_by-set (λ x. cond (ltb 0 x) 1 0) xs (i * n + j) v 0 inside
