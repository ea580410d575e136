-- The law of prices.
use Rattle.std.proofs.Common.{◌≡◌, ℕ, zero, suc, ◌+◌, ◌*◌, ◌-◌, ◌≤◌, ◌<◌, ◌⊎◌, false, length, get_or, map, ℤ, pos, nat_abs, ◌+ℤ◌, ◌*ℤ◌, ◌≤ℤ◌, arith, refl, sym, ap, ap₂, subst, ◌∙◌, zero-add}
use Rattle.std.specs.List.{range_with_len}
use Rattle.std.proofs.lemmas.Int.{ints}
use Rattle.std.proofs.lemmas.List.{length-map, get_or-map}
use Rattle.std.proofs.lemmas.List.FromFn.{length-range_with_len, get_or-range_with_len}
use Rattle.msp_class.specs.declared.environments.EnvKind.TheVariants.{Unrelated}
use Rattle.msp_class.specs.declared.class.Crit.TheVariants.{SumC}
use Rattle.msp_class.specs.Env.{kind_of}
use Rattle.msp_class.proofs.IntegerRing.{pos-le, ≤ℤ_trans, *ℤ-mono_nonneg}
use Rattle.msp_class.specs.Sums.{total_below, int_total_below}
use Rattle.msp_class.proofs.Sums.{total_below-same, total_below-scale, int_total_below-same, int_total_below-mono, int_total_below-add, int_total_below-pos}
use Rattle.msp_instance.specs.declared.Instance.{Instance}
use Rattle.msp_instance.specs.Instance.{need_at}
use Rattle.msp_pieces.specs.declared.Schedule.{Schedule}
use Rattle.msp_pieces.specs.Feasible.{Feasible, HasOperation, MayRun, IsWholeWork, total}
use Rattle.msp_pieces.specs.Cost.{cost_of}
use Rattle.msp_pieces.specs.Prices.{ArePrices, prices_on_machine, all_prices, LawOfPrices}
use Rattle.msp_pieces.specs.Piece.{start, finish}
use Rattle.msp_pieces.proofs.feasible.OneMachine.{total-below, unit_in_parts}
use Rattle.msp_pieces.proofs.feasible.SolePieces.{only_piece, length_in_nat, is_only, only_timed, only_placed, only_apart, sum_of_only_ends}
use Rattle.msp_pieces.proofs.lists.Positions.{distinct_pairs, position_of, position_of-some, position_of-few, position_of-once, sum_of_ends}

-- ---- totals of integers
-- over the numbers below n
pub total_over_range : (n : ℕ) (g : ℕ → ℤ) → total (map g (range_with_len 0 n)) ≡ int_total_below n g
total_over_range n g =
    let r = range_with_len 0 n in
    total-below (map g r) ∙ ap (λ m. int_total_below m (λ j. get_or (map g r) j (pos 0))) (length-map r g ∙ length-range_with_len 0 n)
    ∙ int_total_below-same n (λ j. get_or (map g r) j (pos 0)) g (λ j l. get_or-map g r j 0 (pos 0) (omega (arith, length-range_with_len 0 n)) ∙ ap g (get_or-range_with_len 0 n j 0 l ∙ zero-add j))

-- what naturals make up for
fills_up : (n : ℕ) (g : ℕ → ℤ) (c : ℕ → ℕ) → ((k : ℕ) → k < n → g k +ℤ pos (c k) ≡ pos 0) → int_total_below n g +ℤ pos (total_below n c) ≡ pos 0
fills_up zero g c h = refl
fills_up (suc n) g c h = omega (arith, ints, fills_up n g c (λ k l. h k (omega arith)), h n (omega arith))

-- of numbers that are not above 0, pairs without repeats take no less than all pairs
pub distinct_low_pairs : (n rows columns : ℕ) (x y : ℕ → ℕ) (g : ℕ → ℕ → ℤ) → ((m k : ℕ) → m < rows → k < columns → g m k ≤ℤ pos 0)
    → ((a : ℕ) → a < n → (x a < rows) × (y a < columns)) → ((a b : ℕ) → a < n → b < n → x a ≡ x b → y a ≡ y b → a ≡ b)
    → int_total_below rows (λ m. int_total_below columns (λ k. g m k)) ≤ℤ int_total_below n (λ a. g (x a) (y a))
distinct_low_pairs n rows columns x y g low inside once =
    let all = fills_up rows (λ m. int_total_below columns (λ k. g m k)) (λ m. total_below columns (λ k. nat_abs (g m k)))
    (λ m l. fills_up columns (λ k. g m k) (λ k. nat_abs (g m k)) (λ k h. gone (g m k) (low m k l h))) in
    let own = fills_up n (λ a. g (x a) (y a)) (λ a. nat_abs (g (x a) (y a)))
    (λ a l. gone (g (x a) (y a)) (low (x a) (y a) (inside a l).0 (inside a l).1)) in
    omega (arith, ints, all, own, distinct_pairs n rows columns x y (λ m k. nat_abs (g m k)) inside once)
  where
    gone : (z : ℤ) → z ≤ℤ pos 0 → z +ℤ pos (nat_abs z) ≡ pos 0
    gone z h = omega (arith, ints)

-- ---- the law
module _ (i : Instance) (s : Schedule) (job : ℕ → ℤ) (position : ℕ → ℕ → ℤ)
    (kind : kind_of i.class.env ≡ Unrelated) (whole : i.class.cut ≡ false) (crit : i.class.crit ≡ SumC) (f : Feasible i s) (h : ArePrices i job position) where
  abbrev n : ℕ
  n = length i.jobs

  abbrev unit : ℕ
  unit = nat_abs s.unit

  abbrev machine : ℕ → ℕ
  machine j = (only_piece s j).machine

  abbrev begin : ℕ → ℕ
  begin j = start (only_piece s j)

  abbrev end : ℕ → ℕ
  end j = finish (only_piece s j)

  abbrev time : ℕ → ℕ
  time j = (need_at i j (machine j)).time

  abbrev count : ℕ → ℕ
  count j = position_of n machine end j

  works : (j : ℕ) → j < n → HasOperation (kind_of i.class.env) i j 0
  works j l = subst (λ x. HasOperation x i j 0) (sym kind) refl

  lasts : (j : ℕ) → j < n → begin j < end j
  lasts j l = (only_timed i s whole works f j l).lasts

  apart : (a b : ℕ) → a < n → b < n → (a ≡ b → ⊥) → machine a ≡ machine b → (end a ≤ begin b) ⊎ (end b ≤ begin a)
  apart a b l m ne on = only_apart i s whole works f a b l m ne on

  inside : (j : ℕ) → j < n → machine j < i.machines
  inside j l = subst (λ x. MayRun x i (only_piece s j).job (only_piece s j).op (machine j)) kind (only_placed i s whole works f j l).machine

  size : (j : ℕ) → j < n → end j - begin j ≡ unit * time j
  size j l =
      let o = is_only i s whole works f j l in
      let w = subst (λ x. IsWholeWork x i s.unit (only_piece s j)) kind o.work in
      length_in_nat (only_piece s j) s.unit (time j) (only_timed i s whole works f j l) (omega (arith, ints, f.unit)) (w ∙ ap (λ k. s.unit *ℤ pos (need_at i k (machine j)).time) o.job)

  -- the ends together are no less than the unit times what the jobs lengthen them by
  ends_take : unit * total_below n (λ j. count j * time j) ≤ total_below n end
  ends_take = subst (λ t. t ≤ total_below n end)
      (total_below-same n _ (λ j. unit * (count j * time j)) (λ j l. ap (λ y. y * count j) (size j l) ∙ omega arith) ∙ total_below-scale n unit (λ j. count j * time j))
      (sum_of_ends n machine end begin lasts apart)

  -- and the prices of the jobs and of their positions are no more than that
  priced : (j : ℕ) → j < n → (job j +ℤ position (machine j) (count j - 1)) ≤ℤ pos (count j * time j)
  priced j l =
      let some = position_of-some n machine end j l in
      let few = position_of-few n machine end j in
      let same : count j - 1 + 1 ≡ count j = omega (arith, some) in
      subst (λ x. (job j +ℤ position (machine j) (count j - 1)) ≤ℤ pos (x * time j)) same (h.fair j (machine j) (count j - 1) l (inside j l) (omega (arith, some, few)))

  positions_low : int_total_below i.machines (λ m. int_total_below n (λ k. position m k)) ≤ℤ int_total_below n (λ j. position (machine j) (count j - 1))
  positions_low = distinct_low_pairs n i.machines n machine
      (λ j. count j - 1) position h.low (λ j l. (inside j l, omega (arith, position_of-some n machine end j l, position_of-few n machine end j)))
      (λ a b l m on same. position_of-once n machine end begin lasts apart a b l m on (omega (arith, same, position_of-some n machine end a l, position_of-some n machine end b m)))

  all_is : all_prices i job position ≡ int_total_below n job +ℤ int_total_below i.machines (λ m. int_total_below n (λ k. position m k))
  all_is = ap₂ (λ x y. x +ℤ y) (total_over_range n job) (total_over_range i.machines (prices_on_machine i position)
      ∙ int_total_below-same i.machines (prices_on_machine i position) (λ m. int_total_below n (λ k. position m k)) (λ m l. total_over_range n (position m)))

  all_low : all_prices i job position ≤ℤ pos (total_below n (λ j. count j * time j))
  all_low =
      let pairs = int_total_below-mono n (λ j. job j +ℤ position (machine j) (count j - 1)) (λ j. pos (count j * time j)) priced in
      let split = int_total_below-add n job (λ j. position (machine j) (count j - 1)) in
      omega (arith, ints, all_is, positions_low, pairs, split, int_total_below-pos n (λ j. count j * time j))

  bound : (s.unit *ℤ all_prices i job position) ≤ℤ cost_of i s
  bound =
      let u = unit_in_parts i s f in
      ≤ℤ_trans (*ℤ-mono_nonneg s.unit (omega (arith, ints, f.unit)) all_low)
      (≤ℤ_trans (subst (λ x. (x *ℤ pos (total_below n (λ j. count j * time j))) ≤ℤ pos (total_below n end)) (sym u) (pos-le ends_take)) (sum_of_only_ends i s whole works f crit))

pub law_of_prices : LawOfPrices
law_of_prices i s job position kind whole crit f h = bound i s job position kind whole crit f h
