-- Blocks of m: in the order of the ends, the last m ends are together at least all times, and so on without these. So times count by blocks.
use Rattle.std.proofs.Common.{◌≡◌, ◌≢◌, ℕ, zero, suc, ◌+◌, ◌*◌, ◌-◌, ◌/◌, ◌≤◌, ◌<◌, ◌⊎◌, inl, inr, List, [], ◌∷◌, length, get_or, take, drop, All, AllPairs, pos, neg_ℤ}
use Rattle.std.proofs.Common.{sum_by, sym, ap, ap₂, subst, subst₂, ◌∙◌, arith, add-mul, le_trans, sub-add_cancel, take-append-drop, zero-add, zero-mul}
use Rattle.std.specs.List.{range_with_len}
use Rattle.std.proofs.lemmas.Bool.{cases_lt}
use Rattle.std.proofs.lemmas.Int.{ints}
use Rattle.std.proofs.lemmas.List.{length-drop, length-take-le, get_or-drop, get_or-take, get_or_default, take_all}
use Rattle.std.proofs.lemmas.List.Elements.{All-drop}
use Rattle.std.proofs.lemmas.List.Sums.{sum_by-take-drop, sum_by-take-le}
use Rattle.std.proofs.lemmas.Nat.{le-div}
use Rattle.std.proofs.Math.Nat.{add-div_left, div-eq_of_lt, div-le_self, div-mul-le_self, mul-le-mul_left}
use Rattle.msp_class.specs.Sums.{total_below}
use Rattle.msp_class.proofs.FallingWeights.{abel}
use Rattle.msp_class.proofs.Sums.{sum_by-mono, sum_by-same, sum_by-add, sum_by-constant, sum_by-none, sum_by-OnceBelow, OnceBelow, OnceBelow-range, OnceBelow-distinct}
use Rattle.msp_class.proofs.Sums.{length-OnceBelow, total_below-same, total_below-add, total_below-scale, total_below-constant, total_below-none, total_below-split}
use Rattle.msp_pieces.proofs.lists.Parts.{AllPairs-back}
use Rattle.msp_pieces.proofs.lists.Places.{sum_by-places}
use Rattle.msp_pieces.proofs.changes.LineUp.{sorted_by-rises, sorted_by-OnceBelow}
use Rattle.msp_pieces.specs.LineUp.{sorted_by}
use Rattle.msp_cut_sums.specs.Sums.{at, in_blocks}

-- ---- sums in blocks
-- a sum in blocks is the sum, and that in blocks of all behind the first block
pub in_blocks-step : (m n : ℕ) (f : ℕ → ℕ) → 1 ≤ m → in_blocks m n f ≡ total_below n f + in_blocks m (n - m) (λ k. f (m + k))
in_blocks-step m n f some =
    total_below-same n (λ k. (k / m + 1) * f k) (λ k. f k + k / m * f k) (λ k l. omega arith) ∙ total_below-add n f (λ k. k / m * f k)
    ∙ ap (λ x. total_below n f + x) (by (cases_lt n m))
  where
    first : (k : ℕ) → k < m → k / m * f k ≡ 0
    first k l = ap (λ x. x * f k) (div-eq_of_lt l) ∙ zero-mul (f k)

    by : (n < m) ⊎ (m ≤ n) → total_below n (λ k. k / m * f k) ≡ in_blocks m (n - m) (λ k. f (m + k))
    by (inl l) = let none : n - m ≡ 0 = omega (arith, l) in rw none (total_below-none n _ (λ k b. first k (omega (arith, b, l))))
    by (inr l) =
        let whole : n ≡ m + (n - m) = omega (arith, l) in
        ap (λ x. total_below x (λ k. k / m * f k)) whole ∙ total_below-split m (n - m) (λ k. k / m * f k)
        ∙ ap₂ (λ x y. x + y) (total_below-none m _ first)
        (total_below-same (n - m) _ (λ k. (k / m + 1) * f (m + k)) (λ k b. ap (λ x. x * f (m + k)) (add-div_left k (omega (arith, some)))))
        ∙ zero-add (in_blocks m (n - m) (λ k. f (m + k)))

pub in_blocks-same : (m n : ℕ) (f g : ℕ → ℕ) → ((k : ℕ) → k < n → f k ≡ g k) → in_blocks m n f ≡ in_blocks m n g
in_blocks-same m n f g h = total_below-same n _ _ (λ k l. ap (λ x. (k / m + 1) * x) (h k l))

-- ---- the greatest numbers of a falling list
module _ (f : ℕ → ℕ) (ys : List ℕ) (falls : AllPairs (λ a b. f b ≤ f a) ys) (q : ℕ) (some : 1 ≤ q) (short : q ≤ length ys) where
  -- the q-th of them
  abbrev pub least_of_first : ℕ
  least_of_first = f (get_or ys (q - 1) 0)

  abbrev v : ℕ
  v = least_of_first

  above : All (λ r. v ≤ f r) (take q ys)
  above k d l =
      let inside : k < q = omega (arith, l, length-take-le q ys short) in
      let last = get_or_default ys (q - 1) d 0 (omega (arith, some, short)) in
      rw (get_or-take q ys k d inside) (elim (cases_lt k (q - 1)) [
        | inl b ↦ omega (arith, falls k (q - 1) d b (omega (arith, some, short)), ap f last)
        | inr b ↦ let same : k ≡ q - 1 = omega (arith, b, inside) in rw (same, last) (omega arith)
      ])

  below : All (λ r. f r - v ≡ 0) (drop q ys)
  below k d l =
      let fall = falls (q - 1) (q + k) d (omega (arith, some)) (omega (arith, l, length-drop q ys, short)) in
      omega (arith, fall, ap f (get_or-drop q ys k d), ap f (get_or_default ys (q - 1) d 0 (omega (arith, some, short))))

  pub first_greatest : q * v + sum_by (λ r. f r - v) ys ≡ sum_by f (take q ys)
  first_greatest = omega (
    arith,
    sum_by-take-drop (λ r. f r - v) ys q,
    sum_by-none (λ r. f r - v) (drop q ys) below,
    sum_by-same (λ r. v + (f r - v)) f (take q ys) (λ k d l. omega (arith, above k d l)),
    sum_by-add (λ _. v) (λ r. f r - v) (take q ys),
    sum_by-constant v (take q ys),
    ap (λ x. x * v) (length-take-le q ys short),
  )

-- ---- the ends of jobs, of which the law of last ends speaks
-- of n numbers: what `times` says takes no more room, over the unit D, than m machines up to a moment and each behind it up to its end
abbrev pub HaveRoom : (n m D : ℕ) (time end : ℕ → ℕ) → Type 0
HaveRoom n m D time end = (ys : List ℕ) → All (λ r. r < n) ys → AllPairs (λ a b. a ≢ b) ys → (t : ℕ) → D * sum_by time ys ≤ m * t + sum_by (λ r. end r - t) ys

module _ (n m D : ℕ) (time end : ℕ → ℕ) (some : 1 ≤ m) (law : HaveRoom n m D time end) where
  -- the last m ends are together at least all times
  last_ends : (ys : List ℕ) → All (λ r. r < n) ys → AllPairs (λ a b. a ≢ b) ys → AllPairs (λ a b. end b ≤ end a) ys → D * sum_by time ys ≤ sum_by end (take m ys)
  last_ends ys within distinct falls = elim (cases_lt (length ys) m) [
    | inl l ↦
        let same = sum_by-same (λ r. end r - 0) end ys (λ k d b. omega arith) in
        rw (take_all m ys (omega (arith, l))) (omega (arith, law ys within distinct 0, same))
    | inr l ↦ omega (arith, law ys within distinct (least_of_first end ys falls m some l), first_greatest end ys falls m some l)
  ]

  -- and so on without them
  by_blocks : (fuel : ℕ) (ys : List ℕ) → length ys ≤ fuel → All (λ r. r < n) ys
      → AllPairs (λ a b. a ≢ b) ys → AllPairs (λ a b. end b ≤ end a) ys → D * in_blocks m (length ys) (λ k. time (at ys k)) ≤ sum_by end ys
  by_blocks zero [] short within distinct falls = omega arith
  by_blocks zero (y ∷ ys) short within distinct falls = absurd (omega (arith, short))
  by_blocks (suc fuel) ys short within distinct falls =
      let behind = by_blocks fuel (drop m ys) (omega (arith, length-drop m ys, short, some))
      (All-drop (λ r. r < n) m ys within) (pairs_rest (λ a b. a ≢ b) distinct) (pairs_rest (λ a b. end b ≤ end a) falls) in
      rw (in_blocks-step m (length ys) (λ k. time (at ys k)) some)
      (omega (arith, rw (sum_by-places time ys 0) at (last_ends ys within distinct falls), sum_by-take-drop end ys m, rw rest at behind))
    where
      pairs_rest : (R : ℕ → ℕ → Type 0) → AllPairs R ys → AllPairs R (drop m ys)
      pairs_rest R h = AllPairs-back R (take m ys) (drop m ys) (subst (AllPairs R) (sym (take-append-drop m ys)) h)

      rest : in_blocks m (length (drop m ys)) (λ k. time (at (drop m ys) k)) ≡ in_blocks m (length ys - m) (λ k. time (at ys (m + k)))
      rest = ap (λ x. in_blocks m x (λ k. time (at (drop m ys) k))) (length-drop m ys) ∙ in_blocks-same m (length ys - m) _ _ (λ k l. ap time (get_or-drop m ys k 0))

  -- the first s numbers, in the order of their ends
  abbrev order_of : ℕ → List ℕ
  order_of s = sorted_by (λ r. neg_ℤ (pos (end r))) (range_with_len 0 s)

  order_of-once : (s : ℕ) → OnceBelow s (order_of s)
  order_of-once s = sorted_by-OnceBelow (λ r. neg_ℤ (pos (end r))) s (range_with_len 0 s) (OnceBelow-range s)

  pub prefix : (s : ℕ) → s ≤ n → (ys : List ℕ) × OnceBelow s ys × (D * in_blocks m s (λ k. time (at ys k)) ≤ total_below s end)
  prefix s l =
      let ys = order_of s in
      let once = order_of-once s in
      let many = length-OnceBelow once in (
        ys,
        once,
        subst₂ (λ x y. D * in_blocks m x (λ k. time (at ys k)) ≤ y) many (sum_by-OnceBelow end once)
            (by_blocks (length ys) ys (omega arith) (λ k d b. omega (arith, once.within k d b, l))
            (OnceBelow-distinct once) (λ a b d h k. omega (arith, ints, sorted_by-rises (λ r. neg_ℤ (pos (end r))) (range_with_len 0 s) a b d h k))),
      )

  -- ---- where all take one time, and weights fall
  pub weights_bound : (span : ℕ) → ((r : ℕ) → r < n → time r ≡ span)
      → (weight : ℕ → ℕ) → ((a b : ℕ) → a ≤ b → b < n → weight b ≤ weight a) → D * in_blocks m n (λ k. span * weight k) ≤ total_below n (λ k. weight k * end k)
  weights_bound span same weight falls = subst (λ x. x ≤ total_below n (λ k. weight k * end k)) moved (abel n weight end (λ k. D * ((k / m + 1) * span)) falls each)
    where
      each : (s : ℕ) → s ≤ n → total_below s (λ k. D * ((k / m + 1) * span)) ≤ total_below s end
      each s l =
          let (ys, once, bound) = prefix s l in
          subst (λ x. x ≤ total_below s end) (sym (total_below-scale s D (λ k. (k / m + 1) * span)))
          (subst (λ x. D * x ≤ total_below s end)
          (in_blocks-same m s (λ k. time (at ys k)) (λ _. span) (λ k b. same (at ys k) (omega (arith, once.within k 0 (omega (arith, b, length-OnceBelow once)), l)))) bound)

      moved : total_below n (λ k. weight k * (D * ((k / m + 1) * span))) ≡ D * in_blocks m n (λ k. span * weight k)
      moved = total_below-same n (λ k. weight k * (D * ((k / m + 1) * span))) (λ k. D * ((k / m + 1) * (span * weight k))) (λ k l. omega arith)
          ∙ total_below-scale n D (λ k. (k / m + 1) * (span * weight k))

  -- ---- where times fall
  module _ (falls : (a b : ℕ) → a ≤ b → b < n → time b ≤ time a) where
    -- no q numbers take more than the first q
    first_most : (ys : List ℕ) → OnceBelow n ys → (q : ℕ) → q ≤ n → total_below q (λ k. time (at ys k)) ≤ total_below q time
    first_most ys once zero l = omega arith
    first_most ys once (suc t) l = subst (λ x. x ≤ total_below q time) taken_is (omega (arith, most, split, first))
      where
        q : ℕ
        q = suc t

        taken : List ℕ
        taken = take q ys

        v : ℕ
        v = time t

        size : length taken ≡ q
        size = length-take-le q ys (omega (arith, l, length-OnceBelow once))

        most : sum_by time taken ≤ q * v + total_below n (λ r. time r - v)
        most = omega (
          arith,
          sum_by-mono time (λ r. v + (time r - v)) taken (λ k d b. omega arith),
          sum_by-add (λ _. v) (λ r. time r - v) taken,
          sum_by-constant v taken,
          ap (λ x. x * v) size,
          sum_by-take-le (λ r. time r - v) ys q,
          sum_by-OnceBelow (λ r. time r - v) once,
        )

        split : total_below n (λ r. time r - v) ≡ total_below q (λ r. time r - v)
        split =
            let whole : n ≡ q + (n - q) = omega (arith, l) in
            let none = total_below-none (n - q) (λ r. time (q + r) - v) (λ r b. omega (arith, falls t (q + r) (omega arith) (omega (arith, b, l)))) in
            omega (arith, ap (λ x. total_below x (λ r. time r - v)) whole, total_below-split q (n - q) (λ r. time r - v), none)

        first : total_below q time ≡ q * v + total_below q (λ r. time r - v)
        first =
            total_below-same q time (λ r. v + (time r - v)) (λ r b. omega (arith, falls r t (omega (arith, b)) (omega (arith, l))))
            ∙ total_below-add q (λ _. v) (λ r. time r - v) ∙ ap (λ x. x + total_below q (λ r. time r - v)) (total_below-constant q v)

        taken_is : sum_by time taken ≡ total_below q (λ k. time (at ys k))
        taken_is =
            sum_by-places time taken 0 ∙ ap (λ x. total_below x (λ k. time (at taken k))) size
            ∙ total_below-same q (λ k. time (at taken k)) (λ k. time (at ys k)) (λ k b. ap time (get_or-take q ys k 0 b))

    -- so no order counts less by blocks than that of falling times
    pub times_bound : D * in_blocks m n time ≤ total_below n end
    times_bound = let (ys, once, bound) = prefix n (omega arith) in le_trans (mul-le-mul_left D (least ys once)) bound
      where
        most : ℕ
        most = n + 1

        place : ℕ → ℕ
        place k = k / m + 1

        both : (f : ℕ → ℕ) → total_below n (λ k. (most - place k) * f k) + in_blocks m n f ≡ most * total_below n f
        both f = sym (total_below-add n (λ k. (most - place k) * f k) (λ k. place k * f k))
            ∙ total_below-same n _ (λ k. most * f k) (λ k l. let few : place k ≤ most = omega (arith, div-le_self k m, l) in
            sym (add-mul (most - place k) (place k) (f k)) ∙ ap (λ x. x * f k) (sub-add_cancel few)) ∙ total_below-scale n most f

        least : (ys : List ℕ) → OnceBelow n ys → in_blocks m n time ≤ in_blocks m n (λ k. time (at ys k))
        least ys once = omega (
          arith,
          both time,
          both (λ k. time (at ys k)),
          ap (λ x. most * x) same,
          abel n (λ k. most - place k) time (λ k. time (at ys k))
              (λ a b l h. omega (arith, le-div (a / m) b m some (le_trans (div-mul-le_self a m) l))) (first_most ys once),
        )
          where
            same : total_below n (λ k. time (at ys k)) ≡ total_below n time
            same = sym (sum_by-places time ys 0 ∙ ap (λ x. total_below x (λ k. time (at ys k))) (length-OnceBelow once)) ∙ sum_by-OnceBelow time once
