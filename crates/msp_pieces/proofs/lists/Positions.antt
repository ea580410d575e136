-- Jobs on machines, each in one piece: how many ends the time of each job counts in, and what that says of the sum of all ends.
use Rattle.std.proofs.Common.{◌≡◌, ℕ, zero, suc, ◌+◌, ◌*◌, ◌-◌, ◌≤◌, ◌<◌, Bool, true, false, cond, eqb, leb, ◌≢◌, inl, inr, List, get_or, All, AllPairs, filter, arith, refl, sym, subst, ◌∙◌}
use Rattle.std.specs.Prelude.{◌&&◌}
use Rattle.std.specs.List.{range_with_len}
use Rattle.std.proofs.lemmas.Bool.{eqb-true, eq-eqb, leb-true, le-leb, cases_eq, cases_Bool, and_from, false_from_ne_true}
use Rattle.std.proofs.lemmas.List.Elements.{filter_passes}
use Rattle.std.proofs.lemmas.List.Kept.{AllPairs-filter}
use Rattle.std.proofs.lemmas.List.FromFn.{length-range_with_len, get_or-range_with_len}
use native.Mathlib.Nat.{mul-le-mul_left}
use Rattle.msp_class.specs.Sums.{total_below}
use Rattle.msp_class.proofs.Sums.{cond-yes, cond-no, cond-le, cond-count, sum_by-filter, total_below-mono, total_below-same, total_below-scale, total_below-none, total_below-bound}
use Rattle.msp_class.proofs.Sums.{total_below-term, total_below-tight, total_below-only, total_below-exchange, total_below-range}
use Rattle.msp_pieces.specs.Intervals.{IsApart, IsApartOn, size_of}
use Rattle.msp_pieces.proofs.lists.Intervals.{apart_from_one, packed}
use Rattle.msp_pieces.proofs.feasible.OneMachine.{both_true}
use Rattle.std.proofs.lemmas.Bool.Decides.{nat_tests}

-- ---- totals
abbrev one_if : Bool → ℕ
one_if b = cond b 1 0

pub total_below-strict : (n : ℕ) (f g : ℕ → ℕ) (k : ℕ) → k < n → ((i : ℕ) → i < n → f i ≤ g i) → f k < g k → total_below n f < total_below n g
total_below-strict n f g k l h s = grind (arith, total_below-tight n f g h)

-- where at most one number passes the test, at most one is counted
pub count_at_most_one : (n : ℕ) (test : ℕ → Bool) → ((a b : ℕ) → a < n → b < n → test a ≡ true → test b ≡ true → a ≡ b) → total_below n (λ a. cond (test a) 1 0) ≤ 1
count_at_most_one zero test h = omega arith
count_at_most_one (suc n) test h = elim (cases_Bool (test n)) [
  | inl e ↦
      let none = total_below-none n (λ a. cond (test a) 1 0)
      (λ a l. cond-no 1 (false_from_ne_true (test a) (λ f. omega (arith, h a n (omega arith) (omega arith) f e)))) in
      omega (arith, cond-yes 1 e, none)
  | inr e ↦ omega (arith, cond-no 1 e, count_at_most_one n test (λ a b l m. h a b (omega arith) (omega arith)))
]

-- what pairs without repeats sum to is at most the sum over all pairs
pub distinct_pairs : (n rows columns : ℕ) (x y : ℕ → ℕ) (f : ℕ → ℕ → ℕ) → ((a : ℕ) → a < n → (x a < rows) × (y a < columns)) → ((a b : ℕ) → a < n → b < n → x a ≡ x b → y a ≡ y b → a ≡ b)
    → total_below n (λ a. f (x a) (y a)) ≤ total_below rows (λ m. total_below columns (λ k. f m k))
distinct_pairs n rows columns x y f inside once =
    subst (λ t. t ≤ total_below rows (λ m. total_below columns (λ k. f m k))) (sym whole)
    (total_below-mono rows (λ m. total_below columns (λ k. total_below n (λ a. cond (hit m k a) (f m k) 0))) (λ m. total_below columns (λ k. f m k))
    (λ m l. total_below-mono columns (λ k. total_below n (λ a. cond (hit m k a) (f m k) 0)) (λ k. f m k) (λ k h. term m k)))
  where
    -- the pair of a is (m, k)
    hit : ℕ → ℕ → ℕ → Bool
    hit m k a = eqb (x a) m && eqb (y a) k

    in_row : (b : Bool) (m z : ℕ) → total_below columns (λ k. cond (b && eqb z k) (f m k) 0) ≡ cond b (total_below columns (λ k. cond (eqb z k) (f m k) 0)) 0
    in_row true m z = refl
    in_row false m z = total_below-none columns _ (λ k l. refl)

    spread : (a : ℕ) → a < n → f (x a) (y a) ≡ total_below rows (λ m. total_below columns (λ k. cond (hit m k a) (f m k) 0))
    spread a l = sym (
        total_below-same rows _ (λ m. cond (eqb (x a) m) (total_below columns (λ k. cond (eqb (y a) k) (f m k) 0)) 0) (λ m h. in_row (eqb (x a) m) m (y a))
        ∙ total_below-only rows (λ m. total_below columns (λ k. cond (eqb (y a) k) (f m k) 0)) (x a) (inside a l).0
        ∙ total_below-only columns (f (x a)) (y a) (inside a l).1)

    whole : total_below n (λ a. f (x a) (y a)) ≡ total_below rows (λ m. total_below columns (λ k. total_below n (λ a. cond (hit m k a) (f m k) 0)))
    whole =
        total_below-same n (λ a. f (x a) (y a)) (λ a. total_below rows (λ m. total_below columns (λ k. cond (hit m k a) (f m k) 0))) spread
        ∙ total_below-exchange n rows (λ a m. total_below columns (λ k. cond (hit m k a) (f m k) 0))
        ∙ total_below-same rows _ _ (λ m l. total_below-exchange n columns (λ a k. cond (hit m k a) (f m k) 0))

    same : (m k a b : ℕ) → a < n → b < n → hit m k a ≡ true → hit m k b ≡ true → a ≡ b
    same m k a b l h e g =
        let p = both_true _ _ e in
        let q = both_true _ _ g in
        once a b l h (eqb-true _ _ p.0 ∙ sym (eqb-true _ _ q.0)) (eqb-true _ _ p.1 ∙ sym (eqb-true _ _ q.1))

    term : (m k : ℕ) → total_below n (λ a. cond (hit m k a) (f m k) 0) ≤ f m k
    term m k =
        subst (λ t. t ≤ f m k) (sym (total_below-same n _ (λ a. f m k * cond (hit m k a) 1 0) (λ a l. cond-count (hit m k a) (f m k)) ∙ total_below-scale n (f m k) (λ a. cond (hit m k a) 1 0)))
        (omega (arith, mul-le-mul_left (f m k) (count_at_most_one n (hit m k) (λ a b. same m k a b))))

-- ---- jobs on machines, each in one piece
module _ (n : ℕ) (machine finish : ℕ → ℕ) where
  -- job b runs on the machine of a and does not end before it
  abbrev pub holds_up : ℕ → ℕ → Bool
  holds_up a b = eqb (machine a) (machine b) && leb (finish a) (finish b)

  -- how many jobs on the machine of a do not end before it: its position, where the last on a machine has position 1
  abbrev pub position_of : ℕ → ℕ
  position_of a = total_below n (λ b. cond (holds_up a b) 1 0)

  holds_up_itself : (a : ℕ) → holds_up a a ≡ true
  holds_up_itself a = and_from _ _ (eq-eqb (machine a) (machine a) refl) (le-leb (finish a) (finish a) (omega arith))

  pub position_of-some : (a : ℕ) → a < n → 1 ≤ position_of a
  position_of-some a l = omega (arith, total_below-term n (λ b. cond (holds_up a b) 1 0) a l, cond-yes 1 (holds_up_itself a))

  pub position_of-few : (a : ℕ) → position_of a ≤ n
  position_of-few a = omega (arith, total_below-bound n 1 (λ b. cond (holds_up a b) 1 0) (λ b l. cond-le (holds_up a b) 1))

  module _ (start : ℕ → ℕ) (lasts : (a : ℕ) → a < n → start a < finish a) (apart : (a b : ℕ) → a < n → b < n → a ≢ b → machine a ≡ machine b → IsApart start finish a b) where
    -- of two jobs on a machine, the earlier has the greater position
    earlier : (a b : ℕ) → a < n → b < n → machine a ≡ machine b → finish a < finish b → position_of b < position_of a
    earlier a b l h on before = total_below-strict n (λ c. cond (holds_up b c) 1 0)
        (λ c. cond (holds_up a c) 1 0) a l (λ c m. grind (arith, nat_tests)) (omega (arith, cond-yes 1 (holds_up_itself a), not_before))
      where
        not_before : one_if (holds_up b a) ≡ 0
        not_before = grind (arith, nat_tests)

    -- no two jobs have one position on one machine
    pub position_of-once : (a b : ℕ) → a < n → b < n → machine a ≡ machine b → position_of a ≡ position_of b → a ≡ b
    position_of-once a b l h on same = elim (cases_eq a b) [
      | inl e ↦ e
      | inr ne ↦ elim (apart a b l h ne on) [
        | inl k ↦ absurd (omega (arith, same, earlier a b l h on (omega (arith, lasts b h))))
        | inr k ↦ absurd (omega (arith, same, earlier b a h l (sym on) (omega (arith, lasts a l))))
      ]
    ]

    -- a job ends no sooner than the time of all that end on its machine by then
    pub ends_after : (b : ℕ) → b < n → total_below n (λ a. cond (holds_up a b) (finish a - start a) 0) ≤ finish b
    ends_after b h =
        subst (λ t. t ≤ finish b) (sum_by-filter (size_of start finish) test (range_with_len 0 n) ∙ total_below-range n (λ a. cond (holds_up a b) (finish a - start a) 0))
        (omega (
          arith,
          packed start finish 0 (finish b) chosen
              (apart_from_one machine start finish (machine b) chosen on (AllPairs-filter (IsApartOn machine start finish) test (range_with_len 0 n) each)) inside,
        ))
      where
        test : ℕ → Bool
        test a = holds_up a b

        chosen : List ℕ
        chosen = filter test (range_with_len 0 n)

        on : All (λ a. machine a ≡ machine b) chosen
        on k d l = let a = get_or chosen k d in eqb-true (machine a) (machine b) (both_true (eqb (machine a) (machine b)) (leb (finish a) (finish b)) (filter_passes test (range_with_len 0 n) k d l)).0

        inside : All (λ a. (0 ≤ start a) × (finish a ≤ finish b)) chosen
        inside k d l = let a = get_or chosen k d in
            (omega arith, leb-true (finish a) (finish b) (both_true (eqb (machine a) (machine b)) (leb (finish a) (finish b)) (filter_passes test (range_with_len 0 n) k d l)).1)

        each : AllPairs (IsApartOn machine start finish) (range_with_len 0 n)
        each i j d l m = by i j _ _ l (omega (arith, length-range_with_len 0 n)) (get_or-range_with_len 0 n i d (omega (arith, length-range_with_len 0 n)))
            (get_or-range_with_len 0 n j d (omega (arith, length-range_with_len 0 n)))
          where
            by : (i j x y : ℕ) → i < j → j < n → x ≡ 0 + i → y ≡ 0 + j → IsApartOn machine start finish x y
            by i j x y l m e g = apart x y (omega arith) (omega arith) (λ q. omega arith)

    -- the time of a job counts in as many ends as its position says
    pub sum_of_ends : total_below n (λ a. (finish a - start a) * position_of a) ≤ total_below n finish
    sum_of_ends =
        subst (λ t. t ≤ total_below n finish) (sym turned)
        (total_below-mono n (λ b. total_below n (λ a. cond (holds_up a b) (finish a - start a) 0)) finish ends_after)
      where
        one : (a : ℕ) → (finish a - start a) * position_of a ≡ total_below n (λ b. cond (holds_up a b) (finish a - start a) 0)
        one a = sym (total_below-same n _ (λ b. (finish a - start a) * cond (holds_up a b) 1 0) (λ b l. cond-count (holds_up a b) (finish a - start a))
            ∙ total_below-scale n (finish a - start a) (λ b. cond (holds_up a b) 1 0))

        turned : total_below n (λ a. (finish a - start a) * position_of a) ≡ total_below n (λ b. total_below n (λ a. cond (holds_up a b) (finish a - start a) 0))
        turned = total_below-same n _ _ (λ a l. one a) ∙ total_below-exchange n n (λ a b. cond (holds_up a b) (finish a - start a) 0)
