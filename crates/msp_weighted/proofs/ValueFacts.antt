-- The values of the table: how one job changes them, that no choice of jobs which is on time back to back weighs more, and their size.
use Rattle.std.proofs.Common.{◌≡◌, ℕ, ◌+◌, ◌-◌, ◌*◌, ◌<◌, ◌≤◌, Bool, true, false, cond, eqb, not, List, [], ◌∷◌, ◌++◌, length, get_or, take, filter, ℤ, pos, ◌≤ℤ◌, ◌<ℤ◌, All}
use Rattle.std.proofs.Common.{sum_by, refl, sym, ap, ap₂, subst, subst₂, ◌∙◌, arith}
use Rattle.std.specs.Prelude.{int_lt, ◌&&◌, nat_lt, nat_le}
use Rattle.std.proofs.lemmas.Int.{ints}
use Rattle.std.proofs.lemmas.Bool.{and_parts, and_left, ltb-true, ltb-false, leb-true, le-leb, lt-leb, lt-ltb, not-true, and_right, cond_both}
use Rattle.std.proofs.lemmas.List.{take_more}
use Rattle.std.proofs.lemmas.List.Elements.{All-head, All-tail}
use Rattle.std.proofs.lemmas.List.Sums.{sum_by-cons}
use Rattle.msp_instance.specs.declared.Instance.{Instance}
use Rattle.msp_pieces.specs.BackToBack.{time_at}
use Rattle.msp_pieces.proofs.costs.LateJobs.{not_late, due_at}
use Rattle.msp_weighted.specs.Late.{EndInTime}
use Rattle.msp_weighted.specs.Values.{weight_at, is_better, gains, value_with, values_after, first_value, values_of}
use Rattle.msp_class.proofs.Sums.{cond-le}
use Rattle.msp_pieces.proofs.costs.Charges.{int_lt-true}

in_time : (d : ℤ) (t : ℕ) → not (int_lt d (pos t)) ≡ true → pos t ≤ℤ d
in_time d t h = let e = not-true (int_lt d (pos t)) h in omega (arith, ints)

too_late : (d : ℤ) (t : ℕ) → d <ℤ pos t → not (int_lt d (pos t)) ≡ false
too_late d t h = ap not (int_lt-true d (pos t) h)

module _ (p w : ℕ) (d : ℤ) (v : ℕ → ℕ) (t : ℕ) where
  abbrev better : Bool
  better = is_better w (v (t - p)) (v t)

  abbrev fits : Bool
  fits = nat_le p t && (not (int_lt d (pos t)) && better)

  pub gains-yes : gains p w d v t ≡ true → (p ≤ t) × (pos t ≤ℤ d) × (0 < v (t - p)) × (value_with p w d v t ≡ v (t - p) + w) × (v t < v (t - p) + w)
  unfolding gains value_with
  gains-yes e =
      let a = and_parts (nat_le p t) (not (int_lt d (pos t)) && better) e in
      let b = and_parts (not (int_lt d (pos t))) better a.1 in
      let c = and_parts (nat_lt 0 (v (t - p))) (nat_lt (v t) (v (t - p) + w)) b.1 in
      (leb-true p t a.0, in_time d t b.0, ltb-true 0 (v (t - p)) c.0, ap (λ x. cond x (v (t - p) + w) (v t)) e, ltb-true (v t) (v (t - p) + w) c.1)

  pub gains-no : gains p w d v t ≡ false → value_with p w d v t ≡ v t
  unfolding gains value_with
  gains-no e = ap (λ x. cond x (v (t - p) + w) (v t)) e

  pub value_with-is : value_with p w d v t ≡ cond (gains p w d v t) (v (t - p) + w) (v t)
  unfolding value_with
  value_with-is = refl

  pub gains_early : t < p → gains p w d v t ≡ false
  unfolding gains
  gains_early l = and_left (nat_le p t) (not (int_lt d (pos t)) && better) (lt-leb p t l)

  pub gains_late : d <ℤ pos t → gains p w d v t ≡ false
  unfolding gains
  gains_late l = and_right (nat_le p t) (not (int_lt d (pos t)) && better) (and_left (not (int_lt d (pos t))) better (too_late d t l))

  pub gains_inside : p ≤ t → pos t ≤ℤ d → gains p w d v t ≡ better
  unfolding gains
  gains_inside l h = ap₂ (λ a b. a && (not b && better)) (le-leb p t l) (not_late d (pos t) h)

  pub grows : v t ≤ value_with p w d v t
  unfolding value_with
  grows = cond_both (gains p w d v t) (v (t - p) + w) (v t) (λ x. v t ≤ x) (λ e. omega (arith, (gains-yes e).4)) (λ _. omega arith)

  pub at_least : p ≤ t → pos t ≤ℤ d → 0 < v (t - p) → v (t - p) + w ≤ value_with p w d v t
  at_least l h s = by (gains p w d v t) refl
    where
      by : (b : Bool) → gains p w d v t ≡ b → v (t - p) + w ≤ value_with p w d v t
      by true e = omega (arith, (gains-yes e).3)
      by false e =
          let no : (nat_lt 0 (v (t - p)) && nat_lt (v t) (v (t - p) + w)) ≡ false = sym (gains_inside l h) ∙ e in
          let small : nat_lt (v t) (v (t - p) + w) ≡ false = sym (ap (λ b. b && nat_lt (v t) (v (t - p) + w)) (lt-ltb 0 (v (t - p)) s)) ∙ no in
          omega (arith, gains-no e, ltb-false (v t) (v (t - p) + w) small)

  pub at_most : (m : ℕ) → v t ≤ m → v (t - p) ≤ m → value_with p w d v t ≤ m + w
  unfolding value_with
  at_most m h k = cond_both (gains p w d v t) (v (t - p) + w) (v t) (λ x. x ≤ m + w) (λ _. omega (arith, k)) (λ _. omega (arith, h))

-- only two values are read
module _ (p w : ℕ) (d : ℤ) (u v : ℕ → ℕ) (t : ℕ) (now : u t ≡ v t) (before : u (t - p) ≡ v (t - p)) where
  pub gains-same : gains p w d u t ≡ gains p w d v t
  unfolding gains
  gains-same = ap₂ (λ a b. nat_le p t && (not (int_lt d (pos t)) && is_better w a b)) before now

  pub value_with-same : value_with p w d u t ≡ value_with p w d v t
  unfolding gains value_with
  value_with-same = ap₂ (λ a b. cond (nat_le p t && (not (int_lt d (pos t)) && is_better w a b)) (a + w) b) before now

module _ (i : Instance) where
  -- ---- one more job
  values-push : (v : ℕ → ℕ) (js : List ℕ) (j t : ℕ) → values_after i v (js ++ j ∷ []) t ≡ value_with (time_at i j) (weight_at i j) (due_at i j) (values_after i v js) t
  values-push v [] j t = refl
  values-push v (x ∷ js) j t = values-push (value_with (time_at i x) (weight_at i x) (due_at i x) v) js j t

  pub values-more : (order : List ℕ) (k t : ℕ) → k < length order
      → values_of i (take (k + 1) order) t ≡ value_with (time_at i (get_or order k 0)) (weight_at i (get_or order k 0)) (due_at i (get_or order k 0)) (values_of i (take k order)) t
  values-more order k t l = ap (λ js. values_of i js t) (take_more order k 0 l) ∙ values-push first_value (take k order) (get_or order k 0) t

  -- ---- a choice that is on time back to back from s on weighs no more
  pub values-least : (test : ℕ → Bool) (v : ℕ → ℕ) (js : List ℕ) (s a : ℕ) → 1 + a ≤ v s
      → EndInTime i s (filter test js) → 1 + (a + sum_by (weight_at i) (filter test js)) ≤ values_after i v js (s + sum_by (time_at i) (filter test js))
  values-least test v [] s a h on = let same : s ≡ s + 0 = omega arith in subst (λ n. 1 + (a + 0) ≤ v n) same (omega (arith, h))
  values-least test v (x ∷ js) s a h on = cond_both (test x) (x ∷ filter test js) (filter test js)
      (λ l. EndInTime i s l → 1 + (a + sum_by (weight_at i) l) ≤ values_after i next js (s + sum_by (time_at i) l))
      (λ _. taken (values-least test next js)) (λ _. values-least test next js s a lowered) on
    where
      next : ℕ → ℕ
      next = value_with (time_at i x) (weight_at i x) (due_at i x) v

      lowered : 1 + a ≤ next s
      lowered = omega (arith, h, grows (time_at i x) (weight_at i x) (due_at i x) v s)

      taken : ((s a : ℕ) → 1 + a ≤ next s → EndInTime i s (filter test js)
          → 1 + (a + sum_by (weight_at i) (filter test js)) ≤ values_after i next js (s + sum_by (time_at i) (filter test js)))
          → EndInTime i s (x ∷ filter test js) → 1 + (a + sum_by (weight_at i) (x ∷ filter test js)) ≤ values_after i next js (s + sum_by (time_at i) (x ∷ filter test js))
      taken more on =
          let p = time_at i x in
          let begin : s + p - p ≡ s = omega arith in
          let some : 1 + a ≤ v (s + p - p) = subst (λ n. 1 + a ≤ v n) (sym begin) h in
          let reached = at_least p (weight_at i x) (due_at i x) v (s + p) (omega arith) on.0 (omega (arith, some)) in
          let result = more (s + p) (a + weight_at i x) (omega (arith, reached, some)) on.1 in
          let moment : s + p + sum_by (time_at i) (filter test js) ≡ s + sum_by (time_at i) (x ∷ filter test js) = omega (arith, sum_by-cons (time_at i) x (filter test js)) in
          let weight : 1 + (a + weight_at i x + sum_by (weight_at i) (filter test js)) ≡ 1 + (a + sum_by (weight_at i) (x ∷ filter test js)) =
          omega (arith, sum_by-cons (weight_at i) x (filter test js)) in
          subst₂ (λ m n. m ≤ values_after i next js n) weight moment result

  -- no job lowers a value, so some choice takes no time
  values_grow : (v : ℕ → ℕ) (js : List ℕ) (t : ℕ) → v t ≤ values_after i v js t
  values_grow v [] t = omega arith
  values_grow v (x ∷ js) t = omega (arith, grows (time_at i x) (weight_at i x) (due_at i x) v t, values_grow (value_with (time_at i x) (weight_at i x) (due_at i x) v) js t)

  pub values_start : (js : List ℕ) → 0 < values_of i js 0
  values_start js = omega (arith, values_grow first_value js 0)

  -- ---- the size of values
  values-most : (g m : ℕ) (v : ℕ → ℕ) (js : List ℕ) → ((t : ℕ) → v t ≤ m) → All (λ j. weight_at i j ≤ g) js → (t : ℕ) → values_after i v js t ≤ m + g * length js
  values-most g m v [] h a t = omega (arith, h t)
  values-most g m v (x ∷ js) h a t =
      let more = values-most g (m + g) (value_with (time_at i x) (weight_at i x) (due_at i x) v) js
      (λ t. omega (arith, at_most (time_at i x) (weight_at i x) (due_at i x) v t m (h t) (h (t - time_at i x)), All-head (λ j. weight_at i j ≤ g) x js a))
      (All-tail (λ j. weight_at i j ≤ g) x js a) t in
      omega (arith, more)

  pub values_small : (g : ℕ) (js : List ℕ) → All (λ j. weight_at i j ≤ g) js → (t : ℕ) → values_of i js t ≤ 1 + g * length js
  values_small g js a t = values-most g 1 first_value js (λ t. cond-le (eqb t 0) 1) a t
