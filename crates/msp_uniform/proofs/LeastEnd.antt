-- The law of the least end, from the law of speeds: the threshold is the speed of the slowest of the k fastest machines.
use Rattle.std.proofs.Common.{◌≡◌, ◌≢◌, ℕ, zero, suc, ◌+◌, ◌-◌, ◌*◌, ◌<◌, ◌≤◌, Bool, true, cond, eqb, ltb, List, length, take, drop, get_or, count_by, sum_by, ℤ, pos, ◌*ℤ◌, ◌≤ℤ◌}
use Rattle.std.proofs.Common.{All, AllPairs, inl, inr, refl, sym, ap, subst, subst₂, ◌∙◌, arith}
use Rattle.std.specs.List.{range_with_len}
use Rattle.std.proofs.lemmas.Int.{ints}
use Rattle.std.proofs.lemmas.List.{take-append-drop, length-take, length-drop, get_or-take, get_or-drop, get_or_default}
use Rattle.std.proofs.lemmas.List.Elements.{All-take}
use Rattle.msp_class.specs.Env.{kind_of}
use Rattle.msp_class.proofs.Cases.{same_or_not}
use Rattle.msp_class.proofs.Sums.{sum_by-append, sum_by-same, sum_by-add, sum_by-constant, sum_by-none, sum_by-IsPermutation, sum_by_counts, count_by-distinct, total_below-same}
use Rattle.msp_class.proofs.Sums.{total_below-range, OnceBelow-from_permutation, OnceBelow-distinct, length-OnceBelow}
use Rattle.msp_instance.specs.declared.Instance.{Instance}
use Rattle.msp_pieces.specs.declared.Schedule.{Schedule}
use Rattle.msp_pieces.specs.Cost.{cost_of}
use Rattle.msp_pieces.specs.Feasible.{Feasible}
use Rattle.msp_pieces.specs.Laws.{time_together, jobs_together}
use Rattle.msp_pieces.specs.BackToBack.{time_at}
use Rattle.msp_pieces.specs.Speeds.{HasSpeedFor, speed_of}
use Rattle.msp_pieces.proofs.costs.Makespan.{ends_by_cost, cost_natural}
use Rattle.msp_pieces.proofs.bounds.SpeedBound.{law_of_speeds}
use Rattle.msp_class.proofs.IntegerRing.{zero-le-pos, *ℤ_comm}
use Rattle.msp_uniform.specs.Uniform.{cut_class, IsByFalling, work, IsAfter, LawOfLeastEnd}

-- ---- a list of numbers as a test
abbrev among : List ℕ → ℕ → Bool
among xs j = ltb 0 (count_by (λ x. eqb x j) xs)

sum_among : (f : ℕ → ℕ) (n : ℕ) (xs : List ℕ) → All (λ x. x < n) xs → AllPairs (λ x y. x ≢ y) xs → sum_by (λ j. cond (among xs j) (f j) 0) (range_with_len 0 n) ≡ sum_by f xs
sum_among f n xs h u = total_below-range n (λ j. cond (among xs j) (f j) 0)
    ∙ total_below-same n _ _ (λ j l. once (count_by (λ x. eqb x j) xs) (f j) (count_by-distinct xs j u)) ∙ sym (sum_by_counts f n xs h)
  where
    once : (c v : ℕ) → c ≤ 1 → cond (ltb 0 c) v 0 ≡ v * c
    once zero v l = omega arith
    once (suc zero) v l = omega arith
    once (suc (suc c)) v l = absurd (omega arith)

-- ---- the first k of a list
AllPairs-take : {X : Type 0} (R : X → X → Type 0) (k : ℕ) (xs : List X) → AllPairs R xs → AllPairs R (take k xs)
AllPairs-take R k xs h i j d a b = let short : j < k = omega (arith, length-take k xs, b) in
    subst₂ R (sym (get_or-take k xs i d (omega arith))) (sym (get_or-take k xs j d short)) (h i j d a (omega (arith, length-take k xs, b)))

-- an order of the numbers below n
module _ (n : ℕ) (key : ℕ → ℕ) (order : List ℕ) (o : IsByFalling n key order) where
  pub order_within : All (λ x. x < n) order
  order_within = (OnceBelow-from_permutation o.all).within

  pub order_distinct : AllPairs (λ x y. x ≢ y) order
  order_distinct = OnceBelow-distinct (OnceBelow-from_permutation o.all)

  pub order_length : length order ≡ n
  order_length = length-OnceBelow (OnceBelow-from_permutation o.all)

  first_length : (k : ℕ) → k ≤ n → length (take k order) ≡ k
  first_length k l = omega (arith, length-take k order, order_length)

-- the first k keys of a falling list, by how much they are above the last of them
module _ (key : ℕ → ℕ) (xs : List ℕ) (k : ℕ) (inside : suc k ≤ length xs) (falls : AllPairs (λ a b. key b ≤ key a) xs) where
  abbrev threshold : ℕ
  threshold = key (get_or xs k 0)

  early : All (λ x. key x ≡ threshold + (key x - threshold)) (take (suc k) xs)
  early i d l =
      let short : i < suc k = omega (arith, l, length-take (suc k) xs) in
      subst (λ x. key x ≡ threshold + (key x - threshold)) (sym (get_or-take (suc k) xs i d short)) (omega (arith, above i d short))
    where
      above : (i d : ℕ) → i < suc k → threshold ≤ key (get_or xs i d)
      above i d b = elim (same_or_not i k) [
        | inl e ↦ subst (λ x. key x ≤ key (get_or xs i d)) (get_or_default xs k d 0 (omega (arith, inside)) ∙ refl) (subst (λ m. key (get_or xs m d) ≤ key (get_or xs i d)) e (omega arith))
        | inr c ↦
            let less : i < k = omega (arith, b, c) in
            subst (λ x. key x ≤ key (get_or xs i d)) (get_or_default xs k d 0 (omega (arith, inside))) (falls i k d less (omega (arith, inside)))
      ]

  late : All (λ x. key x - threshold ≡ 0) (drop (suc k) xs)
  late i d l =
      let within : suc k + i < length xs = omega (arith, l, length-drop (suc k) xs) in
      let low =
      subst (λ x. key (get_or xs (suc k + i) d) ≤ key x) (get_or_default xs k d 0 (omega (arith, inside))) (falls k (suc k + i) d (omega arith) within) in
      subst (λ x. key x - threshold ≡ 0) (sym (get_or-drop (suc k) xs i d)) (omega (arith, low))

  -- the excess over the threshold, and the threshold for each of them, are their sum
  pub excess : suc k * threshold + sum_by (λ x. key x - threshold) xs ≡ sum_by key (take (suc k) xs)
  excess = let long : length (take (suc k) xs) ≡ suc k = omega (arith, length-take (suc k) xs, inside) in omega (
    arith,
    ap (sum_by (λ x. key x - threshold)) (sym (take-append-drop (suc k) xs)),
    sum_by-append (λ x. key x - threshold) (take (suc k) xs) (drop (suc k) xs),
    sum_by-none (λ x. key x - threshold) (drop (suc k) xs) late,
    sum_by-same key (λ x. threshold + (key x - threshold)) (take (suc k) xs) early,
    sum_by-add (λ _. threshold) (λ x. key x - threshold) (take (suc k) xs),
    sum_by-constant threshold (take (suc k) xs),
    ap (λ m. m * threshold) long,
  )

module _ (i : Instance) (class : i.class ≡ cut_class) (s : Schedule) (f : Feasible i s) (some : 1 ≤ length i.jobs)
    (jobs machines : List ℕ) (by_time : IsByFalling (length i.jobs) (time_at i) jobs) (by_speed : IsByFalling i.machines (speed_of i) machines) where
  held : (test : ℕ → Bool) (threshold : ℕ) → HasSpeedFor i s test threshold (cost_of i s)
  held test threshold = law_of_speeds.room i s test threshold (cost_of i s) (inr (ap (λ c. kind_of c.env) class)) f
      (subst (λ x. pos 0 ≤ℤ x) (sym (cost_natural i (ap (λ c. c.crit) class) s some)) (zero-le-pos _)) (λ j l e. ends_by_cost i (ap (λ c. c.crit) class) s j l)

  read : (w w' v v' : ℕ) (u c : ℤ) → w ≡ w' → v ≡ v' → (u *ℤ pos w) ≤ℤ (c *ℤ pos v) → (pos w' *ℤ u) ≤ℤ (c *ℤ pos v')
  read w w' v v' u c e g h = subst (λ x. x ≤ℤ (c *ℤ pos v')) (*ℤ_comm u (pos w')) (subst₂ (λ a b. (u *ℤ pos a) ≤ℤ (c *ℤ pos b)) e g h)

  over_range : (g : ℕ → ℕ) → sum_by g (range_with_len 0 i.machines) ≡ sum_by g machines
  over_range g = sym (sum_by-IsPermutation g (range_with_len 0 i.machines) machines by_speed.all)

  module _ (k : ℕ) (few : k ≤ length i.jobs) where
    abbrev test : ℕ → Bool
    test = among (take k jobs)

    within : All (λ x. x < length i.jobs) (take k jobs)
    within = All-take (λ x. x < length i.jobs) k jobs (order_within (length i.jobs) (time_at i) jobs by_time)

    distinct : AllPairs (λ x y. x ≢ y) (take k jobs)
    distinct = AllPairs-take (λ x y. x ≢ y) k jobs (order_distinct (length i.jobs) (time_at i) jobs by_time)

    works : time_together i test ≡ work i (take k jobs)
    works = sum_among (time_at i) (length i.jobs) (take k jobs) within distinct

    count : jobs_together i test ≡ k
    count = sum_among (λ _. 1) (length i.jobs) (take k jobs) within distinct ∙ omega (arith, sum_by-constant 1 (take k jobs), first_length (length i.jobs) (time_at i) jobs by_time k few)

  pub first_works : (k : ℕ) → k ≤ i.machines → k ≤ length i.jobs → IsAfter i (take k jobs) (take k machines) (cost_of i s) s.unit
  first_works zero l m = read 0 0 0 0 s.unit (cost_of i s) refl refl (omega (arith, ints))
  first_works (suc k) l m =
      let long : suc k ≤ length machines = omega (arith, order_length i.machines (speed_of i) machines by_speed, l) in
      let t : ℕ = speed_of i (get_or machines k 0) in
      read _ _ _ _ s.unit (cost_of i s) (works (suc k) m)
      (omega (arith, ap (λ x. x * t) (count (suc k) m), over_range (λ x. speed_of i x - t), excess (speed_of i) machines k long by_speed.falls)) (held (test (suc k) m) t)

  pub total_work : IsAfter i jobs machines (cost_of i s) s.unit
  total_work = read _ _ _ _ s.unit (cost_of i s) (sym (sum_by-IsPermutation (time_at i) (range_with_len 0 (length i.jobs)) jobs by_time.all))
      (omega (arith, over_range (λ x. speed_of i x - 0), sum_by-same (λ x. speed_of i x - 0) (speed_of i) machines (λ j d l. omega arith)))
      (held (λ _. true) 0)

pub law_of_least_end : LawOfLeastEnd
law_of_least_end = record {
  total = λ i class s f some jobs machines t v. total_work i class s f some jobs machines t v;
  firsts = λ i class s f some jobs machines t v k l m. first_works i class s f some jobs machines t v k l m;
}
