-- On identical and uniform machines a group of the longest jobs shows the best cost of preemptive jobs.
use Rattle.std.proofs.Common.{◌≡◌, ℕ, zero, suc, ◌+◌, ◌*◌, ◌-◌, ◌<◌, ◌≤◌, inl, inr, min, List, [], ◌∷◌, length, get_or, map, All, AllPairs, Contains, IsPermutation, sum_by, ℤ, pos}
use Rattle.std.proofs.Common.{nat_abs, ◌*ℤ◌, ◌≤ℤ◌, sym, ap, ◌∙◌, subst, subst₂, arith}
use Rattle.std.specs.Prelude.{take, sum}
use Rattle.std.specs.List.{range_with_len}
use Rattle.std.proofs.Math.Nat.{lt_of_mul-lt-mul_left}
use Rattle.std.proofs.lemmas.Int.{ints}
use Rattle.std.proofs.lemmas.Bool.{cases_lt}
use Rattle.std.proofs.lemmas.List.{length-map, length-take, take_all}
use Rattle.std.proofs.lemmas.List.Elements.{All-take, Contains-get_or}
use Rattle.std.proofs.lemmas.List.FromFn.{length-range_with_len}
use Rattle.std.proofs.lemmas.List.Sorted.{IsPermutation-refl, IsPermutation-map}
use Rattle.std.proofs.lemmas.List.Sums.{sum_by-cons, sum-map}
use Rattle.msp_class.specs.declared.sizes.TheConstants.{MOST_JOBS, MOST_MACHINES, GREATEST, GREATEST_SPEED}
use Rattle.msp_class.specs.declared.class.Crit.TheVariants.{Cmax}
use Rattle.msp_class.specs.declared.environments.EnvKind.TheVariants.{Identical}
use Rattle.msp_class.specs.Env.{kind_of}
use Rattle.msp_class.proofs.IntegerRing.{natural, pos-same, le-pos, zero-le-pos, ≤ℤ_of_same, ≤ℤ_trans, *ℤ-zero, *ℤ-cancel, *ℤ_comm, *ℤ_assoc, *ℤ-cancel_same, *ℤ-one}
use Rattle.msp_class.proofs.Sums.{sum_by-contains, sum_by-mono, sum_by-same, sum_by-constant, sum_by-OnceBelow, OnceBelow-from_permutation, length-OnceBelow, total_below-bound}
use Rattle.msp_class.proofs.Sums.{OnceBelow, OnceBelow-contains}
use Rattle.msp_instance.specs.declared.Instance.{Instance}
use Rattle.msp_instance.specs.Instance.{no_job, no_need}
use Rattle.msp_instance.specs.Conditions.{InClass}
use Rattle.msp_instance.proofs.Limits.{Inner-from_class}
use Rattle.msp_pieces.specs.declared.Frac.{Frac}
use Rattle.msp_pieces.specs.Fraction.{IsOver}
use Rattle.msp_pieces.specs.BackToBack.{time_at}
use Rattle.msp_pieces.specs.Speeds.{HaveSpeeds, speed_by, speed_of}
use Rattle.msp_pieces.specs.Blocks.{total_time}
use Rattle.msp_pieces.proofs.feasible.OfClass.{IsOfClass-from}
use Rattle.msp_cert.specs.declared.Proof.TheVariants.{Group}
use Rattle.msp_cert.specs.Certificates.{IsGroup, IsSpeedOfFastest}
use Rattle.msp_cert.specs.Search.{AreLongestFirst, tried}
use Rattle.msp_cert.proofs.Fastest.{first_some}
use Rattle.msp_cert.proofs.Facts.{AreSmallSpeeds, small_speeds}
use Rattle.msp_cert.proofs.Tried.{group_of_longest, all_longest}
use Rattle.msp_wrap.specs.Wrap.{wrap_class, longest_time, total_time as all_time, least_end, IsWrapCost}
use Rattle.msp_wrap.proofs.Facts.{IsWrapInstance, IsWrapInstance-from_class, total_time-is, time_at-longest, longest_time-reached, longest_time-short, total_time-short}
use Rattle.msp_uniform.specs.Uniform.{cut_class, work, speed, IsUniformCost}
use Rattle.msp_dispatch.specs.Shown.{IsTriedValue}
use Rattle.msp_cert.proofs.LeastForms.{some_product}
use Rattle.msp_dispatch.proofs.evidence.Tried.{tried-group}
use Rattle.msp_dispatch.proofs.evidence.Sizes.{work_short}
use Rattle.msp_dispatch.proofs.evidence.Groups.{longest_falls, first_work, first_speed, first_greatest, first_is, IsSpeedOfFastest-first}

-- the k longest jobs and the k fastest machines show the cost
module _ (i : Instance) (c : InClass i) (makespan : i.class.crit ≡ Cmax) (speeds : HaveSpeeds (kind_of i.class.env)) (machines : List ℕ)
    (all : IsPermutation (range_with_len 0 i.machines) machines) (falls : AllPairs (λ a b. speed_of i b ≤ speed_of i a) machines) where
  abbrev order : List ℕ
  order = map (speed_of i) machines

  small : AreSmallSpeeds order
  small = small_speeds i order c speeds (IsPermutation-map (speed_of i) (range_with_len 0 i.machines) machines all)

  first : (k : ℕ) → sum_by (speed_of i) (take k machines) ≡ sum (take k order)
  first k = first_speed i k machines

  speed_at_most : (k : ℕ) → sum_by (speed_of i) (take k machines) ≤ GREATEST_SPEED * MOST_MACHINES
  speed_at_most k =
      let each = sum_by-mono (λ x. x) (λ _. GREATEST_SPEED) (take k order) (All-take (λ s. s ≤ GREATEST_SPEED) k order small.slow) in
      omega (arith, first k, each, sum_by-constant GREATEST_SPEED (take k order), length-take k order, small.few)

  pub IsTriedValue-group : (cost : Frac) (k time : ℕ) → 1 ≤ k → k ≤ length i.jobs → IsOver cost (pos time) (pos (sum_by (speed_of i) (take k machines)))
      → time ≤ (MOST_JOBS * GREATEST) → ((longest : List ℕ) → AreLongestFirst i longest → time ≡ total_time i (take k longest)) → IsTriedValue i cost
  IsTriedValue-group cost k time some few over short work = record {
    value = time;
    unit = sum_by (speed_of i) (take k machines);
    over = over;
    some = omega (arith, first k, first_some order k some small.some small.fast);
    value_small = omega (arith, short);
    unit_small = omega (arith, speed_at_most k);
    proof = λ longest level first _.
        let next : k ≡ k - 1 + 1 = omega (arith, some) in (
          Group (take k longest),
          subst (λ n. Contains (tried i longest level) (Group (take n longest))) (sym next) (tried-group i longest level (k - 1) (omega (arith, some, few))),
          subst (λ n. IsGroup i (take n longest)) (sym next)
              (group_of_longest i longest (k - 1) first (record { makespan = makespan; speeds = speeds }) (omega (arith, some, few, all_longest i longest first))),
          (
            ap pos (work longest first),
            subst (λ n. IsSpeedOfFastest i n (sum_by (speed_of i) (take k machines)))
                (sym (omega (arith, length-take k longest, all_longest i longest first, few))) (IsSpeedOfFastest-first i k machines all falls),
          ),
        );
  }

-- ---- identical machines
module _ (i : Instance) (c : InClass i) (class : i.class ≡ wrap_class) (cost : Frac) where
  facts : IsWrapInstance i
  facts = IsWrapInstance-from_class i class (Inner-from_class i c)

  abbrev all_machines : List ℕ
  all_machines = range_with_len 0 i.machines

  kind : kind_of i.class.env ≡ Identical
  kind = ap (λ x. kind_of x.env) class

  speed_one : (m : ℕ) → speed_of i m ≡ 1
  speed_one m = ap (λ k. speed_by k i m) kind

  even : AllPairs (λ a b. speed_of i b ≤ speed_of i a) all_machines
  even p q d l b = omega (arith, speed_one (get_or all_machines p d), speed_one (get_or all_machines q d))

  speed_is : (k : ℕ) → sum_by (speed_of i) (take k all_machines) ≡ min k i.machines
  speed_is k =
      let each : sum_by (speed_of i) (take k all_machines) ≡ sum_by (λ _. 1) (take k all_machines) =
      sum_by-same (speed_of i) (λ _. 1) (take k all_machines) (λ n d l. speed_one (get_or (take k all_machines) n d)) in
      omega (arith, each, sum_by-constant 1 (take k all_machines), length-take k all_machines, length-range_with_len 0 i.machines)

  -- the longest job
  longest_first : (longest : List ℕ) → AreLongestFirst i longest → longest_time i ≡ total_time i (take 1 longest)
  longest_first longest h =
      let once = OnceBelow-from_permutation h.all in
      let (j, l, at) = longest_time-reached i facts in
      let low : time_at i j ≤ total_time i (take 1 longest) = first_greatest (time_at i) longest (longest_falls i longest h) j (OnceBelow-contains once j l) in
      let high : total_time i (take 1 longest) ≤ longest_time i = first_is (time_at i) longest (longest_time i) (λ k d b. time_at-longest i facts (get_or longest k d) (once.within k d b)) in
      omega (arith, low, high, at)

  -- all jobs
  work_of_all : (longest : List ℕ) → AreLongestFirst i longest → all_time i ≡ total_time i (take (length i.jobs) longest)
  work_of_all longest h =
      total_time-is i facts ∙ sym (sum_by-OnceBelow (time_at i) (OnceBelow-from_permutation h.all))
      ∙ ap (sum_by (time_at i)) (sym (take_all (length i.jobs) longest (omega (arith, all_longest i longest h))))

  over_longest : least_end i ≡ i.machines * longest_time i → IsWrapCost i cost → IsOver cost (pos (longest_time i)) (pos (sum_by (speed_of i) (take 1 all_machines)))
  over_longest e over =
      let one : sum_by (speed_of i) (take 1 all_machines) ≡ 1 = omega (arith, speed_is 1, facts.machine) in
      subst (λ u. IsOver cost (pos (longest_time i)) (pos u)) (sym one)
      (*ℤ-one cost.num ∙ *ℤ-cancel_same i.machines (omega (arith, facts.machine))
      (*ℤ_comm (pos i.machines) cost.num ∙ over ∙ ap (λ n. pos n *ℤ cost.den) e ∙ *ℤ_assoc (pos i.machines) (pos (longest_time i)) cost.den))

  over_total : least_end i ≡ all_time i → i.machines ≤ length i.jobs → IsWrapCost i cost → IsOver cost (pos (all_time i)) (pos (sum_by (speed_of i) (take (length i.jobs) all_machines)))
  over_total e many over =
      let whole : sum_by (speed_of i) (take (length i.jobs) all_machines) ≡ i.machines = omega (arith, speed_is (length i.jobs), many) in
      subst (λ u. IsOver cost (pos (all_time i)) (pos u)) (sym whole) (over ∙ ap (λ n. pos n *ℤ cost.den) e)

  more_jobs : i.machines * longest_time i < all_time i → i.machines ≤ length i.jobs
  more_jobs less =
      let most : all_time i ≤ length i.jobs * longest_time i =
      omega (arith, total_time-is i facts, total_below-bound (length i.jobs) (longest_time i) (time_at i) (λ j l. time_at-longest i facts j l)) in
      let more : longest_time i * i.machines < longest_time i * length i.jobs = omega (arith, less, most) in
      omega (arith, lt_of_mul-lt-mul_left (longest_time i) more)

  by_longest : least_end i ≡ i.machines * longest_time i → IsWrapCost i cost → IsTriedValue i cost
  by_longest e over = IsTriedValue-group i c (ap (λ x. x.crit) class) (inl kind) all_machines (IsPermutation-refl all_machines)
      even cost 1 (longest_time i) (omega arith) c.conditions.some (over_longest e over) (omega (arith, longest_time-short i facts)) longest_first

  by_total : least_end i ≡ all_time i → i.machines ≤ length i.jobs → IsWrapCost i cost → IsTriedValue i cost
  by_total e many over = IsTriedValue-group i c (ap (λ x. x.crit) class) (inl kind) all_machines (IsPermutation-refl all_machines)
      even cost (length i.jobs) (all_time i) c.conditions.some (omega arith) (over_total e many over) (total_time-short i facts) work_of_all

  pub IsTriedValue-wrap : IsWrapCost i cost → IsTriedValue i cost
  IsTriedValue-wrap over = elim (cases_lt (i.machines * longest_time i) (all_time i)) [
    | inl more ↦ by_total (omega (arith, more)) (more_jobs more) over
    | inr less ↦ by_longest (omega (arith, less)) over
  ]

-- ---- uniform machines
first_less : (k : ℕ) (xs : List ℕ) → All (λ x. 1 ≤ x) xs → k < length xs → sum (take k xs) < sum xs
first_less k [] h l = absurd (omega (arith, l))
first_less zero (x ∷ xs) h l = omega (arith, h 0 0 (omega arith), sum_by-cons (λ y. y) x xs)
first_less (suc k) (x ∷ xs) h l =
    let rest = first_less k xs (λ n d b. h (suc n) d (omega (arith, b))) (omega (arith, l)) in
    omega (arith, rest, sum_by-cons (λ y. y) x xs, sum_by-cons (λ y. y) x (take k xs))

-- a positive fraction is not at most itself times less
no_less : (num den : ℤ) (w v r : ℕ) → 1 ≤ w → 1 ≤ r → pos 1 ≤ℤ den → num *ℤ pos (v + r) ≡ pos w *ℤ den → (pos w *ℤ den) ≤ℤ (num *ℤ pos v) → ⊥
no_less num den w v r some rest one over low =
    by (nat_abs num) (nat_abs den) (natural num nonneg) den_is
  where
    den_is : den ≡ pos (nat_abs den)
    den_is = natural den (omega (arith, ints, one))

    nonneg : pos 0 ≤ℤ num
    nonneg =
        *ℤ-cancel (v + r) (omega (arith, rest))
        (≤ℤ_trans (≤ℤ_of_same (*ℤ-zero (pos (v + r)))) (≤ℤ_trans (zero-le-pos (w * nat_abs den)) (≤ℤ_of_same (sym (*ℤ_comm (pos (v + r)) num ∙ over ∙ ap (λ y. pos w *ℤ y) den_is)))))

    by : (a d : ℕ) → num ≡ pos a → den ≡ pos d → ⊥
    by a d ea ed =
        let e : a * (v + r) ≡ w * d = pos-same (sym (ap (λ y. y *ℤ pos (v + r)) ea) ∙ over ∙ ap (λ y. pos w *ℤ y) ed) in
        let l : w * d ≤ a * v = le-pos (subst₂ (λ x y. x ≤ℤ y) (ap (λ y. pos w *ℤ y) ed) (ap (λ y. y *ℤ pos v) ea) low) in
        let p = some_product w d some (le-pos (subst (λ y. pos 1 ≤ℤ y) ed one)) in
        none a e l p
      where
        none : (a : ℕ) → a * (v + r) ≡ w * d → w * d ≤ a * v → 1 ≤ w * d → ⊥
        none zero e l p = omega (arith, e, l, p)
        none (suc a) e l p = let q = some_product (suc a) r (omega arith) rest in omega (arith, e, l, q)

module _ (i : Instance) (c : InClass i) (class : i.class ≡ cut_class) (cost : Frac) (u : IsUniformCost i cost) where
  speeds_of_class : HaveSpeeds (kind_of i.class.env)
  speeds_of_class = inr (ap (λ x. kind_of x.env) class)

  shows : (k : ℕ) → 1 ≤ k → k ≤ length i.jobs → IsOver cost (pos (sum_by (time_at i) (take k u.jobs))) (pos (sum_by (speed_of i) (take k u.machines))) → IsTriedValue i cost
  shows k some few over =
      let once = OnceBelow-from_permutation u.by_time.all in
      let short = work_short i c (take k u.jobs) (omega (arith, length-take k u.jobs, length-OnceBelow once, c.conditions.few)) in
      IsTriedValue-group i c (ap (λ x. x.crit) class) speeds_of_class u.machines u.by_speed.all u.by_speed.falls cost k (sum_by (time_at i) (take k u.jobs)) some few over short
      (λ longest h. sym (first_work i longest h k u.jobs some u.by_time.all u.by_time.falls))

  many_jobs : length u.jobs ≡ length i.jobs
  many_jobs = length-OnceBelow (OnceBelow-from_permutation u.by_time.all)

  many_machines : length u.machines ≡ i.machines
  many_machines = length-OnceBelow (OnceBelow-from_permutation u.by_speed.all)

  -- all jobs over all machines, where there are at least as many jobs
  all_of_both : IsOver cost (pos (work i u.jobs)) (pos (speed i u.machines)) → i.machines ≤ length i.jobs → IsTriedValue i cost
  all_of_both over many =
      let jobs : take (length i.jobs) u.jobs ≡ u.jobs = take_all (length i.jobs) u.jobs (omega (arith, many_jobs)) in
      let machines : take (length i.jobs) u.machines ≡ u.machines = take_all (length i.jobs) u.machines (omega (arith, many_machines, many)) in
      shows (length i.jobs) c.conditions.some (omega arith) (subst₂ (λ x y. IsOver cost (pos (sum_by (time_at i) x)) (pos (sum_by (speed_of i) y))) (sym jobs) (sym machines) over)

  -- where there are fewer jobs, all of them over as many machines are more
  not_all : IsOver cost (pos (work i u.jobs)) (pos (speed i u.machines)) → length i.jobs < i.machines → ⊥
  not_all over less =
      no_less cost.num cost.den (work i u.jobs) (speed i (take (length i.jobs) u.machines))
      (speed i u.machines - speed i (take (length i.jobs) u.machines)) some_work (omega (arith, fewer)) cost.positive
      (subst (λ n. cost.num *ℤ pos n ≡ pos (work i u.jobs) *ℤ cost.den) (omega (arith, fewer)) over)
      (subst (λ x. (pos (work i x) *ℤ cost.den) ≤ℤ (cost.num *ℤ pos (speed i (take (length i.jobs) u.machines)))) jobs (u.firsts (length i.jobs) less (omega arith)))
    where
      jobs : take (length i.jobs) u.jobs ≡ u.jobs
      jobs = take_all (length i.jobs) u.jobs (omega (arith, many_jobs))

      fewer : speed i (take (length i.jobs) u.machines) < speed i u.machines
      fewer =
          let fast = (small i c (ap (λ x. x.crit) class) speeds_of_class u.machines u.by_speed.all u.by_speed.falls).fast in
          let less = first_less (length i.jobs) (map (speed_of i) u.machines) fast (omega (arith, less, many_machines, length-map u.machines (speed_of i))) in
          subst₂ (λ x y. x < y) (sym (first_speed i (length i.jobs) u.machines)) (sum-map (speed_of i) u.machines) less

      some_work : 1 ≤ work i u.jobs
      some_work =
          let once : OnceBelow (length i.jobs) u.jobs = OnceBelow-from_permutation u.by_time.all in
          let j = get_or u.jobs 0 0 in
          let inside : 0 < length u.jobs = omega (arith, many_jobs, c.conditions.some) in
          let n = ((IsOfClass-from i cut_class class (Inner-from_class i c)).jobs j no_job (once.within 0 0 inside)).needs in
          let timed : 1 ≤ time_at i j = (n.times 0 no_need (omega (arith, n.shape.0))).0 in
          omega (arith, timed, sum_by-contains (time_at i) u.jobs j (Contains-get_or u.jobs 0 0 inside))

  pub IsTriedValue-uniform : IsTriedValue i cost
  IsTriedValue-uniform = elim u.reached [
    | inl over ↦ elim (cases_lt (length i.jobs) i.machines) [ inl less ↦ absurd (not_all over less) | inr many ↦ all_of_both over many ]
    | inr (k, some, less, few, over) ↦ shows k some few over
  ]
