-- The jobs in the order of least cost in the earliest places: a best schedule by the greatest cost of a job.
use Rattle.std.proofs.Common.{◌≡◌, ◌≢◌, ℕ, zero, suc, ◌+◌, ◌<◌, ◌≤◌, ◌⊎◌, inl, inr, true, List, length, get_or, take, map, ℤ, pos, nat_abs, ◌*ℤ◌, ◌≤ℤ◌, All, AllPairs, refl, below_more, le_of_lt, le_of_eq, le_antisymm}
use Rattle.std.proofs.Common.{sym, ap, ap₂, subst, subst₂, ◌∙◌, arith}
use Rattle.std.proofs.lemmas.Bool.{cases_lt}
use Rattle.std.proofs.lemmas.Int.{ints}
use Rattle.std.proofs.lemmas.List.{get_or-take, length-take, length-map, get_or-map, get_or_default}
use Rattle.msp_class.specs.declared.sizes.TheConstants.{GREATEST_MULTIPLE}
use Rattle.msp_class.specs.declared.class.Crit.TheVariants.{Fmax}
use Rattle.msp_class.specs.Crit.{is_greatest}
use Rattle.msp_class.specs.Env.{kind_of}
use Rattle.msp_class.proofs.IntegerRing.{natural, pos-le, ≤ℤ_trans, ≤ℤ_of_same, <ℤ_weak, *ℤ-mono, *ℤ_comm}
use Rattle.msp_class.proofs.Sums.{total_below-constant, sum_by-constant, sum_by-distinct_test, OnceBelow, OnceBelow-from_permutation, OnceBelow-distinct, OnceBelow-contains, length-OnceBelow}
use Rattle.msp_instance.specs.declared.Instance.{Instance}
use Rattle.msp_instance.specs.Instance.{job_at}
use Rattle.msp_instance.specs.Conditions.{Inner, inner_limits}
use Rattle.msp_instance.specs.Multiples.{IsLeastOfAll}
use Rattle.msp_pieces.specs.declared.Schedule.{Schedule}
use Rattle.msp_pieces.specs.Feasible.{Feasible}
use Rattle.msp_pieces.specs.Cost.{end_of, job_cost, cost_of, Best}
use Rattle.msp_pieces.proofs.costs.Charges.{charge_of, cost_of-bound, cost_of-reached}
use Rattle.msp_places.specs.declared.place.Place.{Place}
use Rattle.msp_places.specs.Places.{ComesFirst, AreEarliestPlaces, no_place, place_at, HaveOwnPlaces}
use Rattle.msp_places.specs.Placed.{AreApart}
use Rattle.msp_places.specs.Most.{cost_in, CostsLess, IsOrderByCost}
use Rattle.msp_pieces.proofs.costs.Charged.{costs_no_less}
use Rattle.msp_places.proofs.OwnPlaces.{law_of_earliest_places}
use Rattle.msp_places.proofs.PlaceFacts.{IsPlacesInstance, takes_common_time}
use Rattle.msp_places.proofs.PlacedJobs.{placed_schedule, placed_is_feasible, placed_end}

-- ---- of k + 1 different numbers one is at least k
some_late : (k : ℕ) (number : ℕ → ℕ) (m : ℕ) → ((x : ℕ) × (x < m) × (k ≤ number x)) ⊎ ((x : ℕ) → x < m → number x < k)
some_late k number zero = inr (λ x l. absurd (omega (arith, l)))
some_late k number (suc m) = elim (some_late k number m) [
  | inl w ↦ inl (w.0, omega (arith, w.1), w.2)
  | inr all ↦ elim (cases_lt (number m) k) [
    | inr late ↦ inl (m, omega arith, omega (arith, late))
    | inl early ↦ inr (λ x l. below_more (λ y. number y < k) m all early x (omega (arith, l)))
  ]
]

few_below : (k : ℕ) (xs : List ℕ) → All (λ x. x < k) xs → AllPairs (λ x y. x ≢ y) xs → length xs ≤ k
few_below k xs inside apart = omega (arith, sum_by-constant 1 xs, sum_by-distinct_test (λ _. 1) (λ _. true) k xs inside apart (λ _ _ _. refl), total_below-constant k 1)

pub late_one : (k : ℕ) (jobs : List ℕ) (number : ℕ → ℕ) → k < length jobs
    → ((a b : ℕ) → a < b → b < length jobs → number (get_or jobs a 0) ≢ number (get_or jobs b 0)) → (x : ℕ) × (x < length jobs) × (k ≤ number (get_or jobs x 0))
late_one k jobs number long apart = elim (some_late k (λ x. number (get_or jobs x 0)) (length jobs)) [
  | inl w ↦ w
  | inr all ↦ absurd (omega (
    arith,
    long,
    length-map jobs number,
    few_below k (map number jobs)
        (λ x d l. let b : x < length jobs = omega (arith, l, length-map jobs number) in subst (λ y. y < k) (sym (get_or-map number jobs x 0 d b)) (all x b))
        (λ a b d l m e. let q : b < length jobs = omega (arith, m, length-map jobs number) in
        apart a b l q (sym (get_or-map number jobs a 0 d (omega (arith, l, q))) ∙ e ∙ get_or-map number jobs b 0 d q)),
  ))
]

-- ---- the places end in order
end_rises : (places : List Place) → AllPairs ComesFirst places → (a b : ℕ) → a ≤ b → b < length places → (place_at places a).end ≤ (place_at places b).end
end_rises places order a b l k = elim (cases_lt a b) [
  | inl less ↦ elim (order a b no_place less k) [ inl h ↦ le_of_lt h | inr h ↦ le_of_eq h.0 ]
  | inr more ↦ le_of_eq (ap (λ x. (place_at places x).end) (le_antisymm l more))
]

-- ---- the schedule
module _ (i : Instance) (h : IsPlacesInstance Fmax i) (inner : Inner i) (unit : ℕ) (common : IsLeastOfAll i.speeds unit) (few : unit ≤ GREATEST_MULTIPLE) (places : List Place)
    (earliest : AreEarliestPlaces i unit places) (order : List ℕ) (o : IsOrderByCost i unit places order) where
  abbrev n : ℕ
  n = length i.jobs

  abbrev pub job : ℕ → ℕ
  job k = get_or order k 0

  abbrev s : Schedule
  s = placed_schedule unit n places job (λ k. k)

  once : OnceBelow n order
  once = OnceBelow-from_permutation o.all

  count : length order ≡ n
  count = length-OnceBelow once

  differ : (a b : ℕ) → a < b → b < n → job a ≢ job b
  differ a b l k = OnceBelow-distinct once a b 0 l (omega (arith, k, count))

  pub own : AreApart n job (λ k. k)
  own = record {
    jobs = λ a l. once.within a 0 (omega (arith, l, count));
    once = λ a b l k e. elim (cases_lt a b) [
      | inl less ↦ absurd (differ a b less k e)
      | inr more ↦ elim (cases_lt b a) [ inl less ↦ absurd (differ b a less l (sym e)) | inr last ↦ omega (arith, more, last) ]
    ];
    numbers = λ a l. l;
    own = λ a b l k e. e;
  }

  feasible : Feasible i s
  feasible = placed_is_feasible Fmax i h unit common few places earliest job (λ k. k) own

  greatest : is_greatest i.class.crit ≡ true
  greatest = ap is_greatest h.crit

  -- what the job of a place costs is no more than any schedule
  module _ (t : Schedule) (f : Feasible i t) (k : ℕ) (l : k < n) where
    abbrev other : ℕ
    other = nat_abs t.unit

    unit_is : t.unit ≡ pos other
    unit_is = natural t.unit (omega (arith, ints, f.unit))

    some : 0 < other
    some = omega (arith, ints, f.unit)

    number : (ρ : ℕ → ℕ) × HaveOwnPlaces i t unit places ρ
    number = law_of_earliest_places (inner_limits (kind_of i.class.env)) i t unit places h.kind h.cut inner.conditions (takes_common_time Fmax i h) f common earliest

    -- of the jobs up to it one has its place or a later one
    late : (x : ℕ) × (x < k + 1) × (k ≤ number.0 (job x))
    late =
        let (x, b, w) = late_one k (take (k + 1) order) number.0 (omega (arith, long)) apart in
        let inside : x < k + 1 = omega (arith, b, long) in
        (x, inside, subst (λ y. k ≤ number.0 y) (get_or-take (k + 1) order x 0 inside) w)
      where
        long : length (take (k + 1) order) ≡ k + 1
        long = omega (arith, length-take (k + 1) order, count, l)

        apart : (a b : ℕ) → a < b → b < length (take (k + 1) order) → number.0 (get_or (take (k + 1) order) a 0) ≢ number.0 (get_or (take (k + 1) order) b 0)
        apart a b less m e =
            let q : b < k + 1 = omega (arith, m, long) in
            let p : a < k + 1 = omega (arith, less, q) in
            let inside : b < n = omega (arith, q, l) in
            differ a b less inside (number.1.own (job a) (job b) (own.jobs a (omega (arith, less, inside))) (own.jobs b inside)
            (ap number.0 (sym (get_or-take (k + 1) order a 0 p)) ∙ e ∙ ap number.0 (get_or-take (k + 1) order b 0 q)))

    abbrev x : ℕ
    x = late.0

    inside : job x < n
    inside = own.jobs x (omega (arith, late.1, l))

    -- there it costs no less
    cheapest : cost_in i unit (place_at places k).end (job k) ≤ℤ cost_in i unit (place_at places k).end (job x)
    cheapest =
        let less = subst (CostsLess i unit (place_at places k).end (job k)) (get_or-take (k + 1) order x 0 late.1)
        (o.cheapest k (omega (arith, l, count)) x 0 (omega (arith, late.1, length-take (k + 1) order, count, l))) in
        elim less [ inl a ↦ <ℤ_weak a | inr a ↦ ≤ℤ_of_same a.0 ]

    -- and it ends no earlier
    ends_late : (pos other *ℤ pos (place_at places k).end) ≤ℤ (pos unit *ℤ end_of t (job x))
    ends_late = ≤ℤ_trans (*ℤ-mono other (pos-le (end_rises places earliest.order k (number.0 (job x)) late.2 (omega (arith, number.1.inside (job x) inside, earliest.count)))))
        (subst (λ u. (u *ℤ pos (place_at places (number.0 (job x))).end) ≤ℤ (pos unit *ℤ end_of t (job x))) unit_is (number.1.ends (job x) inside))

    owed : (pos other *ℤ cost_in i unit (place_at places k).end (job k)) ≤ℤ (pos unit *ℤ cost_of i t)
    owed =
        ≤ℤ_trans (*ℤ-mono other cheapest)
        (≤ℤ_trans (costs_no_less i.class.crit (job_at i (job x)) unit other (pos (place_at places k).end) (end_of t (job x)) (omega (arith, common.some)) some ends_late)
        (*ℤ-mono unit (subst (λ u. job_cost i.class.crit u (job_at i (job x)) (end_of t (job x)) ≤ℤ cost_of i t) unit_is (cost_of-bound i t greatest (job x) inside))))

  least : (t : Schedule) → Feasible i t → (cost_of i s *ℤ t.unit) ≤ℤ (cost_of i t *ℤ s.unit)
  least t f =
      let (j, l, reached) = cost_of-reached i s greatest (omega (arith, h.some)) in
      let (k, b, e) = OnceBelow-contains once j l in
      let m : k < n = omega (arith, b, count) in
      let is : job k ≡ j = get_or_default order k 0 j b ∙ e in
      let cost : cost_of i s ≡ cost_in i unit (place_at places k).end (job k) = sym reached ∙ ap (charge_of i s) (sym is)
      ∙ ap (job_cost i.class.crit (pos unit) (job_at i (job k))) (placed_end Fmax i h unit common few places earliest job (λ k. k) own k m) in
      subst₂ (λ a b. a ≤ℤ b) (turned cost (unit_is t f k m)) (*ℤ_comm (pos unit) (cost_of i t)) (owed t f k m)
    where
      turned : {a b u v : ℤ} → a ≡ b → u ≡ v → v *ℤ b ≡ a *ℤ u
      turned {a} {b} {u} {v} e g = *ℤ_comm v b ∙ ap₂ (λ x y. x *ℤ y) (sym e) (sym g)

  pub most_is_best : Best i s
  most_is_best = record { feasible = feasible; least = least }
