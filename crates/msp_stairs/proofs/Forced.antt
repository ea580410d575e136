-- Forced lateness: no schedule has less, and where a job fits on no machine, it is above the bound.
use Rattle.std.proofs.Common.{◌≡◌, ◌≢◌, ℕ, zero, suc, ◌+◌, ◌*◌, ◌-◌, ◌<◌, ◌≤◌, inl, inr, List, [], ◌∷◌, ◌++◌, length, get_or, map, take, drop, All, AllPairs, Contains, pos, ℤ}
use Rattle.std.proofs.Common.{nat_abs, ◌+ℤ◌, ◌-ℤ◌, ◌*ℤ◌, ◌≤ℤ◌, ◌<ℤ◌, sum_by, refl, sym, ap, ap₂, subst, subst₂, ◌∙◌, arith}
use Rattle.std.proofs.lemmas.Bool.{cases_lt, ltb-false}
use Rattle.std.proofs.lemmas.Int.{ints, clamps}
use Rattle.std.proofs.lemmas.List.{length-map, map-append, take-append-drop, length-take-le}
use Rattle.std.proofs.lemmas.List.Elements.{All-nil, All-cons, All-drop, All-map, All-contains, Contains-get_or, All-from_get_or}
use Rattle.std.proofs.lemmas.List.Kept.{AllPairs-cons}
use Rattle.std.proofs.lemmas.List.Sums.{sum_by-cons}
use Rattle.msp_class.specs.Crit.{is_greatest}
use Rattle.msp_class.proofs.IntegerRing.{natural, le-pos, ≤ℤ_trans, ≤ℤ_of_same, *ℤ-add, *ℤ-sub, *ℤ-mono, *ℤ-cancel_lt, *ℤ_assoc, +ℤ_mono}
use Rattle.msp_class.proofs.IntegerRing.{*ℤ_comm, *ℤ-zero, zero-*ℤ, ≤ℤ_refl, *ℤ-mono_nonneg}
use Rattle.msp_class.proofs.Sums.{OnceBelow, OnceBelow-distinct, sum_by-scale, sum_by-map}
use Rattle.msp_instance.specs.declared.Instance.{Instance}
use Rattle.msp_instance.specs.Instance.{job_at}
use Rattle.msp_pieces.specs.declared.Schedule.{Schedule}
use Rattle.msp_pieces.specs.Feasible.{Feasible}
use Rattle.msp_pieces.specs.Cost.{end_of, cost_of, job_cost}
use Rattle.msp_pieces.specs.BackToBack.{time_at}
use Rattle.msp_pieces.proofs.changes.Moves.{AllPairs-map}
use Rattle.msp_pieces.proofs.costs.Charges.{cost_of-bound}
use Rattle.msp_pieces.proofs.feasible.LastEnds.{last_end-natural}
use Rattle.msp_pieces.proofs.feasible.OfClass.{IsOfClass}
use Rattle.msp_pieces.proofs.lists.Parts.{All-front, All-back}
use Rattle.msp_stairs.specs.declared.climb.Limits.{Limits}
use Rattle.msp_stairs.specs.Stairs.{stairs_class, dates_together, AreDueLast, IsForced}
use Rattle.msp_stairs.specs.Bounds.{at, no_later, work_at, last_moment, deadline}
use Rattle.msp_stairs.specs.Steps.{of_all, of_first, IsBelow, IsTooLate}
use Rattle.msp_pieces.proofs.bounds.Room.{end_at}
use Rattle.msp_stairs.proofs.Room.{room_for, room_by_limits}
use Rattle.std.proofs.lemmas.List.MinMax.{IsFirstBest-from_best_of, IsStrictWeakOrder-by_number}

-- ---- lists
-- one of a list has the least value
some_least : (f : ℕ → ℕ) (xs : List ℕ) → 1 ≤ length xs → (a : ℕ) × Contains xs a × All (λ b. f a ≤ f b) xs
some_least f [] l = absurd (omega (arith, l))
some_least f (x ∷ xs) l =
    let (b, best, _) = IsFirstBest-from_best_of (IsStrictWeakOrder-by_number f) x xs in
    let a = get_or (x ∷ xs) b x in
    let least = All-from_get_or (λ c. f a ≤ f c) (x ∷ xs) x (λ k m. ltb-false (f (get_or (x ∷ xs) k x)) (f a) (best.1 k x m)) in
    (a, Contains-get_or (x ∷ xs) b x best.0, least)

suc-*ℤ : (n : ℕ) (c : ℤ) → pos (suc n) *ℤ c ≡ (pos n *ℤ c) +ℤ c
suc-*ℤ n c = omega (arith, ints)

-- ---- no schedule has less
module _ (i : Instance) (h : IsOfClass i stairs_class) (t : Schedule) (f : Feasible i t) where
  abbrev n : ℕ
  n = length i.jobs

  abbrev cost : ℤ
  cost = cost_of i t

  abbrev due : ℕ → ℤ
  due j = (job_at i j).due

  -- the limit by which a job ends, as it costs no more than all
  abbrev limit_of : ℕ → ℤ
  limit_of j = (t.unit *ℤ due j) +ℤ cost

  abbrev limit : ℕ → ℕ
  limit j = nat_abs (limit_of j)

  pub ends_by : (j : ℕ) → j < n → end_of t j ≤ℤ limit_of j
  ends_by j l = omega (arith, ints, subst (λ x. job_cost x t.unit (job_at i j) (end_of t j) ≤ℤ cost) h.crit (cost_of-bound i t (ap is_greatest h.crit) j l))

  limit_is : (j : ℕ) → j < n → limit_of j ≡ pos (limit j)
  limit_is j l = natural (limit_of j) (≤ℤ_trans (last_end-natural t.pieces j) (ends_by j l))

  in_time : (j : ℕ) → j < n → end_at t j ≤ limit j
  in_time j l = le-pos (subst₂ (λ x y. x ≤ℤ y) (natural (end_of t j) (last_end-natural t.pieces j)) (limit_is j l) (ends_by j l))

  unit_is : t.unit ≡ pos (nat_abs t.unit)
  unit_is = natural t.unit (omega (arith, ints, f.unit))

  -- the limits of jobs together
  limits_are : (xs : List ℕ) → All (λ x. x < n) xs → pos (sum_by limit xs) ≡ (t.unit *ℤ dates_together i xs) +ℤ (pos (length xs) *ℤ cost)
  limits_are [] w = sym (ap₂ (λ x y. x +ℤ y) (*ℤ-zero t.unit) (zero-*ℤ cost))
  limits_are (x ∷ xs) w =
      let rest = limits_are xs (λ k d l. w (suc k) d (omega (arith, l))) in
      let dates = *ℤ-add t.unit (due x) (dates_together i xs) in
      omega (arith, ints, sum_by-cons limit x xs, limit_is x (w 0 0 (omega arith)), rest, dates, suc-*ℤ (length xs) cost)

  over_unit : (w l : ℕ) (d c : ℤ) → nat_abs t.unit * w ≤ l → pos l ≡ (t.unit *ℤ d) +ℤ c → ((pos w -ℤ d) *ℤ t.unit) ≤ℤ c
  over_unit w l d c room are = subst (λ z. z ≤ℤ c) (sym (*ℤ_comm (pos w -ℤ d) t.unit ∙ *ℤ-sub t.unit (pos w) d))
      (omega (arith, ints, room, are, ap (λ u. u *ℤ pos w) unit_is))

  of_set : (last others : List ℕ) → AreDueLast i last others → ((pos (sum_by (time_at i) (last ++ others)) -ℤ dates_together i last) *ℤ t.unit) ≤ℤ (pos i.machines *ℤ cost)
  of_set last others a =
      let (x, among, least) = some_least limit last (omega (arith, a.many, h.machine)) in
      over_unit (sum_by (time_at i) (last ++ others)) (sum_by limit last) (dates_together i last) (pos i.machines *ℤ cost)
      (room_by_limits i h.kind t f limit last others (limit x) a.many a.jobs a.once (λ k d l. (in_time (get_or last k d) (front k d l), least k d l)) (early x among))
      (limits_are last front ∙ ap (λ q. (t.unit *ℤ dates_together i last) +ℤ (pos q *ℤ cost)) a.many)
    where
      front : All (λ x. x < n) last
      front = All-front (λ x. x < n) last others a.jobs

      back : All (λ x. x < n) others
      back = All-back (λ x. x < n) last others a.jobs

      early : (x : ℕ) → Contains last x → All (λ y. end_at t y ≤ limit x) others
      early x among k d l =
          let y = get_or others k d in
          let inside : x < n = All-contains (λ x. x < n) last x front among in
          let before : due y ≤ℤ due x = All-contains (λ a. All (λ b. due b ≤ℤ due a) others) last x a.dates among k d l in
          let rises = +ℤ_mono (*ℤ-mono_nonneg t.unit (omega (arith, ints, f.unit)) before) (≤ℤ_refl cost) in
          omega (arith, ints, in_time y (back k d l), limit_is y (back k d l), limit_is x inside, rises)

  -- a job ends no sooner than its time is over
  pub alone : (j : ℕ) → j < n → nat_abs t.unit * time_at i j ≤ end_at t j
  alone j l =
      let room = room_for i h.kind t f (j ∷ []) (All-cons (λ x. x < n) j [] l (All-nil (λ x. x < n))) (λ a b d m k. absurd (omega (arith, m, k))) 0 in
      omega (arith, ap (λ x. nat_abs t.unit * x) (sum_by-cons (time_at i) j []), sum_by-cons (λ j. end_at t j - 0) j [], room)

  of_job : (j : ℕ) → j < n → ((pos i.machines *ℤ (pos (time_at i j) -ℤ due j)) *ℤ t.unit) ≤ℤ (pos i.machines *ℤ cost)
  of_job j l = subst (λ x. x ≤ℤ (pos i.machines *ℤ cost)) (sym (*ℤ_assoc (pos i.machines) (pos (time_at i j) -ℤ due j) t.unit))
      (*ℤ-mono i.machines (over_unit (time_at i j) (limit j) (due j) cost (omega (arith, alone j l, in_time j l)) (sym (limit_is j l))))

  pub forced_bounds : (x : ℤ) → IsForced i x → (x *ℤ t.unit) ≤ℤ (pos i.machines *ℤ cost)
  forced_bounds x (inl (j, l, e)) = subst (λ y. (y *ℤ t.unit) ≤ℤ (pos i.machines *ℤ cost)) (sym e) (of_job j l)
  forced_bounds x (inr (last, others, a, e)) = subst (λ y. (y *ℤ t.unit) ≤ℤ (pos i.machines *ℤ cost)) (sym e) (of_set last others a)

-- ---- where some jobs take longer than their greatest deadlines
pub of_all-is : (f : ℕ → ℕ) (xs : List ℕ) → of_all f xs ≡ sum_by f xs
of_all-is f [] = refl
of_all-is f (x ∷ xs) = omega (arith, of_all-is f xs, sum_by-cons f x xs)

pub of_first-is : (f : ℕ → ℕ) (l : ℕ) (xs : List ℕ) → of_first f l xs ≡ of_all f (take l xs)
of_first-is f zero xs = refl
of_first-is f (suc l) [] = refl
of_first-is f (suc l) (x ∷ xs) = ap (λ n. f x + n) (of_first-is f l xs)

-- of fewer jobs than machines one takes longer than up to its own deadline
pub one_late : (due work : ℕ → ℕ) (k l : ℕ) (xs : List ℕ) → length xs ≤ l → IsBelow k xs → of_first due l xs < of_all work xs → (x : ℕ) × (x < k) × (due x < work x)
one_late due work k zero [] few below late = absurd (omega (arith, late))
one_late due work k zero (x ∷ xs) few below late = absurd (omega (arith, few))
one_late due work k (suc l) [] few below late = absurd (omega (arith, late))
one_late due work k (suc l) (x ∷ xs) few below late = elim (cases_lt (due x) (work x)) [
  | inl over ↦ (x, below.0, over)
  | inr within ↦ let (y, b, over) = one_late due work x l xs (omega (arith, few)) below.1 (omega (arith, late, within)) in (y, omega (arith, b, below.0), over)
]

IsBelow-all : (k : ℕ) (xs : List ℕ) → IsBelow k xs → All (λ y. y < k) xs
IsBelow-all k [] h = All-nil (λ y. y < k)
IsBelow-all k (x ∷ xs) h = All-cons (λ y. y < k) x xs h.0 (λ n d l. omega (arith, h.0, IsBelow-all x xs h.1 n d l))

IsBelow-pairs : (k : ℕ) (xs : List ℕ) → IsBelow k xs → AllPairs (λ x y. y < x) xs
IsBelow-pairs k [] h = λ a b d l m. absurd (omega (arith, m))
IsBelow-pairs k (x ∷ xs) h = AllPairs-cons (λ x y. y < x) x xs (IsBelow-all x xs h.1) (IsBelow-pairs x xs h.1)

-- the deadline of a job is no earlier than the moment by which it has to end
pub deadline-late : (i : Instance) (limits : Limits) (j : ℕ) → last_moment i limits j ≤ℤ pos (deadline i limits j)
deadline-late i limits j = omega (arith, ints, clamps)

module _ (i : Instance) (order : List ℕ) (once : OnceBelow (length i.jobs) order) (rising : AllPairs (λ a b. (job_at i a).due ≤ℤ (job_at i b).due) order) where
  abbrev m : ℕ
  m = i.machines

  abbrev date : ℕ → ℤ
  date j = (job_at i j).due

  abbrev work : ℕ → ℕ
  work x = work_at i (at order x)

  -- the time of a list of places
  times_are : (xs : List ℕ) → of_all work xs ≡ m * sum_by (time_at i) (map (at order) xs)
  times_are xs = of_all-is work xs ∙ sum_by-scale m (λ x. time_at i (at order x)) xs ∙ ap (λ z. m * z) (sym (sum_by-map (time_at i) (at order) xs))

  -- of at least as many jobs as machines those that are due last, and the others
  abbrev pub last : List ℕ → List ℕ
  last set = map (at order) (take m set)

  abbrev pub others : List ℕ → List ℕ
  others set = map (at order) (drop m set)

  module _ (set : List ℕ) (below : IsBelow (length order) set) (many : m ≤ length set) where
    whole : last set ++ others set ≡ map (at order) set
    whole = sym (map-append (at order) (take m set) (drop m set)) ∙ ap (map (at order)) (take-append-drop m set)

    pub all_times : of_all work set ≡ m * sum_by (time_at i) (last set ++ others set)
    all_times = times_are set ∙ ap (λ l. m * sum_by (time_at i) l) (sym whole)

    within : All (λ x. x < length order) set
    within = IsBelow-all (length order) set below

    split : (R : ℕ → ℕ → Type 0) → ((x y : ℕ) → y < x → x < length order → R (at order x) (at order y))
        → (q k : ℕ) (xs : List ℕ) → IsBelow k xs → k ≤ length order → All (λ a. All (R a) (map (at order) (drop q xs))) (map (at order) (take q xs))
    split R before zero k xs b l = All-nil (λ a. All (R a) (map (at order) xs))
    split R before (suc q) k [] b l = All-nil (λ a. All (R a) [])
    split R before (suc q) k (x ∷ xs) b l =
        All-cons (λ a. All (R a) (map (at order) (drop q xs))) (at order x) (map (at order) (take q xs))
        (All-map (R (at order x)) (at order) (drop q xs)
        (All-drop (λ y. R (at order x) (at order y)) q xs (λ n d j. before x (get_or xs n d) (IsBelow-all x xs b.1 n d j) (omega (arith, b.0, l)))))
        (split R before q x xs b.1 (omega (arith, b.0, l)))

    -- what holds of each two jobs by due date holds of these and the others
    pub divided : (R : ℕ → ℕ → Type 0) → ((x y : ℕ) → y < x → x < length order → R (at order x) (at order y)) → All (λ a. All (R a) (others set)) (last set)
    divided R before = split R before m (length order) set below (omega arith)

    pub due_last : AreDueLast i (last set) (others set)
    due_last = record {
      many = length-map (take m set) (at order) ∙ length-take-le m set many;
      jobs = subst (All (λ j. j < length i.jobs)) (sym whole) (All-map (λ j. j < length i.jobs) (at order) set (λ k d l. once.within (get_or set k d) 0 (within k d l)));
      once = subst (AllPairs (λ a b. a ≢ b)) (sym whole)
          (AllPairs-map (λ a b. a ≢ b) (at order) set (λ a b d l k e. OnceBelow-distinct once (get_or set b d) (get_or set a d) 0
          (IsBelow-pairs (length order) set below a b d l k) (within a d (omega (arith, l, k))) (sym e)));
      dates = divided (λ a b. date b ≤ℤ date a) (λ x y l k. rising y x 0 l k);
    }

  -- ---- above a bound
  module _ (bound : ℤ) where
    abbrev limit_at : ℕ → ℕ
    limit_at x = deadline i (no_later bound) (at order x)

    -- of a job
    job_forced : (x : ℕ) → x < length order → limit_at x < work x → (y : ℤ) × IsForced i y × (bound <ℤ y)
    job_forced x l over =
        let j = at order x in (
          pos m *ℤ (pos (time_at i j) -ℤ date j),
          inl (j, once.within x 0 l, refl),
          omega (arith, ints, *ℤ-sub (pos m) (pos (time_at i j)) (date j), deadline-late i (no_later bound) j, over),
        )

    -- the deadlines of a list of places
    limits_late : (xs : List ℕ) → ((pos m *ℤ dates_together i (map (at order) xs)) +ℤ (pos (length xs) *ℤ bound)) ≤ℤ pos (of_all limit_at xs)
    limits_late [] = ≤ℤ_of_same (ap₂ (λ x y. x +ℤ y) (*ℤ-zero (pos m)) (zero-*ℤ bound))
    limits_late (x ∷ xs) =
        let more = *ℤ-add (pos m) (date (at order x)) (dates_together i (map (at order) xs)) in
        omega (arith, ints, more, suc-*ℤ (length xs) bound, deadline-late i (no_later bound) (at order x), limits_late xs)

    set_forced : (set : List ℕ) → IsBelow (length order) set → m ≤ length set → of_first limit_at m set < of_all work set → (y : ℤ) × IsForced i y × (bound <ℤ y)
    set_forced set below many late = (
      pos (sum_by (time_at i) (last set ++ others set)) -ℤ dates_together i (last set),
      inr (last set, others set, due_last set below many, refl),
      omega (arith, ints, sum),
    )
      where
        all_late : of_all limit_at (take m set) < m * sum_by (time_at i) (last set ++ others set)
        all_late = subst₂ (λ x y. x < y) (of_first-is limit_at m set) (all_times set below many) late

        sum : (dates_together i (last set) +ℤ bound) <ℤ pos (sum_by (time_at i) (last set ++ others set))
        sum =
            let parts = *ℤ-add (pos m) (dates_together i (last set)) bound in
            let count = ap (λ q. pos q *ℤ bound) (length-take-le m set many) in
            *ℤ-cancel_lt m (omega (arith, ints, parts, count, limits_late (take m set), all_late))

    pub forced_above : IsTooLate i order (no_later bound) → (y : ℤ) × IsForced i y × (bound <ℤ y)
    forced_above (set, below, late) = elim (cases_lt (length set) m) [
      | inl few ↦ let (x, l, over) = one_late limit_at work (length order) m set (omega (arith, few)) below late in job_forced x l over
      | inr many ↦ set_forced set below many late
    ]
