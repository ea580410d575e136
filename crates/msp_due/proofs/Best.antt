-- The schedule of the least bound is best.
use Rattle.std.proofs.Common.{◌≡◌, ℕ, zero, suc, ◌+◌, ◌-◌, ◌*◌, ◌<◌, ◌≤◌, ◌⊎◌, inl, inr, Bool, true, eqb, leb, ℤ, List, length, get_or, map, filter, pos, nat_abs, ◌-ℤ◌, add-sub_of_le, le_of_lt, sub-eq-zero_of_le, add-one-le}
use Rattle.std.proofs.Common.{◌*ℤ◌, ◌≤ℤ◌, ◌<ℤ◌, All, refl, sym, ap, ap₂, subst, subst₂, ◌∙◌, arith}
use Rattle.std.specs.Prelude.{◌&&◌, ◌==◌, ◌↔◌, IsTrue}
use Rattle.std.proofs.lemmas.Bool.{cases_lt, eqb-true, eq-eqb, le-leb, leb-true, and_from}
use Rattle.std.proofs.lemmas.Int.{ints}
use Rattle.std.proofs.lemmas.List.{get_or_default}
use Rattle.std.proofs.lemmas.List.Elements.{All-contains}
use Rattle.std.proofs.lemmas.List.Sums.{length-filter}
use Rattle.msp_class.specs.Crit.{is_greatest}
use Rattle.msp_class.specs.Sums.{total_below}
use Rattle.msp_class.proofs.Sums.{OnceBelow-from_permutation, Contains-filter, total_below-term, total_below-constant}
use Rattle.msp_class.proofs.IntegerRing.{natural, le-pos, pos-le, ≤ℤ_trans, ≤ℤ_total, ≤ℤ_antisym, ≤ℤ-<ℤ, *ℤ-cancel, *ℤ-cancel_lt, *ℤ_comm, *ℤ-one}
use Rattle.msp_instance.specs.declared.Arc.{Arc}
use Rattle.msp_instance.specs.declared.Instance.{Instance}
use Rattle.msp_instance.specs.Instance.{job_at, common_time}
use Rattle.msp_instance.specs.Conditions.{Inner, leaving, inner_limits}
use Rattle.msp_instance.specs.Paths.{HasStep, HasPath, one, more}
use Rattle.msp_class.specs.Env.{kind_of}
use Rattle.msp_pieces.specs.declared.Piece.{Piece}
use Rattle.msp_pieces.specs.declared.Schedule.{Schedule}
use Rattle.msp_pieces.specs.Feasible.{Feasible}
use Rattle.msp_pieces.specs.Cost.{cost_of, end_of, job_cost, Best}
use Rattle.msp_pieces.specs.Blocks.{cost_at}
use Rattle.msp_pieces.proofs.costs.Charges.{charge_of, cost_of-bound, job_cost-mono, job_cost-scale}
use Rattle.msp_pieces.proofs.bounds.Certified.{ranked}
use Rattle.msp_route.specs.Bounds.{IsAnswer}
use Rattle.msp_route.specs.Halving.{IsLeastBound}
use Rattle.msp_route.proofs.KeyedJobs.{rises_or_stays}
use Rattle.msp_slots.specs.Places.{ArePlaces, EndAfterPlaces}
use Rattle.msp_slots.proofs.Progress.{stands-in}
use Rattle.msp_slots.proofs.ListSchedules.{begins_soon}
use Rattle.msp_slots.proofs.PieceJobs.{job_inside, each_job}
use Rattle.msp_slots.proofs.Places.{law_of_places, injected}
use Rattle.msp_due.specs.Due.{tree_class, pair_class, CanMeet}
use Rattle.msp_due.specs.Steps.{how_many, cost_in, CanPlace, IsListed, long_piece}
use Rattle.msp_due.proofs.Facts.{HasOneTime, HasOneTime-from, tree_or_pair}
use Rattle.msp_due.proofs.Counts.{how_many-some, covered, slots_hold}
use Rattle.msp_due.proofs.Meeting.{IsRun, tree_step, pair_step, all_in_time}
use Rattle.msp_due.proofs.LongPieces.{schedule, feasible, answer, cost_most, cost_least}
use Rattle.msp_pieces.proofs.feasible.OneMachine.{both_true}

-- ---- arcs and paths
joined_paths : (arcs : List Arc) (j k l : ℕ) → HasPath arcs j k → HasPath arcs k l → HasPath arcs j l
joined_paths arcs j k l (one step) p = more step p
joined_paths arcs j k l (more step q) p = more step (joined_paths arcs _ k l q p)

-- the job to which the arc of a job leads
no_arc : Arc
no_arc = record { before = 0; after = 0 }

next_of : List Arc → ℕ → ℕ
next_of arcs j = (get_or (filter (λ a. a.before == j) arcs) 0 no_arc).after

next_is : (arcs : List Arc) (k j : ℕ) → leaving arcs k ≤ 1 → HasStep arcs k j → next_of arcs k ≡ j
unfolding next_of
next_is arcs k j few step =
    let a : Arc = record { before = k; after = j } in
    let (m, l, e) = Contains-filter (λ b. b.before == k) arcs a step (eq-eqb k k refl) in
    let f = filter (λ b. b.before == k) arcs in
    let first : m ≡ 0 = omega (arith, l, length-filter (λ b. b.before == k) arcs, few) in
    ap (λ b. b.after) (get_or_default f 0 no_arc a (omega (arith, l)) ∙ ap (λ n. get_or f n a) (sym first) ∙ e)

-- as many as fit behind
room : (m c p count : ℕ) → count ≤ m * (c - p) → 1 ≤ count → count + m * p ≤ m * c
room m c p count hold some = elim (cases_lt p c) [
  | inl l ↦ omega (arith, hold, ap (λ x. m * x) (add-sub_of_le (le_of_lt l)))
  | inr l ↦ absurd (omega (arith, hold, some, ap (λ x. m * x) (sub-eq-zero_of_le l)))
]

module _ (i : Instance) (t : HasOneTime i) where
  abbrev n : ℕ
  n = length i.jobs

  step_inside : (k j : ℕ) → HasStep i.arcs k j → (k < n) × (j < n)
  step_inside k j step = All-contains (λ a. (a.before < n) × (a.after < n)) i.arcs (record { before = k; after = j }) t.ends step

  path_rises : (rank : ℕ → ℕ) → All (λ a. rank a.before < rank a.after) i.arcs → (j k : ℕ) → HasPath i.arcs j k → rank j < rank k
  path_rises rank rises j k (one step) = All-contains (λ a. rank a.before < rank a.after) i.arcs (record { before = j; after = k }) rises step
  path_rises rank rises j k (more {k = m} step path) =
      omega (arith, All-contains (λ a. rank a.before < rank a.after) i.arcs (record { before = j; after = m }) rises step, path_rises rank rises m k path)

  -- ---- places that keep the due slots keep the lowered ones
  module _ (bound : ℤ) (low : List ℕ) (pieces : List Piece) (h : IsListed i bound low pieces) where
    abbrev slot : ℕ → ℕ
    slot j = get_or low j 0

    due_small : (j : ℕ) → j < n → slot j ≤ n
    due_small j l = omega (arith, (h.lowered j l).most, (h.dues j l).most)

    module _ (place : ℕ → ℕ) (p : ArePlaces i place) (met : (j : ℕ) → j < n → cost_in i j (place j + 1) ≤ℤ bound) where
      place_due : (j : ℕ) → j < n → place j + 1 ≤ h.due j
      place_due j l = elim (cases_lt (h.due j) (place j + 1)) [
        | inl less ↦ absurd (omega (arith, ints, (h.dues j l).beyond (place j + 1) less (omega (arith, p.early j l)), met j l))
        | inr by_then ↦ by_then
      ]

      place_after : (x y : ℕ) → HasPath i.arcs x y → place x < place y
      place_after = path_rises place p.forward

      kept_by : (rank : ℕ → ℕ) → All (λ a. rank a.before < rank a.after) i.arcs → (top fuel : ℕ) → ((j : ℕ) → j < n → rank j < top) → (x : ℕ) → x < n → top ≤ rank x + fuel → place x < slot x
      kept_by rank rises top zero high x l f = absurd (omega (arith, high x l, f))
      kept_by rank rises top (suc fuel) high x l f =
          omega (
            arith,
            (h.lowered x l).greatest (place x + 1) (place_due x l) (λ c _ some. room i.machines c (place x + 1) (how_many n (λ z. h.leads x z && leb (slot z) c))
                (slots_hold n i.machines place p.few (place x + 1) (c - (place x + 1)) (λ z. h.leads x z && leb (slot z) c) (λ z k e.
                let (path, due) = both_true (h.leads x z) (leb (slot z) c) e in
                let later = place_after x z ((h.shows x z l k).0 path) in
                let soon = kept_by rank rises top fuel high z k (omega (arith, path_rises rank rises x z ((h.shows x z l k).0 path), f)) in
                (omega (arith, later), omega (arith, soon, leb-true (slot z) c due, later)))) some),
          )

      kept : (j : ℕ) → j < n → place j < slot j
      kept j l =
          let (rank, rises) = ranked i t.acyclic in
          kept_by rank rises (total_below n rank + 1) (total_below n rank + 1) (λ k b. omega (arith, total_below-term n rank k b)) j l (omega arith)

      -- ---- so the schedule in slots keeps them
      waits : (j x : ℕ) → j < n → x < h.schedule.begin j
          → ((k : ℕ) × (k < n) × HasStep i.arcs k j × (x ≤ h.schedule.begin k)) ⊎ (i.machines ≤ how_many n (λ k. leb (slot k) (slot j) && eqb (h.schedule.begin k) x))
      waits j x l less = elim (h.schedule.runs.waits j x l less) [
        | inl (a, c, to, from) ↦ inl (a.before, (All-contains (λ a. (a.before < n) × (a.after < n)) i.arcs a t.ends c).0, subst (λ y. HasStep i.arcs a.before y) to c, from)
        | inr all ↦ inr (omega (
          arith,
          covered n i.machines (λ k. leb (slot k) (slot j) && eqb (h.schedule.begin k) x) (λ _. true) h.schedule.machine (λ m b _.
              let (k, inside, at, on, ahead) = all m b in (
                k,
                inside,
                and_from (leb (slot k) (slot j)) (eqb (h.schedule.begin k) x)
                    (le-leb (slot k) (slot j) (stands-in (λ a b. slot a ≤ slot b) h.order k j (rises_or_stays slot h.order h.rising) ahead)) (eq-eqb (h.schedule.begin k) x at),
                on,
              )),
          total_below-constant i.machines 1,
        ))
      ]

      run : IsRun n i.machines (HasStep i.arcs) h.leads slot h.schedule.begin place
      run = record {
        some = t.machine;
        later = λ k j step. All-contains (λ a. h.schedule.begin a.before < h.schedule.begin a.after) i.arcs (record { before = k; after = j }) h.schedule.runs.forward step;
        waits = waits;
        path = λ k j a b step. (h.shows k j a b).1 (one step);
        joined = λ k j l a b c p q. (h.shows k l a c).1 (joined_paths i.arcs k j l ((h.shows k j a b).0 p) ((h.shows j l b c).0 q));
        fits = λ x y a b path. (h.lowered x a).fits (slot y) (omega (arith, due_small y b)) (omega (arith, kept x a))
            (how_many-some n (λ z. h.leads x z && leb (slot z) (slot y)) y b (and_from (h.leads x y) (leb (slot y) (slot y)) path (le-leb (slot y) (slot y) (omega arith))));
        few = p.few;
        kept = kept;
      }

      pub all_early : ((j : ℕ) → j < n → leaving i.arcs j ≤ 1) ⊎ (i.machines ≡ 2) → (j : ℕ) → j < n → h.schedule.begin j < slot j
      all_early (inl tree) = all_in_time n i.machines (HasStep i.arcs) h.leads slot h.schedule.begin place run
          (tree_step n i.machines (HasStep i.arcs) h.leads slot h.schedule.begin place run (next_of i.arcs) (λ k j step. next_is i.arcs k j (tree k (step_inside k j step).0) step))
      all_early (inr two) = all_in_time n i.machines (HasStep i.arcs) h.leads slot h.schedule.begin place run (pair_step n i.machines (HasStep i.arcs) h.leads slot h.schedule.begin place run two)

    -- ---- pieces in time are jobs in time
    abbrev EndInTime : Piece → Type 0
    EndInTime p = p.to ≤ℤ pos (slot p.job)

    pub jobs_in_time : All EndInTime pieces → (j : ℕ) → j < n → h.schedule.begin j < slot j
    jobs_in_time all = each_job pieces (OnceBelow-from_permutation h.schedule.all) (λ j. h.schedule.begin j < slot j)
        (λ k d b. omega (arith, le-pos (subst (λ x. x ≤ℤ pos (slot (get_or pieces k d).job)) (ap (λ p. p.to) (h.schedule.each k d b)) (all k d b))))

    pub pieces_in_time : ((j : ℕ) → j < n → h.schedule.begin j < slot j) → All EndInTime pieces
    pieces_in_time early k d b = subst (λ x. x ≤ℤ pos (slot (get_or pieces k d).job)) (sym (ap (λ p. p.to) (h.schedule.each k d b)))
        (pos-le (add-one-le (early (get_or pieces k d).job (job_inside pieces (OnceBelow-from_permutation h.schedule.all) k d b))))

    cost_met : ((j : ℕ) → j < n → h.schedule.begin j < slot j) → (j : ℕ) → j < n → cost_in i j (h.schedule.begin j + 1) ≤ℤ bound
    cost_met early j l = (h.dues j l).met (h.schedule.begin j + 1) (omega arith) (omega (arith, early j l, (h.lowered j l).most))

    -- the slots of the schedule are places
    slots_are_places : ArePlaces i h.schedule.begin
    slots_are_places = record {
      few = λ x. injected n i.machines (λ j. eqb (h.schedule.begin j) x) h.schedule.machine (λ j b _. h.schedule.runs.inside j b)
          (λ a b k l u v e. h.schedule.runs.apart a b k l (eqb-true (h.schedule.begin a) x u ∙ sym (eqb-true (h.schedule.begin b) x v)) e);
      forward = h.schedule.runs.forward;
      early = begins_soon i h.order pieces h.schedule;
    }

    pub can_place : All EndInTime pieces → CanPlace i bound
    can_place all = (h.schedule.begin, slots_are_places, cost_met (jobs_in_time all))

    pub end_in_time : ((j : ℕ) → j < n → leaving i.arcs j ≤ 1) ⊎ (i.machines ≡ 2) → CanPlace i bound → All EndInTime pieces
    end_in_time either (place, places, met) = pieces_in_time (all_early place places met either)

    abbrev made : Schedule
    made = schedule i t h.order pieces h.schedule

    pub meets : All EndInTime pieces → cost_of i made ≤ℤ bound
    meets all = cost_most i t h.order pieces h.schedule bound (cost_met (jobs_in_time all))

    made_cost_placed : CanPlace i (cost_of i made)
    made_cost_placed = (h.schedule.begin, slots_are_places, λ j l. cost_least i t h.order pieces h.schedule j l)

    -- ---- the cost of the schedule of the least bound
    pub least_cost : IsLeastBound (CanPlace i) bound → All EndInTime pieces → cost_of i made ≡ bound
    least_cost least all = ≤ℤ_antisym (meets all) (least.least (cost_of i made) made_cost_placed)

  -- ---- any feasible schedule gives places
  module _ (s : Schedule) (f : Feasible i s) where
    abbrev unit : ℕ
    unit = nat_abs s.unit

    unit_is : s.unit ≡ pos unit
    unit_is = natural s.unit (omega (arith, ints, f.unit))

    some_unit : 0 < unit
    some_unit = omega (arith, le-pos (subst (λ x. pos 1 ≤ℤ x) unit_is f.unit))

    placed : (place : ℕ → ℕ) × ArePlaces i place × EndAfterPlaces i s place
    placed = law_of_places (inner_limits (kind_of i.class.env)) i s (inr t.kind) t.cut t.inner.conditions t.times f

    abbrev place : ℕ → ℕ
    place = placed.0

    pays : (j : ℕ) → j < n → (pos unit *ℤ cost_in i j (place j + 1)) ≤ℤ cost_of i s
    pays j l =
        ≤ℤ_trans (subst (λ x. x ≤ℤ charge_of i s j) (scaled (common_time i * (place j + 1)))
        (job_cost-mono i.class.crit s.unit (job_at i j) (s.unit *ℤ pos (common_time i * (place j + 1))) (end_of s j) (omega (arith, ints, f.unit)) (placed.2 j l)))
        (cost_of-bound i s (ap is_greatest t.crit) j l)
      where
        scaled : (x : ℕ) → job_cost i.class.crit s.unit (job_at i j) (s.unit *ℤ pos x) ≡ pos unit *ℤ cost_at i j x
        scaled x = ap (λ u. job_cost i.class.crit u (job_at i j) (u *ℤ pos x)) unit_is
            ∙ ap (λ u. job_cost i.class.crit u (job_at i j) (pos unit *ℤ pos x)) (sym (*ℤ-one (pos unit))) ∙ job_cost-scale unit some_unit (pos 1) i.class.crit (job_at i j) (pos x)

    pub placed_by : (bound : ℤ) → cost_of i s ≤ℤ (bound *ℤ s.unit) → CanPlace i bound
    placed_by bound m = (place, placed.1, λ j l. *ℤ-cancel unit some_unit (≤ℤ_trans (pays j l) (subst (λ x. cost_of i s ≤ℤ x) (ap (λ u. bound *ℤ u) unit_is ∙ *ℤ_comm bound (pos unit)) m)))

    pub no_less : (bound : ℤ) → IsLeastBound (CanPlace i) bound → (bound *ℤ s.unit) ≤ℤ (cost_of i s *ℤ pos 1)
    no_less bound least = elim (≤ℤ_total (bound *ℤ s.unit) (cost_of i s)) [
      | inl at_least ↦ subst (λ x. (bound *ℤ s.unit) ≤ℤ x) (sym (*ℤ-one (cost_of i s))) at_least
      | inr less ↦ absurd (omega (arith, ints, least.least (bound -ℤ pos 1) (place, placed.1, λ j l. omega (arith, ints, *ℤ-cancel_lt unit (strict (pays j l) less)))))
    ]
      where
        strict : {x : ℤ} → x ≤ℤ cost_of i s → cost_of i s <ℤ (bound *ℤ s.unit) → x <ℤ (pos unit *ℤ bound)
        strict p q = ≤ℤ-<ℤ p (subst (λ x. cost_of i s <ℤ x) (ap (λ u. bound *ℤ u) unit_is ∙ *ℤ_comm bound (pos unit)) q)

-- ---- what is claimed
pub record IsDueAnswer (i : Instance) (s : Schedule) (bound : ℤ) : Type 0 where
  pub best : Best i s
  pub answer : IsAnswer i s
  pub cost : cost_of i s ≡ bound

module _ (i : Instance) (class : (i.class ≡ tree_class) ⊎ (i.class ≡ pair_class)) (inner : Inner i) (bound : ℤ) (low : List ℕ) (pieces : List Piece) (h : IsListed i bound low pieces) where
  abbrev t : HasOneTime i
  t = HasOneTime-from i class inner

  abbrev Ends : Type 0
  Ends = All (λ p. p.to ≤ℤ pos (get_or low p.job 0)) pieces

  pub place_exactly : Ends ↔ CanPlace i bound
  place_exactly = (can_place i t bound low pieces h, end_in_time i t bound low pieces h (tree_or_pair i class inner))

  pub meet_exactly : Ends ↔ CanMeet i bound
  meet_exactly = (
    λ all. (
      schedule i t h.order pieces h.schedule,
      feasible i t h.order pieces h.schedule,
      subst (λ x. cost_of i (schedule i t h.order pieces h.schedule) ≤ℤ x) (sym (*ℤ-one bound)) (meets i t bound low pieces h all),
    ),
    λ can. end_in_time i t bound low pieces h (tree_or_pair i class inner) (placed_by i t can.0 can.1 bound can.2),
  )

  -- as the code asks, through slices of both lists
  module _ (ps : List Piece) (xs : List ℕ) (same : ps ≡ pieces) (alike : xs ≡ low) where
    abbrev EndBySlots : Type 0
    EndBySlots = All (λ p. p.to ≤ℤ pos (get_or xs p.job 0)) ps

    pub jobs_inside : All (λ p. p.job < length xs) ps
    jobs_inside = subst₂ (λ ps xs. All (λ p. p.job < length xs) ps) (sym same) (sym alike) (λ k d l. omega (arith, job_inside pieces (OnceBelow-from_permutation h.schedule.all) k d l, h.whole))

    ends_same : EndBySlots ≡ Ends
    ends_same = ap₂ (λ ps (xs : List ℕ). All (λ p. p.to ≤ℤ pos (get_or xs p.job 0)) ps) same alike

    pub answers_place : (r : Bool) → IsTrue r ↔ EndBySlots → IsTrue r ↔ CanPlace i bound
    answers_place r e = let f = subst (λ X. IsTrue r ↔ X) ends_same e in (λ y. place_exactly.0 (f.0 y), λ y. f.1 (place_exactly.1 y))

    pub answers_meet : (r : Bool) → IsTrue r ↔ EndBySlots → IsTrue r ↔ CanMeet i bound
    answers_meet r e = let f = subst (λ X. IsTrue r ↔ X) ends_same e in (λ y. meet_exactly.0 (f.0 y), λ y. f.1 (meet_exactly.1 y))

  pub due_answer : IsLeastBound (CanPlace i) bound → IsDueAnswer i (record { unit = pos 1; pieces = map (long_piece (common_time i)) pieces }) bound
  due_answer least = record {
    best = record {
      feasible = feasible i t h.order pieces h.schedule;
      least = λ s f. subst (λ x. (x *ℤ s.unit) ≤ℤ (cost_of i s *ℤ pos 1)) (sym cost_is) (no_less i t s f bound least);
    };
    answer = answer i t h.order pieces h.schedule;
    cost = cost_is;
  }
    where
      cost_is : cost_of i (record { unit = pos 1; pieces = map (long_piece (common_time i)) pieces }) ≡ bound
      cost_is = least_cost i t bound low pieces h least (place_exactly.1 least.met)
