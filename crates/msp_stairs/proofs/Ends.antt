-- A schedule that meets the limits: no jobs take longer than their m greatest deadlines.
use Rattle.std.proofs.Common.{◌≡◌, ℕ, ◌+◌, ◌*◌, ◌/◌, ◌<◌, ◌≤◌, inl, inr, List, ◌++◌, length, get_or, take, All, AllPairs, pos, ℤ}
use Rattle.std.proofs.Common.{nat_abs, ◌+ℤ◌, ◌*ℤ◌, ◌≤ℤ◌, sum_by, sym, ap, subst, ◌∙◌, arith}
use Rattle.std.proofs.lemmas.Bool.{cases_lt, cond_both}
use Rattle.std.proofs.lemmas.Int.{ints}
use Rattle.std.proofs.Math.Nat.{mul-le-mul_left, mul-div-le}
use Rattle.msp_class.proofs.IntegerRing.{natural, le-pos, ≤ℤ_trans, *ℤ-add, *ℤ-mono, *ℤ_comm, *ℤ_exchange}
use Rattle.msp_class.proofs.Sums.{OnceBelow, sum_by-scale, sum_by-map, sum_by-mono}
use Rattle.msp_instance.specs.declared.Instance.{Instance}
use Rattle.msp_instance.specs.Instance.{job_at}
use Rattle.msp_pieces.specs.declared.Schedule.{Schedule}
use Rattle.msp_pieces.specs.Feasible.{Feasible}
use Rattle.msp_pieces.specs.Cost.{end_of, cost_of}
use Rattle.msp_pieces.specs.BackToBack.{time_at}
use Rattle.msp_pieces.proofs.bounds.Room.{end_at}
use Rattle.msp_pieces.proofs.feasible.LastEnds.{last_end-natural}
use Rattle.msp_pieces.proofs.feasible.OfClass.{IsOfClass}
use Rattle.msp_pieces.proofs.lists.Parts.{All-front}
use Rattle.msp_stairs.specs.Stairs.{stairs_class, makespan, AreDueLast}
use Rattle.msp_stairs.specs.Bounds.{at, ended_by, work_at, last_moment, deadline}
use Rattle.msp_stairs.specs.Steps.{of_all, of_first, IsBelow, IsTooLate}
use Rattle.msp_stairs.proofs.Forced.{ends_by, alone, of_first-is, one_late, deadline-late, last, others, all_times, divided, due_last, of_all-is}
use Rattle.msp_stairs.proofs.Makespan.{end_of-makespan}
use Rattle.msp_stairs.proofs.Room.{room_by_limits}
use Rattle.std.specs.Prelude.{int_lt}
use Rattle.std.proofs.lemmas.Nat.{le-div}
use Rattle.msp_pieces.proofs.lists.Intervals.{greatest_by, greatest_by-least, greatest_by-bound}

-- ---- a schedule that meets the deadlines, each over the number of machines
module _ (i : Instance) (h : IsOfClass i stairs_class) (t : Schedule) (f : Feasible i t)
    (order : List ℕ) (once : OnceBelow (length i.jobs) order) (rising : AllPairs (λ a b. (job_at i a).due ≤ℤ (job_at i b).due) order)
    (due : ℕ → ℕ) (rises : (x y : ℕ) → x ≤ y → y < length order → due (at order x) ≤ due (at order y))
    (kept : (j : ℕ) → j < length i.jobs → i.machines * end_at t j ≤ nat_abs t.unit * due j) where
  abbrev m : ℕ
  m = i.machines

  abbrev unit : ℕ
  unit = nat_abs t.unit

  some_unit : 1 ≤ unit
  some_unit = le-pos (subst (λ u. pos 1 ≤ℤ u) (natural t.unit (omega (arith, ints, f.unit))) f.unit)

  -- of fewer jobs than machines one takes longer than up to its deadline
  job_kept : (x : ℕ) → x < length order → due (at order x) < work_at i (at order x) → ⊥
  job_kept x l over =
      let j = at order x in
      let inside : j < length i.jobs = once.within x 0 l in
      let more : unit * (due j + 1) ≤ unit * (m * time_at i j) = mul-le-mul_left unit (omega (arith, over)) in
      let rest : m * (unit * time_at i j) ≤ m * end_at t j = mul-le-mul_left m (alone i h t f j inside) in
      omega (arith, some_unit, more, rest, kept j inside)

  -- the moment by which a job has to end, over the unit
  abbrev limit : ℕ → ℕ
  limit j = unit * due j / m

  within : (j k : ℕ) → j < length i.jobs → due j ≤ due k → end_at t j ≤ limit k
  within j k l e = le-div (end_at t j) (unit * due k) m (omega (arith, h.machine)) (omega (arith, kept j l, mul-le-mul_left unit e))

  -- of more jobs those that are due last end by their deadlines, and the others by all of these
  module _ (set : List ℕ) (below : IsBelow (length order) set) (many : m ≤ length set) where
    abbrev front : List ℕ
    front = last i order once rising set

    abbrev back : List ℕ
    back = others i order once rising set

    divided_ends : All (λ a. All (λ b. end_at t b ≤ limit a) back) front
    divided_ends = divided i order once rising set below many (λ a b. end_at t b ≤ limit a)
        (λ x y l b. within (at order y) (at order x) (once.within y 0 (omega (arith, l, b))) (rises y x (omega (arith, l)) b))

    set_kept : of_first (λ x. due (at order x)) m set < of_all (λ x. work_at i (at order x)) set → ⊥
    set_kept over = omega (arith, some_unit, more, mul-le-mul_left m room, scaled, ap (λ x. unit * x) (all_times i order once rising set below many))
      where
        a : AreDueLast i front back
        a = due_last i order once rising set below many

        room : unit * sum_by (time_at i) (front ++ back) ≤ sum_by limit front
        room = room_by_limits i h.kind t f limit front back (greatest_by (end_at t) back) a.many a.jobs a.once (λ k d l. (
          within (get_or front k d) (get_or front k d) (All-front (λ j. j < length i.jobs) front back a.jobs k d l) (omega arith),
          greatest_by-least (end_at t) (limit (get_or front k d)) back (divided_ends k d l),
        )) (greatest_by-bound (end_at t) back)

        scaled : m * sum_by limit front ≤ unit * sum_by due front
        scaled =
            let each = sum_by-mono (λ j. m * limit j) (λ j. unit * due j) front (λ k d l. mul-div-le (unit * due (get_or front k d)) m) in
            omega (arith, each, sum_by-scale m limit front, sum_by-scale unit due front)

        dates : sum_by due front ≡ of_first (λ x. due (at order x)) m set
        dates = sum_by-map due (at order) (take m set)
            ∙ sym (of_all-is (λ x. due (at order x)) (take m set)) ∙ sym (of_first-is (λ x. due (at order x)) m set)

        more : unit * (sum_by due front + 1) ≤ unit * of_all (λ x. work_at i (at order x)) set
        more = mul-le-mul_left unit (omega (arith, over, dates))

  pub all_kept : (set : List ℕ) → IsBelow (length order) set → of_first (λ x. due (at order x)) m set < of_all (λ x. work_at i (at order x)) set → ⊥
  all_kept set below over = elim (cases_lt (length set) m) [
    | inl few ↦ let (x, l, more) = one_late (λ x. due (at order x)) (λ x. work_at i (at order x)) (length order) m set (omega (arith, few)) below over in job_kept x l more
    | inr many ↦ set_kept set below many over
  ]

-- ---- a schedule within the lateness that ends by the moment
module _ (i : Instance) (h : IsOfClass i stairs_class) (t : Schedule) (f : Feasible i t) (late end : ℤ)
    (in_time : (pos i.machines *ℤ cost_of i t) ≤ℤ (late *ℤ t.unit)) (ended : (pos i.machines *ℤ makespan t) ≤ℤ (end *ℤ t.unit)) where
  unit_is : t.unit ≡ pos (nat_abs t.unit)
  unit_is = natural t.unit (omega (arith, ints, f.unit))

  -- m times the end of a job is within the lateness, over the unit
  by_date : (j : ℕ) → j < length i.jobs → (pos i.machines *ℤ end_of t j) ≤ℤ (t.unit *ℤ ((pos i.machines *ℤ (job_at i j).due) +ℤ late))
  by_date j l =
      let whole = *ℤ-add (pos i.machines) (t.unit *ℤ (job_at i j).due) (cost_of i t) in
      let date = *ℤ-add t.unit (pos i.machines *ℤ (job_at i j).due) late in
      let turned = *ℤ_exchange t.unit (pos i.machines) (job_at i j).due in
      omega (arith, ints, whole, date, turned, *ℤ-mono i.machines (ends_by i h t f j l), *ℤ_comm late t.unit, in_time)

  by_end : (j : ℕ) → (pos i.machines *ℤ end_of t j) ≤ℤ (t.unit *ℤ end)
  by_end j = ≤ℤ_trans (*ℤ-mono i.machines (end_of-makespan t j)) (subst (λ x. (pos i.machines *ℤ makespan t) ≤ℤ x) (*ℤ_comm end t.unit) ended)

  deadline_kept : (j : ℕ) → j < length i.jobs → i.machines * end_at t j ≤ nat_abs t.unit * deadline i (ended_by late end) j
  deadline_kept j l = le-pos (subst (λ x. (pos i.machines *ℤ x) ≤ℤ (pos (nat_abs t.unit) *ℤ pos (deadline i (ended_by late end) j))) (natural (end_of t j) (last_end-natural t.pieces j)) (≤ℤ_trans
      (subst (λ u. (pos i.machines *ℤ end_of t j) ≤ℤ (u *ℤ last_moment i (ended_by late end) j)) unit_is
      (cond_both (int_lt end ((pos i.machines *ℤ (job_at i j).due) +ℤ late)) end ((pos i.machines *ℤ (job_at i j).due) +ℤ late)
      (λ x. (pos i.machines *ℤ end_of t j) ≤ℤ (t.unit *ℤ x)) (λ _. by_end j) (λ _. by_date j l)))
      (*ℤ-mono (nat_abs t.unit) (deadline-late i (ended_by late end) j))))

  pub never_late : (order : List ℕ) → OnceBelow (length i.jobs) order → AllPairs (λ a b. (job_at i a).due ≤ℤ (job_at i b).due) order
      → ((x y : ℕ) → x ≤ y → y < length order → deadline i (ended_by late end) (at order x) ≤ deadline i (ended_by late end) (at order y))
      → IsTooLate i order (ended_by late end) → ⊥
  never_late order once rising rises (set, below, over) = all_kept i h t f order once rising (deadline i (ended_by late end)) rises deadline_kept set below over
