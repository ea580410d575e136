-- Jobs that end the span after their slots begin, at least cost: no slot begins before the release date of its job, and no schedule costs
-- less whose jobs may begin on as many machines and end no earlier than the span later.
use Rattle.std.proofs.Common.{◌≡◌, ℕ, ◌+◌, ◌*◌, ◌<◌, ◌≤◌, inl, inr, Bool, true, false, List, length, ℤ, pos, ◌-ℤ◌, ◌*ℤ◌, ◌≤ℤ◌, All, refl, sym, ap, subst, ◌∙◌, arith}
use Rattle.std.specs.Prelude.{int_lt, if◌then◌else◌}
use Rattle.std.specs.Int.{int_max}
use Rattle.std.proofs.lemmas.Bool.{cases_lt}
use Rattle.std.proofs.lemmas.Int.{ints}
use Rattle.msp_class.specs.declared.sizes.TheConstants.{MOST_JOBS, MOST_MACHINES, GREATEST}
use Rattle.msp_class.specs.Crit.{is_greatest}
use Rattle.msp_class.specs.Sums.{int_total_below}
use Rattle.msp_class.proofs.IntegerRing.{pos-le, zero-le-pos, ≤ℤ_trans, one-*ℤ, *ℤ-mono_nonneg}
use Rattle.msp_class.proofs.Sums.{int_total_below-mono, int_total_below-same}
use Rattle.msp_instance.specs.declared.Job.{Job}
use Rattle.msp_instance.specs.declared.Instance.{Instance}
use Rattle.msp_instance.specs.Instance.{no_job, job_at}
use Rattle.msp_pieces.specs.declared.Piece.{Piece}
use Rattle.msp_pieces.specs.declared.Schedule.{Schedule}
use Rattle.msp_pieces.specs.Feasible.{Feasible}
use Rattle.msp_pieces.specs.Cost.{cost_of, end_of, job_cost, Best}
use Rattle.msp_pieces.proofs.costs.Charged.{sum_when, best_by_moments}
use Rattle.msp_pieces.proofs.costs.Charges.{charge_of, cost_of-sum, job_cost-mono}
use Rattle.msp_assign.specs.Prices.{column_of}
use Rattle.msp_assign.proofs.Totals.{int_total_below-term, int_total_below-bound}
use Rattle.msp_assign.proofs.Choices.{column-inside, column-once, choice_no_less}
use Rattle.msp_slots.specs.declared.earliest.Slot.{Slot}
use Rattle.msp_slots.specs.Seating.{IsSeated}
use Rattle.msp_slots.specs.Earliest.{start_in, machine_in}
use Rattle.msp_slots.proofs.Seats.{HasSeats, one_at_most}
use Rattle.msp_slots.proofs.SlotPlaces.{heads_many, slot_inside, same_slot, seats_in}
use Rattle.msp_slots.proofs.Begins.{head_at, HasBeginsOn}
use Rattle.msp_total.specs.Slots.{past_due, slot_cost}
use Rattle.msp_total.specs.LeastSlots.{slot_crit, HasSmallDates, AreLeastSlots}
use Rattle.msp_total.proofs.SlotFacts.{greatest_job_cost, charged, charged_small, cost_early, cost_in_time, cost_natural, slots_soon}

sums : (late : Bool) → is_greatest (slot_crit late) ≡ false
sums true = refl
sums false = refl

-- a job that ends at a whole moment
cost_at : (late : Bool) (j : Job) (x : ℕ) → job_cost (slot_crit late) (pos 1) j (pos x) ≡ pos j.weight *ℤ past_due late (pos x) j.due
cost_at true j x = ap (λ d. pos j.weight *ℤ int_max (pos 0) (pos x -ℤ d)) (one-*ℤ j.due)
cost_at false j x = ap (λ d. pos j.weight *ℤ (if int_lt d (pos x) then pos 1 else pos 0)) (one-*ℤ j.due)

module _ (i : Instance) (late : Bool) (machines span : ℕ) (h : HasSmallDates i) (machine : 1 ≤ machines)
    (some : 1 ≤ span) (short : span ≤ MOST_MACHINES) (slots : List Slot) (column : List ℕ) (l : AreLeastSlots i late machines span slots column) where
  abbrev n : ℕ
  n = length i.jobs

  abbrev start : ℕ → ℕ
  start = start_in slots

  abbrev col : ℕ → ℕ
  col = column_of column

  abbrev cost : ℕ → ℕ → ℤ
  cost = slot_cost l.table

  abbrev value : ℤ
  value = int_total_below n (λ r. cost r (col r))

  many : length l.heads ≡ n
  many = heads_many i l.heads l.all

  in_slots : (k : ℕ) → k < n → k < length slots
  in_slots k b = omega (arith, b, l.filled.count, many)

  pub columns_inside : All (λ c. c < length slots) column
  columns_inside k d b = omega (arith, l.assigned.inside k d b, l.filled.count, many)

  pub chosen_inside : (j : ℕ) → j < n → col j < n
  chosen_inside = column-inside n n column l.assigned

  pub chosen_soon : (j : ℕ) → j < n → start (col j) ≤ 2 * GREATEST + MOST_JOBS
  chosen_soon j b = slots_soon i h l.heads l.all machines slots l.filled (col j) (in_slots (col j) (chosen_inside j b))

  pub chosen_machine : (j : ℕ) → j < n → machine_in slots (col j) < machines
  chosen_machine j b = slot_inside machines l.heads slots l.filled (col j) (omega (arith, chosen_inside j b, many))

  pub chosen_apart : (a b : ℕ) → a < n → b < n → start (col a) ≡ start (col b) → machine_in slots (col a) ≡ machine_in slots (col b) → a ≡ b
  chosen_apart a b u v e f = column-once n n column l.assigned a b u v
      (same_slot machines l.heads slots l.filled (col a) (col b) (omega (arith, chosen_inside a u, many)) (omega (arith, chosen_inside b v, many)) e f)

  -- ---- what any assignment costs, and any schedule
  seats : (begin : ℕ → ℕ) → IsSeated n machines (head_at i) begin → (seat : ℕ → ℕ) × HasSeats n (head_at i) begin start seat
  seats begin s = seats_in i l.heads slots l.all l.filled begin s

  least_here : (begin seat : ℕ → ℕ) → HasSeats n (head_at i) begin start seat → value ≤ℤ int_total_below n (λ r. charged i late span r (start (seat r)))
  least_here begin seat s = choice_no_less n n seat s.inside s.once cost (λ r. charged i late span r (start (seat r))) column l.least
      (λ r b. cost_in_time i late span h some short slots l.table l.is_table r (seat r) b (in_slots (seat r) (s.inside r b)) (s.released r b))

  -- ---- no job is in a slot that begins before its release date
  costs_natural : (r : ℕ) → r < n → pos 0 ≤ℤ cost r (col r)
  costs_natural r b = cost_natural i late span h some short slots l.table l.is_table r (col r) b (in_slots (col r) (chosen_inside r b))

  one_by_one : IsSeated n machines (head_at i) (λ j. 2 * GREATEST + j)
  one_by_one = record {
    released = λ j b. let r = h.releases j no_job b in omega (arith, r);
    few = λ x. omega (arith, one_at_most n (λ j. 2 * GREATEST + j) x (λ a b u v e. omega (arith, e)), machine);
  }

  value_small : value ≤ℤ pos (MOST_JOBS * greatest_job_cost)
  value_small =
      let (seat, e) = seats (λ j. 2 * GREATEST + j) one_by_one in
      let bound = int_total_below-bound n greatest_job_cost (λ r. charged i late span r (start (seat r)))
      (λ r b. charged_small i late span h some short r (start (seat r)) b (omega (arith, e.early r b, h.few, b))) in
      ≤ℤ_trans (least_here (λ j. 2 * GREATEST + j) seat e) (≤ℤ_trans bound (pos-le (omega (arith, h.few))))

  pub in_time : (j : ℕ) → j < n → head_at i j ≤ start (col j)
  in_time j b = elim (cases_lt (start (col j)) (head_at i j)) [
    | inr more ↦ more
    | inl less ↦
        let early = cost_early i late span h some short slots l.table l.is_table j (col j) b (in_slots (col j) (chosen_inside j b)) less in
        absurd (omega (arith, ints, value_small, int_total_below-term n (λ r. cost r (col r)) j costs_natural b, early))
  ]

  -- ---- a schedule whose jobs end no later
  module _ (crit : i.class.crit ≡ slot_crit late) (pieces : List Piece) (ends : (j : ℕ) → j < n → end_of (record { unit = pos 1; pieces = pieces }) j ≤ℤ pos (start (col j) + span)) where
    abbrev s : Schedule
    s = record { unit = pos 1; pieces = pieces }

    summed : is_greatest i.class.crit ≡ false
    summed = ap is_greatest crit ∙ sums late

    cost_is : (j x : ℕ) → job_cost i.class.crit (pos 1) (job_at i j) (pos (x + span)) ≡ charged i late span j x
    cost_is j x = ap (λ c. job_cost c (pos 1) (job_at i j) (pos (x + span))) crit ∙ cost_at late (job_at i j) (x + span)

    upper : cost_of i s ≤ℤ value
    upper = subst (λ z. z ≤ℤ value) (sym (cost_of-sum i s summed)) (int_total_below-mono n (charge_of i s) (λ r. cost r (col r)) (λ r b.
        subst (λ z. charge_of i s r ≤ℤ z)
        (cost_is r (start (col r)) ∙ sym (cost_in_time i late span h some short slots l.table l.is_table r (col r) b (in_slots (col r) (chosen_inside r b)) (in_time r b)))
        (job_cost-mono i.class.crit (pos 1) (job_at i r) (end_of s r) (pos (start (col r) + span)) (zero-le-pos 1) (ends r b))))

    pub best_in_slots : Feasible i s → ((t : Schedule) → Feasible i t → (begin : ℕ → ℕ) × HasBeginsOn i machines span t begin) → Best i s
    best_in_slots feasible begins = best_by_moments i s 1 summed refl (omega arith) feasible each
      where
        each : (t : Schedule) → Feasible i t → (moment : ℕ → ℤ) × (cost_of i s ≤ℤ sum_when i 1 moment) × ((j : ℕ) → j < n → (t.unit *ℤ moment j) ≤ℤ (pos 1 *ℤ end_of t j))
        each t f =
            let (begin, b) = begins t f in
            let (seat, e) = seats begin b.seated in (
              (λ r. pos (start (seat r) + span)),
              subst (λ z. cost_of i s ≤ℤ z) (sym (int_total_below-same n _ (λ r. charged i late span r (start (seat r))) (λ r w. cost_is r (start (seat r)))))
                  (≤ℤ_trans upper (least_here begin seat e)),
              (λ r w. ≤ℤ_trans (*ℤ-mono_nonneg t.unit (omega (arith, ints, f.unit)) (pos-le (omega (arith, e.early r w))))
                  (subst (λ x. (t.unit *ℤ pos (begin r + span)) ≤ℤ x) (sym (one-*ℤ (end_of t r))) (b.ends r w))),
            )
