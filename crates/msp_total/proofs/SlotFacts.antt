-- What jobs with due dates cost that end the span after their slots begin.
use Rattle.std.proofs.Common.{◌≡◌, ℕ, ◌+◌, ◌-◌, ◌*◌, ◌<◌, ◌≤◌, Bool, true, false, ltb, List, length, map, get_or, All, IsPermutation, inl, inr, ℤ, pos, ◌-ℤ◌, ◌*ℤ◌, ◌≤ℤ◌, sym, ap}
use Rattle.std.proofs.Common.{ap₂, subst, subst₂, ◌∙◌, arith}
use Rattle.std.specs.Prelude.{int_lt, if◌then◌else◌}
use Rattle.std.specs.Int.{int_max}
use Rattle.std.proofs.lemmas.Bool.{lt-ltb, le-ltb, cases_lt, cond_both}
use Rattle.std.proofs.lemmas.Int.{ints, clamps}
use Rattle.std.proofs.lemmas.List.{length-map, get_or-map}
use Rattle.std.proofs.lemmas.List.Elements.{All-map}
use Rattle.std.proofs.lemmas.List.Sorted.{All-permutation}
use Rattle.msp_class.specs.declared.sizes.TheConstants.{MOST_JOBS, MOST_MACHINES, GREATEST}
use Rattle.msp_class.specs.declared.class.Class.{Class}
use Rattle.msp_class.specs.Env.{kind_of}
use Rattle.msp_class.specs.Crit.{uses_due, uses_weight}
use Rattle.msp_class.proofs.IntegerRing.{*ℤ-mono, *ℤ-zero, ≤ℤ_trans}
use Rattle.msp_instance.specs.declared.Instance.{Instance}
use Rattle.msp_instance.specs.Instance.{no_job, job_at}
use Rattle.msp_instance.specs.Conditions.{Limits, LiesWithin, HasRelease, HasDue, HasWeight, inner_factor, inner_limits}
use Rattle.msp_pieces.proofs.costs.Charges.{int_lt-same}
use Rattle.msp_pieces.proofs.feasible.OfClass.{IsOfClass}
use Rattle.msp_assign.specs.Prices.{greatest_cost, HasCosts, IsAssigned, IsLeast}
use Rattle.msp_slots.specs.declared.earliest.Slot.{Slot}
use Rattle.msp_slots.specs.Earliest.{no_slot, start_in, AreSlots}
use Rattle.msp_slots.proofs.Begins.{head_at}
use Rattle.msp_slots.proofs.SlotPlaces.{heads_many}
use Rattle.msp_total.specs.declared.slot_table.Slots.{Slots}
use Rattle.msp_total.specs.Slots.{forbidden, past_due, slot_cost}
use Rattle.msp_total.specs.LeastSlots.{slot_crit, HasSmallDates, IsTable, AreLeastSlots}

-- ---- the numbers of the jobs
due_of : (late : Bool) (l : Limits) (d : ℤ) → HasDue l (uses_due (slot_crit late)) d → LiesWithin l.greatest_date d
due_of true l d h = h
due_of false l d h = h

weight_of : (late : Bool) (w : ℕ) → HasWeight (uses_weight (slot_crit late)) w → w ≤ GREATEST
weight_of true w h = h.1
weight_of false w h = h.1

pub HasSmallDates-from : (i : Instance) (c : Class) (late : Bool) → IsOfClass i c → c.heads ≡ true → c.crit ≡ slot_crit late → inner_factor (kind_of c.env) ≡ 1 → HasSmallDates i
HasSmallDates-from i c late h heads crit factor = let limits : Limits = inner_limits (kind_of c.env) in record {
  some = h.some;
  few = h.few;
  releases = λ j d b. subst (λ f. (get_or i.jobs j d).release ≤ 2 * GREATEST * f) factor (subst (λ r. HasRelease limits r (get_or i.jobs j d).release) heads (h.jobs j d b).release);
  dues = λ j d b. subst (λ f. LiesWithin (2 * GREATEST * f) (get_or i.jobs j d).due) factor
      (due_of late limits (get_or i.jobs j d).due (subst (λ k. HasDue limits (uses_due k) (get_or i.jobs j d).due) crit (h.jobs j d b).due));
  weights = λ j d b. weight_of late (get_or i.jobs j d).weight (subst (λ k. HasWeight (uses_weight k) (get_or i.jobs j d).weight) crit (h.jobs j d b).weight);
}

-- ---- bounds
past_natural : (late : Bool) (x d : ℤ) → pos 0 ≤ℤ past_due late x d
past_natural true x d = omega (arith, ints, clamps)
past_natural false x d = cond_both (int_lt d x) (pos 1) (pos 0) (λ p. pos 0 ≤ℤ p) (λ e. omega (arith, ints)) (λ e. omega (arith, ints))

past_small : (late : Bool) (x : ℕ) (d : ℤ) → x ≤ 5 * GREATEST → LiesWithin (2 * GREATEST) d → past_due late (pos x) d ≤ℤ pos (10 * GREATEST)
past_small true x d l h = omega (arith, ints, clamps, l, h.0, h.1)
past_small false x d l h = cond_both (int_lt d (pos x)) (pos 1) (pos 0)
    (λ p. p ≤ℤ pos (10 * GREATEST)) (λ e. omega (arith, ints)) (λ e. omega (arith, ints))

-- a due date earlier, or an end later
past_moved : (late : Bool) (x a : ℕ) (d : ℤ) → 1 ≤ a → past_due late (pos (x + 1)) (d -ℤ pos (a - 1)) ≡ past_due late (pos (x + a)) d
past_moved true x a d some =
    let moved : pos (x + 1) -ℤ (d -ℤ pos (a - 1)) ≡ pos (x + a) -ℤ d = omega (arith, ints, some) in ap (int_max (pos 0)) moved
past_moved false x a d some =
    ap (λ t. if t then pos 1 else pos 0) (int_lt-same (d -ℤ pos (a - 1)) (pos (x + 1)) d (pos (x + a)) (λ l. omega (arith, ints, some, l)) (λ l. omega (arith, ints, some, l)))

-- the most that a job costs: its weight for each unit of time that it ends past its due date
abbrev pub greatest_job_cost : ℕ
greatest_job_cost = GREATEST * (10 * GREATEST)

weighed_natural : (w : ℕ) (p : ℤ) → pos 0 ≤ℤ p → pos 0 ≤ℤ (pos w *ℤ p)
weighed_natural w p h = subst (λ z. z ≤ℤ (pos w *ℤ p)) (*ℤ-zero (pos w)) (*ℤ-mono w h)

weighed_small : (w : ℕ) (p : ℤ) → w ≤ GREATEST → p ≤ℤ pos (10 * GREATEST) → (pos w *ℤ p) ≤ℤ pos greatest_job_cost
weighed_small w p l h = ≤ℤ_trans (*ℤ-mono w h) (omega (arith, ints, l))

-- what the job costs whose slot begins at the moment
abbrev pub charged : Instance → Bool → ℕ → ℕ → ℕ → ℤ
charged i late span j x = pos (job_at i j).weight *ℤ past_due late (pos (x + span)) (job_at i j).due

module _ (i : Instance) (late : Bool) (span : ℕ) (h : HasSmallDates i) (some : 1 ≤ span) (short : span ≤ MOST_MACHINES) where
  charged_natural : (j x : ℕ) → pos 0 ≤ℤ charged i late span j x
  charged_natural j x = weighed_natural (job_at i j).weight (past_due late (pos (x + span)) (job_at i j).due) (past_natural late (pos (x + span)) (job_at i j).due)

  pub charged_small : (j x : ℕ) → j < length i.jobs → x ≤ 4 * GREATEST → charged i late span j x ≤ℤ pos greatest_job_cost
  charged_small j x a l = weighed_small (job_at i j).weight (past_due late (pos (x + span)) (job_at i j).due)
      (h.weights j no_job a) (past_small late (x + span) (job_at i j).due (omega (arith, l, short)) (h.dues j no_job a))

  -- ---- the table
  module _ (slots : List Slot) (table : Slots) (t : IsTable i late span slots table) where
    start_is : (k : ℕ) → k < length slots → get_or table.start k 0 ≡ start_in slots k
    start_is k l = ap (λ xs. get_or xs k 0) t.start ∙ get_or-map (λ s. s.start) slots k no_slot 0 l

    release_is : (j : ℕ) → j < length i.jobs → get_or table.release j 0 ≡ head_at i j
    release_is j l = ap (λ xs. get_or xs j 0) t.release ∙ get_or-map (λ j. j.release) i.jobs j no_job 0 l

    due_is : (j : ℕ) → j < length i.jobs → get_or table.due j (pos 0) ≡ (job_at i j).due -ℤ pos (span - 1)
    due_is j l = ap (λ xs. get_or xs j (pos 0)) t.due ∙ get_or-map (λ j. j.due -ℤ pos (span - 1)) i.jobs j no_job (pos 0) l

    weight_is : (j : ℕ) → j < length i.jobs → get_or table.weight j 0 ≡ (job_at i j).weight
    weight_is j l = ap (λ xs. get_or xs j 0) t.weight ∙ get_or-map (λ j. j.weight) i.jobs j no_job 0 l

    slot_cost-is : (j k : ℕ) → j < length i.jobs → k < length slots
        → slot_cost table j k ≡ (if ltb (start_in slots k) (head_at i j) then forbidden else charged i late span j (start_in slots k))
    slot_cost-is j k a b =
        ap₂ (λ s r. if ltb s r then forbidden else (pos (get_or table.weight j 0) *ℤ past_due table.late (pos (s + 1)) (get_or table.due j (pos 0)))) (start_is k b) (release_is j a)
        ∙ ap (λ z. if ltb (start_in slots k) (head_at i j) then forbidden else z)
        (ap₂ (λ w d. pos w *ℤ past_due table.late (pos (start_in slots k + 1)) d) (weight_is j a) (due_is j a)
        ∙ ap (λ l. pos (job_at i j).weight *ℤ past_due l (pos (start_in slots k + 1)) ((job_at i j).due -ℤ pos (span - 1))) t.kind
        ∙ ap (λ p. pos (job_at i j).weight *ℤ p) (past_moved late (start_in slots k) span (job_at i j).due some))

    -- in a slot that begins early, and in another
    pub cost_early : (j k : ℕ) → j < length i.jobs → k < length slots → start_in slots k < head_at i j → slot_cost table j k ≡ forbidden
    cost_early j k a b l = slot_cost-is j k a b ∙ ap (λ c. if c then forbidden else charged i late span j (start_in slots k)) (lt-ltb (start_in slots k) (head_at i j) l)

    pub cost_in_time : (j k : ℕ) → j < length i.jobs → k < length slots → head_at i j ≤ start_in slots k → slot_cost table j k ≡ charged i late span j (start_in slots k)
    cost_in_time j k a b l = slot_cost-is j k a b ∙ ap (λ c. if c then forbidden else charged i late span j (start_in slots k)) (le-ltb (start_in slots k) (head_at i j) l)

    pub cost_natural : (j k : ℕ) → j < length i.jobs → k < length slots → pos 0 ≤ℤ slot_cost table j k
    cost_natural j k a b = elim (cases_lt (start_in slots k) (head_at i j)) [
      | inl less ↦ subst (λ z. pos 0 ≤ℤ z) (sym (cost_early j k a b less)) (omega (arith, ints))
      | inr more ↦ subst (λ z. pos 0 ≤ℤ z) (sym (cost_in_time j k a b more)) (charged_natural j (start_in slots k))
    ]

    cost_small : (j k : ℕ) → j < length i.jobs → k < length slots → start_in slots k ≤ 4 * GREATEST → slot_cost table j k ≤ℤ pos greatest_cost
    cost_small j k a b l = elim (cases_lt (start_in slots k) (head_at i j)) [
      | inl less ↦ subst (λ z. z ≤ℤ pos greatest_cost) (sym (cost_early j k a b less)) (omega (arith, ints))
      | inr more ↦ subst (λ z. z ≤ℤ pos greatest_cost) (sym (cost_in_time j k a b more)) (≤ℤ_trans (charged_small j (start_in slots k) a l) (omega (arith, ints)))
    ]

-- ---- the slots
module _ (i : Instance) (h : HasSmallDates i) (heads : List ℕ) (p : IsPermutation (map (λ j. j.release) i.jobs) heads) where
  pub heads_few : length heads ≤ MOST_JOBS
  heads_few = omega (arith, heads_many i heads p, h.few)

  pub heads_low : All (λ r. r ≤ 2 * GREATEST) heads
  heads_low = All-permutation (λ r. r ≤ 2 * GREATEST) (map (λ j. j.release) i.jobs) heads p (All-map (λ r. r ≤ 2 * GREATEST) (λ j. j.release) i.jobs h.releases)

  module _ (machines : ℕ) (slots : List Slot) (filled : AreSlots machines heads slots) where
    pub slots_many : length slots ≡ length i.jobs
    slots_many = filled.count ∙ heads_many i heads p

    pub slots_soon : (k : ℕ) → k < length slots → start_in slots k ≤ 2 * GREATEST + MOST_JOBS
    slots_soon k l = omega (arith, filled.soon k (omega (arith, l, filled.count)), heads_few)

    module _ (late : Bool) (span : ℕ) (some : 1 ≤ span) (short : span ≤ MOST_MACHINES) (table : Slots) (t : IsTable i late span slots table) where
      pub rows_many : length table.release ≡ length i.jobs
      rows_many = ap length t.release ∙ length-map i.jobs (λ j. j.release)

      pub columns_many : length table.start ≡ length i.jobs
      columns_many = ap length t.start ∙ length-map slots (λ s. s.start) ∙ slots_many

      pub has_costs : HasCosts (length table.release) (length table.start) (slot_cost table)
      has_costs j k a b =
          let inside : j < length i.jobs = omega (arith, a, rows_many) in
          let in_slots : k < length slots = omega (arith, b, columns_many, slots_many) in (
            cost_natural i late span h some short slots table t j k inside in_slots,
            cost_small i late span h some short slots table t j k inside in_slots (omega (arith, slots_soon k in_slots)),
          )

      pub least_from : (column : List ℕ) → IsAssigned (length table.release) (length table.start) column
          → IsLeast (length table.release) (length table.start) (slot_cost table) column → AreLeastSlots i late machines span slots column
      least_from column a b = record {
        heads = heads;
        table = table;
        all = p;
        filled = filled;
        is_table = t;
        assigned = subst₂ (λ r c. IsAssigned r c column) rows_many columns_many a;
        least = subst₂ (λ r c. IsLeast r c (slot_cost table) column) rows_many columns_many b;
      }
