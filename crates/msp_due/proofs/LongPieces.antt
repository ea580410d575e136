-- A schedule in slots where each slot lasts the common time: it is feasible, and when its jobs end.
use Rattle.std.proofs.Common.{◌≡◌, ◌≢◌, ℕ, ℤ, ◌+◌, ◌*◌, ◌<◌, ◌≤◌, ◌⊎◌, inl, inr, List, length, get_or, map, pos, ◌-ℤ◌, ◌*ℤ◌, ◌≤ℤ◌, All, add-one-le}
use Rattle.std.proofs.Common.{sym, ap, ap₂, subst, ◌∙◌, arith}
use Rattle.std.proofs.lemmas.Bool.{cases_lt}
use Rattle.std.proofs.lemmas.Simd.{map-map}
use Rattle.std.proofs.lemmas.Int.{ints}
use Rattle.std.proofs.lemmas.List.Elements.{All-map}
use Rattle.std.proofs.Math.Nat.{mul-le-mul_left, mul-le-mul}
use Rattle.msp_class.specs.declared.sizes.TheConstants.{MOST_JOBS, GREATEST_EQUAL_TIME}
use Rattle.msp_class.specs.Env.{kind_of}
use Rattle.msp_class.specs.Crit.{is_greatest}
use Rattle.msp_class.proofs.IntegerRing.{*ℤ_comm}
use Rattle.msp_class.proofs.Sums.{OnceBelow, OnceBelow-from_permutation}
use Rattle.msp_instance.specs.declared.Instance.{Instance}
use Rattle.msp_instance.specs.Instance.{no_need, job_at, need_at, common_time}
use Rattle.msp_pieces.specs.declared.Piece.{Piece}
use Rattle.msp_pieces.specs.declared.Schedule.{Schedule}
use Rattle.msp_pieces.specs.Feasible.{Feasible, IsWholeWork}
use Rattle.msp_pieces.specs.Cost.{cost_of, job_cost}
use Rattle.msp_pieces.proofs.costs.Charges.{charge_of, cost_of-bound, cost_of-least}
use Rattle.msp_route.specs.Bounds.{IsAnswer}
use Rattle.msp_route.proofs.OneEach.{one_each_is_answer}
use Rattle.msp_route.proofs.Owed.{unit_one}
use Rattle.msp_pieces.proofs.feasible.OneEach.{IsUncut-unrelated}
use Rattle.msp_slots.specs.Pieces.{piece_at}
use Rattle.msp_slots.specs.ListSchedule.{IsListSchedule}
use Rattle.msp_slots.proofs.JobPieces.{job_piece, RunsJobs, runs_jobs}
use Rattle.msp_slots.proofs.ListSchedules.{begins_soon}
use Rattle.msp_due.specs.Steps.{cost_in, long_piece}
use Rattle.msp_due.proofs.Facts.{HasOneTime}

-- one slot is over before another begins
slot_over : (t x y : ℕ) → x < y → t * (x + 1) ≤ t * y
slot_over t x y l = mul-le-mul_left t (add-one-le l)

module _ (i : Instance) (t : HasOneTime i) (order : List ℕ) (pieces : List Piece) (h : IsListSchedule i order pieces) where
  abbrev n : ℕ
  n = length i.jobs

  abbrev time : ℕ
  time = common_time i

  abbrev long : List Piece
  long = map (long_piece time) pieces

  abbrev pub schedule : Schedule
  schedule = record { unit = pos 1; pieces = long }

  -- when a job begins and ends
  abbrev from : ℕ → ℕ
  from j = time * h.begin j

  abbrev to : ℕ → ℕ
  to j = time * (h.begin j + 1)

  abbrev Mine : Piece → Type 0
  Mine p = p ≡ job_piece from to h.machine p.job

  each : All Mine long
  each = All-map Mine (long_piece time) pieces (λ k d l. is (get_or pieces k d) (h.each k d l))
    where
      is : (p : Piece) → p ≡ piece_at (h.begin p.job) (h.machine p.job) p.job → long_piece time p ≡ job_piece from to h.machine p.job
      is p e = ap (long_piece time) e ∙ ap₂ (λ x y. record { job = p.job; op = 0; machine = h.machine p.job; from = x; to = y })
          (*ℤ_comm (pos (h.begin p.job)) (pos time)) (*ℤ_comm (pos (h.begin p.job + 1)) (pos time))

  jobs : OnceBelow n (map (λ p. p.job) long)
  jobs = subst (OnceBelow n) (sym (map-map (λ p. p.job) (long_piece time) pieces)) (OnceBelow-from_permutation h.all)

  soon : (j : ℕ) → j < n → time * (h.begin j + 1) ≤ MOST_JOBS * GREATEST_EQUAL_TIME
  soon j l = let few : h.begin j + 1 ≤ MOST_JOBS = omega (arith, begins_soon i order pieces h j l, t.few) in omega (arith, mul-le-mul t.time.1 few)

  runs : RunsJobs i to long
  runs = runs_jobs i (IsUncut-unrelated i t.kind t.cut t.few) from to h.machine long (record {
    jobs = jobs;
    each = each;
    inside = h.runs.inside;
    lasts = λ j l. omega (arith, t.time.0);
    apart = λ j k l m ne e. either (h.begin j) (h.begin k) (λ same. ne (h.runs.apart j k l m same e));
    released = λ j l. omega (arith, t.released j l);
    forward = λ k d l. slot_over time (h.begin (get_or i.arcs k d).before) (h.begin (get_or i.arcs k d).after) (h.runs.forward k d l);
    whole = λ j l. subst (λ k. IsWholeWork k i (pos 1) (job_piece from to h.machine j)) (sym t.kind) (whole_time j l);
    early = λ j l. omega (arith, soon j l);
  })
    where
      either : (x y : ℕ) → x ≢ y → (time * (x + 1) ≤ time * y) ⊎ (time * (y + 1) ≤ time * x)
      either x y ne = elim (cases_lt x y) [ inl less ↦ inl (slot_over time x y less) | inr more ↦ inr (slot_over time y x (omega (arith, more, ne))) ]

      whole_time : (j : ℕ) → j < n → (pos (time * (h.begin j + 1)) -ℤ pos (time * h.begin j)) ≡ pos 1 *ℤ pos (need_at i j (h.machine j)).time
      whole_time j l = lasts_one time (h.begin j) (need_at i j (h.machine j)).time (t.times j l (h.machine j) no_need (omega (arith, t.wide j l, h.runs.inside j l)))
        where
          lasts_one : (a x need : ℕ) → need ≡ a → (pos (a * (x + 1)) -ℤ pos (a * x)) ≡ pos 1 *ℤ pos need
          lasts_one a x need e = let next : a * (x + 1) ≡ a * x + need = omega (arith, e) in omega (arith, ints, next)

  pub feasible : Feasible i schedule
  feasible = runs.feasible

  pub answer : IsAnswer i schedule
  answer = one_each_is_answer i runs.uncut 1 long runs.one_each (unit_one (kind_of i.class.env))

  -- what a job costs
  pub charge : (j : ℕ) → j < n → charge_of i schedule j ≡ cost_in i j (h.begin j + 1)
  charge j b = ap (λ e. job_cost i.class.crit (pos 1) (job_at i j) e) (runs.ends j b)

  pub cost_most : (bound : ℤ) → ((j : ℕ) → j < n → cost_in i j (h.begin j + 1) ≤ℤ bound) → cost_of i schedule ≤ℤ bound
  cost_most bound f = cost_of-least i schedule bound (ap is_greatest t.crit) t.some (λ k b. subst (λ x. x ≤ℤ bound) (sym (charge k b)) (f k b))

  pub cost_least : (j : ℕ) → j < n → cost_in i j (h.begin j + 1) ≤ℤ cost_of i schedule
  cost_least j b = subst (λ x. x ≤ℤ cost_of i schedule) (charge j b) (cost_of-bound i schedule (ap is_greatest t.crit) j b)
