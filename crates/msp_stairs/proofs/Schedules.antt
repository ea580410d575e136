-- The pieces on the stairs as a schedule: it is feasible, meets the limits, and lies within the bounds of an answer.
use Rattle.std.proofs.Common.{◌≡◌, ℕ, ◌*◌, ◌<◌, ◌≤◌, inl, inr, List, length, get_or, ℤ, pos, ◌+ℤ◌, ◌*ℤ◌, ◌≤ℤ◌, All, sym, ap, subst, ◌∙◌, arith}
use Rattle.std.specs.Prelude.{◌==◌, Option, Some, None}
use Rattle.std.specs.List.{count_by}
use Rattle.std.proofs.lemmas.Int.{ints, clamps}
use Rattle.std.proofs.lemmas.Bool.{cases_lt}
use Rattle.std.proofs.lemmas.List.{get_or_default}
use Rattle.std.proofs.lemmas.List.Elements.{All-contains}
use Rattle.msp_class.specs.declared.sizes.TheConstants.{MOST_MACHINES, GREATEST}
use Rattle.msp_class.specs.Crit.{is_greatest}
use Rattle.msp_class.proofs.IntegerRing.{≤ℤ_refl, ≤ℤ_trans, *ℤ_comm, *ℤ-mono, +ℤ_mono}
use Rattle.msp_class.proofs.Sums.{OnceBelow-contains, length-OnceBelow}
use Rattle.msp_instance.specs.declared.Instance.{Instance}
use Rattle.msp_instance.specs.Instance.{job_at, no_job}
use Rattle.msp_instance.specs.Conditions.{LiesWithin}
use Rattle.msp_pieces.specs.declared.Piece.{Piece}
use Rattle.msp_pieces.specs.declared.Schedule.{Schedule}
use Rattle.msp_pieces.specs.Piece.{job_of, start, finish}
use Rattle.msp_pieces.specs.Feasible.{Feasible}
use Rattle.msp_pieces.specs.Intervals.{work_of}
use Rattle.msp_pieces.specs.Cost.{end_of, cost_of, job_cost}
use Rattle.msp_pieces.proofs.lists.Intervals.{piece_of}
use Rattle.msp_pieces.proofs.feasible.LastEnds.{last_end-least}
use Rattle.msp_pieces.proofs.feasible.OfClass.{IsOfClass}
use Rattle.msp_pieces.proofs.feasible.BackToBack.{ordered_without_arcs}
use Rattle.msp_pieces.proofs.costs.Charges.{cost_of-least}
use Rattle.msp_route.specs.Bounds.{IsAnswer, answer_unit}
use Rattle.msp_route.proofs.Owed.{timed_answer}
use Rattle.msp_route.proofs.Laid.{at_zero, cut_is_feasible}
use Rattle.msp_stairs.specs.declared.climb.Limits.{Limits}
use Rattle.msp_stairs.specs.Stairs.{stairs_class, makespan, HasTwoPiecesAtMost}
use Rattle.msp_stairs.specs.Bounds.{greatest_bound, CanMeet, CanEnd, work_at, capped, last_moment, deadline, at, greatest_date, latest_deadline}
use Rattle.msp_stairs.specs.Steps.{HasClimbed, IsClimbed}
use Rattle.msp_stairs.proofs.Makespan.{makespan-least}
use Rattle.msp_stairs.proofs.Pieces.{count-none}
use Rattle.msp_stairs.proofs.Steps.{CanLay}
use Rattle.msp_pieces.proofs.costs.Small.{product_within}

abbrev pub stairs_schedule : Instance → List Piece → Schedule
stairs_schedule i ps = record { unit = pos i.machines; pieces = ps }

-- the moment by which a job has to end is within the lateness, and not after the end, if there is one
capped-late : (end : Option ℤ) (moment : ℤ) → capped end moment ≤ℤ moment
capped-late None moment = ≤ℤ_refl moment
capped-late (Some end) moment = omega (arith, ints, clamps)

-- a due date, times the number of machines and with a bound
pub due-within : (i : Instance) → IsOfClass i stairs_class → (j : ℕ) → j < length i.jobs → LiesWithin greatest_date (pos i.machines *ℤ (job_at i j).due)
due-within i h j l = product_within i.machines (job_at i j).due MOST_MACHINES (2 * GREATEST) greatest_date
    h.machines (h.jobs j no_job l).due (omega arith)

pub deadline-small : (i : Instance) → IsOfClass i stairs_class → (limits : Limits) → LiesWithin greatest_bound limits.late → (j : ℕ) → j < length i.jobs → deadline i limits j ≤ latest_deadline
deadline-small i h limits small j l =
    let early = capped-late limits.end ((pos i.machines *ℤ (job_at i j).due) +ℤ limits.late) in
    omega (arith, ints, clamps, early, +ℤ_mono (due-within i h j l).1 small.1)

module _ (i : Instance) (h : IsOfClass i stairs_class) (order : List ℕ) (limits : Limits) (can : CanLay i order limits) (ps : List Piece) (made : IsClimbed i order limits ps) where
  abbrev n : ℕ
  n = length i.jobs

  abbrev c : HasClimbed i order limits (length order) made.0 ps
  c = made.1

  abbrev s : Schedule
  s = stairs_schedule i ps

  many : length order ≡ n
  many = length-OnceBelow can.once

  job_inside : All (λ p. p.job < n) ps
  job_inside k d l = let (x, b, e) = c.worked.jobs k d l in subst (λ j. j < n) (sym e) (can.once.within x 0 b)

  -- a job has its place in the order
  each_job : (Q : ℕ → Type 0) → ((x : ℕ) → x < length order → Q (at order x)) → (j : ℕ) → j < n → Q j
  each_job Q q j l = let (x, b, e) = OnceBelow-contains can.once j l in subst Q (get_or_default order x 0 j b ∙ e) (q x b)

  -- ---- feasible
  works : (j : ℕ) → j < n → work_of job_of start finish ps j ≡ work_at i j
  works = each_job (λ j. work_of job_of start finish ps j ≡ work_at i j) c.worked.work

  pub is_feasible : Feasible i s
  is_feasible = cut_is_feasible i i.machines ps h.kind h.cut (record {
    some = h.machine;
    timed = c.on_stairs.timed;
    jobs = job_inside;
    ops = λ k d l. (c.on_stairs.place k d l).0;
    inside = λ k d l. (c.on_stairs.place k d l).1;
    machines = c.on_stairs.apart;
    apart = c.worked.apart;
    released = λ k d l. at_zero i.machines _ (start (get_or ps k d)) (h.jobs (get_or ps k d).job no_job (job_inside k d l)).release;
    arcs = ordered_without_arcs i.arcs ps h.arcs;
  }) works

  -- ---- interrupted once at most
  pub cut_once : HasTwoPiecesAtMost s
  cut_once j = elim (cases_lt j n) [
    | inl inside ↦ each_job (λ j. count_by (λ p. p.job == j) ps ≤ 2) c.worked.cuts j inside
    | inr outside ↦ omega (arith, count-none ps j (λ k d l e. omega (arith, outside, subst (λ x. x < n) e (job_inside k d l))))
  ]

  -- ---- in time
  some_deadline : (j : ℕ) → j < n → 0 < deadline i limits j
  some_deadline j l =
      let (q, among, mine, lasts) = piece_of job_of start finish ps j
      (subst (λ w. 0 < w) (sym (works j l)) (each_job (λ j. 0 < work_at i j) (λ x b. omega (arith, can.works x b)) j l)) in
      let late = All-contains (λ p. finish p ≤ deadline i limits p.job) ps q c.worked.ends among in
      omega (arith, lasts, subst (λ x. finish q ≤ deadline i limits x) mine late)

  in_time : All (λ p. p.to ≤ℤ last_moment i limits p.job) ps
  in_time k d l =
      let some = some_deadline (get_or ps k d).job (job_inside k d l) in
      omega (arith, ints, clamps, some, (c.on_stairs.timed k d l).to, c.worked.ends k d l)

  not_before : (j : ℕ) → j < n → pos 0 ≤ℤ last_moment i limits j
  not_before j l = omega (arith, ints, clamps, some_deadline j l)

  job_in_time : (j : ℕ) → j < n → end_of s j ≤ℤ last_moment i limits j
  job_in_time j l = last_end-least ps j (last_moment i limits j) (not_before j l) (λ k d b e. subst (λ x. (get_or ps k d).to ≤ℤ last_moment i limits x) e (in_time k d b))

  pub at_most_bound : cost_of i s ≤ℤ limits.late
  at_most_bound = cost_of-least i s limits.late (ap is_greatest h.crit) (omega (arith, h.some)) (λ j l.
      let early = ≤ℤ_trans (job_in_time j l) (capped-late limits.end ((pos i.machines *ℤ (job_at i j).due) +ℤ limits.late)) in
      subst (λ x. job_cost x (pos i.machines) (job_at i j) (end_of s j) ≤ℤ limits.late) (sym h.crit) (omega (arith, ints, early)))

  late_enough : (pos i.machines *ℤ cost_of i s) ≤ℤ (limits.late *ℤ s.unit)
  late_enough = subst (λ x. (pos i.machines *ℤ cost_of i s) ≤ℤ x) (*ℤ_comm (pos i.machines) limits.late) (*ℤ-mono i.machines at_most_bound)

  pub meets : CanMeet i limits.late
  meets = (s, is_feasible, late_enough)

  pub ends_by : (end : ℤ) → limits.end ≡ Some end → makespan s ≤ℤ end
  ends_by end e = makespan-least s end (≤ℤ_trans (not_before 0 h.some) (before 0)) (λ k d l. ≤ℤ_trans (in_time k d l) (before (get_or ps k d).job))
    where
      before : (j : ℕ) → last_moment i limits j ≤ℤ end
      before j = subst (λ x. capped x ((pos i.machines *ℤ (job_at i j).due) +ℤ limits.late) ≤ℤ end) (sym e) (omega (arith, ints, clamps))

  pub can_end : (end : ℤ) → limits.end ≡ Some end → CanEnd i limits.late end
  can_end end e = (s, is_feasible, late_enough, subst (λ x. (pos i.machines *ℤ makespan s) ≤ℤ x) (*ℤ_comm (pos i.machines) end) (*ℤ-mono i.machines (ends_by end e)))

  -- ---- bounds
  pub is_answer : LiesWithin greatest_bound limits.late → IsAnswer i s
  is_answer small = timed_answer i s latest_deadline (subst (λ k. pos i.machines ≤ℤ answer_unit k) (sym h.kind) (omega (arith, ints, h.machines)))
      (omega (arith, c.worked.few, many, h.few)) c.on_stairs.timed
      (λ k d l. omega (arith, c.worked.ends k d l, deadline-small i h limits small (get_or ps k d).job (job_inside k d l))) (omega (arith, ints))
