-- The jobs back to back on one machine: the releases allow it, and a feasible such schedule is an answer, in the form of a report.
use Rattle.std.proofs.Common.{◌*◌, ◌≡◌, ℕ, ◌<◌, ◌≤◌, List, [], length, get_or, map, sum_by, pos, ◌*ℤ◌, ◌≤ℤ◌, All, Result, Ok, Err, inl, sym, ap, subst, ◌∙◌, arith}
use Rattle.std.specs.Prelude.{IfOk}
use Rattle.std.proofs.lemmas.Int.{ints}
use Rattle.std.proofs.lemmas.Nat.Gcd.{dvd_antisymm}
use Rattle.std.proofs.Math.Nat.{one-dvd}
use Rattle.msp_class.specs.declared.sizes.TheConstants.{MOST_JOBS, GREATEST}
use Rattle.msp_class.specs.declared.NoMemory.{NoMemory}
use Rattle.msp_class.specs.Env.{kind_of}
use Rattle.msp_class.proofs.Sums.{sum_by-mono, sum_by-constant, OnceBelow, length-OnceBelow}
use Rattle.msp_instance.specs.declared.Instance.{Instance}
use Rattle.msp_instance.specs.Instance.{job_at, no_job}
use Rattle.msp_pieces.specs.declared.Piece.{Piece}
use Rattle.msp_pieces.specs.declared.Solution.{Solution}
use Rattle.msp_pieces.specs.Piece.{job_of, IsTimed}
use Rattle.msp_pieces.specs.BackToBack.{back_to_back, piece, time_at, schedule_in_order}
use Rattle.msp_pieces.specs.Feasible.{Feasible}
use Rattle.msp_pieces.specs.Cost.{Best, IsBest, cost_of}
use Rattle.msp_pieces.specs.Fraction.{IsOver}
use Rattle.msp_pieces.specs.Settled.{IsSettled}
use Rattle.msp_pieces.proofs.lists.BackToBack.{back_to_back-All, back_to_back-to, back_to_back-in_order, back_to_back-jobs, length-back_to_back}
use Rattle.msp_pieces.proofs.feasible.OneMachine.{IsTimed-from_span}
use Rattle.msp_pieces.proofs.feasible.BackToBack.{piece_makes, ordered_without_arcs, back_to_back-timed, back_to_back_is_feasible}
use Rattle.msp_route.specs.BackToBack.{AreShortJobs}
use Rattle.msp_route.specs.Bounds.{IsAnswer}
use Rattle.msp_route.proofs.Owed.{unit_one, timed_answer}
use Rattle.msp_route.proofs.PlainJobs.{IsPlain, takes_time, short_needs}

module _ (i : Instance) (h : IsPlain i) (order : List ℕ) (once : OnceBelow (length i.jobs) order) where
  abbrev pieces : List Piece
  pieces = back_to_back piece (time_at i) 0 order

  pub timed : All IsTimed pieces
  timed = back_to_back-timed (time_at i) 0 order (λ k d l. takes_time i h (get_or order k d) (once.within k d l))

  pub released : All (λ p. (pos 1 *ℤ pos (job_at i p.job).release) ≤ℤ p.from) pieces
  released k d l =
      let free = h.release _ no_job (back_to_back-All piece (time_at i) piece_makes (λ j. j < length i.jobs) 0 order once.within k d l) in
      omega (arith, ints, (timed k d l).from, free)

  -- without arcs they may run in any order
  pub free_is_feasible : i.arcs ≡ [] → Feasible i (schedule_in_order i order)
  free_is_feasible arcs = back_to_back_is_feasible i order once (takes_time i h) h.machine released (ordered_without_arcs i.arcs pieces arcs)

  pub short_jobs : AreShortJobs i order
  short_jobs = record { few = omega (arith, length-OnceBelow once, h.few); jobs = once.within; needs = short_needs i h }

module _ (i : Instance) (order : List ℕ) (short : AreShortJobs i order) (f : Feasible i (schedule_in_order i order)) where
  abbrev row : List Piece
  row = back_to_back piece (time_at i) 0 order

  row_timed : All IsTimed row
  row_timed k d l = IsTimed-from_span (get_or row k d) (f.span k d l)

  row_ends : sum_by (time_at i) order ≤ MOST_JOBS * GREATEST
  row_ends =
      let each = sum_by-mono (time_at i) (λ _. GREATEST) order (λ k d l. (short.needs (get_or order k d) no_job (short.jobs k d l)).1) in
      omega (arith, each, sum_by-constant GREATEST order, short.few)

  pub row_is_answer : IsAnswer i (schedule_in_order i order)
  row_is_answer = timed_answer i (schedule_in_order i order) (MOST_JOBS * GREATEST) (unit_one (kind_of i.class.env)) (omega (arith, length-back_to_back piece (time_at i) 0 order, short.few))
      row_timed (λ k d l. omega (arith, back_to_back-to piece (time_at i) piece_makes 0 order k d l, row_ends)) (omega (arith, ints))

  -- pieces are reported in the order of the jobs, and unit and moments have no common divisor
  pub row_is_settled : IsSettled (schedule_in_order i order)
  row_is_settled = record {
    lowest = λ d divides _. dvd_antisymm divides (one-dvd d);
    order = λ a b d l m.
        let t = row_timed a d (omega (arith, l, m)) in
        inl (omega (arith, ints, t.from, t.lasts, (row_timed b d m).from, back_to_back-in_order piece (time_at i) piece_makes 0 order a b d l m));
  }

-- what a solver owes of the order of its rule
pub record IsBestRow (i : Instance) (order : List ℕ) : Type 0 where
  pub short : AreShortJobs i order
  pub best : Best i (schedule_in_order i order)

-- ---- what the call answers: the best schedule with its cost, and the jobs in their order
pub best_in_order : (i : Instance) (order : List ℕ) (result : Result Solution NoMemory) → Best i (schedule_in_order i order) → IfOk result (λ s. s.schedule ≡ schedule_in_order i order)
    → IfOk result (λ s. IsOver s.cost (cost_of i s.schedule) s.schedule.unit) → IfOk result (IsBest i)
best_in_order i order (Ok s) best is over = record { best = subst (Best i) (sym is) best; cost = over }
best_in_order i order (Err e) best is over = tt

pub jobs_in_order : (P : List ℕ → Type 0) (i : Instance) (order : List ℕ) (result : Result Solution NoMemory) → P order
    → IfOk result (λ s. s.schedule ≡ schedule_in_order i order) → IfOk result (λ s. P (map job_of s.schedule.pieces))
jobs_in_order P i order (Ok s) h is = subst P (sym (ap (λ x. map job_of x.pieces) is ∙ back_to_back-jobs piece (time_at i) piece_makes 0 order)) h
jobs_in_order P i order (Err e) h is = tt
