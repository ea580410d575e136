-- The pieces of all jobs as a schedule: it is feasible, keeps the rule and is best.
use Rattle.std.proofs.Common.{◌≡◌, ℕ, ◌+◌, ◌*◌, ◌-◌, ◌<◌, ◌≤◌, inl, inr, cond, eqb, List, length, get_or, pos, nat_abs, ◌*ℤ◌, ◌≤ℤ◌, All}
use Rattle.std.proofs.Common.{sym, ap, ◌∙◌, subst₂, arith}
use Rattle.std.specs.Prelude.{◌==◌}
use Rattle.std.proofs.Math.Nat.{one-dvd}
use Rattle.std.proofs.lemmas.Bool.{cases_lt, eq-eqb}
use Rattle.std.proofs.lemmas.Int.{ints}
use Rattle.std.proofs.lemmas.Nat.Gcd.{dvd_antisymm}
use Rattle.msp_class.specs.declared.sizes.TheConstants.{MOST_JOBS, GREATEST}
use Rattle.msp_class.specs.declared.class.Crit.TheVariants.{SumC}
use Rattle.msp_class.specs.Env.{kind_of}
use Rattle.msp_class.specs.Crit.{is_greatest}
use Rattle.msp_class.specs.Sums.{total_below}
use Rattle.msp_class.proofs.IntegerRing.{le-pos}
use Rattle.msp_class.proofs.Sums.{cond-mono, int_total_below-natural, sum_by-same, sum_by-filter, total_below-tight}
use Rattle.msp_instance.specs.declared.Instance.{Instance}
use Rattle.msp_instance.specs.Instance.{job_at}
use Rattle.msp_instance.specs.Conditions.{Inner}
use Rattle.msp_pieces.specs.declared.Piece.{Piece}
use Rattle.msp_pieces.specs.declared.Schedule.{Schedule}
use Rattle.msp_pieces.specs.Piece.{job_of, start, finish, IsTimed}
use Rattle.msp_pieces.specs.Feasible.{Feasible}
use Rattle.msp_pieces.specs.Cost.{cost_of, end_of, job_cost}
use Rattle.msp_pieces.specs.Settled.{IsSettled}
use Rattle.msp_pieces.proofs.costs.Charges.{charge_of, cost_of-sum}
use Rattle.msp_pieces.specs.Intervals.{size_of, work_of}
use Rattle.msp_pieces.proofs.lists.Intervals.{last_of, last_of-least}
use Rattle.msp_pieces.proofs.feasible.OneMachine.{IsPlan-from_feasible, last_end-is}
use Rattle.msp_pieces.proofs.feasible.BackToBack.{ordered_without_arcs}
use Rattle.msp_pieces.proofs.lists.Places.{sum_by-places}
use Rattle.msp_route.specs.Bounds.{IsBestAnswer}
use Rattle.msp_route.proofs.Owed.{unit_one, timed_answer, over_units}
use Rattle.msp_route.proofs.Laid.{cut_is_feasible}
use Rattle.msp_pieces.specs.BackToBack.{time_at}
use Rattle.msp_srpt.specs.Shortest.{shortest_class, run_before, KeepsRule, idle, IsShortestFirst}
use Rattle.msp_srpt.specs.Running.{IsCarriedOut, IsLaid}
use Rattle.msp_srpt.proofs.Laying.{run_of, run-settled, run-unborn}
use Rattle.msp_srpt.proofs.Lower.{ends_below}
use Rattle.msp_srpt.proofs.Arrivals.{brought-all}
use Rattle.msp_srpt.proofs.Instances.{IsShortestInstance, IsShortestInstance-from_class}
use Rattle.msp_route.proofs.OneInstances.{takes_time}

-- the sum of the ends, in ℕ
pub ends_cost : (i : Instance) (s : Schedule) → i.class.crit ≡ SumC → All IsTimed s.pieces → cost_of i s ≡ pos (total_below (length i.jobs) (last_of job_of finish s.pieces))
ends_cost i s e h =
    cost_of-sum i s (ap is_greatest e)
    ∙ int_total_below-natural (length i.jobs) (charge_of i s) (last_of job_of finish s.pieces) (λ j l. ap (λ c. job_cost c s.unit (job_at i j) (end_of s j)) e ∙ last_end-is s.pieces j h)

-- the pieces of a job that runs no more after v have ended by then
ended_by : (ps : List Piece) (t v j : ℕ) → v ≤ t → All IsTimed ps → All (λ p. finish p ≤ t) ps → run_before ps t j ≤ run_before ps v j → All (λ p. p.job ≡ j → finish p ≤ v) ps
ended_by ps t v j l timed early h k d m e =
    let f : ℕ → ℕ → ℕ = λ u a. run_of u j (get_or ps a d) in
    let same = total_below-tight (length ps) (f v) (f t) (λ a _. cond-mono ((get_or ps a d).job == j) (omega (arith, l)))
    (omega (arith, h, sum_by-places (run_of t j) ps d, sum_by-places (run_of v j) ps d)) k m in
    omega (arith, (timed k d m).lasts, early k d m, rw (eq-eqb (get_or ps k d).job j e) at same)

abbrev pub as_schedule : List Piece → Schedule
as_schedule ps = record { unit = pos 1; pieces = ps }

-- what is said of the answer's schedule
pub record IsShortestSchedule (i : Instance) (s : Schedule) : Type 0 where
  pub best : IsBestAnswer i s
  pub rule : IsShortestFirst i s.pieces
  pub settled : IsSettled s

module _ (i : Instance) (h : IsShortestInstance i) (t : ℕ) (ps : List Piece) (w : IsCarriedOut i t ps) where
  abbrev n : ℕ
  n = length i.jobs

  abbrev s : Schedule
  s = as_schedule ps

  laid : IsLaid i t ps
  laid = w.ended.laid

  done : (j : ℕ) → j < n → run_before ps t j ≡ time_at i j
  done j l = omega (arith, w.ended.share j, brought-all i w.order w.once j l)

  -- ---- feasible
  sizes : (j : ℕ) → work_of job_of start finish ps j ≡ run_before ps t j
  sizes j = sum_by-filter (size_of start finish) (λ p. eqb p.job j) ps
      ∙ sum_by-same (λ p. cond (eqb p.job j) (size_of start finish p) 0) (run_of t j) ps (λ k d l.
      let q = get_or ps k d in ap (λ x. cond (q.job == j) (x - start q) 0) (omega (arith, laid.early k d l)))

  is_feasible : Feasible i s
  is_feasible = cut_is_feasible i 1 ps h.one.machine.kind h.of.cut (record {
    some = omega arith;
    timed = laid.timed;
    jobs = λ k d l. (laid.place k d l).0;
    ops = λ k d l. (laid.place k d l).1;
    inside = λ k d l. let one = h.one.machine.one in omega (arith, (laid.place k d l).2, one);
    machines = λ a b d l m _. inl (laid.order a b d l m);
    apart = λ a b d l m _. inl (laid.order a b d l m);
    released = λ k d l. omega (arith, laid.released k d l);
    arcs = ordered_without_arcs i.arcs ps h.of.arcs;
  }) (λ j l. omega (arith, sizes j, done j l))

  -- ---- the rule
  keeps : (v : ℕ) → KeepsRule i (run_before ps v) (run_before ps (v + 1)) v
  keeps v = elim (cases_lt v t) [
    | inl g ↦ w.ended.kept v g
    | inr g ↦ idle (λ j q. absurd (omega (arith, run-settled ps t v j laid.early g, done j q.inside, q.left)))
        (λ j. run-settled ps t (v + 1) j laid.early (omega (arith, g)) ∙ sym (run-settled ps t v j laid.early g))
  ]

  is_shortest_first : IsShortestFirst i ps
  is_shortest_first = record {
    rule = keeps;
    whole = λ a b d l m e. let k = laid.timed a d (omega arith) in let g = laid.timed b d m in omega (arith, ints, k.to, g.from, laid.whole a b d l m e);
  }

  -- ---- best
  abbrev ends : ℕ → ℕ
  ends = last_of job_of finish ps

  complete : (v j : ℕ) → j < n → time_at i j - run_before ps v j ≡ 0 → ends j ≤ v
  complete v j l e = elim (cases_lt v t) [
    | inl g ↦ last_of-least job_of finish ps j v (ended_by ps t v j (omega (arith, g)) laid.timed laid.early (omega (arith, done j l, e)))
    | inr g ↦ last_of-least job_of finish ps j v (λ k d m _. omega (arith, laid.early k d m, g))
  ]

  beats : (c : Schedule) → Feasible i c → (cost_of i s *ℤ c.unit) ≤ℤ (cost_of i c *ℤ pos 1)
  beats c f =
      let plan = IsPlan-from_feasible i h.one.machine c f in
      let d = nat_abs c.unit in
      over_units _ _ c.unit _ _ d (ends_cost i s h.of.crit laid.timed) (ends_cost i c h.of.crit plan.timed) plan.unit
      (ends_below i (run_before ps) (takes_time i h.one) (λ v j m. run-unborn i v j ps laid.released m)
      keeps job_of start finish c.pieces d plan.some plan.jobs plan.apart
      (λ k e l. let r = (job_at i (get_or c.pieces k e).job).release in
      le-pos (subst₂ (λ u x. (u *ℤ pos r) ≤ℤ x) plan.unit (plan.timed k e l).from (f.release k e l))) plan.work ends complete)

  pub IsShortestSchedule-made : IsShortestSchedule i s
  IsShortestSchedule-made = record {
    best = record {
      best = record { feasible = is_feasible; least = beats };
      answer = timed_answer i s ((MOST_JOBS + 3) * GREATEST) (unit_one (kind_of i.class.env)) (omega (arith, w.few, h.one.few)) laid.timed
          (λ k d l. omega (arith, laid.early k d l, w.short)) (omega (arith, ints));
    };
    rule = is_shortest_first;
    settled = record {
      lowest = λ d divides _. dvd_antisymm divides (one-dvd d);
      order = λ a b d l m. let k = laid.timed a d (omega arith) in let g = laid.timed b d m in inl (omega (arith, ints, laid.order a b d l m, k.from, k.lasts, g.from));
    };
  }

-- as the code has it
pub IsShortestSchedule-read : (i : Instance) → i.class ≡ shortest_class → Inner i → (t : ℕ) (ps : List Piece) → IsCarriedOut i t ps → IsShortestSchedule i (as_schedule ps)
IsShortestSchedule-read i class inner t ps w = IsShortestSchedule-made i (IsShortestInstance-from_class i class inner) t ps w
