-- Segments one after another as a schedule on uniform machines: it is feasible, and best where its end is a least end.
use Rattle.std.proofs.Common.{◌≡◌, ℕ, ◌*◌, ◌<◌, ◌≤◌, cond, eqb, List, length, get_or, filter, map, ℤ, pos, nat_abs, ◌*ℤ◌, ◌≤ℤ◌, All, sum_by, sym, ap}
use Rattle.std.proofs.Common.{subst, subst₂, ◌∙◌, arith}
use Rattle.std.proofs.lemmas.Bool.{ne_eqb}
use Rattle.std.proofs.lemmas.Int.{ints}
use Rattle.std.proofs.Math.Nat.{mul-le-mul_left}
use Rattle.std.proofs.lemmas.List.Elements.{All-filter}
use native.Mathlib.Nat.{le_of_mul-le-mul_left}
use Rattle.msp_class.specs.declared.environments.EnvKind.TheVariants.{Uniform}
use Rattle.msp_class.proofs.Sums.{cond-scale, sum_by-filter, sum_by-agree}
use Rattle.msp_class.proofs.IntegerRing.{natural, pos-le, le-pos, pos-*ℤ-pos, ≤ℤ_antisym}
use Rattle.msp_instance.specs.declared.Instance.{Instance}
use Rattle.msp_instance.specs.Instance.{no_job}
use Rattle.msp_pieces.specs.declared.Piece.{Piece}
use Rattle.msp_pieces.specs.declared.Schedule.{Schedule}
use Rattle.msp_pieces.specs.Piece.{pieces_of, start, finish, IsTimed}
use Rattle.msp_pieces.specs.Intervals.{size_of}
use Rattle.msp_pieces.specs.Feasible.{Feasible, total, work_of as part_of}
use Rattle.msp_pieces.specs.Cost.{cost_of, Best}
use Rattle.msp_pieces.specs.BackToBack.{time_at}
use Rattle.msp_pieces.proofs.feasible.OfClass.{IsOfClass}
use Rattle.msp_pieces.proofs.feasible.OneMachine.{pieces_of-job}
use Rattle.msp_pieces.proofs.feasible.BackToBack.{ordered_without_arcs}
use Rattle.msp_pieces.proofs.bounds.SpeedBound.{size_share, total_shares}
use Rattle.msp_pieces.proofs.costs.Makespan.{cost_by_ends, cost_natural}
use Rattle.msp_route.proofs.Laid.{AreLaid, at_zero, HasOneOperation-uniform, gets_in_parts, laid_is_feasible}
use Rattle.msp_uniform.specs.declared.segments.Segment.{Segment}
use Rattle.msp_uniform.specs.Uniform.{cut_class}
use Rattle.msp_uniform.specs.Segments.{at, job_rate, amount}
use Rattle.msp_uniform.specs.Runs.{runs, IsSliceOf}
use Rattle.msp_uniform.proofs.SegmentPieces.{long, LieApart, runs_lie_apart, work_of_runs}

module _ (i : Instance) (h : IsOfClass i cut_class) (unit end : ℕ) (xs : List Segment) (some : 1 ≤ unit) (slices : All (λ x. IsSliceOf i.machines (length i.jobs) x.length x.body.value.jobs) xs)
    (whole : sum_by (λ x. x.length) xs ≡ end) (done : (j : ℕ) → j < length i.jobs → amount (job_rate i.machines (at i.speeds) j) xs ≡ unit * time_at i j) where
  abbrev ps : List Piece
  ps = runs (length i.jobs) xs i.machines

  abbrev pub cut_schedule : Schedule
  cut_schedule = record { unit = pos unit; pieces = ps }

  pieces_lie : LieApart i.machines (length i.jobs) i.machines (sum_by long xs) ps
  pieces_lie = runs_lie_apart i.machines (length i.jobs) xs slices

  laid : AreLaid i unit ps
  laid = record {
    some = some;
    timed = pieces_lie.timed;
    jobs = λ k d l. (pieces_lie.places k d l).0;
    ops = λ k d l. (pieces_lie.places k d l).2;
    inside = λ k d l. (pieces_lie.places k d l).1;
    machines = pieces_lie.on_machines;
    apart = pieces_lie.on_jobs;
    released = λ k d l. at_zero unit _ (start (get_or ps k d)) (h.jobs (get_or ps k d).job no_job (pieces_lie.places k d l).0).release;
    arcs = ordered_without_arcs i.arcs ps h.arcs;
  }

  module _ (j : ℕ) (small : j < length i.jobs) where
    abbrev value : ℕ → ℕ → ℕ
    value job machine = cond (eqb job j) (at i.speeds machine) 0

    abbrev rate : Piece → ℕ
    rate p = at i.speeds p.machine

    work_is : sum_by (size_share rate) (filter (λ p. eqb p.job j) ps) ≡ unit * time_at i j
    work_is =
        sum_by-filter (size_share rate) (λ p. eqb p.job j) ps
        ∙ sum_by-agree _ _ ps (λ p. cond-scale (eqb p.job j) (size_of start finish p) (rate p))
        ∙ work_of_runs i.machines (length i.jobs) xs slices value (λ k. ap (λ b. cond b (at i.speeds k) 0) (ne_eqb (length i.jobs) j (λ e. absurd (omega (arith, e, small)))))
        ∙ done j small

    adds_up : total (map (part_of Uniform i) (pieces_of cut_schedule j 0)) ≡ pos unit *ℤ pos (time_at i j)
    adds_up =
        ap (λ l. total (map (part_of Uniform i) l)) (pieces_of-job cut_schedule j (λ k d l. (pieces_lie.places k d l).2))
        ∙ total_shares rate _ (All-filter (λ p. eqb p.job j) IsTimed ps pieces_lie.timed)
        ∙ ap pos work_is ∙ sym (pos-*ℤ-pos unit (time_at i j))

  pub cut_is_feasible : Feasible i cut_schedule
  cut_is_feasible = laid_is_feasible i unit ps laid (HasOneOperation-uniform i h.kind) (λ j l. gets_in_parts Uniform i cut_schedule j h.kind h.cut (adds_up j l))

  upper : cost_of i cut_schedule ≤ℤ pos end
  upper = cost_by_ends i h.crit cut_schedule h.some (pos end) (omega (arith, ints)) (λ k d l. omega (arith, ints, (pieces_lie.timed k d l).to, pieces_lie.lies k d l, whole))

  -- where the end is the work of some jobs over the speed of some machines, and no schedule ends before that
  module _ (w v : ℕ) (fast : 1 ≤ v) (reached : end * v ≡ w * unit) (law : (t : Schedule) → Feasible i t → (pos w *ℤ t.unit) ≤ℤ (cost_of i t *ℤ pos v)) where
    lower : (t : Schedule) → Feasible i t → (pos end *ℤ t.unit) ≤ℤ (cost_of i t *ℤ pos unit)
    lower t f = by (cost_of i t) t.unit (nat_abs (cost_of i t)) (nat_abs t.unit) (cost_natural i h.crit t h.some) (natural t.unit (omega (arith, ints, f.unit))) (law t f)
      where
        by : (x u : ℤ) (c n : ℕ) → x ≡ pos c → u ≡ pos n → (pos w *ℤ u) ≤ℤ (x *ℤ pos v) → (pos end *ℤ u) ≤ℤ (x *ℤ pos unit)
        by x u c n e g l =
            let short = le-pos (subst₂ (λ y z. (pos w *ℤ y) ≤ℤ (z *ℤ pos v)) g e l) in
            subst₂ (λ y z. (pos end *ℤ y) ≤ℤ (z *ℤ pos unit)) (sym g) (sym e)
            (pos-le (le_of_mul-le-mul_left {k = v} (omega (arith, ap (λ k. k * n) reached, mul-le-mul_left unit short)) (omega (arith, fast))))

    pub cut_costs : cost_of i cut_schedule ≡ pos end
    cut_costs = ≤ℤ_antisym upper (by (cost_of i cut_schedule) (nat_abs (cost_of i cut_schedule)) (cost_natural i h.crit cut_schedule h.some) (lower cut_schedule cut_is_feasible))
      where
        by : (x : ℤ) (c : ℕ) → x ≡ pos c → (pos end *ℤ pos unit) ≤ℤ (x *ℤ pos unit) → pos end ≤ℤ x
        by x c e l = subst (λ y. pos end ≤ℤ y) (sym e)
            (pos-le (le_of_mul-le-mul_left {k = unit} (omega (arith, le-pos (subst (λ y. (pos end *ℤ pos unit) ≤ℤ (y *ℤ pos unit)) e l))) (omega (arith, some))))

    pub cut_is_best : Best i cut_schedule
    cut_is_best = record { feasible = cut_is_feasible; least = λ t f. subst (λ x. (x *ℤ t.unit) ≤ℤ (cost_of i t *ℤ pos unit)) (sym cut_costs) (lower t f) }
