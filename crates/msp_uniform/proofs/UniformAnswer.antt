-- The schedule of filled segments is best, within the bounds, and costs the greatest quotient.
use Rattle.std.proofs.Common.{◌+◌, ◌≡◌, ℕ, suc, ◌*◌, ◌<◌, ◌≤◌, inl, inr, List, length, take, get_or, ℤ, pos, ◌*ℤ◌, ◌≤ℤ◌, All, sum_by, IsPermutation, refl, sym, ap}
use Rattle.std.proofs.Common.{subst, subst₂, ◌∙◌, arith}
use Rattle.std.proofs.lemmas.Int.{ints}
use Rattle.std.proofs.Math.Nat.{one-le-mul, mul-le-mul_left, eq_of_mul-eq-mul_right}
use Rattle.std.proofs.lemmas.List.{get_or-map, length-map}
use Rattle.std.proofs.lemmas.List.Elements.{All-take}
use Rattle.std.proofs.lemmas.List.Sorted.{All-permutation, length_permutation}
use Rattle.msp_class.specs.declared.sizes.TheConstants.{MOST_JOBS, MOST_MACHINES, MOST_PIECES}
use native.Mathlib.Nat.{le_of_mul-le-mul_left}
use Rattle.msp_class.specs.Env.{kind_of}
use Rattle.msp_class.proofs.Sums.{sum_by-same}
use Rattle.msp_class.proofs.IntegerRing.{natural_some, pos-le, pos-same, pos-*ℤ-pos, *ℤ_comm, *ℤ-cancel}
use Rattle.msp_instance.specs.declared.Instance.{Instance}
use Rattle.msp_instance.specs.Instance.{no_job, no_need}
use Rattle.msp_instance.specs.Conditions.{Inner}
use Rattle.msp_pieces.specs.declared.Frac.{Frac}
use Rattle.msp_pieces.specs.declared.Schedule.{Schedule}
use Rattle.msp_pieces.specs.Piece.{finish}
use Rattle.msp_pieces.specs.Feasible.{Feasible}
use Rattle.msp_pieces.specs.Fraction.{IsOver}
use Rattle.msp_pieces.specs.Cost.{cost_of, Best}
use Rattle.msp_pieces.specs.BackToBack.{time_at}
use Rattle.msp_pieces.specs.Speeds.{speed_of, speed_by}
use Rattle.msp_route.specs.Bounds.{IsBestAnswer, answer_unit}
use Rattle.msp_route.proofs.Owed.{timed_answer}
use Rattle.msp_route.specs.declared.bounds.TheConstants.{GREATEST_ANSWER_MOMENT}
use Rattle.msp_pieces.proofs.costs.Charges.{cost-same_ends, SameCharges-from_jobs}
use Rattle.msp_pieces.proofs.lists.Permuted.{Feasible-permutation, last_end-permutation}
use Rattle.msp_pieces.proofs.feasible.OfClass.{IsOfClass, IsOfClass-from}
use Rattle.msp_uniform.specs.declared.unit.TheConstants.{GREATEST_PRODUCT}
use Rattle.msp_uniform.specs.declared.segments.Segment.{Segment}
use Rattle.msp_uniform.specs.declared.task.Task.{Task}
use Rattle.msp_uniform.specs.Uniform.{cut_class, IsByFalling, IsUniformCost, work, speed}
use Rattle.msp_uniform.specs.Segments.{at, job_rate, amount}
use Rattle.msp_uniform.specs.Runs.{IsSliceOf}
use Rattle.msp_uniform.specs.Plans.{IsFilled, greatest_work}
use Rattle.msp_uniform.specs.Answers.{IsTaskOf, IsCutPlan}
use Rattle.msp_uniform.proofs.SegmentPieces.{long, LieApart, runs_lie_apart, few_runs}
use Rattle.msp_uniform.proofs.LeastEnd.{law_of_least_end, order_within, order_length}
use Rattle.msp_uniform.proofs.UniformBest.{cut_schedule, cut_is_best, cut_costs}

-- what is said of the answer
pub record IsBestCut (i : Instance) (s : Schedule) : Type 0 where
  pub best : IsBestAnswer i s
  pub cost : (c : Frac) → IsOver c (cost_of i s) s.unit → IsUniformCost i c

-- an order by a key that is the same for all numbers below n
IsByFalling-same : (n : ℕ) (f g : ℕ → ℕ) (order : List ℕ) → ((j : ℕ) → j < n → f j ≡ g j) → IsByFalling n f order → IsByFalling n g order
IsByFalling-same n f g order e o = record {
  all = o.all;
  falls = λ a b d l k. subst₂ (λ x y. y ≤ x) (e _ (order_within n f order o a d (omega (arith, l, k)))) (e _ (order_within n f order o b d k)) (o.falls a b d l k);
}

-- a number over a unit that is natural is natural itself
over_natural : (x : ℤ) (unit e : ℕ) → 1 ≤ unit → x *ℤ pos unit ≡ pos e → (n : ℕ) × (x ≡ pos n) × (n * unit ≡ e)
over_natural x unit e some q =
    let n = natural_some x (*ℤ-cancel unit some (subst₂ (λ a b. a ≤ℤ b) (sym (pos-*ℤ-pos unit 0)) (sym (*ℤ_comm (pos unit) x ∙ q)) (pos-le (omega arith)))) in
    (n.0, n.1, pos-same (sym (pos-*ℤ-pos n.0 unit) ∙ ap (λ y. y *ℤ pos unit) (sym n.1) ∙ q))

module _ (i : Instance) (class : i.class ≡ cut_class)
    (inner : Inner i) (t : Task) (jobs machines : List ℕ) (k : IsTaskOf i t jobs machines) (unit : ℕ) (xs : List Segment) (f : IsFilled t unit xs) where
  pub h : IsOfClass i cut_class
  h = IsOfClass-from i cut_class class inner

  many_jobs : length t.times.items ≡ length i.jobs
  many_jobs = ap length k.times ∙ length-map i.jobs (λ j. (get_or j.needs 0 no_need).time)

  many_machines : length t.speeds.items ≡ i.machines
  many_machines = ap length k.speeds ∙ h.speeds.0

  time_is : (j : ℕ) → j < length i.jobs → at t.times.items j ≡ time_at i j
  time_is j l = ap (λ l. at l j) k.times ∙ get_or-map (λ j. (get_or j.needs 0 no_need).time) i.jobs j no_job 0 l

  speed_is : (m : ℕ) → at t.speeds.items m ≡ speed_of i m
  speed_is m = ap (λ l. at l m) k.speeds ∙ sym (ap (λ e. speed_by e i m) h.kind)

  by_time : IsByFalling (length i.jobs) (time_at i) jobs
  by_time = IsByFalling-same (length i.jobs) (at t.times.items) (time_at i) jobs time_is (subst (λ n. IsByFalling n (at t.times.items) jobs) many_jobs k.asked.jobs_by)

  by_speed : IsByFalling i.machines (speed_of i) machines
  by_speed = IsByFalling-same i.machines (at t.speeds.items) (speed_of i) machines (λ m l. speed_is m) (subst (λ n. IsByFalling n (at t.speeds.items) machines) many_machines k.asked.machines_by)

  all_in : All (λ j. j < length i.jobs) jobs
  all_in = order_within (length i.jobs) (time_at i) jobs by_time

  work_is : (js : List ℕ) → All (λ j. j < length i.jobs) js → sum_by (at t.times.items) js ≡ work i js
  work_is js l = sum_by-same (at t.times.items) (time_at i) js (λ a d b. time_is _ (l a d b))

  total_speed : (ms : List ℕ) → sum_by (at t.speeds.items) ms ≡ speed i ms
  total_speed ms = sum_by-same (at t.speeds.items) (speed_of i) ms (λ a d b. speed_is _)

  first_work : (q : ℕ) → sum_by (at t.times.items) (take q jobs) ≡ work i (take q jobs)
  first_work q = work_is (take q jobs) (All-take (λ j. j < length i.jobs) q jobs all_in)

  law : (s : Schedule) → Feasible i s → (pos t.work *ℤ s.unit) ≤ℤ (cost_of i s *ℤ pos t.speed)
  law s e = elim k.asked.greatest.reached [
    | inl (a, b) ↦ read _ _ _ _ a b (work_is jobs all_in) (total_speed machines) (law_of_least_end.total i class s e h.some jobs machines by_time by_speed)
    | inr (q, some, l, m, a, b) ↦ read _ _ _ _ a b (first_work q) (total_speed (take q machines)) (law_of_least_end.firsts i class s e h.some jobs machines by_time by_speed q
        (omega (arith, l, order_length i.machines (speed_of i) machines by_speed)) (omega (arith, m, order_length (length i.jobs) (time_at i) jobs by_time)))
  ]
    where
      read : (w v : ℕ) (ws vs : ℕ) → t.work ≡ w → t.speed ≡ v → w ≡ ws → v ≡ vs → (pos ws *ℤ s.unit) ≤ℤ (cost_of i s *ℤ pos vs) → (pos t.work *ℤ s.unit) ≤ℤ (cost_of i s *ℤ pos t.speed)
      read w v ws vs a b c d l = subst₂ (λ x y. (pos x *ℤ s.unit) ≤ℤ (cost_of i s *ℤ pos y)) (sym (a ∙ c)) (sym (b ∙ d)) l

  pub slices : All (λ x. IsSliceOf i.machines (length i.jobs) x.length x.body.value.jobs) xs
  slices = subst₂ (λ m n. All (λ x. IsSliceOf m n x.length x.body.value.jobs) xs) many_machines many_jobs f.slices

  pub whole : sum_by (λ x. x.length) xs ≡ f.end
  whole = sum_by-same (λ x. x.length) (λ x. x.length * 1) xs (λ a d b. omega arith) ∙ f.whole

  pub done : (j : ℕ) → j < length i.jobs → amount (job_rate i.machines (at i.speeds) j) xs ≡ unit * time_at i j
  done j l = subst₂ (λ m sp. amount (job_rate m (at sp) j) xs ≡ unit * time_at i j) many_machines k.speeds (f.done j (omega (arith, l, many_jobs)) ∙ ap (λ x. unit * x) (time_is j l))

  abbrev made : Schedule
  made = cut_schedule i h unit f.end xs f.within.some slices whole done

  best : Best i made
  best = cut_is_best i h unit f.end xs f.within.some slices whole done t.work t.speed k.asked.greatest.some f.within.least law

  costs : cost_of i made ≡ pos f.end
  costs = cut_costs i h unit f.end xs f.within.some slices whole done t.work t.speed k.asked.greatest.some f.within.least law

  short : f.end ≤ GREATEST_PRODUCT * greatest_work
  short = omega (arith, f.within.short, f.within.small)

  pieces_lie : LieApart i.machines (length i.jobs) i.machines (sum_by long xs) made.pieces
  pieces_lie = runs_lie_apart i.machines (length i.jobs) xs slices

  few : length made.pieces ≤ MOST_PIECES
  few =
      let more : suc (length xs) ≤ suc (2 * MOST_JOBS + MOST_MACHINES) = omega (arith, f.few) in
      omega (arith, few_runs i.machines (length i.jobs) xs slices i.machines (omega arith), mul-le-mul_left i.machines more, h.machines)

  ends : All (λ p. finish p ≤ f.end) made.pieces
  ends a d l = omega (arith, pieces_lie.lies a d l, whole)

  -- the cost is the greatest quotient
  module _ (c : Frac) (over : IsOver c (cost_of i made) made.unit) where
    value : c.num *ℤ pos unit ≡ pos f.end *ℤ c.den
    value = over ∙ ap (λ x. x *ℤ c.den) costs

    -- the quotient of a work and a speed
    compared : (n d w v : ℕ) → n * unit ≡ f.end * d → w * t.speed ≤ t.work * v → w * d ≤ n * v
    compared n d w v e l = le_of_mul-le-mul_left {k = unit * t.speed}
        (omega (arith, mul-le-mul_left (unit * d) l, ap (λ x. x * (t.speed * v)) e, ap (λ x. x * (d * v)) f.within.least))
        (one-le-mul f.within.some k.asked.greatest.some)

    -- numerator and denominator
    module _ (n d : ℕ) (num_is : c.num ≡ pos n) (den_is : c.den ≡ pos d) (e : n * unit ≡ f.end * d) where
      after : (w v : ℕ) → w * t.speed ≤ t.work * v → (pos w *ℤ c.den) ≤ℤ (c.num *ℤ pos v)
      after w v l = subst₂ (λ x y. (pos w *ℤ x) ≤ℤ (y *ℤ pos v)) (sym den_is) (sym num_is) (subst₂ (λ x y. x ≤ℤ y) (sym (pos-*ℤ-pos w d)) (sym (pos-*ℤ-pos n v)) (pos-le (compared n d w v e l)))

      exact : n * t.speed ≡ t.work * d
      exact = eq_of_mul-eq-mul_right unit f.within.some (n * t.speed) (t.work * d) (omega (arith, ap (λ x. x * t.speed) e, ap (λ x. x * d) f.within.least))

      over_quotient : (w v : ℕ) → t.work ≡ w → t.speed ≡ v → IsOver c (pos w) (pos v)
      over_quotient w v a b = subst₂ (λ x y. y *ℤ pos v ≡ pos w *ℤ x) (sym den_is) (sym num_is) (pos-*ℤ-pos n v ∙ ap pos (ap (λ x. n * x) (sym b) ∙ exact ∙ ap (λ x. x * d) a) ∙ sym (pos-*ℤ-pos w d))

      uniform_cost : IsUniformCost i c
      uniform_cost = record {
        jobs = jobs;
        machines = machines;
        by_time = by_time;
        by_speed = by_speed;
        total = after (work i jobs) (speed i machines) (subst₂ (λ w v. w * t.speed ≤ t.work * v) (work_is jobs all_in) (total_speed machines) k.asked.greatest.total);
        firsts = λ q l m. after (work i (take q jobs)) (speed i (take q machines)) (subst₂ (λ w v. w * t.speed ≤ t.work * v) (first_work q) (total_speed (take q machines))
            (k.asked.greatest.firsts q (omega (arith, l, order_length i.machines (speed_of i) machines by_speed)) (omega (arith, m, order_length (length i.jobs) (time_at i) jobs by_time))));
        reached = elim k.asked.greatest.reached [
          | inl (a, b) ↦ inl (over_quotient _ _ (a ∙ work_is jobs all_in) (b ∙ total_speed machines))
          | inr (q, some, l, m, a, b) ↦ inr (
            q,
            some,
            omega (arith, l, order_length i.machines (speed_of i) machines by_speed),
            omega (arith, m, order_length (length i.jobs) (time_at i) jobs by_time),
            over_quotient _ _ (a ∙ first_work q) (b ∙ total_speed (take q machines)),
          )
        ];
      }

    made_cost : IsUniformCost i c
    made_cost =
        let d = natural_some c.den (omega (arith, ints, c.positive)) in
        let n = over_natural c.num unit (f.end * d.0) f.within.some (value ∙ ap (λ x. pos f.end *ℤ x) d.1 ∙ pos-*ℤ-pos f.end d.0) in
        uniform_cost n.0 d.0 n.1 d.1 n.2

  pub made_best : IsBestCut i made
  made_best = record {
    best = record {
      best = best;
      answer = timed_answer i made f.end (subst (λ e. pos unit ≤ℤ answer_unit e) (sym h.kind) (omega (arith, ints, f.within.small))) few pieces_lie.timed ends (omega (arith, ints, short));
    };
    cost = made_cost;
  }

-- what is said of an answer holds of its pieces in any order
IsBestCut-permutation : (i : Instance) (s r : Schedule) → s.unit ≡ r.unit → IsPermutation s.pieces r.pieces → IsBestCut i s → IsBestCut i r
IsBestCut-permutation i s r units moved b =
    let feasible = b.best.best.feasible in
    let answer = b.best.answer in
    let costs : cost_of i s ≡ cost_of i r =
    cost-same_ends i i s r (SameCharges-from_jobs i i refl refl (λ k l. (refl, refl, refl))) units feasible.unit (λ k l. last_end-permutation s.pieces r.pieces moved k) in
    record {
      best = record {
        best = record {
          feasible = Feasible-permutation i s r units moved feasible;
          least = λ t f. subst₂ (λ x u. (x *ℤ t.unit) ≤ℤ (cost_of i t *ℤ u)) costs units (b.best.best.least t f);
        };
        answer = record {
          few = omega (arith, answer.few, length_permutation s.pieces r.pieces moved);
          unit = subst (λ u. u ≤ℤ answer_unit (kind_of i.class.env)) units answer.unit;
          ends = All-permutation (λ p. p.to ≤ℤ GREATEST_ANSWER_MOMENT) s.pieces r.pieces moved answer.ends;
        };
      };
      cost = λ c over. b.cost c (subst₂ (λ x u. IsOver c x u) (sym costs) (sym units) over);
    }

pub IsBestCut-from_plan : (i : Instance) → i.class ≡ cut_class → Inner i → (s : Schedule) → IsCutPlan i s → IsBestCut i s
IsBestCut-from_plan i class inner s (unit, xs, (t, jobs, machines, k, f), units, moved) =
    IsBestCut-permutation i (made i class inner t jobs machines k unit xs f) s (sym units) moved
    (made_best i class inner t jobs machines k unit xs f)
