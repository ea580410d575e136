-- Laid jobs as a schedule on machines of any kind: it is feasible, what it costs, and its bounds.
use Rattle.std.proofs.Common.{◌≡◌, ℕ, ◌+◌, ◌*◌, ◌<◌, ◌≤◌, List, [], length, get_or, map, ℤ, pos, ◌*ℤ◌, ◌≤ℤ◌, All, Contains, refl, sym, ap, subst, ◌∙◌, arith}
use Rattle.std.proofs.lemmas.Int.{ints}
use Rattle.std.proofs.lemmas.List.{length-map}
use Rattle.std.proofs.lemmas.List.Elements.{All-nil, All-contains}
use Rattle.msp_class.specs.declared.sizes.TheConstants.{MOST_JOBS, GREATEST, GREATEST_MULTIPLE}
use Rattle.msp_class.specs.declared.class.Crit.TheVariants.{SumC}
use Rattle.msp_class.specs.Crit.{is_greatest}
use Rattle.msp_class.specs.Env.{kind_of}
use Rattle.msp_class.proofs.IntegerRing.{≤ℤ_trans, ≤ℤ_of_same, pos-le}
use Rattle.msp_class.specs.Sums.{total_below}
use Rattle.msp_class.proofs.Sums.{int_total_below-natural, OnceBelow, length-OnceBelow}
use Rattle.msp_instance.specs.declared.Arc.{Arc}
use Rattle.msp_instance.specs.declared.Instance.{Instance}
use Rattle.msp_instance.specs.Instance.{job_at}
use Rattle.msp_pieces.specs.declared.Schedule.{Schedule}
use Rattle.msp_pieces.specs.Piece.{IsBefore, job_of, finish, IsTimed}
use Rattle.msp_pieces.specs.Feasible.{Feasible, IsWholeWork}
use Rattle.msp_pieces.specs.Cost.{cost_of, end_of, job_cost}
use Rattle.msp_pieces.proofs.feasible.OneMachine.{apart_in_int, last_end-is}
use Rattle.msp_pieces.proofs.lists.Intervals.{last_of}
use Rattle.msp_pieces.proofs.changes.Moves.{Contains-map}
use Rattle.msp_pieces.proofs.costs.Charges.{cost_of-sum, charge_of}
use Rattle.msp_route.specs.Bounds.{IsAnswer, answer_unit}
use Rattle.msp_route.proofs.OneEach.{IsUncut, AreOneEach, one_each_is_feasible, one_each_is_answer}
use Rattle.msp_total.specs.declared.lay.Place.{Place}
use Rattle.msp_total.specs.Places.{laid}
use Rattle.msp_total.specs.Turns.{machine_at}
use Rattle.msp_total.specs.Multipliers.{seats}
use Rattle.msp_total.proofs.LaidJobs.{piece_before, laid-jobs, laid-All, piece_made, laid-apart, ends_of_jobs, sum_of_laid_ends, ends_soon, length_at}

-- the instance has machines that may run any job, whole and at any time
pub record IsPlain (i : Instance) : Type 0 where
  pub uncut : IsUncut i
  pub crit : i.class.crit ≡ SumC
  pub arcs : i.arcs ≡ []
  pub release : (j : ℕ) → j < length i.jobs → (job_at i j).release ≡ 0

-- the places are those of all jobs, each for its time
pub record AreFitting (i : Instance) (unit : ℕ) (places : List Place) : Type 0 where
  pub some : 1 ≤ unit
  pub few : unit ≤ GREATEST_MULTIPLE
  pub bounded : pos unit ≤ℤ answer_unit (kind_of i.class.env)
  pub jobs : OnceBelow (length i.jobs) (map (λ p. p.job) places)
  pub inside : All (λ p. p.machine < i.machines) places
  pub lasts : All (λ p. 0 < p.length) places
  pub short : All (λ p. p.length ≤ GREATEST * GREATEST_MULTIPLE) places
  pub work : (p : Place) (rest : List Place) → Contains places p → IsWholeWork (kind_of i.class.env) i (pos unit) (piece_before p rest)

abbrev pub schedule_of : ℕ → List Place → Schedule
schedule_of unit places = record { unit = pos unit; pieces = laid places }

module _ (i : Instance) (plain : IsPlain i) (unit : ℕ) (places : List Place) (fits : AreFitting i unit places) where
  abbrev n : ℕ
  n = length i.jobs

  abbrev s : Schedule
  s = schedule_of unit places

  count : length places ≡ n
  count = sym (length-map places (λ p. p.job)) ∙ length-OnceBelow fits.jobs

  timed : All IsTimed (laid places)
  timed = laid-All IsTimed places (λ p rest c l. (piece_made p rest (All-contains (λ q. 0 < q.length) places p fits.lasts c)).timed)

  ops : All (λ q. q.op ≡ 0) (laid places)
  ops = laid-All (λ q. q.op ≡ 0) places (λ p rest c l. refl)

  job_inside : All (λ q. q.job < n) (laid places)
  job_inside = laid-All (λ q. q.job < n) places (λ p rest c l. All-contains (λ j. j < n) (map (λ q. q.job) places) p.job fits.jobs.within (Contains-map (λ q. q.job) places p c))

  jobs : OnceBelow n (map (λ q. q.job) (laid places))
  jobs = subst (OnceBelow n) (sym (laid-jobs places)) fits.jobs

  no_arcs : All (λ a. All (λ p. All (λ r. p.job ≡ a.before → r.job ≡ a.after → IsBefore p r) (laid places)) (laid places)) i.arcs
  no_arcs = subst (λ arcs. All (λ a. All (λ p. All (λ r. p.job ≡ a.before → r.job ≡ a.after → IsBefore p r) (laid places)) (laid places)) arcs)
      (sym plain.arcs) (All-nil (λ (a : Arc). All (λ p. All (λ r. p.job ≡ a.before → r.job ≡ a.after → IsBefore p r) (laid places)) (laid places)))

  ends : All (λ q. finish q ≤ MOST_JOBS * (GREATEST * GREATEST_MULTIPLE)) (laid places)
  ends k d l = omega (arith, ends_soon (GREATEST * GREATEST_MULTIPLE) places fits.short k d l, count, plain.uncut.few)

  one_each : AreOneEach i unit (laid places)
  one_each = record {
    some = fits.some;
    jobs = jobs;
    ops = ops;
    inside = laid-All (λ q. q.machine < i.machines) places (λ p rest c l. All-contains (λ q. q.machine < i.machines) places p fits.inside c);
    span = λ k d l. let t = timed k d l in (omega (arith, ints, t.from), omega (arith, ints, t.from, t.to, t.lasts));
    apart = λ a b d l k e. apart_in_int _ _ (timed a d (omega arith)) (timed b d k) (laid-apart places fits.lasts a b d l k e);
    released = λ k d l. subst (λ r. (pos unit *ℤ pos r) ≤ℤ (get_or (laid places) k d).from)
        (sym (plain.release (get_or (laid places) k d).job (job_inside k d l))) (omega (arith, ints, (timed k d l).from));
    forward = no_arcs;
    whole = laid-All (IsWholeWork (kind_of i.class.env) i (pos unit)) places (λ p rest c l. fits.work p rest c);
    ends = λ k d l. omega (arith, ints, (timed k d l).to, ends k d l);
  }

  pub laid_is_feasible : Feasible i s
  laid_is_feasible = one_each_is_feasible i plain.uncut unit (laid places) one_each

  -- ---- the cost
  pub laid_costs : cost_of i s ≤ℤ pos (total_below (length places) (λ r. length_at places r * (seats (machine_at places) r (machine_at places r) + 1)))
  laid_costs =
      ≤ℤ_trans (≤ℤ_of_same (cost_of-sum i s (ap is_greatest plain.crit) ∙ int_total_below-natural n (charge_of i s)
      (last_of job_of finish (laid places)) (λ j l. ap (λ c. job_cost c s.unit (job_at i j) (end_of s j)) plain.crit ∙ last_end-is (laid places) j timed)))
      (subst (λ x. pos (total_below n (last_of job_of finish (laid places))) ≤ℤ pos x) (sum_of_laid_ends i.machines places fits.inside) (pos-le (ends_of_jobs n places fits.jobs)))

  -- ---- bounds
  pub laid_is_answer : IsAnswer i s
  laid_is_answer = one_each_is_answer i plain.uncut unit (laid places) one_each fits.bounded
