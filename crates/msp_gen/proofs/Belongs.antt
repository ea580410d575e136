-- The generated instance belongs to its class.
use Rattle.std.proofs.Common.{◌≡◌, ℕ, ◌<◌, ◌≤◌, Option, Some, None, length, get_or, All, refl, ap, ◌∙◌, arith}
use Rattle.std.specs.Prelude.{Contains, MatchOption, ⊤, slice_get, unwrap_or}
use Rattle.std.specs.List.{range_with_len}
use Rattle.std.proofs.lemmas.Option.{slice_get-get_or}
use Rattle.std.proofs.lemmas.List.FromFn.{get_or-range_with_len, length-range_with_len}
use Rattle.msp_class.specs.declared.class.Class.{Class}
use Rattle.msp_class.specs.declared.class.Env.{Env}
use Rattle.msp_class.specs.declared.class.Times.TheVariants.{Equal}
use Rattle.msp_class.specs.Env.{kind_of, fixed_machines}
use Rattle.msp_class.specs.declared.sizes.TheConstants.{MOST_MACHINES}
use Rattle.msp_instance.specs.declared.Instance.{Instance}
use Rattle.msp_instance.specs.Instance.{job_at, common_time, no_job}
use Rattle.msp_instance.specs.Conditions.{text_limits, least_time, HasMachines, IsJobOf, GoesForward, IsAcyclic, InClass}
use Rattle.msp_gen.specs.Generated.{machines_of, draw_speeds, draw_shared_time, arc_turns, generated}
use Rattle.msp_gen.specs.Faults.{IsCount}
use Rattle.msp_gen.proofs.Machines.{shop_machines, some_machines}
use Rattle.msp_gen.proofs.Numbers.{shared_time}
use Rattle.msp_gen.proofs.JobLists.{AreDrawnJobs, jobs_fit, times_within, same_times, shared_by_first, speeds_fit, multiple_fits}
use Rattle.msp_gen.proofs.ArcLists.{KeepsArcs, arcs_fit, arcs_apart, degree_fits, number_fits}

machines_fit : (i : Instance) → i.machines ≡ machines_of i.class.env → HasMachines i
machines_fit i e = by i.class.env e
  where
    fixed : (o : Option ℕ) → i.machines ≡ unwrap_or o 4 → MatchOption o ⊤ (λ m. i.machines ≡ m)
    fixed (Some m) e = e
    fixed None e = tt

    by : (v : Env) → i.machines ≡ machines_of v → (1 ≤ i.machines) × (i.machines ≤ MOST_MACHINES) × MatchOption (fixed_machines v) ⊤ (λ m. i.machines ≡ m)
    by v e = (omega (arith, e, (some_machines v).0), omega (arith, e, (some_machines v).1), fixed (fixed_machines v) e)

job_belongs : (i : Instance) (shared k : ℕ) → AreDrawnJobs i.class i.machines shared k i.jobs → 1 ≤ k → All (IsJobOf text_limits i) i.jobs
job_belongs i shared k h some j d l =
    let job = h.1 j d l in
    let first = h.1 0 no_job (omega (arith, h.0, some)) in
    let common : i.class.times ≡ Equal → common_time i ≡ shared =
    shared_by_first i.class.times shared (least_time (kind_of i.class.env) i.class.times) (job_at i 0).needs first.needs.some first.needs.times_met in
    record {
      needs = record { shape = job.needs.shape; times = times_within _ i.class.times shared _ job.needs.times_met; some = job.needs.some };
      times = same_times i.class.times shared (common_time i) _ _ common job.needs.times_met;
      release = job.release_met;
      due = job.due_met;
      weight = job.weight_met;
      curve = job.curve_met;
    }

-- the jobs in order of number
in_order : (i : Instance) → All (λ a. (a.before < a.after) × (a.after < length i.jobs)) i.arcs → IsAcyclic i
in_order i h = (range_with_len 0 n, record { whole = length-range_with_len 0 n; each = each }, forward)
  where
    n : ℕ
    n = length i.jobs

    at : (j d : ℕ) → j < n → get_or (range_with_len 0 n) j d ≡ j
    at j d l = get_or-range_with_len 0 n j d l ∙ omega arith

    inside : (j : ℕ) → j < n → j < length (range_with_len 0 n)
    inside j l = omega (arith, l, length-range_with_len 0 n)

    each : (j : ℕ) → j < n → Contains (range_with_len 0 n) j
    each j l = (j, inside j l, at j j l)

    found : (j : ℕ) → j < n → slice_get (range_with_len 0 n) j ≡ Some j
    found j l = slice_get-get_or (range_with_len 0 n) j 0 (inside j l) ∙ ap Some (at j 0 l)

    forward : All (GoesForward (range_with_len 0 n)) i.arcs
    forward k d l =
        let a = get_or i.arcs k d in
        let g = h k d l in
        (a.before, a.after, g.0, found a.before (omega (arith, g.0, g.1)), found a.after g.1)

pub belongs : (c : Class) (n seed : ℕ) → IsCount n → InClass (generated c n seed)
belongs c n seed (some, few) =
    record {
      conditions = record {
        some = omega (arith, some, jobs.0);
        few = omega (arith, few, jobs.0);
        machines = machines_fit i refl;
        speeds = speeds_fit (kind_of c.env) m seed;
        multiple = multiple_fits (kind_of c.env) m seed;
        jobs = job_belongs i shared n jobs some;
        arcs = number_fits c.order n i.arcs few arcs;
        ends = λ k d l. let g = arcs.forward k d l in (omega (arith, g.0, g.1, jobs.0), omega (arith, g.1, jobs.0));
        once = arcs_apart c.order n _ i.arcs arcs;
        degree = λ j l. degree_fits c.order n _ i.arcs arcs j;
      };
      acyclic = in_order i (λ k d l. let g = arcs.forward k d l in (g.0, omega (arith, g.1, jobs.0)));
    }
  where
    i : Instance
    i = generated c n seed

    m : ℕ
    m = machines_of c.env

    speeds_seed : ℕ
    speeds_seed = (draw_speeds (kind_of c.env) m seed).seed

    shared : ℕ
    shared = (draw_shared_time c.times speeds_seed).value

    jobs : AreDrawnJobs c m shared n i.jobs
    jobs = jobs_fit c m shared n _ (some_machines c.env).0 (shop_machines c.env m refl) (shared_time c.times speeds_seed)

    arcs : KeepsArcs c.order n (arc_turns c.order n) i.arcs
    arcs = arcs_fit c.order n _
