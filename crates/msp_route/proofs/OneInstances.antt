-- What an inner instance on one machine has.
use Rattle.std.proofs.Common.{◌≡◌, ℕ, ◌*◌, ◌<◌, ◌≤◌, Bool, true, false, length, get_or, All, subst, arith, lit≤, le_trans}
use Rattle.msp_class.specs.declared.sizes.TheConstants.{MOST_JOBS, GREATEST}
use Rattle.msp_class.specs.declared.class.Env.TheVariants.{One}
use Rattle.msp_class.specs.declared.environments.EnvKind.TheVariants.{Identical}
use Rattle.msp_class.specs.declared.class.Times.{Times}
use Rattle.msp_class.specs.declared.class.Times.TheVariants.{General}
use Rattle.msp_class.specs.Env.{kind_of}
use Rattle.msp_instance.specs.declared.Instance.{Instance}
use Rattle.msp_instance.specs.Instance.{job_at, no_need, no_job}
use Rattle.msp_instance.specs.Conditions.{HasShape, HasTimes, HasRelease, MeetsConditions, Inner, inner_limits, least_time, greatest_time}
use Rattle.msp_pieces.proofs.feasible.OneMachine.{IsOneMachine, IsOneMachine-from_env}
use Rattle.msp_pieces.specs.BackToBack.{time_at}

short_times : (t : Times) → greatest_time (inner_limits Identical) t ≤ GREATEST
short_times General = lit≤ tt
short_times _ = lit≤ tt

early_release : (b : Bool) (r : ℕ) → HasRelease (inner_limits Identical) b r → r ≤ 2 * GREATEST
early_release true r h = h
early_release false r h = omega (arith, h)

pub record IsOneInstance (i : Instance) : Type 0 where
  pub machine : IsOneMachine i
  pub some : 1 ≤ length i.jobs
  pub few : length i.jobs ≤ MOST_JOBS
  pub needs : All (λ j. (length j.needs ≡ 1) × (1 ≤ (get_or j.needs 0 no_need).time) × ((get_or j.needs 0 no_need).time ≤ GREATEST)) i.jobs
  pub release : All (λ j. j.release ≤ 2 * GREATEST) i.jobs
  pub inner : Inner i

pub IsOneInstance-from : (i : Instance) → i.class.env ≡ One → Inner i → IsOneInstance i
IsOneInstance-from i env h =
    let m : MeetsConditions (inner_limits (kind_of i.class.env)) i = h.conditions in
    record {
      machine = IsOneMachine-from_env _ i env m;
      some = m.some;
      few = m.few;
      needs = λ k d l.
          let n = (m.jobs k d l).needs in
          let shape = subst (λ v. HasShape (kind_of v) v i.machines (get_or i.jobs k d).needs) env n.shape in
          let in_range = subst (λ v. HasTimes (least_time (kind_of v) i.class.times) (greatest_time (inner_limits (kind_of v)) i.class.times) (get_or i.jobs k d).needs) env n.times in
          let at = in_range 0 no_need (omega (arith, shape.0)) in
          (shape.0, at.0, le_trans at.1 (short_times i.class.times));
      release = λ k d l. early_release i.class.heads
          (get_or i.jobs k d).release (subst (λ v. HasRelease (inner_limits (kind_of v)) i.class.heads (get_or i.jobs k d).release) env (m.jobs k d l).release);
      inner = h;
    }

module _ (i : Instance) (h : IsOneInstance i) where
  pub takes_time : (j : ℕ) → j < length i.jobs → 0 < time_at i j
  takes_time j l = omega (arith, (h.needs j no_job l).1)

  pub is_short : (j : ℕ) → j < length i.jobs → time_at i j ≤ GREATEST
  is_short j l = (h.needs j no_job l).2

  pub is_early : (j : ℕ) → j < length i.jobs → (job_at i j).release ≤ 2 * GREATEST
  is_early j l = h.release j no_job l

  -- as the code of Lawler's rule asks for it
  pub short_needs : All (λ j. (0 < length j.needs) × ((get_or j.needs 0 no_need).time ≤ GREATEST)) i.jobs
  short_needs k d l = (omega (arith, (h.needs k d l).0), (h.needs k d l).2)
