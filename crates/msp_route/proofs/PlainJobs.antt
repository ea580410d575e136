-- What an instance of a class on one machine has, where release dates are 0 and times are arbitrary.
use Rattle.std.proofs.Common.{◌≡◌, ℕ, ◌<◌, ◌≤◌, false, [], length, get_or, All, ap, subst, arith, slice_index_or}
use Rattle.msp_class.specs.declared.sizes.TheConstants.{MOST_JOBS, GREATEST}
use Rattle.msp_class.specs.declared.class.Class.{Class}
use Rattle.msp_class.specs.declared.class.Crit.{Crit}
use Rattle.msp_class.specs.declared.class.Env.TheVariants.{One}
use Rattle.msp_class.specs.declared.class.Order.TheVariants.{Free}
use Rattle.msp_class.specs.declared.class.Times.TheVariants.{General}
use Rattle.msp_class.specs.Env.{kind_of}
use Rattle.msp_instance.specs.declared.Instance.{Instance}
use Rattle.msp_instance.specs.Instance.{no_need, no_job}
use Rattle.msp_instance.specs.Conditions.{HasArcs, HasRelease, Inner, inner_limits}
use Rattle.msp_pieces.proofs.feasible.OneMachine.{IsOneMachine}
use Rattle.msp_pieces.specs.BackToBack.{time_at}
use Rattle.msp_route.proofs.OneInstances.{IsOneInstance-from}

pub record IsPlain (i : Instance) : Type 0 where
  pub machine : IsOneMachine i
  pub some : 1 ≤ length i.jobs
  pub few : length i.jobs ≤ MOST_JOBS
  pub needs : All (λ j. (length j.needs ≡ 1) × (1 ≤ (get_or j.needs 0 no_need).time) × ((get_or j.needs 0 no_need).time ≤ GREATEST)) i.jobs
  pub release : All (λ j. j.release ≡ 0) i.jobs

pub IsPlain-from : (i : Instance) → i.class.env ≡ One → i.class.times ≡ General → i.class.heads ≡ false → Inner i → IsPlain i
IsPlain-from i env times heads h =
    let o = IsOneInstance-from i env h in
    record {
      machine = o.machine;
      some = o.some;
      few = o.few;
      needs = o.needs;
      release = λ k d l. subst (λ b. HasRelease (inner_limits (kind_of i.class.env)) b (get_or i.jobs k d).release) heads (h.conditions.jobs k d l).release;
    }

-- no arcs besides
pub record IsPlainFree (i : Instance) (crit : Crit) : Type 0 where
  pub crit_is : i.class.crit ≡ crit
  pub plain : IsPlain i
  pub arcs : i.arcs ≡ []

pub IsPlainFree-from : (i : Instance) (crit : Crit) → i.class ≡ record { env = One; cut = false; order = Free; heads = false; times = General; crit = crit } → Inner i → IsPlainFree i crit
IsPlainFree-from i crit e h = record {
  crit_is = ap (λ (c : Class). c.crit) e;
  plain = IsPlain-from i (ap (λ (c : Class). c.env) e) (ap (λ (c : Class). c.times) e) (ap (λ (c : Class). c.heads) e) h;
  arcs = subst (λ o. HasArcs o i.arcs) (ap (λ (c : Class). c.order) e) h.conditions.arcs;
}

-- the time of each job's one operation
module _ (i : Instance) (h : IsPlain i) where
  pub takes_time : (j : ℕ) → j < length i.jobs → 0 < time_at i j
  takes_time j l = omega (arith, (h.needs j no_job l).1)

  pub is_short : (j : ℕ) → j < length i.jobs → time_at i j ≤ GREATEST
  is_short j l = (h.needs j no_job l).2

  -- as the code asks for it
  pub fair_needs : All (λ j. (0 < length j.needs) × (0 < (slice_index_or j.needs 0 no_need).time)) i.jobs
  fair_needs k d l = (omega (arith, (h.needs k d l).0), omega (arith, (h.needs k d l).1))

  pub short_needs : All (λ j. (0 < length j.needs) × ((slice_index_or j.needs 0 no_need).time ≤ GREATEST)) i.jobs
  short_needs k d l = (omega (arith, (h.needs k d l).0), (h.needs k d l).2)
