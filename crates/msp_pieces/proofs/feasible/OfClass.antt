-- What an inner instance of a class has: the conditions with the class written out, so that they can be read off.
use Rattle.std.proofs.Common.{◌≡◌, ℕ, ◌<◌, ◌≤◌, length, All, ap, subst}
use Rattle.msp_class.specs.declared.sizes.TheConstants.{MOST_JOBS, MOST_MACHINES}
use Rattle.msp_class.specs.declared.class.Class.{Class}
use Rattle.msp_class.specs.Env.{kind_of}
use Rattle.msp_instance.specs.declared.Instance.{Instance}
use Rattle.msp_instance.specs.Conditions.{HasArcs, HasDegree, HasSpeeds, HasSmallMultiple, IsJobOf, Inner, inner_limits}

pub record IsOfClass (i : Instance) (c : Class) : Type 0 where
  pub kind : kind_of i.class.env ≡ kind_of c.env
  pub cut : i.class.cut ≡ c.cut
  pub crit : i.class.crit ≡ c.crit
  pub some : 1 ≤ length i.jobs
  pub few : length i.jobs ≤ MOST_JOBS
  pub machine : 1 ≤ i.machines
  pub machines : i.machines ≤ MOST_MACHINES
  pub speeds : HasSpeeds (kind_of c.env) i.machines i.speeds
  pub multiple : HasSmallMultiple i.speeds
  pub jobs : All (IsJobOf (inner_limits (kind_of c.env)) (record i { class = c })) i.jobs
  pub arcs : HasArcs c.order i.arcs
  pub ends : All (λ a. (a.before < length i.jobs) × (a.after < length i.jobs)) i.arcs
  pub degree : (j : ℕ) → j < length i.jobs → HasDegree c.order i.arcs j

pub IsOfClass-from : (i : Instance) (c : Class) → i.class ≡ c → Inner i → IsOfClass i c
IsOfClass-from i c e h =
    let m = (subst (λ (c : Class). Inner (record i { class = c })) e h).conditions in
    record {
      kind = ap (λ c. kind_of c.env) e;
      cut = ap (λ c. c.cut) e;
      crit = ap (λ c. c.crit) e;
      some = m.some;
      few = m.few;
      machine = m.machines.0;
      machines = m.machines.1;
      speeds = m.speeds;
      multiple = m.multiple;
      jobs = m.jobs;
      arcs = m.arcs;
      ends = m.ends;
      degree = m.degree;
    }
