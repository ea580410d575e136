-- What an instance of one of the two classes has.
use Rattle.std.proofs.Common.{◌≡◌, ℕ, ◌<◌, ◌≤◌, ◌⊎◌, inl, inr, false, length, All, ap, subst, arith, refl, ◌∙◌}
use Rattle.std.specs.Prelude.{MatchOption, ⊤}
use Rattle.msp_class.specs.declared.sizes.TheConstants.{MOST_JOBS, GREATEST_EQUAL_TIME}
use Rattle.msp_class.specs.declared.class.Crit.TheVariants.{Fmax}
use Rattle.msp_class.specs.declared.class.Times.TheVariants.{Equal}
use Rattle.msp_class.specs.declared.environments.EnvKind.TheVariants.{Unrelated}
use Rattle.msp_class.specs.Env.{kind_of, fixed_machines}
use Rattle.msp_class.specs.declared.class.Env.{Env}
use Rattle.msp_class.specs.declared.class.Order.{Order}
use Rattle.msp_instance.specs.declared.Instance.{Instance}
use Rattle.msp_instance.specs.Instance.{no_job, no_need, job_at, common_time}
use Rattle.msp_instance.specs.Conditions.{Inner, IsAcyclic, HasShape, HasTimes, least_time, leaving}
use Rattle.msp_pieces.proofs.feasible.OfClass.{IsOfClass-from, IsOfClass}
use Rattle.msp_slots.specs.Places.{TakeCommonTime}
use Rattle.msp_due.specs.Due.{tree_class, pair_class}

pub record HasOneTime (i : Instance) : Type 0 where
  pub kind : kind_of i.class.env ≡ Unrelated
  pub cut : i.class.cut ≡ false
  pub crit : i.class.crit ≡ Fmax
  pub some : 1 ≤ length i.jobs
  pub few : length i.jobs ≤ MOST_JOBS
  pub machine : 1 ≤ i.machines
  pub released : (j : ℕ) → j < length i.jobs → (job_at i j).release ≡ 0
  pub wide : (j : ℕ) → j < length i.jobs → length (job_at i j).needs ≡ i.machines
  pub times : TakeCommonTime i
  pub time : (1 ≤ common_time i) × (common_time i ≤ GREATEST_EQUAL_TIME)
  pub ends : All (λ a. (a.before < length i.jobs) × (a.after < length i.jobs)) i.arcs
  pub acyclic : IsAcyclic i
  pub inner : Inner i

one_time : (i : Instance) (e : Env) (o : Order) → kind_of e ≡ Unrelated → Inner i → IsOfClass i (record tree_class { env = e; order = o }) → HasOneTime i
one_time i e o kind h t = record {
  kind = t.kind ∙ kind;
  cut = t.cut;
  crit = t.crit;
  some = t.some;
  few = t.few;
  machine = t.machine;
  released = λ j b. (t.jobs j no_job b).release;
  wide = wide;
  times = λ j b. (t.jobs j no_job b).times;
  time = subst (λ k. HasTimes (least_time k Equal) GREATEST_EQUAL_TIME (job_at i 0).needs) kind
      (t.jobs 0 no_job (omega (arith, t.some))).needs.times 0 no_need (omega (arith, wide 0 (omega (arith, t.some)), t.machine));
  ends = t.ends;
  acyclic = h.acyclic;
  inner = h;
}
  where
    wide : (j : ℕ) → j < length i.jobs → length (job_at i j).needs ≡ i.machines
    wide j b = (subst (λ k. HasShape k e i.machines (job_at i j).needs) kind (t.jobs j no_job b).needs.shape).0

pub HasOneTime-from : (i : Instance) → (i.class ≡ tree_class) ⊎ (i.class ≡ pair_class) → Inner i → HasOneTime i
HasOneTime-from i (inl e) h = one_time i _ _ refl h (IsOfClass-from i tree_class e h)
HasOneTime-from i (inr e) h = one_time i _ _ refl h (IsOfClass-from i pair_class e h)

-- an intree, or two machines
pub tree_or_pair : (i : Instance) → (i.class ≡ tree_class) ⊎ (i.class ≡ pair_class) → Inner i → ((j : ℕ) → j < length i.jobs → leaving i.arcs j ≤ 1) ⊎ (i.machines ≡ 2)
tree_or_pair i (inl e) h = inl (λ j b. (IsOfClass-from i tree_class e h).degree j b)
tree_or_pair i (inr e) h = inr (subst (λ v. MatchOption (fixed_machines v) ⊤ (λ m. i.machines ≡ m)) (ap (λ c. c.env) e) h.conditions.machines.2)
