-- The instances of the classes of Johnson's and of Jackson's rule are shops of two machines in series.
use Rattle.std.proofs.Common.{◌≡◌, ◌≢◌, ℕ, ◌-◌, ◌<◌, ◌≤◌, ◌⊎◌, inl, inr, Bool, false, length, MatchOption, ap, subst, ◌∙◌, arith}
use Rattle.std.specs.Prelude.{⊤}
use Rattle.std.proofs.lemmas.Bool.{cases_lt}
use Rattle.std.proofs.Math.ListN.{get_or-eq_default}
use Rattle.msp_class.specs.declared.sizes.TheConstants.{GREATEST}
use Rattle.msp_class.specs.declared.class.Env.{Env}
use Rattle.msp_class.specs.declared.class.Env.TheVariants.{F2, J2Short}
use Rattle.msp_class.specs.declared.environments.EnvKind.TheVariants.{FlowShop, JobShop}
use Rattle.msp_class.specs.Env.{kind_of, fixed_machines}
use Rattle.msp_instance.specs.declared.Instance.{Instance}
use Rattle.msp_instance.specs.Instance.{no_need, no_job, job_at, need_at}
use Rattle.msp_instance.specs.Conditions.{HasTimes, Inner}
use Rattle.msp_pieces.proofs.feasible.OfClass.{IsOfClass, IsOfClass-from}
use Rattle.msp_shops.specs.Classes.{johnson_class, jackson_class}
use Rattle.msp_shops.specs.Groups.{HasTwoMachines, IsTwoMachineShop}

-- times in range, and 0 where there is no such need
short : (i : Instance) (j o least : ℕ) → HasTimes least GREATEST (job_at i j).needs → (need_at i j o).time ≤ GREATEST
short i j o least h = elim (cases_lt o (length (job_at i j).needs)) [
  | inl l ↦ (h o no_need l).1
  | inr l ↦ omega (arith, ap (λ n. n.time) (get_or-eq_default (job_at i j).needs no_need l))
]

-- the number of machines that an environment has
pub fixed_machines_of : (i : Instance) (e : Env) → i.class.env ≡ e → Inner i → MatchOption (fixed_machines e) ⊤ (λ m. i.machines ≡ m)
fixed_machines_of i e is h = subst (λ v. MatchOption (fixed_machines v) ⊤ (λ m. i.machines ≡ m)) is h.conditions.machines.2

-- a class of jobs on two machines but for what its jobs are
in_series : (i : Instance) (env : Env) (cut : Bool) → IsOfClass i (record johnson_class { env = env; cut = cut })
    → (kind_of i.class.env ≡ FlowShop) ⊎ (kind_of i.class.env ≡ JobShop) → ((j : ℕ) → j < length i.jobs → HasTwoMachines i j) → IsTwoMachineShop i
in_series i env cut c kind needs = record { kind = kind; crit = c.crit; arcs = c.arcs; some = c.some; few = c.few; release = λ k d l. (c.jobs k d l).release; needs = needs }

pub IsTwoMachineShop-from_johnson : (i : Instance) → Inner i → i.class ≡ johnson_class → IsTwoMachineShop i
IsTwoMachineShop-from_johnson i h e =
    let c = IsOfClass-from i johnson_class e h in
    in_series i F2 false c (inl c.kind) (λ j l.
    let needs = (c.jobs j no_job l).needs in
    let two : length (job_at i j).needs ≡ 2 = needs.shape.0 ∙ fixed_machines_of i F2 (ap (λ c. c.env) e) h in
    record {
      some = omega (arith, two);
      few = omega (arith, two);
      first = omega (arith, needs.shape.1 0 (omega (arith, two)));
      second = λ _. omega (arith, needs.shape.1 0 (omega (arith, two)), needs.shape.1 1 (omega (arith, two)));
      short_first = short i j 0 0 needs.times;
      short_second = short i j 1 0 needs.times;
    })

-- with preemption or without
pub IsTwoMachineShop-from_jackson : (i : Instance) (cut : Bool) → Inner i → i.class ≡ record jackson_class { cut = cut } → IsTwoMachineShop i
IsTwoMachineShop-from_jackson i cut h e =
    let c = IsOfClass-from i (record jackson_class { cut = cut }) e h in
    in_series i J2Short cut c (inr c.kind) (λ j l.
    let needs = (c.jobs j no_job l).needs in
    let route = needs.shape in
    let two : i.machines ≡ 2 = fixed_machines_of i J2Short (ap (λ c. c.env) e) h in
    record {
      some = route.some;
      few = route.few;
      first = omega (arith, two, route.machines 0 no_need (omega (arith, route.some)));
      second = λ n. turned (need_at i j 0).machine (need_at i j 1).machine (omega (arith, two, route.machines 0 no_need (omega (arith, n))))
          (omega (arith, two, route.machines 1 no_need (omega (arith, n)))) (route.moves 0 no_need (omega (arith, n)));
      short_first = short i j 0 1 needs.times;
      short_second = short i j 1 1 needs.times;
    })
  where
    turned : (a b : ℕ) → a < 2 → b < 2 → a ≢ b → b ≡ 1 - a
    turned a b l m n = omega arith
