-- What times and speeds of an instance of the class are.
use Rattle.std.proofs.Common.{◌≡◌, ℕ, ◌*◌, ◌-◌, ◌^◌, ◌≤◌, List, length, get_or, All, Result, Ok, Err, IfOk, sym, ap, subst, ◌∙◌, arith}
use Rattle.std.specs.Int.{◌∣◌}
use Rattle.std.proofs.Math.Nat.{le_trans, mul-le-mul, mul-le-mul_right}
use Rattle.std.proofs.lemmas.List.{length-map}
use Rattle.std.proofs.lemmas.List.Elements.{All-map}
use Rattle.msp_class.specs.declared.sizes.TheConstants.{MOST_JOBS, MOST_MACHINES, GREATEST, GREATEST_SPEED}
use Rattle.msp_instance.specs.declared.Instance.{Instance}
use Rattle.msp_instance.specs.Instance.{no_need}
use Rattle.msp_instance.specs.Conditions.{HasSmallMultiple, Inner}
use Rattle.msp_instance.specs.Multiples.{IsLeastOfAll}
use Rattle.msp_pieces.proofs.feasible.OfClass.{IsOfClass, IsOfClass-from}
use Rattle.msp_uniform.specs.declared.unit.TheConstants.{GREATEST_PRODUCT}
use Rattle.msp_uniform.specs.declared.segments.Segment.{Segment}
use Rattle.msp_uniform.specs.declared.task.Task.{Task}
use Rattle.msp_uniform.specs.Uniform.{cut_class, gap, sum, IsByFalling, HasSmallUnit}
use Rattle.msp_uniform.specs.Quotients.{IsGreatest}
use Rattle.msp_uniform.specs.Segments.{at}
use Rattle.msp_uniform.specs.Plans.{IsTask, IsAsked, IsFilled}
use Rattle.msp_uniform.specs.Answers.{AreTimes, IsTaskOf, IsLaidOut}
use Rattle.msp_uniform.proofs.UnitFacts.{multiple_least}
use Rattle.msp_uniform.proofs.FirstFacts.{speed_most}

pub speeds_are : (i : Instance) → i.class ≡ cut_class → Inner i → length i.speeds ≡ i.machines
speeds_are i class inner = (IsOfClass-from i cut_class class inner).speeds.0

pub record IsData (ts sp : List ℕ) : Type 0 where
  pub few_jobs : length ts ≤ MOST_JOBS
  pub few_machines : length sp ≤ MOST_MACHINES
  pub some_machines : 1 ≤ length sp
  pub times : All (λ p. (1 ≤ p) × (p ≤ GREATEST)) ts
  pub speeds : All (λ s. (1 ≤ s) × (s ≤ GREATEST_SPEED)) sp
  pub multiple : HasSmallMultiple sp

module _ (i : Instance) (class : i.class ≡ cut_class) (inner : Inner i) (ts sp : List ℕ) (a : AreTimes i ts) (b : sp ≡ i.speeds) where
  h : IsOfClass i cut_class
  h = IsOfClass-from i cut_class class inner

  many_times : length ts ≡ length i.jobs
  many_times = ap length a ∙ length-map i.jobs (λ j. (get_or j.needs 0 no_need).time)

  pub many_speeds : length sp ≡ i.machines
  many_speeds = ap length b ∙ h.speeds.0

  pub data_of : IsData ts sp
  data_of = record {
    few_jobs = omega (arith, many_times, h.few);
    few_machines = omega (arith, many_speeds, h.machines);
    some_machines = omega (arith, many_speeds, h.machine);
    times = subst (All (λ p. (1 ≤ p) × (p ≤ GREATEST))) (sym a)
        (All-map (λ p. (1 ≤ p) × (p ≤ GREATEST)) (λ j. (get_or j.needs 0 no_need).time) i.jobs (λ k d l. let n = (h.jobs k d l).needs in n.times 0 no_need (omega (arith, n.shape.0))));
    speeds = subst (All (λ s. (1 ≤ s) × (s ≤ GREATEST_SPEED))) (sym b) h.speeds.1;
    multiple = subst HasSmallMultiple (sym b) h.multiple;
  }

  -- ---- the task
  module _ (jobs machines : List ℕ) (w v multiple : ℕ) (jobs_by : IsByFalling (length ts) (at ts) jobs) (machines_by : IsByFalling (length sp) (at sp) machines)
      (greatest : IsGreatest (at ts) (at sp) jobs machines w v) (least : IsLeastOfAll sp multiple) (fits : HasSmallUnit i) (t : Task)
      (times_is : t.times.items ≡ ts) (speeds_is : t.speeds.items ≡ sp) (work_is : t.work ≡ w) (speed_is : t.speed ≡ v) (multiple_is : t.multiple ≡ multiple) where
    IsTask-of : IsTask t
    IsTask-of = record {
      few_jobs = omega (arith, ap length times_is, data_of.few_jobs);
      few_machines = omega (arith, ap length speeds_is, data_of.few_machines);
      times = subst (All (λ p. (1 ≤ p) × (p ≤ GREATEST))) (sym times_is) data_of.times;
      speeds = subst (All (λ s. (1 ≤ s) × (s ≤ GREATEST_SPEED))) (sym speeds_is) data_of.speeds;
      common = subst (All (λ s. s ∣ t.multiple)) (sym speeds_is) (subst (λ m. All (λ s. s ∣ m) sp) (sym multiple_is) least.common);
    }

    small : v * gap sp ^ (length sp - 1) * multiple ≤ GREATEST_PRODUCT
    small = let (n, some, c, l) = fits in le_trans (mul-le-mul
        (mul-le-mul_right (gap sp ^ (length sp - 1)) (speed_most sp jobs machines (at ts) w v machines_by greatest))
        (multiple_least sp multiple least n some (subst (All (λ s. (times : ℕ) × (n ≡ times * s))) (sym b) c)))
        (subst (λ x. sum sp * gap sp ^ (x - 1) * n ≤ GREATEST_PRODUCT) (sym many_speeds) (subst (λ x. sum x * gap x ^ (i.machines - 1) * n ≤ GREATEST_PRODUCT) (sym b) l))

    IsAsked-of : IsAsked t jobs machines
    IsAsked-of = record {
      jobs_by = subst (λ x. IsByFalling (length x) (at x) jobs) (sym times_is) jobs_by;
      machines_by = subst (λ x. IsByFalling (length x) (at x) machines) (sym speeds_is) machines_by;
      greatest = subst (λ x. IsGreatest (at x) (at t.speeds.items) jobs machines t.work t.speed) (sym times_is) (subst (λ x. IsGreatest (at ts) (at x) jobs machines t.work t.speed)
          (sym speeds_is) (subst (λ x. IsGreatest (at ts) (at sp) jobs machines x t.speed) (sym work_is) (subst (λ x. IsGreatest (at ts) (at sp) jobs machines w x) (sym speed_is) greatest)));
      some_jobs = omega (arith, ap length times_is, many_times, h.some);
      some_machines = omega (arith, ap length speeds_is, data_of.some_machines);
      small_unit = subst (λ x. t.speed * gap x ^ (length x - 1) * t.multiple ≤ GREATEST_PRODUCT) (sym speeds_is)
          (subst (λ x. x * gap sp ^ (length sp - 1) * t.multiple ≤ GREATEST_PRODUCT) (sym speed_is) (subst (λ x. v * gap sp ^ (length sp - 1) * x ≤ GREATEST_PRODUCT) (sym multiple_is) small));
      some = subst (λ x. 1 ≤ x) (sym multiple_is) least.some;
    }

    pub IsTaskOf-made : IsTaskOf i t jobs machines
    IsTaskOf-made = record {
      task = IsTask-of;
      asked = IsAsked-of;
      times = times_is ∙ a;
      speeds = speeds_is ∙ b;
    }

-- where all is laid
pub laid_out : {V E : Type 0} (i : Instance) (t : Task) (jobs machines : List ℕ) → IsTaskOf i t jobs machines
    → (unit : V → ℕ) (segments : V → List Segment) (r : Result V E) → IfOk r (λ f. IsFilled t (unit f) (segments f)) → IfOk r (λ f. IsLaidOut i (unit f) (segments f))
laid_out i t jobs machines k unit segments (Ok f) l = (t, jobs, machines, k, l)
laid_out i t jobs machines k unit segments (Err e) l = tt
