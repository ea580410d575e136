-- A solution in the form of a report can be written as a text.
use Rattle.std.proofs.Common.{◌≡◌, ℕ, ◌+◌, ◌*◌, ◌<◌, ◌≤◌, List, length, get_or, ℤ, pos, ◌*ℤ◌, unsigned_abs, sym, ap, ◌∙◌, subst, arith}
use Rattle.std.proofs.lemmas.Int.{ints, unsigned_abs-mul}
use Rattle.std.specs.Int.{IsGcd}
use Rattle.msp_class.specs.declared.class.Env.{Env}
use Rattle.msp_class.specs.declared.class.Env.TheVariants.{J2Short}
use Rattle.msp_class.specs.declared.environments.EnvKind.{EnvKind}
use Rattle.msp_class.specs.declared.environments.EnvKind.TheVariants as kind
use Rattle.msp_class.specs.declared.sizes.TheConstants.{MOST_MACHINES, MOST_OPERATIONS}
use Rattle.msp_class.specs.Env.{kind_of, most_operations}
use Rattle.msp_class.proofs.IntegerRing.{natural_some}
use Rattle.msp_instance.specs.declared.Instance.{Instance}
use Rattle.msp_instance.specs.Instance.{no_need, no_job, job_at}
use Rattle.msp_instance.specs.Conditions.{LiesWithin, HasShape, InClass}
use Rattle.msp_instance.proofs.Limits.{Inner-from_class}
use Rattle.msp_pieces.specs.declared.Frac.{Frac}
use Rattle.msp_pieces.specs.declared.Solution.{Solution}
use Rattle.msp_pieces.specs.Cost.{cost_of}
use Rattle.msp_pieces.specs.Feasible.{HasOperation, MayRun, HasPlace}
use Rattle.msp_pieces.specs.Fraction.{IsOver, IsLowest}
use Rattle.msp_pieces.specs.Within.{IsUnit, greatest_total}
use Rattle.msp_grammar.specs.ScheduleText.{IsStatedCost, IsStated}
use Rattle.msp_dispatch.specs.Dispatch.{IsReported}
use Rattle.msp_grammar.proofs.reading.FieldLaws.{within_size, size_within}
use Rattle.msp_cert.proofs.LeastForms.{least_form}
use Rattle.msp_top.proofs.CostBounds.{cost_of_small}

-- ---- the cost
stated_cost : (f : Frac) (c unit : ℤ) → IsOver f c unit → IsLowest f → IsUnit unit → LiesWithin greatest_total c → IsStatedCost f
stated_cost f c unit over low u small =
    let (n, unit_is) = natural_some unit (omega (arith, ints, u)) in
    let (d, den_is) = natural_some f.den (omega (arith, ints, f.positive)) in
    let e : f.num *ℤ pos n ≡ c *ℤ pos d = subst (λ y. f.num *ℤ pos n ≡ c *ℤ y) den_is (subst (λ y. f.num *ℤ y ≡ c *ℤ f.den) unit_is over) in
    let sizes : unsigned_abs f.num * n ≡ unsigned_abs c * d = sym (unsigned_abs-mul f.num (pos n)) ∙ ap unsigned_abs e ∙ unsigned_abs-mul c (pos d) in
    let prime : IsGcd (unsigned_abs f.num) d 1 = subst (λ y. IsGcd (unsigned_abs f.num) (unsigned_abs y) 1) den_is low in
    let (least, less) = least_form (unsigned_abs f.num + d) (unsigned_abs f.num) d (unsigned_abs c) n (omega arith)
    (omega (arith, ints, f.positive, den_is)) (omega (arith, ints, u, unit_is)) prime sizes in
    let bound = size_within greatest_total c small in
    record {
      num = within_size _ f.num (omega (arith, least, bound));
      den = (f.positive, omega (arith, ints, less, den_is, unit_is, u));
    }

-- ---- the pieces
few_operations : (e : Env) → most_operations e ≤ MOST_OPERATIONS
few_operations J2Short = omega arith
few_operations _ = omega arith

operation_small : (k : EnvKind) (e : Env) (i : Instance) (j o : ℕ) → i.machines ≤ MOST_MACHINES → HasShape k e i.machines (job_at i j).needs → HasOperation k i j o → o < MOST_OPERATIONS
operation_small kind.OpenShop e i j o few shape h = omega (arith, h.0, shape.0, few)
operation_small kind.FlowShop e i j o few shape h = omega (arith, h.0, shape.0, few)
operation_small kind.JobShop e i j o few shape h = omega (arith, h.0, shape.few, few_operations e)
operation_small _ e i j o few shape h = omega (arith, h)

machine_small : (k : EnvKind) (e : Env) (i : Instance) (j o m : ℕ)
    → i.machines ≤ MOST_MACHINES → HasShape k e i.machines (job_at i j).needs → HasOperation k i j o → MayRun k i j o m → m < MOST_MACHINES
machine_small kind.OpenShop e i j o m few shape h r = let same = shape.1 o h.0 in omega (arith, r, same, h.0, shape.0, few)
machine_small kind.FlowShop e i j o m few shape h r = let same = shape.1 o h.0 in omega (arith, r, same, h.0, shape.0, few)
machine_small kind.JobShop e i j o m few shape h r = let below = shape.machines o no_need h.0 in omega (arith, r, below, few)
machine_small _ e i j o m few shape h r = omega (arith, r, few)

pub stated : (names : List (List ℕ)) (i : Instance) (s : Solution) → InClass i → length names ≡ length i.jobs → IsReported i s → IsStated names s.schedule s.cost
stated names i s h named r = record {
  cost = stated_cost s.cost (cost_of i s.schedule) s.schedule.unit r.best.cost r.lowest r.within.unit (cost_of_small i s.schedule (Inner-from_class i h) r.within);
  unit = r.within.unit;
  few = r.within.few;
  pieces = λ k d l.
      let place : HasPlace i (get_or s.schedule.pieces k d) = r.best.best.feasible.place k d l in
      let shape = (h.conditions.jobs (get_or s.schedule.pieces k d).job no_job place.job).needs.shape in
      record {
        job = subst (λ n. (get_or s.schedule.pieces k d).job < n) (sym named) place.job;
        op = operation_small (kind_of i.class.env) i.class.env i _ _ h.conditions.machines.1 shape place.operation;
        machine = machine_small (kind_of i.class.env) i.class.env i _ _ _ h.conditions.machines.1 shape place.operation place.machine;
        from = (r.within.moments k d l).0;
        to = (r.within.moments k d l).1;
      };
}
