-- What a job costs in stretched times.
use Rattle.std.proofs.Common.{◌≡◌, ℕ, ◌*◌, Bool, true, false, List, ℤ, pos, ◌+ℤ◌, ◌-ℤ◌, ◌*ℤ◌, if◌then◌else◌, refl, sym, ap, ◌∙◌, arith}
use Rattle.std.specs.Prelude.{int_lt}
use Rattle.std.specs.Int.{int_max}
use Rattle.msp_class.specs.declared.class.Crit.{Crit}
use Rattle.msp_class.specs.declared.class.Crit.TheVariants.{Lmax, Fmax, SumU, SumWU, SumT, SumWT}
use Rattle.msp_class.proofs.IntegerRing.{one-*ℤ, *ℤ-zero, *ℤ_assoc, *ℤ_comm, *ℤ_exchange, *ℤ-add}
use Rattle.msp_class.proofs.Sums.{sum_by-agree, sum_by-scale, sum_by-map}
use Rattle.msp_instance.specs.declared.Step.{Step}
use Rattle.msp_instance.specs.declared.Curve.{Curve}
use Rattle.msp_instance.specs.declared.Job.{Job}
use Rattle.msp_pieces.specs.Cost.{jump, jumps, late, lateness, job_cost}
use Rattle.msp_machines.specs.Unrelated.{stretched, stretched_curve, stretched_step}
use Rattle.msp_route.specs.Rates.{cost_factor}

-- over a unit, the charge of the stretched job is `n` times that of the job over `n` times the unit; but of lateness by number it is the same
module _ (n : ℕ) (speeds : List ℕ) (unit x : ℤ) where
  abbrev wide : ℤ
  wide = unit *ℤ pos n

  date : (d : ℤ) → unit *ℤ (pos n *ℤ d) ≡ wide *ℤ d
  date d = sym (*ℤ_assoc unit (pos n) d)

  jump-stretched : (s : Step) → jump unit (stretched_step n s) x ≡ n * jump wide s x
  jump-stretched s = ap (λ d. if int_lt d x then n * s.add else 0) (date (pos s.above)) ∙ by (int_lt (wide *ℤ pos s.above) x)
    where
      by : (b : Bool) → (if b then n * s.add else 0) ≡ n * (if b then s.add else 0)
      by true = refl
      by false = omega arith

  jumps-stretched : (c : Curve) → jumps unit (stretched_curve n c) x ≡ n * jumps wide c x
  jumps-stretched c = sum_by-map (λ s. jump unit s x) (stretched_step n) c.steps
      ∙ sum_by-agree (λ s. jump unit (stretched_step n s) x) (λ s. n * jump wide s x) c.steps jump-stretched ∙ sum_by-scale n (λ s. jump wide s x) c.steps

  level-stretched : (c : Curve) → unit *ℤ ((pos n *ℤ c.base) +ℤ pos (jumps unit (stretched_curve n c) x)) ≡ wide *ℤ (c.base +ℤ pos (jumps wide c x))
  level-stretched c = ap (λ m. unit *ℤ ((pos n *ℤ c.base) +ℤ pos m)) (jumps-stretched c)
      ∙ ap (λ z. unit *ℤ z) (sym (*ℤ-add (pos n) c.base (pos (jumps wide c x)))) ∙ date (c.base +ℤ pos (jumps wide c x))

  lateness-stretched : (a : Job) → lateness unit (stretched n speeds a) x ≡ lateness wide a x
  lateness-stretched a = ap (λ d. x -ℤ d) (date a.due)

  late-stretched : (a : Job) → pos n *ℤ late unit (stretched n speeds a) x ≡ late wide a x
  late-stretched a = ap (λ d. pos n *ℤ (if int_lt d x then unit else pos 0)) (date a.due) ∙ by (int_lt (wide *ℤ a.due) x)
    where
      by : (b : Bool) → pos n *ℤ (if b then unit else pos 0) ≡ (if b then wide else pos 0)
      by true = *ℤ_comm (pos n) unit
      by false = *ℤ-zero (pos n)

  pub job_cost-stretched : (crit : Crit) (a : Job) → pos (cost_factor crit n) *ℤ job_cost crit wide a x ≡ pos n *ℤ job_cost crit unit (stretched n speeds a) x
  job_cost-stretched Lmax a = ap (λ z. pos n *ℤ z) (sym (lateness-stretched a))
  job_cost-stretched Fmax a = ap (λ z. pos n *ℤ ((pos a.curve.slope *ℤ x) +ℤ z)) (sym (level-stretched a.curve))
  job_cost-stretched SumU a = one-*ℤ (late wide a x) ∙ sym (late-stretched a)
  job_cost-stretched SumWU a = one-*ℤ (pos a.weight *ℤ late wide a x) ∙ ap (λ z. pos a.weight *ℤ z) (sym (late-stretched a)) ∙ *ℤ_exchange (pos a.weight) (pos n) (late unit (stretched n speeds a) x)
  job_cost-stretched SumT a = ap (λ z. pos n *ℤ int_max (pos 0) z) (sym (lateness-stretched a))
  job_cost-stretched SumWT a = ap (λ z. pos n *ℤ (pos a.weight *ℤ int_max (pos 0) z)) (sym (lateness-stretched a))
  job_cost-stretched _ a = refl
