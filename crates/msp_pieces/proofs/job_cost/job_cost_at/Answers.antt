use Rattle.std.proofs.Common.{◌≡◌, ◌≤◌, ℕ, ◌+ℤ◌, ◌*ℤ◌, pos, All, ap, sum_by, refl, ◌∙◌, sym, subst, subst₂, arith, rules, ℤ, FitsSigned, to_z, of_z}
use Rattle.std.proofs.lemmas.Int.{ints, to_z-of_z}
use Rattle.std.specs.Int.{w64, w128}
use Rattle.msp_instance.specs.declared.Job.{Job}
use Rattle.msp_instance.specs.Conditions.{LiesWithin}
use Rattle.msp_pieces.specs.Within.{IsMoment, IsUnit, greatest_scaled, greatest_level, greatest_lateness, greatest_cost}
use Rattle.msp_pieces.specs.Cost.{job_cost}
use Rattle.msp_class.specs.declared.class.Crit.{Crit}
use Rattle.msp_class.specs.declared.class.Crit.TheVariants.{Lmax, Fmax, SumWC, SumU, SumWU, SumT, SumWT}
use Rattle.msp_pieces.proofs.job_cost.job_cost_at.Goals as goal

pub returns-in-Lmax-clause-size : goal.returns-in-Lmax-clause-size
returns-in-Lmax-clause-size c = let s = c.lateness_at.ensures.size in (omega (arith, ints), omega (arith, ints))

-- what a call asks and answers, at the numbers as they are passed
passed : (P : ℤ → Type 0) (x : ℤ) → FitsSigned w128 x → P x → P (to_z w128 (of_z w128 x))
passed P x f h = subst P (sym (to_z-of_z w128 x f)) h

pub lateness_at-requires-clause-moment : goal.lateness_at-requires-clause-moment
lateness_at-requires-clause-moment c = passed IsMoment c.args.end c.ranges.end c.requires.moment

pub curve_cost-requires-clause-moment : goal.curve_cost-requires-clause-moment
curve_cost-requires-clause-moment c = passed IsMoment c.args.end c.ranges.end c.requires.moment

pub late_at-requires-clause-moment : goal.late_at-requires-clause-moment
late_at-requires-clause-moment c = passed IsMoment c.args.end c.ranges.end c.requires.moment

pub late_at-requires-in-SumWU-clause-moment : goal.late_at-requires-in-SumWU-clause-moment
late_at-requires-in-SumWU-clause-moment c = passed IsMoment c.args.end c.ranges.end c.requires.moment

pub tardiness_at-requires-clause-moment : goal.tardiness_at-requires-clause-moment
tardiness_at-requires-clause-moment c = passed IsMoment c.args.end c.ranges.end c.requires.moment

pub tardiness_at-requires-in-SumWT-clause-moment : goal.tardiness_at-requires-in-SumWT-clause-moment
tardiness_at-requires-in-SumWT-clause-moment c = passed IsMoment c.args.end c.ranges.end c.requires.moment

pub late_at-requires-clause-unit : goal.late_at-requires-clause-unit
late_at-requires-clause-unit c = passed IsUnit c.args.unit c.ranges.unit c.requires.unit

pub late_at-requires-in-SumWU-clause-unit : goal.late_at-requires-in-SumWU-clause-unit
late_at-requires-in-SumWU-clause-unit c = passed IsUnit c.args.unit c.ranges.unit c.requires.unit

pub weighted-requires-in-SumWU-clause-small : goal.weighted-requires-in-SumWU-clause-small
weighted-requires-in-SumWU-clause-small c = passed (LiesWithin greatest_lateness) c.late_at-in-SumWU.result (search rules) c.late_at-in-SumWU.ensures.size

pub weighted-requires-in-SumWT-clause-small : goal.weighted-requires-in-SumWT-clause-small
weighted-requires-in-SumWT-clause-small c = passed (LiesWithin greatest_lateness) c.tardiness_at-in-SumWT.result (search rules) c.tardiness_at-in-SumWT.ensures.size

pub returns-in-Fmax-clause-size : goal.returns-in-Fmax-clause-size
returns-in-Fmax-clause-size c = passed (LiesWithin greatest_cost) c.curve_cost.result (search rules) c.curve_cost.ensures.size

pub returns-in-SumWC-clause-size : goal.returns-in-SumWC-clause-size
returns-in-SumWC-clause-size c = passed (LiesWithin greatest_cost) c.weighted.result (search rules) c.weighted.ensures.size

pub returns-in-SumWU-clause-size : goal.returns-in-SumWU-clause-size
returns-in-SumWU-clause-size c = passed (LiesWithin greatest_cost) c.weighted-in-SumWU.result (search rules) c.weighted-in-SumWU.ensures.size

pub returns-in-SumWT-clause-size : goal.returns-in-SumWT-clause-size
returns-in-SumWT-clause-size c = passed (LiesWithin greatest_cost) c.weighted-in-SumWT.result (search rules) c.weighted-in-SumWT.ensures.size

-- the product of the unit and the due date is small, at the numbers as they are passed
due_small : (unit due : ℤ) → FitsSigned w128 unit → FitsSigned w64 due
    → LiesWithin greatest_scaled (unit *ℤ due) → LiesWithin greatest_scaled (to_z w128 (of_z w128 unit) *ℤ to_z w64 (of_z w64 due))
due_small unit due u d h = subst₂ (λ x y. LiesWithin greatest_scaled (x *ℤ y)) (sym (to_z-of_z w128 unit u)) (sym (to_z-of_z w64 due d)) h

pub lateness_at-requires-clause-small : goal.lateness_at-requires-clause-small
lateness_at-requires-clause-small c = due_small c.args.unit c.args.job.now.due c.ranges.unit (search rules) c.requires.small.due

pub late_at-requires-clause-small : goal.late_at-requires-clause-small
late_at-requires-clause-small c = due_small c.args.unit c.args.job.now.due c.ranges.unit (search rules) c.requires.small.due

pub late_at-requires-in-SumWU-clause-small : goal.late_at-requires-in-SumWU-clause-small
late_at-requires-in-SumWU-clause-small c = due_small c.args.unit c.args.job.now.due c.ranges.unit (search rules) c.requires.small.due

pub tardiness_at-requires-clause-small : goal.tardiness_at-requires-clause-small
tardiness_at-requires-clause-small c = due_small c.args.unit c.args.job.now.due c.ranges.unit (search rules) c.requires.small.due

pub tardiness_at-requires-in-SumWT-clause-small : goal.tardiness_at-requires-in-SumWT-clause-small
tardiness_at-requires-in-SumWT-clause-small c = due_small c.args.unit c.args.job.now.due c.ranges.unit (search rules) c.requires.small.due

pub curve_cost-requires-clause-small : goal.curve_cost-requires-clause-small
curve_cost-requires-clause-small c =
    subst (λ u. All (λ s. LiesWithin greatest_scaled (u *ℤ pos s.above)) c.args.job.now.curve.steps) (sym (to_z-of_z w128 c.args.unit c.ranges.unit)) c.requires.small.steps

pub curve_cost-requires-clause-base : goal.curve_cost-requires-clause-base
curve_cost-requires-clause-base c =
    let curve = c.args.job.now.curve in
    subst (λ u. (adds : ℕ) → adds ≤ sum_by (λ s. s.add) curve.steps → LiesWithin greatest_level (u *ℤ (curve.base +ℤ pos adds)))
    (sym (to_z-of_z w128 c.args.unit c.ranges.unit)) c.requires.small.base

-- a cost at the numbers as they are passed is the job's cost
abbrev dated : Job → ℤ → Job
dated j d = record { release = j.release; due = d; weight = j.weight; needs = j.needs; curve = j.curve }

same_cost : {crit : Crit} (k : Crit) {unit u d end e r s : ℤ} (j : Job) → crit ≡ k → u ≡ unit → d ≡ j.due → e ≡ end → s ≡ r
    → r ≡ job_cost k u (dated j d) e → s ≡ job_cost crit unit j end
same_cost k {unit} {u} {d} {end} {e} j ck eu ed ee es h =
    es ∙ h ∙ ap (λ x. job_cost k x (dated j d) e) eu ∙ ap (λ x. job_cost k unit (dated j x) e) ed
    ∙ ap (λ x. job_cost k unit j x) ee ∙ ap (λ x. job_cost x unit j end) (sym ck)

pub returns-in-Lmax-clause-value : goal.returns-in-Lmax-clause-value
returns-in-Lmax-clause-value c =
    same_cost Lmax c.args.job.now c.in-Lmax.is (to_z-of_z w128 c.args.unit c.ranges.unit) (to_z-of_z w64 c.args.job.now.due (search rules))
    (to_z-of_z w128 c.args.end c.ranges.end) (to_z-of_z w128 c.lateness_at.result (search rules)) c.lateness_at.ensures.value

pub returns-in-Fmax-clause-value : goal.returns-in-Fmax-clause-value
returns-in-Fmax-clause-value c =
    same_cost Fmax c.args.job.now c.in-Fmax.is (to_z-of_z w128 c.args.unit c.ranges.unit) refl
    (to_z-of_z w128 c.args.end c.ranges.end) (to_z-of_z w128 c.curve_cost.result (search rules)) c.curve_cost.ensures.value

pub returns-in-SumWC-clause-value : goal.returns-in-SumWC-clause-value
returns-in-SumWC-clause-value c =
    same_cost SumWC c.args.job.now c.in-SumWC.is (to_z-of_z w128 c.args.unit c.ranges.unit) refl
    (to_z-of_z w128 c.args.end c.ranges.end) (to_z-of_z w128 c.weighted.result (search rules)) c.weighted.ensures.value

pub returns-in-SumU-clause-value : goal.returns-in-SumU-clause-value
returns-in-SumU-clause-value c =
    same_cost SumU c.args.job.now c.in-SumU.is (to_z-of_z w128 c.args.unit c.ranges.unit) (to_z-of_z w64 c.args.job.now.due (search rules))
    (to_z-of_z w128 c.args.end c.ranges.end) (to_z-of_z w128 c.late_at.result (search rules)) c.late_at.ensures.value

pub returns-in-SumWU-clause-value : goal.returns-in-SumWU-clause-value
returns-in-SumWU-clause-value c =
    same_cost SumWU c.args.job.now c.in-SumWU.is (to_z-of_z w128 c.args.unit c.ranges.unit) (to_z-of_z w64 c.args.job.now.due (search rules))
    (to_z-of_z w128 c.args.end c.ranges.end) (to_z-of_z w128 c.weighted-in-SumWU.result (search rules)) (c.weighted-in-SumWU.ensures.value
    ∙ ap (λ x. pos c.args.job.now.weight *ℤ x) (to_z-of_z w128 c.late_at-in-SumWU.result (search rules) ∙ c.late_at-in-SumWU.ensures.value))

pub returns-in-SumWT-clause-value : goal.returns-in-SumWT-clause-value
returns-in-SumWT-clause-value c =
    same_cost SumWT c.args.job.now c.in-SumWT.is (to_z-of_z w128 c.args.unit c.ranges.unit) (to_z-of_z w64 c.args.job.now.due (search rules))
    (to_z-of_z w128 c.args.end c.ranges.end) (to_z-of_z w128 c.weighted-in-SumWT.result (search rules)) (c.weighted-in-SumWT.ensures.value
    ∙ ap (λ x. pos c.args.job.now.weight *ℤ x) (to_z-of_z w128 c.tardiness_at-in-SumWT.result (search rules) ∙ c.tardiness_at-in-SumWT.ensures.value))

pub returns-in-SumT-clause-value : goal.returns-in-SumT-clause-value
returns-in-SumT-clause-value c =
    same_cost SumT c.args.job.now c.in-SumT.is (to_z-of_z w128 c.args.unit c.ranges.unit) (to_z-of_z w64 c.args.job.now.due (search rules))
    (to_z-of_z w128 c.args.end c.ranges.end) (to_z-of_z w128 c.tardiness_at.result (search rules)) c.tardiness_at.ensures.value
