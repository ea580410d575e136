use Rattle.std.proofs.Common.{◌∙◌, length, refl, sym, subst, arith}
use Rattle.msp_uniform.specs.Uniform.{IsByFalling}
use Rattle.msp_uniform.specs.Segments.{at}
use Rattle.msp_uniform.specs.Answers.{IsTaskOf}
use Rattle.msp_uniform.proofs.LeastEnd.{order_within, order_length}
use Rattle.msp_uniform.proofs.DataFacts.{IsData, data_of, IsTaskOf-made, laid_out}
use Rattle.msp_uniform.proofs.uniform_cut.filled.Goals as goal
use Rattle.msp_uniform.proofs.uniform_cut.filled.Goals.{After-as_slice-rates, After-as_slice-machines, After-multiple_of_all-multiple}

-- what the times and the speeds are
facts : (c : After-as_slice-rates) → IsData c.as_slice-durations.result.now c.as_slice-rates.result.now
facts c = data_of c.args.inst.now c.requires.class c.requires.inner _ _
    (c.as_slice-durations.ensures.value ∙ c.in_ok-times.ensures) (c.as_slice-rates.ensures.value ∙ c.in_ok-speeds.ensures.items ∙ c.as_slice.ensures)

-- the orders, as slices
longest : (c : After-as_slice-machines) → IsByFalling (length c.as_slice-durations.result.now) (at c.as_slice-durations.result.now) c.as_slice-jobs.result.now
longest c = subst (IsByFalling (length c.as_slice-durations.result.now) (at c.as_slice-durations.result.now)) (sym c.as_slice-jobs.ensures.value) c.in_ok-longest.ensures

fastest : (c : After-as_slice-machines) → IsByFalling (length c.as_slice-rates.result.now) (at c.as_slice-rates.result.now) c.as_slice-machines.result.now
fastest c = subst (IsByFalling (length c.as_slice-rates.result.now) (at c.as_slice-rates.result.now)) (sym c.as_slice-machines.ensures.value) c.in_ok-fastest.ensures

-- the task
made : (c : After-multiple_of_all-multiple) → IsTaskOf c.args.inst.now (record {
  times = c.in_ok-times.times;
  speeds = c.in_ok-speeds.speeds;
  work = c.greatest_quotient-least.result.work;
  speed = c.greatest_quotient-least.result.speed;
  multiple = c.multiple_of_all-multiple.result;
}) c.as_slice-jobs.result.now c.as_slice-machines.result.now
made c = IsTaskOf-made c.args.inst.now c.requires.class c.requires.inner _ _
    (c.as_slice-durations.ensures.value ∙ c.in_ok-times.ensures) (c.as_slice-rates.ensures.value ∙ c.in_ok-speeds.ensures.items ∙ c.as_slice.ensures)
    _ _ _ _ _ (subst (IsByFalling (length c.as_slice-durations.result.now) (at c.as_slice-durations.result.now)) (sym c.as_slice-jobs.ensures.value) c.in_ok-longest.ensures)
    (subst (IsByFalling (length c.as_slice-rates.result.now) (at c.as_slice-rates.result.now)) (sym c.as_slice-machines.ensures.value) c.in_ok-fastest.ensures)
    c.greatest_quotient-least.ensures c.multiple_of_all-multiple.ensures.least c.requires.fits _ (sym c.as_slice-durations.ensures.value) (sym c.as_slice-rates.ensures.value) refl refl refl

pub by_falling-requires : goal.by_falling-requires
by_falling-requires c = (facts (goal.at.by_falling-requires c).After-as_slice-rates).few_jobs

pub by_falling-requires-2 : goal.by_falling-requires-2
by_falling-requires-2 c = let few = (facts (goal.at.by_falling-requires-2 c).After-as_slice-rates).few_machines in omega (arith, few)

pub greatest_quotient-least-requires-clause-speeds : goal.greatest_quotient-least-requires-clause-speeds
greatest_quotient-least-requires-clause-speeds c k d l =
    let fit = (facts (goal.at.greatest_quotient-least-requires-clause-speeds c).After-as_slice-rates).speeds k d l in
    (fit.0, omega (arith, fit.1))

pub greatest_quotient-least-requires-clause-few_jobs : goal.greatest_quotient-least-requires-clause-few_jobs
greatest_quotient-least-requires-clause-few_jobs c =
    let g = goal.at.greatest_quotient-least-requires-clause-few_jobs c in
    omega (arith, order_length _ _ _ (longest g.After-as_slice-machines), (facts g.After-as_slice-rates).few_jobs)

pub greatest_quotient-least-requires-clause-few_machines : goal.greatest_quotient-least-requires-clause-few_machines
greatest_quotient-least-requires-clause-few_machines c =
    let g = goal.at.greatest_quotient-least-requires-clause-few_machines c in
    omega (arith, order_length _ _ _ (fastest g.After-as_slice-machines), (facts g.After-as_slice-rates).few_machines)

pub greatest_quotient-least-requires-clause-some : goal.greatest_quotient-least-requires-clause-some
greatest_quotient-least-requires-clause-some c =
    let g = goal.at.greatest_quotient-least-requires-clause-some c in
    omega (arith, order_length _ _ _ (fastest g.After-as_slice-machines), (facts g.After-as_slice-rates).some_machines)

pub greatest_quotient-least-requires-clause-jobs : goal.greatest_quotient-least-requires-clause-jobs
greatest_quotient-least-requires-clause-jobs c = order_within _ _ _ (longest (goal.at.greatest_quotient-least-requires-clause-jobs c).After-as_slice-machines)

pub greatest_quotient-least-requires-clause-machines : goal.greatest_quotient-least-requires-clause-machines
greatest_quotient-least-requires-clause-machines c = order_within _ _ _ (fastest (goal.at.greatest_quotient-least-requires-clause-machines c).After-as_slice-machines)

pub greatest_quotient-least-requires-clause-times : goal.greatest_quotient-least-requires-clause-times
greatest_quotient-least-requires-clause-times c k d l = ((facts (goal.at.greatest_quotient-least-requires-clause-times c).After-as_slice-rates).times k d l).1

pub multiple_of_all-multiple-requires-clause-small : goal.multiple_of_all-multiple-requires-clause-small
multiple_of_all-multiple-requires-clause-small c = (facts (goal.at.multiple_of_all-multiple-requires-clause-small c).After-as_slice-rates).multiple

pub fill-requires-clause-task : goal.fill-requires-clause-task
fill-requires-clause-task c = (made (goal.at.fill-requires-clause-task c).After-multiple_of_all-multiple).task

pub fill-requires-clause-asked : goal.fill-requires-clause-asked
fill-requires-clause-asked c = (made (goal.at.fill-requires-clause-asked c).After-multiple_of_all-multiple).asked

pub returns : goal.returns
returns c = laid_out c.args.inst.now _ _ _ (made (goal.at.returns c).After-multiple_of_all-multiple) (λ f. f.unit) (λ f. f.segments.items) c.fill.result c.fill.ensures
