use Rattle.std.proofs.Common.{refl, arith, below_more}
use Rattle.std.proofs.lemmas.Bool.{false≢true}
use Rattle.msp_cert.specs.declared.Proof.TheVariants.{Line}
use Rattle.msp_cert.specs.Search.{HasValue}
use Rattle.msp_cert.proofs.search.first_line.Goals as goal

pub returns-then-equals : goal.returns-then-equals
returns-then-equals c = (omega arith, (c.if-equals.ensures c.args.inst.now (Line c.loop-job.job) c.line_worth.ensures.worth).0 refl, c.loop-job.invariant)

pub loop-job-preserved : goal.loop-job-preserved
loop-job-preserved c = below_more (λ k. ¬ HasValue c.args.inst.now c.args.cost.now (Line k))
    c.loop-job.job c.loop-job.invariant (λ h. false≢true ((c.if-equals.ensures c.args.inst.now (Line c.loop-job.job) c.line_worth.ensures.worth).1 h))

pub returns : goal.returns
returns c = λ k b. c.loop-job.invariant k (omega (arith, b, c.loop-job-test.false))
