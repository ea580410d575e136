use Rattle.std.proofs.Common.{refl, arith, below_more}
use Rattle.std.proofs.lemmas.Bool.{false≢true}
use Rattle.msp_cert.specs.declared.Proof.TheVariants.{Machine}
use Rattle.msp_cert.specs.Search.{HasValue}
use Rattle.msp_cert.proofs.search.first_machine.Goals as goal

pub returns-then-equals : goal.returns-then-equals
returns-then-equals c = (omega arith, (c.if-equals.ensures c.args.inst.now (Machine c.loop-machine.machine) c.machine_worth.ensures.worth).0 refl, c.loop-machine.invariant)

pub loop-machine-preserved : goal.loop-machine-preserved
loop-machine-preserved c = below_more (λ k. ¬ HasValue c.args.inst.now c.args.cost.now (Machine k)) c.loop-machine.machine c.loop-machine.invariant
    (λ h. false≢true ((c.if-equals.ensures c.args.inst.now (Machine c.loop-machine.machine) c.machine_worth.ensures.worth).1 h))

pub returns : goal.returns
returns c = λ k b. c.loop-machine.invariant k (omega (arith, b, c.loop-machine-test.false))
