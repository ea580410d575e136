use Rattle.msp_cert.specs.declared.Proof.TheVariants.{Machine}
use Rattle.msp_cert.specs.Search.{HasValue}
use Rattle.msp_cert.proofs.Tried.{none_placed, first_placed}
use Rattle.msp_cert.proofs.search.machine_with.Goals as goal

pub returns-in-Some : goal.returns-in-Some
returns-in-Some c = first_placed (HasValue c.args.inst.now c.args.cost.now) Machine c.args.inst.now.machines c.in-Some.machine c.in-Some.ensures

pub returns-in-None : goal.returns-in-None
returns-in-None c = none_placed (HasValue c.args.inst.now c.args.cost.now) Machine c.args.inst.now.machines c.in-None.ensures
