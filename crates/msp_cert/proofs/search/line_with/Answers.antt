use Rattle.std.proofs.Common.{length}
use Rattle.msp_cert.specs.declared.Proof.TheVariants.{Line}
use Rattle.msp_cert.specs.Search.{HasValue}
use Rattle.msp_cert.proofs.Tried.{none_placed, first_placed}
use Rattle.msp_cert.proofs.search.line_with.Goals as goal

pub returns-in-Some : goal.returns-in-Some
returns-in-Some c = first_placed (HasValue c.args.inst.now c.args.cost.now) Line (length c.args.inst.now.jobs) c.in-Some.job c.in-Some.ensures

pub returns-in-None : goal.returns-in-None
returns-in-None c = none_placed (HasValue c.args.inst.now c.args.cost.now) Line (length c.args.inst.now.jobs) c.in-None.ensures
