use Rattle.std.proofs.Common.{subst}
use Rattle.msp_cert.specs.Search.{IsFound}
use Rattle.msp_dispatch.proofs.evidence.Found.{found_some}
use Rattle.msp_dispatch.proofs.evidence.Certified.{IsComparable-tried, Certifies-found}
use Rattle.msp_dispatch.proofs.shown.found_proof.Goals as goal

pub find-requires-clause-cost : goal.find-requires-clause-cost
find-requires-clause-cost c = IsComparable-tried c.args.inst.now c.args.cost c.requires.lowest c.requires.tried

pub unreachable-requires : goal.unreachable-requires
unreachable-requires c = found_some c.args.inst.now c.args.cost c.requires.tried (subst (IsFound c.args.inst.now c.args.cost) c.in-None.is c.in_ok-proof.ensures)

pub returns : goal.returns
returns c = Certifies-found c.args.inst.now c.args.cost c.in-Some.proof c.requires.class c.requires.first c.requires.lowest c.requires.tried
    (subst (IsFound c.args.inst.now c.args.cost) c.in-Some.is c.in_ok-proof.ensures)
