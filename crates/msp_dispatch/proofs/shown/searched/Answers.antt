use Rattle.msp_dispatch.proofs.evidence.Certified.{IsTriedValue-same}
use Rattle.msp_dispatch.proofs.shown.searched.Goals as goal

pub found_proof-requires-clause-tried : goal.found_proof-requires-clause-tried
found_proof-requires-clause-tried c = IsTriedValue-same c.args.inst.now c.args.solution.cost c.reported-solution.result.cost c.reported-solution.ensures.same c.requires.tried
