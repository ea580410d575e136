use Rattle.std.proofs.Common.{rules, ◌∙◌}
use Rattle.std.proofs.lemmas.Int.{to_z-of_z}
use Rattle.std.specs.Int.{w128}
use Rattle.msp_cert.proofs.BlockFacts.{own_cost_within}
use Rattle.msp_cert.proofs.block.own_cost.Goals as goal

pub returns-clause-size : goal.returns-clause-size
returns-clause-size c = own_cost_within c.args.inst.now c.args.job c.args.moment _ c.requires.class c.requires.greatest c.requires.job c.requires.moment
    (to_z-of_z w128 _ (search rules) ∙ c.cost_of.ensures)
