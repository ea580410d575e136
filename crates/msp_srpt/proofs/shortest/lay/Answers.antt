use Rattle.std.proofs.Common.{◌∙◌, rules}
use Rattle.std.specs.Int.{w128}
use Rattle.std.proofs.lemmas.Int.{to_z-of_z}
use Rattle.msp_srpt.proofs.Laying.{Runs-laid}
use Rattle.msp_srpt.proofs.shortest.lay.Goals as goal

pub returns-clause-run : goal.returns-clause-run
returns-clause-run c =
    Runs-laid c.args.job c.args.from c.args.to _ _ _ _ _ _ c.requires c.in_ok-begin.ensures.begun
    (to_z-of_z w128 _ (search rules)) (to_z-of_z w128 _ (search rules) ∙ c.from.ensures) c.in_ok-push.ensures.items
