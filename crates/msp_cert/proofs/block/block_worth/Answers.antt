use Rattle.std.proofs.Common.{◌+◌, refl, rules, ◌∙◌}
use Rattle.std.proofs.lemmas.Int.{to_z-of_z}
use Rattle.std.specs.Int.{w128}
use Rattle.msp_cert.proofs.BlockFacts.{block_is_worth, block_is_nothing}
use Rattle.msp_cert.proofs.block.block_worth.Goals as goal

pub returns-in-Some-clause-worth : goal.returns-in-Some-clause-worth
returns-in-Some-clause-worth c =
    block_is_worth c.args.inst.now c.in_ok-paths.paths c.args.head.now c.args.jobs.now c.in_ok-paths.ensures (c.if-not-is_block.ensures.0 refl).block.inside
    c.least_head.result c.total_time.result _ c.in-Some.value c.whole.result (c.if-not-is_block.ensures.0 refl) c.least_head.ensures.first c.least_head.ensures.after
    c.total_time.ensures.value refl c.in-Some.ensures.value (c.whole.ensures.num ∙ to_z-of_z w128 _ (search rules)) c.whole.ensures.den

pub returns-clause-worth : goal.returns-clause-worth
returns-clause-worth c = block_is_nothing c.args.inst.now c.in_ok-paths.paths c.args.head.now c.args.jobs.now c.in_ok-paths.ensures
    (c.if-not-is_block.ensures.0 refl).block.inside (c.least_head.result + c.total_time.result) c.in-None.ensures.value
