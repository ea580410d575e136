use Rattle.std.proofs.Common.{◌∙◌, rules}
use Rattle.std.proofs.lemmas.Int.{to_z-of_z}
use Rattle.std.specs.Int.{w128}
use Rattle.msp_places.proofs.MostSteps.{small_in}
use Rattle.msp_places.proofs.most.price.Goals as goal

pub job_cost_at-requires-clause-small : goal.job_cost_at-requires-clause-small
job_cost_at-requires-clause-small c = small_in c.args.inst.now c.requires.inner c.requires.class c.args.unit
    c.requires.unit.0 c.requires.unit.1 _ _ _ _ (to_z-of_z w128 _ (search rules) ∙ c.from.ensures) c.as_slice.ensures c.index-as_slice-job.is c.requires.inside
