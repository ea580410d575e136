use Rattle.std.proofs.lemmas.List.{take_rest}
use Rattle.msp_uniform.proofs.FirstFacts.{IsReached-first, machines_few, machines_small}
use Rattle.msp_uniform.proofs.fill.fill.Goals as goal

pub first_plan-requires-clause-few : goal.first_plan-requires-clause-few
first_plan-requires-clause-few c = machines_few c.args.task.now c.requires.task _ _ c.requires.asked

pub first_plan-requires-clause-small : goal.first_plan-requires-clause-small
first_plan-requires-clause-small c = machines_small c.args.task.now c.requires.task _ _ c.requires.asked

pub take_turns-requires-clause-reached : goal.take_turns-requires-clause-reached
take_turns-requires-clause-reached c = IsReached-first c.args.task.now c.requires.task _ _ c.requires.asked _ _ _ c.in_ok-plan.ensures

pub lay_all-requires-clause-reached : goal.lay_all-requires-clause-reached
lay_all-requires-clause-reached c = rw take_rest c.in_ok-turned.ensures.reached

pub lay_all-requires-clause-short : goal.lay_all-requires-clause-short
lay_all-requires-clause-short c = rw take_rest c.in_ok-turned.ensures.short
