use Rattle.msp_instance.proofs.Limits.{Inner-from_class}
use Rattle.msp_dispatch.proofs.Picks.{answered, stopped, untargeted}
use Rattle.msp_dispatch.proofs.solve.solve_any.Goals as goal

pub answer-requires-clause-inner : goal.answer-requires-clause-inner
answer-requires-clause-inner c = Inner-from_class c.args.inst.now c.requires

pub returns-in-Ok-clause-answer : goal.returns-in-Ok-clause-answer
returns-in-Ok-clause-answer c = answered c.args.inst.now c.args.at c.in-Ok.pick
    c.answer.result c.in-Ok.ensures.pick c.answer.ensures.chain c.answer.ensures.target c.answer.ensures.solver c.answer.ensures.fits c.answer.ensures.solution

pub returns-in-Ok-clause-fault : goal.returns-in-Ok-clause-fault
returns-in-Ok-clause-fault c = stopped c.args.inst.now c.args.at c.in-Ok.pick c.answer.result c.in-Ok.ensures.pick c.answer.ensures.fault

pub returns-in-Err-clause-fault : goal.returns-in-Err-clause-fault
returns-in-Err-clause-fault c = untargeted c.args.inst.now c.args.at c.in-Err.fault c.in-Err.ensures.fault
