use Rattle.std.proofs.Common.{◌∙◌, rules}
use Rattle.std.proofs.lemmas.Int.{to_z-of_z}
use Rattle.std.specs.Int.{w128}
use Rattle.msp_schedule.proofs.judging.WholeWork.{work_is}
use Rattle.msp_schedule.proofs.work.work_at.Goals as goal

pub returns-clause-value : goal.returns-clause-value
returns-clause-value c = to_z-of_z w128 c.measured.result (search rules) ∙ work_is c.args.inst.now c.args.piece.now c.measured.result c.requires.kind c.measured.ensures.value
