-- Row 54, the only one that is left.
use Rattle.std.proofs.Common.{IfOk, rules}
use Rattle.msp_carry.specs.Steps.{ComesFrom, IsBroughtBack}
use Rattle.msp_carry.proofs.LastRow.{last_row}
use Rattle.msp_carry.proofs.rows.back_at_row.Goals as goal

pub step_back-requires-in_default : goal.step_back-requires-in_default
step_back-requires-in_default c = (last_row (λ row low. ComesFrom row c.args.inst.now low c.args.solution) c.args.row c.args.inst.now (search rules)).0 c.requires.comes

pub returns-in_default : goal.returns-in_default
returns-in_default c =
    (last_row (λ row lower. IfOk c.step_back-in_default.result (λ s. IsBroughtBack row c.args.inst.now lower c.args.solution s))
    c.args.row c.args.inst.now (search rules)).1 c.step_back-in_default.ensures
