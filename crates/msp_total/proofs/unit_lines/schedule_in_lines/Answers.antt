use Rattle.msp_total.proofs.LineBest.{IsLineAnswer-from}
use Rattle.msp_total.proofs.unit_lines.schedule_in_lines.Goals as goal

pub best_solution-requires-clause-best : goal.best_solution-requires-clause-best
best_solution-requires-clause-best c = IsLineAnswer-from c.args.inst.now c.args.late c.requires.class c.requires.inner _ c.in_ok-pieces.ensures
