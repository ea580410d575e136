use Rattle.msp_total.proofs.SlotBest.{IsSlotAnswer-from}
use Rattle.msp_total.proofs.unit_slots.schedule_in_slots.Goals as goal

pub best_solution-requires-clause-best : goal.best_solution-requires-clause-best
best_solution-requires-clause-best c = IsSlotAnswer-from c.args.inst.now c.args.late c.requires.class c.requires.inner _ c.in_ok-pieces.ensures
