use Rattle.msp_shops.specs.Sliced.{AreTimes}
use Rattle.msp_shops.proofs.open_cut.times_by_machine.Given as goal

-- the times on the machines so far
abbrev pub invariant-loop-machine : goal.invariant-loop-machine
invariant-loop-machine l = AreTimes l.inst l.machine l.cells.items
