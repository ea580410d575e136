-- What holds in the loop of `put_steps`.
use Rattle.std.proofs.Common.{◌≡◌, ◌++◌, drop}
use Rattle.std.specs.List.{flat_map}
use Rattle.msp_grammar.specs.InstanceText.{step_fields}
use Rattle.msp_grammar.specs.Printing.{spaced}
use Rattle.msp_grammar.proofs.instance_printer.put_steps.Given as goal

-- what is written and what is still to be written are the whole
abbrev pub invariant-loop-step : goal.invariant-loop-step
invariant-loop-step l = l.out.items ++ spaced (flat_map step_fields (drop l.step-index l.steps)) ≡ l.initial.out.items ++ spaced (flat_map step_fields l.steps)
