-- What holds in the loop of `put_operations`.
use Rattle.std.proofs.Common.{◌≡◌, ◌++◌, drop}
use Rattle.std.specs.List.{flat_map}
use Rattle.msp_grammar.specs.InstanceText.{operation_fields}
use Rattle.msp_grammar.specs.Printing.{spaced}
use Rattle.msp_grammar.proofs.instance_printer.put_operations.Given as goal

-- what is written and what is still to be written are the whole
abbrev pub invariant-loop-need : goal.invariant-loop-need
invariant-loop-need l = l.out.items ++ spaced (flat_map (operation_fields l.timed) (drop l.need-index l.needs)) ≡ l.initial.out.items ++ spaced (flat_map (operation_fields l.timed) l.needs)
