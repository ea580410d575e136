-- What holds in the loop of `put_speed_fields`.
use Rattle.std.proofs.Common.{◌≡◌, ◌++◌, drop, map, decimal}
use Rattle.msp_grammar.specs.Printing.{spaced}
use Rattle.msp_grammar.proofs.instance_printer.put_speed_fields.Given as goal

-- what is written and what is still to be written are the whole
abbrev pub invariant-loop-speed : goal.invariant-loop-speed
invariant-loop-speed l = l.out.items ++ spaced (map decimal (drop l.speed-index l.speeds)) ≡ l.initial.out.items ++ spaced (map decimal l.speeds)
