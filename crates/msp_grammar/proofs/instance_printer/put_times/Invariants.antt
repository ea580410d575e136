-- What holds in the loop of `put_times`.
use Rattle.std.proofs.Common.{◌≡◌, ◌++◌, drop, map, decimal}
use Rattle.msp_grammar.specs.Printing.{spaced}
use Rattle.msp_grammar.proofs.instance_printer.put_times.Given as goal

-- what is written and what is still to be written are the whole
abbrev pub invariant-loop-need : goal.invariant-loop-need
invariant-loop-need l = l.out.items ++ spaced (map (λ n. decimal n.time) (drop l.need-index l.needs)) ≡ l.initial.out.items ++ spaced (map (λ n. decimal n.time) l.needs)
