-- What holds in the loop of `put_arcs`.
use Rattle.std.proofs.Common.{◌≡◌, ◌++◌, drop}
use Rattle.msp_grammar.specs.InstanceText.{arcs_text}
use Rattle.msp_grammar.proofs.instance_printer.put_arcs.Given as goal

-- what is written and what is still to be written are the whole
abbrev pub invariant-loop-arc : goal.invariant-loop-arc
invariant-loop-arc l = l.out.items ++ arcs_text l.names (drop l.arc-index l.arcs) ≡ l.initial.out.items ++ arcs_text l.names l.arcs
