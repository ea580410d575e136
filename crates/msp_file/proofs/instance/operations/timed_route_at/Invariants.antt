-- What holds in the loop of `timed_route_at`.
use Rattle.std.proofs.Common.{◌≡◌, [], length}
use Rattle.msp_file.specs.instance.Reading.{timed_route_at}
use Rattle.msp_grammar.specs.lines.Steps.{fields_after}
use Rattle.msp_file.proofs.instance.operations.timed_route_at.Given as goal

-- what is left gives the answer of the whole
abbrev pub invariant-fields : goal.invariant-fields
invariant-fields l = timed_route_at l.at l.machines l.needs (fields_after l.rest) ≡ timed_route_at l.at l.machines [] (fields_after l.fields)

abbrev pub decreases-fields : goal.decreases-fields
decreases-fields l = length l.rest
