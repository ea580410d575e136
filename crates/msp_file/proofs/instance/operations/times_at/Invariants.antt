-- What holds in the loop of `times_at`.
use Rattle.std.proofs.Common.{◌≡◌, ◌+◌, ◌≤◌, [], length}
use Rattle.msp_file.specs.instance.Reading.{times_at}
use Rattle.msp_grammar.specs.lines.Steps.{fields_after}
use Rattle.msp_file.proofs.instance.operations.times_at.Given as goal

-- what is left gives the answer of the whole
abbrev pub invariant-fields : goal.invariant-fields
invariant-fields l = (times_at l.at l.least l.needs (fields_after l.rest) ≡ times_at l.at l.least [] (fields_after l.fields)) × (length l.needs + length l.rest ≤ length l.fields)

abbrev pub decreases-fields : goal.decreases-fields
decreases-fields l = length l.rest
