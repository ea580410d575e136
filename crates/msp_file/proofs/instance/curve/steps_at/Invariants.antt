-- What holds in the loop of `steps_at`.
use Rattle.std.proofs.Common.{◌≡◌, [], length}
use Rattle.msp_file.specs.instance.Reading.{steps_at}
use Rattle.msp_grammar.specs.lines.Steps.{fields_after}
use Rattle.msp_file.proofs.instance.curve.steps_at.Given as goal

-- what is left gives the answer of the whole
abbrev pub invariant-fields : goal.invariant-fields
invariant-fields l = steps_at l.at l.steps (fields_after l.rest) ≡ steps_at l.at [] (fields_after l.fields)

abbrev pub decreases-fields : goal.decreases-fields
decreases-fields l = length l.rest
