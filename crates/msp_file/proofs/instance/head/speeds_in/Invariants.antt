-- What holds in the loop of `speeds_in`.
use Rattle.std.proofs.Common.{◌≡◌, ◌≤◌, [], length, All}
use Rattle.msp_class.specs.declared.sizes.TheConstants.{GREATEST_SPEED}
use Rattle.msp_file.specs.instance.Reading.{speeds_in}
use Rattle.msp_grammar.specs.lines.Steps.{fields_after}
use Rattle.msp_file.proofs.instance.head.speeds_in.Given as goal

-- what is left gives the answer of the whole
abbrev pub invariant-fields : goal.invariant-fields
invariant-fields l = All (λ s. (1 ≤ s) × (s ≤ GREATEST_SPEED)) l.speeds × (speeds_in l.at l.speeds (fields_after l.rest) ≡ speeds_in l.at [] (fields_after l.fields))

abbrev pub decreases-fields : goal.decreases-fields
decreases-fields l = length l.rest
