-- What holds in the loop of `find`.
use Rattle.std.proofs.Common.{◌≡◌, ◌+◌, ◌==◌, length, position}
use Rattle.std.specs.List.{position_from}
use Rattle.msp_grammar.proofs.lines.line.find.Given as goal

abbrev pub invariant-runs : goal.invariant-runs
invariant-runs l = (position (λ x. x == l.separator) l.bytes ≡ position_from (λ x. x == l.separator) l.at l.rest) × (l.at + length l.rest ≡ length l.bytes)

abbrev pub decreases-runs : goal.decreases-runs
decreases-runs l = length l.rest
