-- What holds in the loop of `spelled`.
use Rattle.std.proofs.Common.{◌≡◌, map, length}
use Rattle.msp_name.specs.Reading.{spelled}
use Rattle.msp_name.proofs.words.spelled.Given as goal

-- what is left gives the answer of the whole
abbrev pub invariant-rows : goal.invariant-rows
invariant-rows g l = spelled (map (λ row. (row.0.now, row.1)) l.rows) l.word ≡ spelled (map (λ row. (row.0.now, row.1)) l.table) l.word

abbrev pub decreases-rows : goal.decreases-rows
decreases-rows g l = length l.rows
