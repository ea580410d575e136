-- What the loop of `read_entries` keeps.
use Rattle.std.proofs.Common.{◌+◌, ◌-◌}
use Rattle.msp_results.specs.declared.limits.TheConstants.{MOST_ENTRIES}
use Rattle.msp_results.proofs.ReadLemmas.{Going}
use Rattle.msp_results.proofs.read.read_entries.Given as goal

abbrev pub invariant-rows : goal.invariant-rows
invariant-rows l = Going l.version l.initial.reader l.reader l.at l.entries

abbrev pub decreases-rows : goal.decreases-rows
decreases-rows l = MOST_ENTRIES + 2 - l.at
