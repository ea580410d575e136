use Rattle.std.proofs.Common.{◌≤◌}
use Rattle.std.specs.List.{AllAdjacentBelow}
use Rattle.msp_cert.specs.Small.{ShowLeads}
use Rattle.msp_cert.proofs.segments.lead_on.Given as goal

-- the lists so far lead on
abbrev pub invariant-loop-k : goal.invariant-loop-k
invariant-loop-k l = record { some : 1 ≤ l.k; lead : AllAdjacentBelow (ShowLeads l.paths) l.lists l.k }
