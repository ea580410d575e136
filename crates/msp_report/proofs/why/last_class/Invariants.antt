use Rattle.std.proofs.Common.{◌≡◌, drop}
use Rattle.msp_report.specs.WhyText.{last_class}
use Rattle.msp_report.proofs.why.last_class.Given as goal

abbrev pub invariant-loop-row : goal.invariant-loop-row
invariant-loop-row l = last_class l.here (drop l.row-index l.row-items) ≡ last_class l.initial.here l.row-items
