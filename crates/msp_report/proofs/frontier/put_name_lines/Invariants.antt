use Rattle.std.proofs.Common.{◌≡◌, ◌++◌, drop}
use Rattle.msp_report.specs.FrontierText.{name_lines}
use Rattle.msp_report.proofs.frontier.put_name_lines.Given as goal

abbrev pub invariant-loop-c : goal.invariant-loop-c
invariant-loop-c l = l.out.items ++ name_lines (drop l.c-index l.classes) ≡ l.initial.out.items ++ name_lines l.classes
