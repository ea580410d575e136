use Rattle.std.proofs.Common.{◌≡◌, ◌++◌, drop}
use Rattle.msp_report.specs.LabelsText.{label_lines}
use Rattle.msp_report.proofs.labels.put_labels.Given as goal

abbrev pub invariant-loop-c : goal.invariant-loop-c
invariant-loop-c l = l.out.items ++ label_lines l.labels (drop l.c-index l.classes) ≡ l.initial.out.items ++ label_lines l.labels l.classes
