use Rattle.std.proofs.Common.{◌≡◌, ◌+◌, drop}
use Rattle.msp_closure.specs.Entries.{makes}
use Rattle.msp_report.specs.WhyText.{record_from}
use Rattle.msp_report.proofs.why.put_first_record.Given as goal

abbrev pub invariant-loop-at : goal.invariant-loop-at
invariant-loop-at l = (l.out.items ≡ l.initial.out.items)
    × (record_from (makes l.claim) l.c (l.at + 1) (drop l.at l.entries) ≡ record_from (makes l.claim) l.c 1 l.entries)
