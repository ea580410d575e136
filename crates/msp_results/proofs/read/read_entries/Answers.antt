-- The goals of `read_entries` that are proved by lemmas.
use Rattle.std.proofs.Common.{◌≡◌, Ok, inl, inr}
use Rattle.csv.specs.Records.{fields_of}
use Rattle.msp_results.specs.Reading.{row_read}
use Rattle.msp_results.proofs.ReadLemmas.{Going-more}
use Rattle.msp_results.proofs.read.read_entries.Goals as goal

pub rows-preserved : goal.rows-preserved
rows-preserved c =
    let fields = fields_of c.next_row.new.row in
    let read : Ok c.in_ok-entry.entry ≡ row_read c.args.version c.rows.at fields = elim c.in_ok-entry.ensures [ inl x ↦ cc | inr y ↦ y ] in
    let next = rw c.if-not-branch.false at c.in_ok-next_row.ensures.row in
    rw c.in_ok-put.ensures.put
    (Going-more c.args.version c.args.reader.now c.rows.reader c.next_row.new.reader c.rows.at c.rows.entries fields c.in_ok-entry.entry c.rows.invariant next c.if-at-gt-MOST_ENTRIES.false read)
