-- The goals of `next_row` that are proved by lemmas.
use Rattle.std.proofs.Common.{inl}
use Rattle.csv.specs.Records.{fields_of}
use Rattle.msp_results.proofs.RowLemmas.{row_read}
use Rattle.msp_results.proofs.records.next_row.Goals as goal

pub returns-in-Ok-clause-row : goal.returns-in-Ok-clause-row
returns-in-Ok-clause-row c = row_read c.in-Ok.found c.args.reader.now c.read_byte_record.new.self
    (fields_of c.read_byte_record.new.row) c.requires (inl (c.in-Ok.ensures.ready c.requires.trim)) (c.in-Ok.ensures.reads c.requires.trim c.requires.ready)
