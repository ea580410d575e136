use Rattle.msp_name.proofs.Parts.{cut-slices}
use Rattle.msp_name.proofs.reader.cut.Goals as goal

pub returns-in-Some : goal.returns-in-Some
returns-in-Some c = cut-slices c.args.separator c.in-Some.at c.args.bytes.now c.in-Some.ensures
