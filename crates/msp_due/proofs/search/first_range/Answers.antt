use Rattle.msp_due.proofs.Facts.{HasOneTime-from}
use Rattle.msp_due.proofs.Ranges.{range_at}
use Rattle.msp_due.proofs.search.first_range.Goals as goal

pub returns : goal.returns
returns c = range_at c.args.inst.now (HasOneTime-from c.args.inst.now c.requires.class c.requires.inner) c.greatest_after.result c.greatest_after-2.result
    _ c.len.ensures c.greatest_after.ensures.greatest c.greatest_after.ensures.size c.greatest_after-2.ensures.greatest c.greatest_after-2.ensures.size
