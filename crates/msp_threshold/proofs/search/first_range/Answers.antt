use Rattle.msp_threshold.proofs.Facts.{IsLatenessShop-from}
use Rattle.msp_threshold.proofs.Bounds.{range_at}
use Rattle.msp_threshold.proofs.search.first_range.Goals as goal

pub returns : goal.returns
returns c = range_at c.args.inst.now (IsLatenessShop-from c.args.inst.now c.requires.class c.requires.inner) c.as_slice.result.now c.lowest_bound-low.result c.in_ok-high.high
    _ _ c.as_slice.ensures c.from.ensures c.from-2.ensures c.lowest_bound-low.ensures.lowest c.lowest_bound-low.ensures.size c.in_ok-high.ensures.met c.in_ok-high.ensures.size
