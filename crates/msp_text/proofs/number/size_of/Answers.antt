use Rattle.msp_text.proofs.Numbers.{size_more}
use Rattle.msp_text.proofs.number.size_of.Goals as goal

pub loop-byte-preserved : goal.loop-byte-preserved
loop-byte-preserved c =
    size_more
    c.args.digits.now
    c.loop-byte.byte-index
    c.loop-byte.size
    c.digit.result
    c.saturating_mul.result
    c.saturating_add-size.result
    c.loop-byte-test.true
    c.loop-byte.invariant
    c.digit.ensures.value
    c.saturating_mul.ensures
    c.saturating_add-size.ensures
