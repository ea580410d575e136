-- The goals of `fill` that are proved by lemmas.
use Rattle.std.proofs.Common.{arith}
use Rattle.msp_cert_text.proofs.ColumnLaws.{filled_more}
use Rattle.msp_cert_text.proofs.columns.fill.Goals as goal

pub prices-preserved : goal.prices-preserved
prices-preserved c = filled_more c.args.count c.prices.prices c.put.new.self _ c.in_ok-put.ensures.put (omega (arith, c.len.ensures, c.prices-test.true)) c.prices.invariant
