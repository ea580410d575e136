use Rattle.std.proofs.Common.{pos, get_or, arith, rules}
use Rattle.std.proofs.lemmas.Int.{ints, to_z-of_z}
use Rattle.std.specs.Int.{w128}
use Rattle.msp_cert.proofs.PriceFacts.{IsSum-next, sum_is_total}
use Rattle.msp_cert.proofs.prices.sum_of.Goals as goal

pub loop-k-preserved : goal.loop-k-preserved
loop-k-preserved c =
    let so_far = c.loop-k.invariant.size in
    let small = c.requires.small c.loop-k.k (pos 0) (omega arith) in
    let same = to_z-of_z w128 (get_or c.args.prices.now c.loop-k.k (pos 0)) (search rules) in
    IsSum-next c.args.prices.now c.loop-k.k _ _ _ same small (omega (arith, ints)) c.loop-k.invariant

pub returns-clause-value : goal.returns-clause-value
returns-clause-value c = sum_is_total c.args.prices.now c.loop-k.k _ (omega arith) c.loop-k.invariant
