use Rattle.std.proofs.Common.{◌<◌, ◌+◌, length, subst, arith}
use Rattle.std.proofs.lemmas.List.{take_all}
use Rattle.msp_instance.specs.Multiples.{IsLeastOfAll}
use Rattle.msp_instance.proofs.MultipleLemmas.{IsLeastOfAll-none, IsLeastOfAll-more, small_multiple_found, small_multiple_missing}
use Rattle.msp_instance.proofs.speeds.has_small_multiple.Goals as goal

pub loop-s-init : goal.loop-s-init
loop-s-init c = record { least = IsLeastOfAll-none; small = omega arith }

pub returns-then-multiple-gt-GREATEST_MULTIPLE : goal.returns-then-multiple-gt-GREATEST_MULTIPLE
returns-then-multiple-gt-GREATEST_MULTIPLE c =
    let there : c.loop-s.s-index < length c.args.speeds.now = omega arith in
    small_multiple_missing c.args.speeds.now (c.loop-s.s-index + 1) c.common_multiple-multiple.result
    (IsLeastOfAll-more c.args.speeds.now c.loop-s.s-index _ _ there c.loop-s.invariant.least c.common_multiple-multiple.ensures.some c.common_multiple-multiple.ensures.least) (omega arith)

pub loop-s-preserved : goal.loop-s-preserved
loop-s-preserved c = record {
  least = IsLeastOfAll-more c.args.speeds.now c.loop-s.s-index _ _ (omega arith) c.loop-s.invariant.least c.common_multiple-multiple.ensures.some c.common_multiple-multiple.ensures.least;
  small = omega arith;
}

pub returns : goal.returns
returns c =
    let whole = take_all c.loop-s.s-index c.args.speeds.now (omega arith) in
    small_multiple_found c.args.speeds.now c.loop-s.multiple (subst (λ l. IsLeastOfAll l c.loop-s.multiple) whole c.loop-s.invariant.least) c.loop-s.invariant.small
