use Rattle.std.proofs.Common.{length, length-set, ap, ◌∙◌, arith}
use Rattle.std.proofs.lemmas.List.{length-replicate}
use Rattle.msp_assign.specs.View.{no_column}
use Rattle.msp_assign.proofs.Filling.{IsPriceBelow-start, IsPriceBelow-next, below_zero}
use Rattle.msp_assign.proofs.prices.column_prices.Goals as goal

pub number_of-number-requires : goal.number_of-number-requires
number_of-number-requires c =
    let inside = c.requires.columns c.loop-k.k no_column c.loop-k-test.true in
    record { line = inside.0; place = inside.1; all = c.requires.all }

pub loop-k-init : goal.loop-k-init
loop-k-init c = record {
  size = ap length (c.in_ok-prices.ensures.items_if_clones_equal (λ y q. q)) ∙ length-replicate _ _;
  each = λ d l. IsPriceBelow-start _ _ _ _ _ d (c.in_ok-prices.ensures.items_if_clones_equal (λ y q. q)) l;
}

pub loop-k-preserved : goal.loop-k-preserved
loop-k-preserved c = record {
  size = length-set _ _ _ ∙ c.loop-k.invariant.size;
  each = λ d l. IsPriceBelow-next _ _ _ _ _ _ _ d (omega (arith, c.number_of-number.ensures.inside, c.loop-k.invariant.size)) c.number_of-number.ensures.value
      (below_zero _ (c.requires.low c.loop-k.k (omega (arith, c.requires.falls, c.loop-k-test.true)))) (c.loop-k.invariant.each d l);
}
