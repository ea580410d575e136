use Rattle.std.proofs.Common.{refl}
use Rattle.std.proofs.lemmas.Bool.{false≢true}
use Rattle.msp_cert.proofs.PriceFacts.{priced_from, priced_shape, priced_low, priced_fair}
use Rattle.msp_cert.proofs.prices.are_prices.Goals as goal

pub returns-then-not-has_priced_shape : goal.returns-then-not-has_priced_shape
returns-then-not-has_priced_shape c = (λ e. absurd (false≢true e), λ p. c.if-not-has_priced_shape.ensures.1 (priced_shape c.args.inst.now c.args.row.now c.args.column.now p))

pub returns-then-not-are_low : goal.returns-then-not-are_low
returns-then-not-are_low c = (λ e. absurd (false≢true e), λ p. c.if-not-are_low.ensures.1 (priced_low c.args.inst.now c.args.row.now c.args.column.now p))

pub returns : goal.returns
returns c = (
  λ e. priced_from c.args.inst.now c.args.row.now c.args.column.now c.requires.class (c.if-not-has_priced_shape.ensures.0 refl) (c.if-not-are_low.ensures.0 refl) (c.are_fair.ensures.0 e),
  λ p. c.are_fair.ensures.1 (priced_fair c.args.inst.now c.args.row.now c.args.column.now c.requires.class p),
)
