use Rattle.std.proofs.Common.{length, refl, sym, subst, arith, rules, below_more}
use Rattle.std.proofs.lemmas.Bool.{false≢true}
use Rattle.std.proofs.lemmas.Int.{to_z-of_z}
use Rattle.std.specs.Int.{w128}
use Rattle.msp_cert.specs.Fair.{IsFair}
use Rattle.msp_cert.proofs.PriceFacts.{place_inside}
use Rattle.msp_cert.proofs.prices.is_fair.Goals as goal

pub is_fair_on-requires-clause-inside : goal.is_fair_on-requires-clause-inside
is_fair_on-requires-clause-inside c = place_inside c.loop-machine.machine c.args.count (length c.args.needs.now) (length c.args.column.now) c.loop-machine-test.true c.requires.long

pub returns-then-not-is_fair_on : goal.returns-then-not-is_fair_on
returns-then-not-is_fair_on c = (
  λ e. absurd (false≢true e),
  λ h. c.if-not-is_fair_on.ensures.1
      (subst (λ p. IsFair p c.args.column.now c.args.count c.args.needs.now) (sym (to_z-of_z w128 c.args.price (search rules))) h c.loop-machine.machine c.loop-machine-test.true),
)

pub loop-machine-preserved : goal.loop-machine-preserved
loop-machine-preserved c = below_more _ c.loop-machine.machine c.loop-machine.invariant (c.if-not-is_fair_on.ensures.0 refl)

pub returns : goal.returns
returns c = (
  λ e. subst (λ p. IsFair p c.args.column.now c.args.count c.args.needs.now)
      (to_z-of_z w128 c.args.price (search rules)) (λ m l. c.loop-machine.invariant m (omega (arith, l, c.loop-machine-test.false))),
  λ h. refl,
)
