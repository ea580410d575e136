use Rattle.std.proofs.Common.{◌∙◌, refl, sym, arith, below_more}
use Rattle.std.proofs.lemmas.Bool.{false≢true}
use Rattle.std.specs.Prelude.{nat_le}
use Rattle.std.proofs.lemmas.List.Sums.{count_by-le-length}
use Rattle.msp_cert.specs.declared.Proof.TheVariants.{Levels}
use Rattle.msp_cert.specs.Search.{HasValue}
use Rattle.msp_cert.proofs.Tails.{all_high, next_high, levels_small}
use Rattle.msp_cert.proofs.search.first_tail.Goals as goal

pub jobs_at-counts-requires-clause-small : goal.jobs_at-counts-requires-clause-small
jobs_at-counts-requires-clause-small c = λ k d l. omega (arith, levels_small c.args.inst.now c.args.level.now c.requires.class c.requires.levels k d l, c.requires.class.conditions.few)

pub loop-tail-init : goal.loop-tail-init
loop-tail-init c = record { high = c.len-high.ensures ∙ sym c.requires.levels.each ∙ sym (all_high c.args.level.now); before = λ t b. absurd (omega (arith, b)) }

pub tail_worth-requires-clause-few : goal.tail_worth-requires-clause-few
tail_worth-requires-clause-few c =
    omega (arith, c.loop-tail.invariant.high, count_by-le-length (nat_le c.loop-tail.tail) c.args.level.now, c.requires.levels.each, c.requires.class.conditions.few)

pub returns-then-equals : goal.returns-then-equals
returns-then-equals c = (
  omega (arith, c.loop-tail-test.true, c.len-tail-end.ensures),
  (c.if-equals.ensures c.args.inst.now (Levels c.args.level.now c.loop-tail.tail) (c.tail_worth.ensures.worth c.args.level.now c.requires.levels c.loop-tail.invariant.high)).0 refl,
  c.loop-tail.invariant.before,
)

pub overflow_sub-high : goal.overflow_sub-high
overflow_sub-high c = omega (
  arith,
  c.jobs_at-counts.ensures c.loop-tail.tail (omega (arith, c.loop-tail-test.true, c.len-tail-end.ensures, c.requires.class.conditions.few)),
  next_high c.loop-tail.tail c.args.level.now,
  c.loop-tail.invariant.high,
)

pub loop-tail-preserved : goal.loop-tail-preserved
loop-tail-preserved c = record {
  high = omega (
    arith,
    c.jobs_at-counts.ensures c.loop-tail.tail (omega (arith, c.loop-tail-test.true, c.len-tail-end.ensures, c.requires.class.conditions.few)),
    next_high c.loop-tail.tail c.args.level.now,
    c.loop-tail.invariant.high,
  );
  before = below_more (λ t. ¬ HasValue c.args.inst.now c.args.cost.now (Levels c.args.level.now t)) c.loop-tail.tail c.loop-tail.invariant.before
      (λ h. false≢true
      ((c.if-equals.ensures c.args.inst.now (Levels c.args.level.now c.loop-tail.tail) (c.tail_worth.ensures.worth c.args.level.now c.requires.levels c.loop-tail.invariant.high)).1 h));
}

pub returns : goal.returns
returns c = λ k b. c.loop-tail.invariant.before k (omega (arith, b, c.loop-tail-test.false, c.len-tail-end.ensures))
