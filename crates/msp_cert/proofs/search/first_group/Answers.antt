use Rattle.std.proofs.Common.{◌+◌, take, refl, arith, below_more}
use Rattle.std.proofs.lemmas.Bool.{false≢true}
use Rattle.msp_cert.specs.declared.Proof.TheVariants.{Group}
use Rattle.msp_cert.specs.Search.{HasValue}
use Rattle.msp_cert.proofs.Tried.{AreTogether, one_more, some_speed, longest_worth, all_longest}
use Rattle.msp_cert.proofs.search.first_group.Goals as goal
use Rattle.msp_cert.proofs.search.first_group.Goals.{After-own_speed-speed}

pub overflow_add-time : goal.overflow_add-time
overflow_add-time c =
    let next : AreTogether _ _ _ _ _ _ = one_more c.args.inst.now c.args.longest.now c.args.speeds.now c.loop-k.k c.loop-k.time c.loop-k.speed c.time_of-time.result
    _ _ c.requires.class c.requires.asked c.requires.all c.loop-k-test.true refl c.time_of-time.ensures refl c.loop-k.invariant.together in
    omega (arith, next.short, c.loop-k-test.true, all_longest c.args.inst.now c.args.longest.now c.requires.longest, c.requires.class.conditions.few)

pub overflow_cast-k : goal.overflow_cast-k
overflow_cast-k c = omega (arith, c.loop-k-test.true, all_longest c.args.inst.now c.args.longest.now c.requires.longest, c.requires.class.conditions.few)

sums : (c : After-own_speed-speed)
    → AreTogether c.args.inst.now c.args.longest.now c.args.speeds.now (c.loop-k.k + 1) (c.loop-k.time + c.time_of-time.result) (c.loop-k.speed + c.own_speed-speed.result)
sums c = one_more c.args.inst.now c.args.longest.now c.args.speeds.now c.loop-k.k c.loop-k.time c.loop-k.speed
    _ _ _ c.requires.class c.requires.asked c.requires.all c.loop-k-test.true refl c.time_of-time.ensures c.own_speed-speed.ensures c.loop-k.invariant.together

pub overflow_add-speed : goal.overflow_add-speed
overflow_add-speed c = omega (arith, (sums c).slow, c.loop-k-test.true, all_longest c.args.inst.now c.args.longest.now c.requires.longest, c.requires.class.conditions.few)

pub over-requires-clause-den : goal.over-requires-clause-den
over-requires-clause-den c = omega (arith, (sums c).slow, c.loop-k-test.true, all_longest c.args.inst.now c.args.longest.now c.requires.longest, c.requires.class.conditions.few)

pub over-requires-clause-some : goal.over-requires-clause-some
over-requires-clause-some c = some_speed c.args.inst.now c.args.longest.now c.args.speeds.now c.loop-k.k _ _ c.requires.class c.requires.asked c.requires.all (sums c)

pub returns-then-equals : goal.returns-then-equals
returns-then-equals c =
    let worth = longest_worth c.args.inst.now c.args.longest.now c.args.speeds.now c.loop-k.k _ _ c.over.result c.requires.longest c.requires.asked
    c.requires.all c.requires.falls c.loop-k-test.true (sums (goal.at.returns-then-equals c).After-own_speed-speed) c.over.ensures.num c.over.ensures.den in (
      omega (arith, c.loop-k-test.true, all_longest c.args.inst.now c.args.longest.now c.requires.longest),
      (c.if-equals.ensures c.args.inst.now (Group (take (c.loop-k.k + 1) c.args.longest.now)) worth).0 refl,
      c.loop-k.invariant.before,
    )

pub loop-k-preserved : goal.loop-k-preserved
loop-k-preserved c =
    let sum = sums (goal.at.loop-k-preserved c).After-own_speed-speed in
    let worth = longest_worth c.args.inst.now c.args.longest.now c.args.speeds.now c.loop-k.k
    _ _ c.over.result c.requires.longest c.requires.asked c.requires.all c.requires.falls c.loop-k-test.true sum c.over.ensures.num c.over.ensures.den in
    record {
      together = sum;
      before = below_more (λ j. ¬ HasValue c.args.inst.now c.args.cost.now (Group (take (j + 1) c.args.longest.now)))
          c.loop-k.k c.loop-k.invariant.before (λ h. false≢true ((c.if-equals.ensures c.args.inst.now (Group (take (c.loop-k.k + 1) c.args.longest.now)) worth).1 h));
    }

pub returns : goal.returns
returns c = λ k b. c.loop-k.invariant.before k (omega (arith, b, c.loop-k-test.false, all_longest c.args.inst.now c.args.longest.now c.requires.longest))
