use Rattle.std.proofs.Common.{◌+◌, ◌<◌, length, ◌∙◌, refl, sym, ap, arith}
use Rattle.std.proofs.lemmas.List.Sums.{sum_by_more}
use Rattle.msp_uniform.specs.Segments.{at}
use Rattle.msp_uniform.proofs.QuotientFacts.{IsGreatestUpTo-first, IsGreatestUpTo-next}
use Rattle.msp_uniform.proofs.quotient.greatest_quotient.Goals as goal

pub loop-k-init : goal.loop-k-init
loop-k-init c = record {
  work = refl;
  work_small = omega arith;
  speed = refl;
  speed_small = omega arith;
  best = IsGreatestUpTo-first c.args.times.now c.args.speeds.now c.args.jobs.now c.args.machines.now _ _ c.requires.some c.requires.machines c.requires.speeds c.sum_at.ensures c.sum_at-2.ensures;
}

pub loop-k-preserved : goal.loop-k-preserved
loop-k-preserved c =
    let job : c.loop-k.k < length c.args.jobs.now = omega (arith, c.loop-k-test.true) in
    let machine : c.loop-k.k < length c.args.machines.now = omega (arith, c.loop-k-test.true, c.requires.some) in
    let work = ap (λ w. w + at c.args.times.now (at c.args.jobs.now c.loop-k.k)) c.loop-k.invariant.work ∙ sym (sum_by_more (at c.args.times.now) c.args.jobs.now c.loop-k.k 0 job) in
    let speed = ap (λ w. w + at c.args.speeds.now (at c.args.machines.now c.loop-k.k)) c.loop-k.invariant.speed ∙ sym (sum_by_more (at c.args.speeds.now) c.args.machines.now c.loop-k.k 0 machine) in
    record {
      work = work;
      work_small = omega (arith, c.loop-k.invariant.work_small, c.requires.times _ 0 (c.requires.jobs c.loop-k.k 0 job));
      speed = speed;
      speed_small = omega (arith, c.loop-k.invariant.speed_small, (c.requires.speeds _ 0 (c.requires.machines c.loop-k.k 0 machine)).1);
      best = IsGreatestUpTo-next c.args.times.now c.args.speeds.now c.args.jobs.now c.args.machines.now
          c.loop-k.k _ _ _ _ _ _ c.loop-k.invariant.best machine job c.requires.machines c.requires.speeds work speed c.greater-best.ensures;
    }
