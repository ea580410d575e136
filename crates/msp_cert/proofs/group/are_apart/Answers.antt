use Rattle.std.proofs.Common.{refl}
use Rattle.std.proofs.lemmas.Bool.{false≢true}
use Rattle.msp_cert.proofs.Apart.{seen_before, all_apart, seen_next}
use Rattle.msp_cert.proofs.group.are_apart.Goals as goal

pub returns-then-seen-at : goal.returns-then-seen-at
returns-then-seen-at c =
    (λ yes. absurd (false≢true yes), λ apart. absurd (seen_before c.args.jobs.now c.loop-k.k c.loop-k.seen c.requires c.loop-k.invariant c.loop-k-test.true c.if-seen-at.true apart))

pub loop-k-preserved : goal.loop-k-preserved
loop-k-preserved c = seen_next c.args.jobs.now c.loop-k.k c.loop-k.seen c.requires c.loop-k.invariant c.loop-k-test.true c.if-seen-at.false

pub returns : goal.returns
returns c = (λ _. all_apart c.args.jobs.now c.loop-k.k c.loop-k.seen c.loop-k.invariant c.loop-k-test.false, λ _. refl)
