use Rattle.std.proofs.Common.{ap, arith}
use Rattle.msp_srpt.specs.Running.{tasks_in}
use Rattle.msp_srpt.proofs.Queue.{still_taken, GoesOn-idle, GoesOn-next}
use Rattle.msp_srpt.proofs.shortest.run_until.Goals as goal

pub returns-in-None-clause-next : goal.returns-in-None-clause-next
returns-in-None-clause-next c =
    let none = c.in-None.ensures.none in
    let i = c.loop-moment.invariant in
    GoesOn-idle c.args.until c.args.from c.loop-moment.moment _ _ _ _ _ none.0 (ap tasks_in none.1) i.early i.next

pub serve-requires-clause-some : goal.serve-requires-clause-some
serve-requires-clause-some c = (still_taken _ _ _ c.in-Some.ensures.tasks c.loop-moment.invariant.left).0

pub serve-requires-clause-left : goal.serve-requires-clause-left
serve-requires-clause-left c = (still_taken _ _ _ c.in-Some.ensures.tasks c.loop-moment.invariant.left).1

pub loop-moment-preserved : goal.loop-moment-preserved
loop-moment-preserved c =
    let i = c.loop-moment.invariant in
    let h = c.in_ok-moment-in-Some.ensures in
    record {
      early = h.later.1;
      left = h.left;
      queue = h.queue;
      next = GoesOn-next c.args.until c.args.from c.loop-moment.moment _ _ _ _ _ _ _ _ _ c.in-Some.ensures.tasks h.next i.next;
      few = omega (arith, h.few, c.in-Some.ensures.len, i.few, c.loop-moment-test.true);
    }
