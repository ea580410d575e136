use Rattle.std.proofs.Common.{arith}
use Rattle.msp_srpt.proofs.Queue.{still_put, GoesOn-complete, GoesOn-cut}
use Rattle.msp_srpt.proofs.shortest.serve.Goals as goal

pub returns-then-task-room-clause-next : goal.returns-then-task-room-clause-next
returns-then-task-room-clause-next c = GoesOn-complete c.args.until c.args.from c.args.task _ _ _ c.requires.some c.if-task-room.true c.requires.room c.requires.first c.in_ok-lay.ensures.run

pub returns-clause-left : goal.returns-clause-left
returns-clause-left c = still_put _ _ _ c.in_ok-put.ensures.tasks (omega (arith, c.if-task-room.false)) c.requires.left

pub returns-clause-next : goal.returns-clause-next
returns-clause-next c = GoesOn-cut c.args.until c.args.from c.args.task _ _ _ _ c.if-task-room.false c.requires.room c.requires.first c.in_ok-lay-2.ensures.run c.in_ok-put.ensures.tasks
