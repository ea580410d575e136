-- The jobs are put at the end one by one.
use Rattle.std.proofs.Common.{◌++◌, sym, ap, ◌∙◌}
use Rattle.std.proofs.lemmas.List.{append-nil, take_all}
use Rattle.msp_trees.proofs.Picks.{appended-next}
use Rattle.msp_trees.proofs.joining.append.Goals as goal

pub loop-k-init : goal.loop-k-init
loop-k-init c = sym (append-nil c.args.block.now)

pub loop-k-preserved : goal.loop-k-preserved
loop-k-preserved c = appended-next c.args.block.now c.loop-k.block c.put.new.self c.args.jobs.now c.loop-k.k c.in_ok-put.ensures.put c.loop-k-test.true c.loop-k.invariant

pub returns : goal.returns
returns c = c.loop-k.invariant ∙ ap (λ l. c.args.block.now ++ l) (take_all c.loop-k.k c.args.jobs.now c.loop-k-test.false)
