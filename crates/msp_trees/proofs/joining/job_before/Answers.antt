-- The first arc that leads to the job tells what is before it.
use Rattle.std.proofs.Common.{length, sym, ap, ◌∙◌}
use Rattle.std.proofs.lemmas.List.{drop_all}
use Rattle.msp_trees.specs.Horn.{first_before}
use Rattle.msp_trees.proofs.Picks.{before-found, before-next}
use Rattle.msp_trees.proofs.joining.job_before.Goals as goal

pub loop-arc-init : goal.loop-arc-init
loop-arc-init c = ap (λ l. first_before l (length c.args.inst.now.jobs) c.args.job) (sym c.as_slice-arc-items.ensures)

pub returns-then-arc-job : goal.returns-then-arc-job
returns-then-arc-job c = before-found c.as_slice-arc-items.result.now c.loop-arc.arc-index (length c.args.inst.now.jobs) c.args.job _ _ c.loop-arc-test.true c.if-arc-job.true c.loop-arc.invariant

pub loop-arc-preserved : goal.loop-arc-preserved
loop-arc-preserved c = before-next c.as_slice-arc-items.result.now c.loop-arc.arc-index (length c.args.inst.now.jobs) c.args.job _ _ c.loop-arc-test.true c.if-arc-job.false c.loop-arc.invariant

pub returns : goal.returns
returns c =
    c.len.ensures ∙ sym (c.loop-arc.invariant ∙ ap (λ l. first_before l (length c.args.inst.now.jobs) c.args.job) (drop_all c.loop-arc.arc-index c.as_slice-arc-items.result.now c.loop-arc-test.false))
