use Rattle.std.proofs.Common.{[], ◌∷◌, ◌++◌, sym, ap, subst, ◌∙◌, arith}
use Rattle.msp_route.proofs.OneInstances.{IsOneInstance-from}
use Rattle.msp_srpt.proofs.HeadSteps.{HaveRun, HaveRun-start, job_inside, head_inside, ends_soon, have_next, RunInOrder-end}
use Rattle.msp_srpt.proofs.equal_heads.pieces_in_order.Goals as goal

pub loop-k-init : goal.loop-k-init
loop-k-init c = subst (HaveRun c.args.inst.now c.args.heads.now c.args.order.now 0 0) (sym c.new-pieces.ensures) (HaveRun-start c.args.inst.now c.args.heads.now c.args.order.now)

pub bounds-heads-job : goal.bounds-heads-job
bounds-heads-job c = head_inside c.args.inst.now (IsOneInstance-from c.args.inst.now c.requires.machine c.requires.inner)
    c.args.heads.now c.args.order.now c.requires.heads c.requires.all c.loop-k.k c.loop-k-test.true

pub time_of-requires-clause-inside : goal.time_of-requires-clause-inside
time_of-requires-clause-inside c =
    job_inside c.args.inst.now (IsOneInstance-from c.args.inst.now c.requires.machine c.requires.inner) c.args.heads.now c.args.order.now c.requires.heads c.requires.all c.loop-k.k c.loop-k-test.true

pub overflow_add-moment : goal.overflow_add-moment
overflow_add-moment c =
    omega (
      arith,
      ends_soon c.args.inst.now (IsOneInstance-from c.args.inst.now c.requires.machine c.requires.inner) c.args.heads.now c.args.order.now c.requires.heads
          c.requires.all c.loop-k.k c.loop-k-test.true c.loop-k.moment c.loop-k.pieces c.loop-k.invariant _ _ c.max-from.ensures c.time_of.ensures.value,
    )

pub loop-k-preserved : goal.loop-k-preserved
loop-k-preserved c =
    have_next c.args.inst.now (IsOneInstance-from c.args.inst.now c.requires.machine c.requires.inner) c.args.heads.now c.args.order.now c.requires.heads
    c.requires.all c.loop-k.k c.loop-k-test.true c.loop-k.moment c.loop-k.pieces c.loop-k.invariant _ _ c.max-from.ensures c.time_of.ensures.value
    _ (c.in_ok-put.ensures.put ∙ ap (λ p. c.loop-k.pieces ++ p ∷ []) c.piece_of.ensures)

pub returns : goal.returns
returns c = RunInOrder-end c.args.inst.now c.args.heads.now c.args.order.now c.loop-k.k c.loop-k.moment c.loop-k.pieces
    (omega (arith, c.loop-k-test.false)) c.requires.all c.requires.rising c.loop-k.invariant
