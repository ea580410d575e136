-- The chain that is left, and what comes back over its first row.
use Rattle.std.proofs.Common.{◌<◌, length, sym, subst}
use Rattle.std.proofs.lemmas.Result.{IfOk-weaker}
use Rattle.msp_pieces.specs.Cost.{IsSolution, IsBest}
use Rattle.msp_route.specs.Bounds.{EndsBy, IsSized, IsBounded}
use Rattle.msp_carry.specs.Carried.{carried}
use Rattle.msp_carry.specs.Moments.{moment_over}
use Rattle.msp_carry.proofs.ChainSteps.{behind, first_step, no_rows, carried_on, IsBounded-chain, IfOk-ends}
use Rattle.msp_carry.proofs.along.+bring_over.Goals as goal

pub down-requires-clause-carries : goal.down-requires-clause-carries
down-requires-clause-carries t c = (first_step c.args.inst.now c.row-item.result c.args.rows.now c.requires.chain.0 c.in-len1-up.len_at_least c.row-item.is c.requires.chain.1).usable

pub down-requires-clause-applies : goal.down-requires-clause-applies
down-requires-clause-applies t c = (first_step c.args.inst.now c.row-item.result c.args.rows.now c.requires.chain.0 c.in-len1-up.len_at_least c.row-item.is c.requires.chain.1).applies

pub bring_over-requires : goal.bring_over-requires
bring_over-requires t c =
    let first = first_step c.args.inst.now c.row-item.result c.args.rows.now c.requires.chain.0 c.in-len1-up.len_at_least c.row-item.is c.requires.chain.1 in
    let led = c.in_ok-lower-in-len1-up.ensures.led in
    let same = carried_on first c.in_ok-lower-in-len1-up.ensures.same in
    let less = subst (λ n. length (behind c.args.rows.now) < n) c.decreases first.shorter in
    let solution = subst (λ x. IsSolution x c.args.last) same c.requires.solution in
    let sized = subst (λ x. IsSized x c.args.last.schedule) same c.requires.sized in
    (less, (led.inner, ((c.requires.chain.0, first.rest c.in_ok-lower-in-len1-up.lower led), (solution, (sized, c.requires.ends)))))

pub back-requires-clause-carries : goal.back-requires-clause-carries
back-requires-clause-carries t c = (first_step c.args.inst.now c.row-item.result c.args.rows.now c.requires.chain.0 c.in-len1-up.len_at_least c.row-item.is c.requires.chain.1).usable

pub back-requires-clause-bounded : goal.back-requires-clause-bounded
back-requires-clause-bounded t c =
    let first = first_step c.args.inst.now c.row-item.result c.args.rows.now c.requires.chain.0 c.in-len1-up.len_at_least c.row-item.is c.requires.chain.1 in
    let lower = c.in_ok-lower-in-len1-up.lower in
    let s = c.in_ok-solution-in-len1-up.solution.schedule in
    subst (λ x. IsBounded x s) c.in_ok-lower-in-len1-up.ensures.same
    (IsBounded-chain lower _ c.requires.chain.0 s (first.rest lower c.in_ok-lower-in-len1-up.ensures.led) c.in_ok-solution-in-len1-up.ensures.sized c.in_ok-solution-in-len1-up.ensures.ends)

pub returns-in_ok-solution-in-len1-up-clause-ends : goal.returns-in_ok-solution-in-len1-up-clause-ends
returns-in_ok-solution-in-len1-up-clause-ends t c =
    IfOk-ends _ c.in_ok-solution-in-len1-up.solution.schedule c.back.result
    (first_step c.args.inst.now c.row-item.result c.args.rows.now c.requires.chain.0 c.in-len1-up.len_at_least c.row-item.is c.requires.chain.1)
    c.in_ok-solution-in-len1-up.ensures.ends c.back.ensures.bounds

pub back-requires-clause-applies : goal.back-requires-clause-applies
back-requires-clause-applies t c = (first_step c.args.inst.now c.row-item.result c.args.rows.now c.requires.chain.0 c.in-len1-up.len_at_least c.row-item.is c.requires.chain.1).applies

pub back-requires-clause-solution : goal.back-requires-clause-solution
back-requires-clause-solution t c =
    subst (λ x. IsSolution x c.in_ok-solution-in-len1-up.solution) c.in_ok-lower-in-len1-up.ensures.same c.in_ok-solution-in-len1-up.ensures.solution

pub returns-in_ok-solution-in-len1-up-clause-best : goal.returns-in_ok-solution-in-len1-up-clause-best
returns-in_ok-solution-in-len1-up-clause-best t c best =
    let first = first_step c.args.inst.now c.row-item.result c.args.rows.now c.requires.chain.0 c.in-len1-up.len_at_least c.row-item.is c.requires.chain.1 in
    let same = c.in_ok-lower-in-len1-up.ensures.same in
    c.back.ensures.best (subst (λ x. IsBest x c.in_ok-solution-in-len1-up.solution) same
    (c.in_ok-solution-in-len1-up.ensures.best (subst (λ x. IsBest x c.args.last) (carried_on first same) best)))

pub returns-in_ok-solution-in-len1-up-clause-sized : goal.returns-in_ok-solution-in-len1-up-clause-sized
returns-in_ok-solution-in-len1-up-clause-sized t c = IfOk-weaker c.back.result _ _ (λ s is. is.sized) c.back.ensures.bounds

pub returns-in_ok-solution-in-len1-up-clause-solution : goal.returns-in_ok-solution-in-len1-up-clause-solution
returns-in_ok-solution-in-len1-up-clause-solution t c = c.back.ensures.solution

pub returns-in-empty-clause-solution : goal.returns-in-empty-clause-solution
returns-in-empty-clause-solution t c = subst (λ rows. IsSolution (carried rows c.args.inst.now) c.args.last) (no_rows c.args.rows.now c.in-empty.len_below) c.requires.solution

pub returns-in-empty-clause-best : goal.returns-in-empty-clause-best
returns-in-empty-clause-best t c best = subst (λ rows. IsBest (carried rows c.args.inst.now) c.args.last) (no_rows c.args.rows.now c.in-empty.len_below) best

pub returns-in-empty-clause-sized : goal.returns-in-empty-clause-sized
returns-in-empty-clause-sized t c = subst (λ rows. IsSized (carried rows c.args.inst.now) c.args.last.schedule) (no_rows c.args.rows.now c.in-empty.len_below) c.requires.sized

pub returns-in-empty-clause-ends : goal.returns-in-empty-clause-ends
returns-in-empty-clause-ends t c = subst (λ rows. EndsBy (moment_over rows) c.args.last.schedule) (sym (no_rows c.args.rows.now c.in-empty.len_below)) c.requires.ends
