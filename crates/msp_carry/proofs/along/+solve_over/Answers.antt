-- The chain that is left, and what comes back over its first row.
use Rattle.std.proofs.Common.{◌<◌, length, sym, subst, IfOk}
use Rattle.std.proofs.lemmas.Result.{IfOk-weaker}
use Rattle.msp_pieces.specs.Cost.{IsBest}
use Rattle.msp_route.specs.Bounds.{EndsBy, IsBounded}
use Rattle.msp_route.proofs.Composed.{IsBounded-from_answer}
use Rattle.msp_carry.specs.Carried.{carried}
use Rattle.msp_carry.specs.Moments.{moment_over}
use Rattle.msp_carry.proofs.ChainSteps.{behind, first_step, no_rows, stays_at, carried_on, IsBounded-chain, IfOk-ends}
use Rattle.msp_carry.proofs.along.+solve_over.Goals as goal

pub solve-requires-clause-class : goal.solve-requires-clause-class
solve-requires-clause-class g t c = stays_at c.args.inst.now.class _ c.args.rows.now c.in-empty.len_below c.requires.chain.leads

pub down-requires-clause-carries : goal.down-requires-clause-carries
down-requires-clause-carries g t c = (first_step c.args.inst.now c.row-item.result c.args.rows.now _ c.in-len1-up.len_at_least c.row-item.is c.requires.chain).usable

pub down-requires-clause-applies : goal.down-requires-clause-applies
down-requires-clause-applies g t c = (first_step c.args.inst.now c.row-item.result c.args.rows.now _ c.in-len1-up.len_at_least c.row-item.is c.requires.chain).applies

pub solve_over-requires : goal.solve_over-requires
solve_over-requires g t c κs within =
    let first = first_step c.args.inst.now c.row-item.result c.args.rows.now _ c.in-len1-up.len_at_least c.row-item.is c.requires.chain in
    let led = c.in_ok-lower-in-len1-up.ensures.led in
    let less = subst (λ n. length (behind c.args.rows.now) < n) c.decreases first.shorter in
    let fits = subst (λ x. g.S.Solver.can_solve c.args.solver.now x) (carried_on first c.in_ok-lower-in-len1-up.ensures.same) c.requires.fits in
    (less, (within, (led.inner, (first.rest c.in_ok-lower-in-len1-up.lower led, fits))))

pub back-requires-clause-carries : goal.back-requires-clause-carries
back-requires-clause-carries g t c = (first_step c.args.inst.now c.row-item.result c.args.rows.now _ c.in-len1-up.len_at_least c.row-item.is c.requires.chain).usable

pub back-requires-clause-bounded : goal.back-requires-clause-bounded
back-requires-clause-bounded g t c =
    let first = first_step c.args.inst.now c.row-item.result c.args.rows.now _ c.in-len1-up.len_at_least c.row-item.is c.requires.chain in
    let lower = c.in_ok-lower-in-len1-up.lower in
    let s = c.in_ok-solution-in-len1-up.solution.schedule in
    subst (λ x. IsBounded x s) c.in_ok-lower-in-len1-up.ensures.same
    (IsBounded-chain lower _ _ s (first.rest lower c.in_ok-lower-in-len1-up.ensures.led) c.in_ok-solution-in-len1-up.ensures.sized c.in_ok-solution-in-len1-up.ensures.ends)

pub returns-in_ok-solution-in-len1-up-clause-ends : goal.returns-in_ok-solution-in-len1-up-clause-ends
returns-in_ok-solution-in-len1-up-clause-ends g t c =
    IfOk-ends _ c.in_ok-solution-in-len1-up.solution.schedule c.back.result (first_step c.args.inst.now c.row-item.result c.args.rows.now _ c.in-len1-up.len_at_least c.row-item.is c.requires.chain)
    c.in_ok-solution-in-len1-up.ensures.ends c.back.ensures.bounds

pub back-requires-clause-applies : goal.back-requires-clause-applies
back-requires-clause-applies g t c = (first_step c.args.inst.now c.row-item.result c.args.rows.now _ c.in-len1-up.len_at_least c.row-item.is c.requires.chain).applies

pub returns-in_ok-solution-in-len1-up-clause-best : goal.returns-in_ok-solution-in-len1-up-clause-best
returns-in_ok-solution-in-len1-up-clause-best g t c =
    c.back.ensures.best (subst (λ x. IsBest x c.in_ok-solution-in-len1-up.solution) c.in_ok-lower-in-len1-up.ensures.same c.in_ok-solution-in-len1-up.ensures.best)

pub returns-in_ok-solution-in-len1-up-clause-sized : goal.returns-in_ok-solution-in-len1-up-clause-sized
returns-in_ok-solution-in-len1-up-clause-sized g t c = IfOk-weaker c.back.result _ _ (λ s is. is.sized) c.back.ensures.bounds

pub solve-requires-clause-fits : goal.solve-requires-clause-fits
solve-requires-clause-fits g t c = subst (λ rows. g.S.Solver.can_solve c.args.solver.now (carried rows c.args.inst.now)) (no_rows c.args.rows.now c.in-empty.len_below) c.requires.fits

pub returns-in-empty-clause-sized : goal.returns-in-empty-clause-sized
returns-in-empty-clause-sized g t c = IfOk-weaker c.solve.result _ _ (λ s is. (IsBounded-from_answer c.args.inst.now s.schedule is).sized) c.solve.ensures.bounds

pub returns-in-empty-clause-ends : goal.returns-in-empty-clause-ends
returns-in-empty-clause-ends g t c = subst (λ rows. IfOk c.solve.result (λ s. EndsBy (moment_over rows) s.schedule))
    (sym (no_rows c.args.rows.now c.in-empty.len_below)) (IfOk-weaker c.solve.result _ _ (λ s is. is.ends) c.solve.ensures.bounds)
