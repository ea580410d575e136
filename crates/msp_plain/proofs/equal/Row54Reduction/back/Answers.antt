-- The closed schedule is feasible, ends early, and costs no more.
use Rattle.std.proofs.Common.{sym, subst}
use Rattle.msp_route.specs.Law.{IsReordered}
use Rattle.msp_route.specs.Bounds.{EndsBy}
use Rattle.msp_route.specs.declared.bounds.TheConstants.{GREATEST_CLOSED_UP}
use Rattle.msp_plain.specs.Equal.{closed_up}
use Rattle.msp_plain.proofs.EqualBounds.{early, feasible_back, within_back, brought_back}
use Rattle.msp_plain.proofs.equal.Row54Reduction.back.Goals as goal

pub close_up-requires-clause-small : goal.close_up-requires-clause-small
close_up-requires-clause-small c = subst (λ n. EndsBy GREATEST_CLOSED_UP (closed_up n c.args.lower.schedule)) (sym c.common_time.ensures)
    (early c.args.inst.now c.requires.inner c.requires.applies c.args.lower.schedule c.requires.solution.feasible c.requires.bounded)

pub cost-cost-requires-clause-within : goal.cost-cost-requires-clause-within
cost-cost-requires-clause-within c = within_back c.args.inst.now c.requires.inner c.requires.applies c.args.lower.schedule c.requires.solution.feasible c.requires.bounded c.close_up.new.s
    (subst (λ n. IsReordered (closed_up n c.args.lower.schedule) c.close_up.new.s) c.common_time.ensures c.close_up.ensures)

pub cost-cost-requires-clause-feasible : goal.cost-cost-requires-clause-feasible
cost-cost-requires-clause-feasible c = feasible_back c.args.inst.now c.requires.inner c.requires.applies c.args.lower.schedule c.requires.solution.feasible c.requires.bounded c.close_up.new.s
    (subst (λ n. IsReordered (closed_up n c.args.lower.schedule) c.close_up.new.s) c.common_time.ensures c.close_up.ensures)

pub returns : goal.returns
returns c = brought_back c.args.inst.now c.requires.inner c.requires.applies c.args.lower.schedule c.requires.solution.feasible c.requires.bounded c.close_up.new.s
    (subst (λ n. IsReordered (closed_up n c.args.lower.schedule) c.close_up.new.s) c.common_time.ensures c.close_up.ensures) c.cost-cost.result c.cost-cost.ensures.value
