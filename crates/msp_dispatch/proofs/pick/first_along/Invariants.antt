use Rattle.std.proofs.Common.{ℕ, ◌<◌}
use Rattle.std.specs.Prelude.{slice_get, IfSome}
use Rattle.msp_table.specs.Rows.{carries}
use Rattle.msp_table.specs.Chains.{Reaches}
use Rattle.msp_dispatch.specs.Solved.{solved_list}
use Rattle.msp_dispatch.proofs.pick.first_along.Given as goal

abbrev pub invariant-loop-place : goal.invariant-loop-place
invariant-loop-place l = (k : ℕ) → k < l.place → IfSome (slice_get solved_list k) (λ e. ¬ Reaches carries l.routes e.class)
