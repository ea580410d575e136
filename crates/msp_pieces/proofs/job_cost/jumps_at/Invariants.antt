use Rattle.std.proofs.Common.{◌≡◌, ◌*◌, ◌≤◌, ◌^◌, sum_by, take}
use Rattle.msp_pieces.specs.Cost.{jump}
use Rattle.msp_pieces.proofs.job_cost.jumps_at.Given as goal

-- the total so far is what the steps so far add
abbrev pub invariant-loop-step : goal.invariant-loop-step
invariant-loop-step l = record {
  total : l.total ≡ sum_by (λ s. jump l.unit s l.end) (take l.step-index l.curve.steps);
  small : l.total ≤ 2 ^ 64 * l.step-index;
}
