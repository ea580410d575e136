use Rattle.std.proofs.Common.{◌≡◌, ◌*◌, ◌≤◌, take, sum_by}
use Rattle.msp_class.specs.declared.sizes.TheConstants.{GREATEST}
use Rattle.msp_uniform.specs.Segments.{at}
use Rattle.msp_uniform.specs.Quotients.{IsGreatestUpTo}
use Rattle.msp_uniform.proofs.quotient.greatest_quotient.Given as goal

-- the first jobs and machines so far, and the greatest quotient so far
abbrev pub invariant-loop-k : goal.invariant-loop-k
invariant-loop-k l = record {
  work : l.work ≡ sum_by (at l.times) (take l.k l.jobs);
  work_small : l.work ≤ GREATEST * l.k;
  speed : l.speed ≡ sum_by (at l.speeds) (take l.k l.machines);
  speed_small : l.speed ≤ GREATEST * l.k;
  best : IsGreatestUpTo l.k (at l.times) (at l.speeds) l.jobs l.machines l.best.work l.best.speed;
}
