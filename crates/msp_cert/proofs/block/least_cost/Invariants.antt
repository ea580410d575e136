use Rattle.std.proofs.Common.{take}
use Rattle.std.specs.Option.{IfSome}
use Rattle.msp_instance.specs.Conditions.{LiesWithin}
use Rattle.msp_pieces.specs.Blocks.{cost_at}
use Rattle.msp_cert.specs.Least.{IsLast, IsLeast}
use Rattle.msp_cert.specs.Worth.{greatest_value}
use Rattle.msp_cert.proofs.block.least_cost.Given as goal

-- the least cost of the jobs so far
abbrev pub invariant-loop-k : goal.invariant-loop-k
invariant-loop-k l = record {
  value : IsLeast (IsLast l.paths l.jobs) (λ j. cost_at l.inst j l.moment) (take l.k l.jobs) l.least;
  size : IfSome l.least (LiesWithin greatest_value);
}
