use Rattle.std.proofs.Common.{◌≡◌, ◌*◌, ◌-◌, ◌^◌, ◌≤◌, length}
use Rattle.msp_uniform.specs.declared.unit.TheConstants.{GREATEST_PRODUCT}
use Rattle.msp_uniform.specs.Uniform.{gap, sum}
use Rattle.msp_uniform.proofs.unit.has_small_unit.Given as goal

-- the product for the machines so far
abbrev pub invariant-loop : goal.invariant-loop
invariant-loop l = record {
  value : l.product ≡ sum l.speeds * gap l.speeds ^ (l.counter - 1);
  small : l.product ≤ GREATEST_PRODUCT;
  some : 1 ≤ l.counter;
  inside : l.counter ≤ length l.speeds;
}
