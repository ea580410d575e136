use Rattle.std.proofs.Common.{◌≡◌, ℕ, ◌<◌, count_by}
use Rattle.std.specs.Prelude.{nat_le}
use Rattle.msp_cert.specs.declared.Proof.TheVariants.{Levels}
use Rattle.msp_cert.specs.Search.{HasValue}
use Rattle.msp_cert.proofs.search.first_tail.Given as goal

-- so many jobs reach the tail, and none of those so far has the value
abbrev pub invariant-loop-tail : goal.invariant-loop-tail
invariant-loop-tail l = record {
  high : l.high ≡ count_by (nat_le l.tail) l.level;
  before : (t : ℕ) → t < l.tail → ¬ HasValue l.inst l.cost (Levels l.level t);
}
