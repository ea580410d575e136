use Rattle.std.proofs.Common.{◌≡◌, ℕ, ◌+◌, ◌<◌, get_or, length}
use Rattle.msp_cert.proofs.true_levels.put_heights.Given as goal

-- the jobs so far have their heights
abbrev pub invariant-loop-k : goal.invariant-loop-k
invariant-loop-k l = record {
  wide : length l.heights.items ≡ length l.fn.heights.items;
  after : (p : ℕ) → p < l.k → get_or l.heights.items (get_or l.order p 0) 0 + p + 1 ≡ length l.order;
}
