use Rattle.std.proofs.Common.{ℕ, ◌+◌, ◌*◌, ◌<◌, pos, ◌+ℤ◌, ◌≤ℤ◌}
use Rattle.std.specs.Prelude.{slice_index_or}
use Rattle.msp_cert.proofs.prices.is_fair_on.Given as goal

-- the positions so far are fair
abbrev pub invariant-loop-k : goal.invariant-loop-k
invariant-loop-k l = (p : ℕ) → p < l.k → (l.price +ℤ slice_index_or l.column (l.start + p) (pos 0)) ≤ℤ pos ((p + 1) * l.time)
