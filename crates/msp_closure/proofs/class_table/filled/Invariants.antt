-- What the loop of `filled` keeps.
use Rattle.std.proofs.Common.{◌≡◌, ℕ, ◌<◌, length, get_or}
use Rattle.msp_closure.proofs.class_table.filled.Given as goal

abbrev pub invariant-loop-k : goal.invariant-loop-k
invariant-loop-k g l = (length l.values.items ≡ l._k) × ((j : ℕ) (d : _) → j < l._k → get_or l.values.items j d ≡ l.fn.value)
