-- What a curve adds in steps is at most all its adds.
use Rattle.std.proofs.Common.{ℕ, ◌+◌, ◌≤◌, true, false, List, [], ◌∷◌, ℤ, pos, ◌*ℤ◌, sum_by, fold, if◌then◌else◌, arith}
use Rattle.std.specs.Prelude.{int_lt}
use Rattle.msp_instance.specs.declared.Step.{Step}
use Rattle.msp_pieces.specs.Cost.{jump}

jump_le : (unit : ℤ) (s : Step) (x : ℤ) → jump unit s x ≤ s.add
jump_le unit s x = elim (int_lt (unit *ℤ pos s.above) x) as (λ b. (if b then s.add else 0) ≤ s.add) [ true ↦ omega arith | false ↦ omega arith ]

jumps_le_from : (unit x : ℤ) (a b : ℕ) (steps : List Step) → a ≤ b → fold (λ n s. n + jump unit s x) a steps ≤ fold (λ n s. n + s.add) b steps
jumps_le_from unit x a b [] h = h
jumps_le_from unit x a b (s ∷ steps) h = let one = jump_le unit s x in jumps_le_from unit x (a + jump unit s x) (b + s.add) steps (omega arith)

pub jumps_le : (unit x : ℤ) (steps : List Step) → sum_by (λ s. jump unit s x) steps ≤ sum_by (λ s. s.add) steps
jumps_le unit x steps = jumps_le_from unit x 0 0 steps (omega arith)
