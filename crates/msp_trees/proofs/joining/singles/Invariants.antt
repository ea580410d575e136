-- The blocks so far.
use Rattle.std.proofs.Common.{◌≡◌, ℕ, [], ◌∷◌, map}
use Rattle.std.specs.List.{range_with_len}
use Rattle.msp_trees.proofs.joining.singles.Given as goal

-- the start, and the jobs so far
abbrev pub invariant-loop-job : goal.invariant-loop-job
invariant-loop-job l = l.blocks.items ≡ (l.count ∷ []) ∷ map (λ (j : ℕ). j ∷ []) (range_with_len 0 l.job)
