use Rattle.std.proofs.Common.{ℕ, ◌<◌, slice_index}
use Rattle.msp_lexical.proofs.label.first_free.Given as goal

-- from each of the jobs so far an arc leads to another
abbrev pub invariant-loop-place : goal.invariant-loop-place
invariant-loop-place l = (q : ℕ) → q < l.place → 0 < slice_index l.counts (slice_index l.left q)
