use Rattle.std.proofs.Common.{◌≡◌, ℕ, eqb, slice_index, get_or}
use Rattle.std.specs.Prelude.{◌&&◌}
use Rattle.msp_instance.specs.Paths.{leads}
use Rattle.msp_due.specs.Steps.{how_many}
use Rattle.msp_due.proofs.lowering.counts_after.Given as goal

-- the jobs so far are counted
abbrev pub invariant-loop-other : goal.invariant-loop-other
invariant-loop-other l = (c : ℕ) → slice_index l.counts c ≡ how_many l.other (λ z. leads l.paths l.job z && eqb (get_or l.slots z 0) c)
