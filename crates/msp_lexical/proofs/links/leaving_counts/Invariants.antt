use Rattle.std.proofs.Common.{◌≡◌, ℕ, ◌<◌, length, slice_index, take}
use Rattle.msp_class.specs.declared.sizes.TheConstants.{MOST_JOBS}
use Rattle.msp_instance.specs.Conditions.{leaving}
use Rattle.msp_lexical.proofs.links.leaving_counts.Given as goal

-- the arcs so far
abbrev pub invariant-loop-arc : goal.invariant-loop-arc
invariant-loop-arc l = record {
  whole : length l.counts ≡ MOST_JOBS;
  each : (j : ℕ) → j < MOST_JOBS → slice_index l.counts j ≡ leaving (take l.arc-index l.arcs) j;
}
