use Rattle.std.proofs.Common.{◌≡◌, ℕ, ◌<◌, length, slice_index}
use Rattle.msp_class.specs.declared.sizes.TheConstants.{MOST_JOBS}
use Rattle.msp_instance.specs.Paths.{leads}
use Rattle.msp_lexical.specs.Steps.{IsLabelling}
use Rattle.msp_lexical.specs.Counts.{arcs_into}
use Rattle.msp_lexical.proofs.label.labels_by_paths.Given as goal

-- the labels so far, and how many arcs lead to jobs left
abbrev pub invariant-loop-arcs : goal.invariant-loop-arcs
invariant-loop-arcs l = record {
  steps : IsLabelling l.inst (leads l.paths) l.label (slice_index l.labels) l.left.items;
  whole : length l.labels ≡ MOST_JOBS;
  counted : (j : ℕ) → j < MOST_JOBS → slice_index l.counts j ≡ arcs_into l.inst.arcs l.left.items j;
}

abbrev pub decreases-loop-arcs : goal.decreases-loop-arcs
decreases-loop-arcs l = length l.left.items
