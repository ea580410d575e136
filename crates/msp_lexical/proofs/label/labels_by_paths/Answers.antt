use Rattle.std.proofs.Common.{◌≡◌, Any, length, slice_index, set, sym, ap, subst, ◌∙◌, arith, rules}
use Rattle.std.proofs.lemmas.List.{length-set}
use Rattle.std.specs.List.{range_with_len}
use Rattle.msp_instance.specs.Paths.{leads}
use Rattle.msp_lexical.proofs.Counts.{some_free, counts-start, counts-enough, counts-next}
use Rattle.msp_lexical.proofs.Labelling.{IsLabelled, IsLabelling-start, AreLabels-end, labelled}
use Rattle.msp_lexical.proofs.label.labels_by_paths.Goals as goal
use Rattle.msp_lexical.proofs.label.labels_by_paths.Goals.{In_ok-reorder}

pub loop-arcs-init : goal.loop-arcs-init
loop-arcs-init c =
    let i = c.args.inst.now in
    let inner = c.requires.inner in
    let all = c.in_ok-left.ensures ∙ ap (range_with_len 0) c.len.ensures in
    record {
      steps = IsLabelling-start i (leads c.args.paths.now) c.requires.paths inner.conditions.ends inner.acyclic inner.conditions.few
          (slice_index c.no_labels-labels.result) c.in_ok-left.left.items (λ j b. c.no_labels-labels.ensures.none j (omega (arith, b, inner.conditions.few))) all;
      whole = c.no_labels-labels.ensures.whole;
      counted = counts-start i.arcs c.as_slice-arcs.result.now c.as_slice-arcs.ensures
          (length i.jobs) c.in_ok-left.left.items c.leaving_counts-counts.result (λ k d l. (inner.conditions.ends k d l).1) all c.leaving_counts-counts.ensures;
    }

pub first_free-place-requires-clause-some : goal.first_free-place-requires-clause-some
first_free-place-requires-clause-some c =
    let left = c.loop-arcs.left.items in
    let (j, found, none) = some_free c.args.inst.now left c.requires.inner.acyclic (search rules) in
    let inside = c.loop-arcs.invariant.steps.inside found.0 j found.1 in
    let free = c.loop-arcs.invariant.counted j (omega (arith, inside.0, found.2, c.requires.inner.conditions.few)) ∙ none in
    subst (Any (λ j. slice_index c.loop-arcs.counts j ≡ 0)) (sym c.as_slice.ensures.value) (found.0, j, found.1, found.2, free)

-- one more job has its label
made : (c : In_ok-reorder) → IsLabelled c.args.inst.now (leads c.args.paths.now) c.loop-arcs.label
    (slice_index (set c.loop-arcs.labels c.remove-job.result c.loop-arcs.label)) c.remove-job.result c.loop-arcs.left.items c.reorder.new.left.items
made c =
    let inner = c.requires.inner in
    labelled c.args.inst.now (leads c.args.paths.now) c.requires.paths inner.conditions.ends inner.acyclic inner.conditions.few c.loop-arcs.label c.loop-arcs.labels
    c.loop-arcs.counts c.loop-arcs.left.items c.as_slice.result.now c.remove-job.new.self.items c.reorder.new.left.items c.first_free-place.result c.remove-job.result
    c.loop-arcs.invariant.steps c.loop-arcs.invariant.whole c.loop-arcs.invariant.counted c.as_slice.ensures.value c.first_free-place.ensures.place
    c.first_free-place.ensures.free c.first_free-place.ensures.waits c.remove-job.ensures.value c.remove-job.ensures.items c.in_ok-reorder.ensures

pub release-requires-clause-counted : goal.release-requires-clause-counted
release-requires-clause-counted c =
    counts-enough c.args.inst.now.arcs c.as_slice-arcs.result.now c.as_slice-arcs.ensures c.loop-arcs.left.items c.reorder.new.left.items c.loop-arcs.counts
    c.remove-job.result (made (goal.at.release-requires-clause-counted c).In_ok-reorder).leaves c.loop-arcs.invariant.steps.once c.loop-arcs.invariant.counted

pub loop-arcs-smaller : goal.loop-arcs-smaller
loop-arcs-smaller c = (made (goal.at.loop-arcs-smaller c).In_ok-reorder).fewer

pub loop-arcs-preserved : goal.loop-arcs-preserved
loop-arcs-preserved c =
    let step = made (goal.at.loop-arcs-preserved c).In_ok-reorder in
    record {
      steps = step.next;
      whole = length-set c.loop-arcs.labels c.remove-job.result c.loop-arcs.label ∙ c.loop-arcs.invariant.whole;
      counted = counts-next c.args.inst.now.arcs c.as_slice-arcs.result.now c.as_slice-arcs.ensures c.loop-arcs.left.items c.reorder.new.left.items c.loop-arcs.counts
          c.remove-job.result step.leaves c.loop-arcs.invariant.steps.once c.loop-arcs.invariant.counted c.release.new.counts c.release.ensures;
    }

pub returns : goal.returns
returns c =
    let i = c.args.inst.now in
    let inner = c.requires.inner in
    AreLabels-end i (leads c.args.paths.now) c.requires.paths inner.conditions.ends inner.acyclic inner.conditions.few c.loop-arcs.label
    (slice_index c.loop-arcs.labels) c.loop-arcs.left.items (search rules) c.loop-arcs.invariant.steps
