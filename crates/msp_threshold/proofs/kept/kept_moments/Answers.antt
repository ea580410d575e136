use Rattle.std.proofs.Common.{◌*◌, ◌≤◌, ◌∙◌, List, ℕ, length, map, All, IsPermutation, sym, ap, subst}
use Rattle.std.proofs.lemmas.List.Filters.{dedup_is}
use Rattle.msp_class.specs.declared.sizes.TheConstants.{MOST_JOBS, GREATEST}
use Rattle.msp_slots.specs.Earliest.{AreSlots}
use Rattle.msp_threshold.proofs.Facts.{IsLatenessShop-from}
use Rattle.msp_threshold.proofs.Starts.{AreKept-from, kept_few, heads_few, heads_low}
use Rattle.msp_threshold.proofs.kept.kept_moments.Goals as goal

pub earliest_slots-requires-clause-jobs : goal.earliest_slots-requires-clause-jobs
earliest_slots-requires-clause-jobs c =
    let i = c.args.inst.now in
    let p = subst (λ l. IsPermutation (map (λ j. j.release) l) c.in_ok-heads.heads.items) c.as_slice.ensures c.in_ok-heads.ensures.all in
    subst (λ (l : List ℕ). length l ≤ MOST_JOBS) (sym c.as_slice-2.ensures.value) (heads_few i (IsLatenessShop-from i c.requires.class c.requires.inner) _ p)

pub earliest_slots-requires-clause-early : goal.earliest_slots-requires-clause-early
earliest_slots-requires-clause-early c =
    let i = c.args.inst.now in
    let p = subst (λ l. IsPermutation (map (λ j. j.release) l) c.in_ok-heads.heads.items) c.as_slice.ensures c.in_ok-heads.ensures.all in
    subst (All (λ r. r ≤ 2 * GREATEST)) (sym c.as_slice-2.ensures.value) (heads_low i (IsLatenessShop-from i c.requires.class c.requires.inner) _ p)

pub returns-clause-kept : goal.returns-clause-kept
returns-clause-kept c =
    let i = c.args.inst.now in
    let p = subst (λ l. IsPermutation (map (λ j. j.release) l) c.in_ok-heads.heads.items) c.as_slice.ensures c.in_ok-heads.ensures.all in
    let filled = subst (λ l. AreSlots i.machines l c.in_ok-slots.slots.items) c.as_slice-2.ensures.value c.in_ok-slots.ensures in
    AreKept-from i c.in_ok-heads.heads.items c.in_ok-slots.slots.items c.in_ok-kept.kept.items c.dedup.new.self.items p filled
    (c.in_ok-kept.ensures ∙ ap (map (λ s. s.start)) c.as_slice-3.ensures.value) (dedup_is _ _ _ c.dedup.ensures.filtered)

pub returns-clause-few : goal.returns-clause-few
returns-clause-few c =
    let i = c.args.inst.now in
    let p = subst (λ l. IsPermutation (map (λ j. j.release) l) c.in_ok-heads.heads.items) c.as_slice.ensures c.in_ok-heads.ensures.all in
    let filled = subst (λ l. AreSlots i.machines l c.in_ok-slots.slots.items) c.as_slice-2.ensures.value c.in_ok-slots.ensures in
    kept_few i.machines c.in_ok-heads.heads.items c.in_ok-slots.slots.items c.in_ok-kept.kept.items c.dedup.new.self.items (heads_few i (IsLatenessShop-from i c.requires.class c.requires.inner) _ p)
    filled (c.in_ok-kept.ensures ∙ ap (map (λ s. s.start)) c.as_slice-3.ensures.value) (dedup_is _ _ _ c.dedup.ensures.filtered)
