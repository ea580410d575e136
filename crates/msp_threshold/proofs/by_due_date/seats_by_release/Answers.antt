use Rattle.std.proofs.Common.{◌*◌, ◌≡◌, ◌≤◌, ◌<◌, ◌⊎◌, ◌∙◌, List, ℕ, length, map, get_or, All, AllPairs, IsPermutation, sym, ap, ap₂, subst, subst₂}
use Rattle.std.specs.List.{range_with_len}
use Rattle.std.specs.List.Sorted.{IsNonDecreasing}
use Rattle.msp_class.specs.declared.sizes.TheConstants.{MOST_JOBS, GREATEST}
use Rattle.msp_class.proofs.Sums.{OnceBelow-from_permutation}
use Rattle.msp_slots.specs.Earliest.{AreSlots}
use Rattle.msp_threshold.proofs.Facts.{IsLatenessShop-from}
use Rattle.msp_threshold.proofs.Starts.{heads_few, heads_low}
use Rattle.msp_threshold.proofs.Seated.{heads_sorted, heads_rising, in_slots}
use Rattle.msp_threshold.proofs.by_due_date.seats_by_release.Goals as goal
use Rattle.msp_threshold.proofs.by_due_date.seats_by_release.Goals.{After-as_slice-5}

-- the release dates of the jobs, the order of the jobs by them, and the release dates in that order
made : (c : After-as_slice-5) → (c.in_ok-releases.releases.items ≡ map (λ j. j.release) c.args.inst.now.jobs)
    × IsPermutation (range_with_len 0 (length c.in_ok-releases.releases.items)) c.in_ok-order.order.items
    × (c.in_ok-heads.heads.items ≡ map (λ j. get_or c.in_ok-releases.releases.items j 0) c.in_ok-order.order.items)
made c = (
  c.in_ok-releases.ensures ∙ ap (map (λ j. j.release)) c.as_slice.ensures,
  subst (λ (l : List ℕ). IsPermutation (range_with_len 0 (length l)) c.in_ok-order.order.items) c.as_slice-2.ensures.value c.in_ok-order.ensures.all,
  c.in_ok-heads.ensures ∙ ap₂ (λ (xs js : List ℕ). map (λ j. get_or xs j 0) js) c.as_slice-3.ensures.value c.as_slice-4.ensures.value,
)

pub releases_in-requires : goal.releases_in-requires
releases_in-requires c =
    let p : IsPermutation (range_with_len 0 (length c.in_ok-releases.releases.items)) c.in_ok-order.order.items =
    subst (λ (l : List ℕ). IsPermutation (range_with_len 0 (length l)) c.in_ok-order.order.items) c.as_slice-2.ensures.value c.in_ok-order.ensures.all in
    subst₂ (λ (xs js : List ℕ). All (λ j. j < length xs) js) (sym c.as_slice-3.ensures.value) (sym c.as_slice-4.ensures.value) (OnceBelow-from_permutation p).within

pub earliest_slots-requires-clause-jobs : goal.earliest_slots-requires-clause-jobs
earliest_slots-requires-clause-jobs c =
    let i = c.args.inst.now in
    let (r, p, h) = made c in
    subst (λ (l : List ℕ). length l ≤ MOST_JOBS) (sym c.as_slice-5.ensures.value) (heads_few i (IsLatenessShop-from i c.requires.class c.requires.inner) _ (heads_sorted i _ _ _ r p h))

pub earliest_slots-requires-clause-early : goal.earliest_slots-requires-clause-early
earliest_slots-requires-clause-early c =
    let i = c.args.inst.now in
    let (r, p, h) = made c in
    subst (All (λ r. r ≤ 2 * GREATEST)) (sym c.as_slice-5.ensures.value) (heads_low i (IsLatenessShop-from i c.requires.class c.requires.inner) _ (heads_sorted i _ _ _ r p h))

pub earliest_slots-requires-clause-rising : goal.earliest_slots-requires-clause-rising
earliest_slots-requires-clause-rising c =
    let (r, p, h) = made c in
    let up = subst (λ (l : List ℕ). AllPairs (λ a b. (get_or l a 0 < get_or l b 0) ⊎ ((get_or l a 0 ≡ get_or l b 0) × (a ≤ b))) c.in_ok-order.order.items)
    c.as_slice-2.ensures.value c.in_ok-order.ensures.rising in
    subst IsNonDecreasing (sym c.as_slice-5.ensures.value) (heads_rising c.args.inst.now _ _ _ r p h up)

pub returns : goal.returns
returns c =
    let (r, p, h) = made (goal.at.returns c).After-as_slice-5 in
    in_slots c.args.inst.now _ _ _ r p h _ (subst (λ l. AreSlots c.args.inst.now.machines l c.in_ok-slots.slots.items) c.as_slice-5.ensures.value c.in_ok-slots.ensures)
