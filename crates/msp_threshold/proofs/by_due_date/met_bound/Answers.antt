use Rattle.std.proofs.Common.{◌<◌, ◌+◌, ◌∙◌, ℕ, List, length, All, IsPermutation, pos, ◌+ℤ◌, ◌≤ℤ◌, ap, sym, subst, subst₂, arith, ◌*◌}
use Rattle.std.proofs.lemmas.Int.{to_z-of_z}
use Rattle.std.proofs.lemmas.List.Sorted.{IsPermutation-refl}
use Rattle.std.specs.Int.{w64}
use Rattle.msp_class.specs.declared.sizes.TheConstants.{GREATEST}
use Rattle.msp_instance.specs.declared.Job.{Job}
use Rattle.msp_slots.specs.Earliest.{start_in}
use Rattle.msp_threshold.specs.Squeezed.{CanMeet}
use Rattle.msp_threshold.specs.Search.{AreReleased, job_in}
use Rattle.msp_threshold.proofs.Facts.{IsLatenessShop-from, fits}
use Rattle.msp_threshold.proofs.Seated.{whole_slice, seated_inside, seated_count, met_in_slots}
use Rattle.msp_threshold.proofs.by_due_date.met_bound.Goals as goal

pub sort_by_due_date-requires-clause-inside : goal.sort_by_due_date-requires-clause-inside
sort_by_due_date-requires-clause-inside c =
    subst₂ (λ (js : List Job) (xs : List ℕ). All (λ j. j < length js) xs)
    (sym c.as_slice-jobs.ensures) (sym c.as_mut_slice.ensures.value) (seated_inside _ _ _ _ c.in_ok-seats.ensures (IsPermutation-refl _))

pub sort_by_due_date-requires-clause-slots : goal.sort_by_due_date-requires-clause-slots
sort_by_due_date-requires-clause-slots c = ap length c.as_mut_slice.ensures.value ∙ seated_count _ _ _ _ c.in_ok-seats.ensures (IsPermutation-refl _) ∙ ap length (sym c.as_slice.ensures.value)

pub lateness_in-requires-clause-inside : goal.lateness_in-requires-clause-inside
lateness_in-requires-clause-inside c =
    let whole = whole_slice c.in_ok-seats.seats.order.len (length c.sort_by_due_date.new.order)
    c.sort_by_due_date.new.order c.in_ok-seats.seats.order.items (c.sort_by_due_date.auto.order ∙ c.as_mut_slice.ensures.len) in
    let same = subst (λ xs. IsPermutation xs c.sort_by_due_date.new.order) c.as_mut_slice.ensures.value c.sort_by_due_date.ensures.same in
    subst₂ (λ (js : List Job) (xs : List ℕ). All (λ j. j < length js) xs) (sym c.as_slice-jobs.ensures) (sym whole) (seated_inside _ _ _ _ c.in_ok-seats.ensures same)

pub lateness_in-requires-clause-slots : goal.lateness_in-requires-clause-slots
lateness_in-requires-clause-slots c =
    let whole = whole_slice c.in_ok-seats.seats.order.len (length c.sort_by_due_date.new.order)
    c.sort_by_due_date.new.order c.in_ok-seats.seats.order.items (c.sort_by_due_date.auto.order ∙ c.as_mut_slice.ensures.len) in
    let same = subst (λ xs. IsPermutation xs c.sort_by_due_date.new.order) c.as_mut_slice.ensures.value c.sort_by_due_date.ensures.same in
    ap length whole ∙ seated_count _ _ _ _ c.in_ok-seats.ensures same

pub returns-clause-met : goal.returns-clause-met
returns-clause-met c =
    let i = c.args.inst.now in
    let next = c.sort_by_due_date.new.order in
    let slots = c.in_ok-seats.seats.slots.items in
    let whole = whole_slice c.in_ok-seats.seats.order.len (length next) next c.in_ok-seats.seats.order.items (c.sort_by_due_date.auto.order ∙ c.as_mut_slice.ensures.len) in
    let same = subst (λ xs. IsPermutation xs next) c.as_mut_slice.ensures.value c.sort_by_due_date.ensures.same in
    let bound = c.lateness_in.result in
    subst (CanMeet i) (sym (to_z-of_z w64 bound (fits (5 * GREATEST) bound (omega arith) c.lateness_in.ensures.size)))
    (met_in_slots i (IsLatenessShop-from i c.requires.class c.requires.inner) slots _ next bound c.in_ok-seats.ensures same
    (subst₂ (λ (js : List Job) s. AreReleased js s next) c.as_slice-jobs.ensures c.as_slice.ensures.value c.sort_by_due_date.ensures.seated)
    (subst₂ (λ (js : List Job) (xs : List ℕ). (k : ℕ) → k < length xs → pos (start_in slots k + 1) ≤ℤ ((job_in js xs k).due +ℤ bound)) c.as_slice-jobs.ensures whole c.lateness_in.ensures.late))
