use Rattle.std.proofs.Common.{◌≡◌, ℕ, ◌*◌, ◌≤◌, Bool, List, length, map, All, IsPermutation, sym, subst, ◌∙◌, arith}
use Rattle.std.proofs.lemmas.List.Elements.{All-map}
use Rattle.msp_class.specs.declared.sizes.TheConstants.{MOST_JOBS, GREATEST}
use Rattle.msp_instance.specs.declared.Instance.{Instance}
use Rattle.msp_instance.specs.declared.Job.{Job}
use Rattle.msp_slots.specs.declared.earliest.Slot.{Slot}
use Rattle.msp_slots.specs.Earliest.{AreSlots}
use Rattle.msp_total.specs.declared.slot_table.Slots.{Slots}
use Rattle.msp_total.specs.LeastSlots.{IsTable}
use Rattle.msp_total.proofs.SlotFacts.{heads_few, heads_low, slots_many, rows_many, columns_many, has_costs, least_from}
use Rattle.msp_total.proofs.job_slots.least_slots.Goals as goal

-- the heads, the slots and the table, as the lists that they are
heads : {jobs slice : List Job} {hs : List ℕ} → slice ≡ jobs → IsPermutation (map (λ j. j.release) slice) hs → IsPermutation (map (λ j. j.release) jobs) hs
heads {hs = hs} e h = subst (λ l. IsPermutation (map (λ j. j.release) l) hs) e h

filled : {m : ℕ} {hs slice : List ℕ} {slots : List Slot} → slice ≡ hs → AreSlots m slice slots → AreSlots m hs slots
filled {m} {slots = slots} e h = subst (λ l. AreSlots m l slots) e h

table : {i : Instance} {late : Bool} {span : ℕ} {slots slice : List Slot} {t : Slots} → slice ≡ slots → IsTable i late span slice t → IsTable i late span slots t
table {i} {late} {span} {t = t} e h = subst (λ l. IsTable i late span l t) e h

pub earliest_slots-requires-clause-jobs : goal.earliest_slots-requires-clause-jobs
earliest_slots-requires-clause-jobs c = subst (λ l. length l ≤ MOST_JOBS) (sym c.as_slice-2.ensures.value)
    (heads_few c.args.inst.now c.requires.small _ (heads c.as_slice.ensures c.in_ok-heads.ensures.all))

pub earliest_slots-requires-clause-early : goal.earliest_slots-requires-clause-early
earliest_slots-requires-clause-early c = subst (All (λ r. r ≤ 2 * GREATEST)) (sym c.as_slice-2.ensures.value)
    (heads_low c.args.inst.now c.requires.small _ (heads c.as_slice.ensures c.in_ok-heads.ensures.all))

pub table_of-requires-clause-slots : goal.table_of-requires-clause-slots
table_of-requires-clause-slots c =
    let many = slots_many c.args.inst.now c.requires.small _ (heads c.as_slice.ensures c.in_ok-heads.ensures.all) _ _ (filled c.as_slice-2.ensures.value c.in_ok-slots.ensures) in
    subst (λ l. length l ≤ MOST_JOBS) (sym c.as_slice-3.ensures.value) (omega (arith, many, c.requires.small.few))

pub table_of-requires-clause-light : goal.table_of-requires-clause-light
table_of-requires-clause-light c = All-map (λ w. w ≤ GREATEST) (λ j. j.weight) c.args.inst.now.jobs c.requires.small.weights

pub assigned-requires-clause-square : goal.assigned-requires-clause-square
assigned-requires-clause-square c =
    let h = heads c.as_slice.ensures c.in_ok-heads.ensures.all in
    let f = filled c.as_slice-2.ensures.value c.in_ok-slots.ensures in
    let t = table c.as_slice-3.ensures.value c.in_ok-table.ensures in
    columns_many c.args.inst.now c.requires.small _ h _ _ f _ _ c.requires.span c.requires.short _ t
    ∙ sym (rows_many c.args.inst.now c.requires.small _ h _ _ f _ _ c.requires.span c.requires.short _ t)

pub assigned-requires-clause-costs : goal.assigned-requires-clause-costs
assigned-requires-clause-costs c =
    has_costs c.args.inst.now c.requires.small _ (heads c.as_slice.ensures c.in_ok-heads.ensures.all) _ _ (filled c.as_slice-2.ensures.value c.in_ok-slots.ensures)
    _ _ c.requires.span c.requires.short _ (table c.as_slice-3.ensures.value c.in_ok-table.ensures)

pub returns : goal.returns
returns c =
    least_from c.args.inst.now c.requires.small _ (heads c.as_slice.ensures c.in_ok-heads.ensures.all) _ _ (filled c.as_slice-2.ensures.value c.in_ok-slots.ensures)
    _ _ c.requires.span c.requires.short _ (table c.as_slice-3.ensures.value c.in_ok-table.ensures) _ c.in_ok-column.ensures.assigned c.in_ok-column.ensures.least
