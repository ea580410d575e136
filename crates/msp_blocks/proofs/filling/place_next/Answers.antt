use Rattle.std.proofs.Common.{ℕ, ◌+◌, ◌<◌, All, length, refl, sym, subst, get_or, take, arith}
use Rattle.std.proofs.lemmas.List.{take_rest, length-take}
use Rattle.std.proofs.lemmas.List.Elements.{All-take, All-drop}
use Rattle.msp_route.proofs.OneInstances.{IsOneInstance-from, short_needs}
use Rattle.msp_blocks.specs.Filling.{greatest_end}
use Rattle.msp_blocks.proofs.Fill.{IsOneMore}
use Rattle.msp_blocks.proofs.Steps.{AreFirst-cut, left_few, passed_room, passed_next}
use Rattle.msp_blocks.proofs.filling.place_next.Goals as goal
use Rattle.msp_blocks.proofs.filling.place_next.Goals.{After-remove}

made : (c : After-remove) → IsOneMore c.args.inst.now (λ j. get_or c.args.heads.now j 0) greatest_end c.args.heads.now c.args.left.now.items
    c.remove.new.self.items c.args.pieces.now c.fill.new.pieces c.in_ok-bound.bound.jobs c.in_ok-bound.bound.cost
made c =
    passed_next c.args.inst.now (IsOneInstance-from c.args.inst.now c.requires.machine c.requires.inner)
    c.args.heads.now c.requires.heads c.args.left.now.items c.as_slice.result.now c.as_slice-2.result.now c.first_block-block.result.count c.first_block-block.result.end
    c.as_slice.ensures.value c.as_slice-2.ensures.value c.first_block-block.ensures.block c.first_block-block.ensures.later c.first_block-block.ensures.small
    _ c.requires.filling c.last_place-place.result c.total_time.result c.last_place-place.ensures.place c.total_time.ensures.value
    _ (take_rest (take c.first_block-block.result.count c.as_slice-2.result.now) (c.last_place-place.result + 1))
    _ refl c.last_place-place.ensures.last _ c.remove.ensures.items _ c.in_ok-fill.ensures _ c.in_ok-bound.ensures.jobs _ c.in_ok-bound.ensures.cost

pub fill-requires-clause-room : goal.fill-requires-clause-room
fill-requires-clause-room c =
    passed_room c.args.inst.now (IsOneInstance-from c.args.inst.now c.requires.machine c.requires.inner)
    c.args.heads.now c.requires.heads c.args.left.now.items c.as_slice.result.now c.as_slice-2.result.now c.first_block-block.result.count c.first_block-block.result.end
    c.as_slice.ensures.value c.as_slice-2.ensures.value c.first_block-block.ensures.block c.first_block-block.ensures.later c.first_block-block.ensures.small
    _ c.requires.filling c.last_place-place.result c.total_time.result c.last_place-place.ensures.place c.total_time.ensures.value
    _ (take_rest (take c.first_block-block.result.count c.as_slice-2.result.now) (c.last_place-place.result + 1))

pub returns-clause-filling : goal.returns-clause-filling
returns-clause-filling c = (made (goal.at.returns-clause-filling c).After-remove).filling

pub returns-clause-bound : goal.returns-clause-bound
returns-clause-bound c = (made (goal.at.returns-clause-bound c).After-remove).bound

pub returns-clause-costs : goal.returns-clause-costs
returns-clause-costs c = (made (goal.at.returns-clause-costs c).After-remove).costs

pub first_block-block-requires-clause-some : goal.first_block-block-requires-clause-some
first_block-block-requires-clause-some c = subst (λ l. 0 < length l) (sym c.as_slice.ensures.value) c.requires.some

pub first_block-block-requires-clause-few : goal.first_block-block-requires-clause-few
first_block-block-requires-clause-few c = left_few _ _ _ _ _ c.requires.filling c.as_slice.ensures.value

pub first_block-block-requires-clause-inside : goal.first_block-block-requires-clause-inside
first_block-block-requires-clause-inside c = subst (All (λ j. j < length c.args.inst.now.jobs)) (sym c.as_slice.ensures.value) c.requires.filling.inside

pub last_place-place-requires-clause-some : goal.last_place-place-requires-clause-some
last_place-place-requires-clause-some c = (AreFirst-cut c.requires.filling c.first_block-block.ensures.block c.as_slice.ensures.value c.as_slice-2.ensures.value).some

pub last_place-place-requires-clause-inside : goal.last_place-place-requires-clause-inside
last_place-place-requires-clause-inside c = (AreFirst-cut c.requires.filling c.first_block-block.ensures.block c.as_slice.ensures.value c.as_slice-2.ensures.value).inside

pub bounds-jobs-0 : goal.bounds-jobs-0
bounds-jobs-0 c = (AreFirst-cut c.requires.filling c.first_block-block.ensures.block c.as_slice.ensures.value c.as_slice-2.ensures.value).some

pub bounds-heads-jobs : goal.bounds-heads-jobs
bounds-heads-jobs c =
    let cut = AreFirst-cut c.requires.filling c.first_block-block.ensures.block c.as_slice.ensures.value c.as_slice-2.ensures.value in
    subst (λ n. get_or (take c.first_block-block.result.count c.as_slice-2.result.now) 0 0 < n) (sym c.requires.heads.each) (cut.inside 0 0 cut.some)

pub total_time-requires-clause-few : goal.total_time-requires-clause-few
total_time-requires-clause-few c =
    let cut = AreFirst-cut c.requires.filling c.first_block-block.ensures.block c.as_slice.ensures.value c.as_slice-2.ensures.value in
    omega (arith, length-take c.last_place-place.result (take c.first_block-block.result.count c.as_slice-2.result.now), cut.few)

pub total_time-requires-clause-jobs : goal.total_time-requires-clause-jobs
total_time-requires-clause-jobs c =
    let cut = AreFirst-cut c.requires.filling c.first_block-block.ensures.block c.as_slice.ensures.value c.as_slice-2.ensures.value in
    All-take (λ j. j < length c.args.inst.now.jobs) c.last_place-place.result _ cut.inside

pub total_time-requires-clause-needs : goal.total_time-requires-clause-needs
total_time-requires-clause-needs c = short_needs c.args.inst.now (IsOneInstance-from c.args.inst.now c.requires.machine c.requires.inner)

pub fill-requires-clause-inside : goal.fill-requires-clause-inside
fill-requires-clause-inside c =
    let P = λ (j : ℕ). j < length c.args.inst.now.jobs in
    let cut = AreFirst-cut c.requires.filling c.first_block-block.ensures.block c.as_slice.ensures.value c.as_slice-2.ensures.value in
    All-take P _ _ (All-drop P (c.last_place-place.result + 1) _ cut.inside)

pub bound_of-requires-clause-inside : goal.bound_of-requires-clause-inside
bound_of-requires-clause-inside c =
    (AreFirst-cut c.requires.filling c.first_block-block.ensures.block c.as_slice.ensures.value c.as_slice-2.ensures.value).inside c.last_place-place.result 0 c.last_place-place.ensures.place
