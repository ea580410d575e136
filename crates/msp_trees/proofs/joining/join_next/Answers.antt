-- The block goes behind the one that holds what is before its first job.
use Rattle.std.proofs.Common.{◌<◌, length, set, subst, OnOk}
use Rattle.std.proofs.lemmas.Result.{on_ok_weaker}
use Rattle.msp_trees.specs.Horn.{GoesNext, IsJoining}
use Rattle.msp_trees.proofs.Picks.{goes_behind, joins_again, joined_again}
use Rattle.msp_trees.proofs.joining.join_next.Goals as goal
use Rattle.msp_trees.proofs.joining.join_next.Goals.{After-append}

pub place_of-behind-requires : goal.place_of-behind-requires
place_of-behind-requires c =
    let place = c.next_place-place.result in
    let inside = subst (λ l. place < length l) c.as_slice.ensures.value c.next_place-place.ensures.inside in
    goes_behind c.args.inst.now c.requires.class c.requires.inner c.args.blocks.now.items c.requires.joined place c.next_place-place.ensures.later inside
    c.remove-next.result c.as_slice-2.result.now c.remove-next.new.self.items c.remove-next.ensures.value c.as_slice-2.ensures c.remove-next.ensures.items
    c.as_slice-3.result.now c.job_before-before.result c.as_slice-3.ensures.value c.job_before-before.ensures

joins : (c : After-append) → OnOk c.append.result
    (IsJoining c.args.inst.now c.args.blocks.now.items (set c.remove-next.new.self.items c.place_of-behind.result c.append.new.block) c.next_place-place.result c.place_of-behind.result)
joins c =
    let place = c.next_place-place.result in
    let inside = subst (λ l. place < length l) c.as_slice.ensures.value c.next_place-place.ensures.inside in
    let goes = subst (λ l. GoesNext c.args.inst.now l place) c.as_slice.ensures.value c.next_place-place.ensures.next in
    on_ok_weaker c.append.result
    (joins_again c.args.inst.now c.requires.class c.requires.inner c.args.blocks.now.items c.requires.joined place c.next_place-place.ensures.later inside
    c.remove-next.result c.as_slice-2.result.now c.remove-next.new.self.items c.remove-next.ensures.value c.as_slice-2.ensures c.remove-next.ensures.items
    c.as_slice-3.result.now c.job_before-before.result
    c.place_of-behind.result c.as_slice-3.ensures.value c.job_before-before.ensures goes c.place_of-behind.ensures.inside c.place_of-behind.ensures.holds
    c.index_mut.result.now c.as_slice-4.result.now c.append.new.block c.index_mut.ensures.value c.as_slice-4.ensures)
    c.append.ensures

pub returns-clause-joined : goal.returns-clause-joined
returns-clause-joined c =
    on_ok_weaker c.append.result (λ j. joined_again c.args.inst.now c.requires.class c.requires.inner c.args.blocks.now.items c.requires.joined j)
    (joins (goal.at.returns-clause-joined c).After-append)

pub returns-clause-joins : goal.returns-clause-joins
returns-clause-joins c = on_ok_weaker c.append.result (λ j. (c.next_place-place.result, c.place_of-behind.result, j)) (joins (goal.at.returns-clause-joins c).After-append)
