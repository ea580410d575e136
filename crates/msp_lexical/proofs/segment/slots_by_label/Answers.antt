-- The slots of the pieces, cut into segments.
use Rattle.std.proofs.Common.{◌<◌, length, slice_index, All, sym, subst, arith}
use Rattle.std.proofs.lemmas.List.Elements.{All-weaker}
use Rattle.msp_class.specs.declared.sizes.TheConstants.{MOST_JOBS}
use Rattle.msp_lexical.specs.Slots.{AreTops, IsSeated, IsSeating, first_in, second_in}
use Rattle.msp_lexical.proofs.SlotsMade.{some_piece, seated, places_apart, AreMade, made}
use Rattle.msp_lexical.proofs.segment.slots_by_label.Goals as goal
use Rattle.msp_lexical.proofs.segment.slots_by_label.Goals.{After-slots_of-count}

pub seats_of-seats-requires-clause-seated : goal.seats_of-seats-requires-clause-seated
seats_of-seats-requires-clause-seated c = subst (λ n. All (IsSeated n) c.args.pieces.now)
    (sym c.len-jobs.ensures) (seated c.args.inst.now c.requires.class c.requires.inner c.args.labels.now c.requires.labels c.args.pieces.now c.requires.pieces)

pub seats_of-seats-requires-clause-apart : goal.seats_of-seats-requires-clause-apart
seats_of-seats-requires-clause-apart c = places_apart c.args.inst.now c.requires.class c.requires.inner c.args.labels.now c.requires.labels c.args.pieces.now c.requires.pieces

pub slots_of-count-requires-clause-some : goal.slots_of-count-requires-clause-some
slots_of-count-requires-clause-some c = some_piece c.args.inst.now c.requires.class c.requires.inner c.args.labels.now c.requires.labels c.args.pieces.now c.requires.pieces

pub slots_of-count-requires-clause-seated : goal.slots_of-count-requires-clause-seated
slots_of-count-requires-clause-seated c =
    All-weaker (IsSeated (length c.args.inst.now.jobs)) (IsSeated MOST_JOBS)
    (λ p h. record { machine = h.machine; from = h.from; early = omega (arith, h.early, c.requires.inner.conditions.few); job = omega (arith, h.job, c.requires.inner.conditions.few) })
    c.args.pieces.now
    (seated c.args.inst.now c.requires.class c.requires.inner c.args.labels.now c.requires.labels c.args.pieces.now c.requires.pieces)

here : (c : After-slots_of-count) → IsSeating (length c.args.inst.now.jobs) c.args.pieces.now c.seats_of-seats.result
here c = subst (λ n. IsSeating n c.args.pieces.now c.seats_of-seats.result) c.len-jobs.ensures c.seats_of-seats.ensures

slots : (c : After-slots_of-count) → AreMade c.args.inst.now c.requires.class c.requires.inner c.args.labels.now c.requires.labels c.args.pieces.now c.requires.pieces
    c.seats_of-seats.result (here c) c.slots_of-count.result (c.slots_of-count.ensures _)
slots c = made c.args.inst.now c.requires.class c.requires.inner c.args.labels.now c.requires.labels c.args.pieces.now c.requires.pieces
    c.seats_of-seats.result (here c) c.slots_of-count.result (c.slots_of-count.ensures _)

pub tops_of-tops-requires-clause-slots : goal.tops_of-tops-requires-clause-slots
tops_of-tops-requires-clause-slots c = (slots (goal.at.tops_of-tops-requires-clause-slots c).After-slots_of-count).few

pub tops_of-tops-requires-clause-first : goal.tops_of-tops-requires-clause-first
tops_of-tops-requires-clause-first c x l = subst (λ n. first_in c.seats_of-seats.result x < n) (sym c.len-jobs.ensures)
    ((slots (goal.at.tops_of-tops-requires-clause-first c).After-slots_of-count).first x l)

pub returns-clause-slots : goal.returns-clause-slots
returns-clause-slots c = (slots (goal.at.returns-clause-slots c).After-slots_of-count).cut c.tops_of-tops.result
    (subst (λ n. AreTops n c.slots_of-count.result (slice_index c.args.labels.now) (first_in c.seats_of-seats.result) (second_in c.seats_of-seats.result) (slice_index c.tops_of-tops.result))
    c.len-jobs.ensures c.tops_of-tops.ensures)

pub returns-clause-cost : goal.returns-clause-cost
returns-clause-cost c = (slots (goal.at.returns-clause-cost c).After-slots_of-count).cost
