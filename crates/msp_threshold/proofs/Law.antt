-- The law of squeezing, one way: where the bound can be met, the squeezed instance can be free of late jobs.
use Rattle.std.proofs.Common.{◌≡◌, ℕ, ◌+◌, ◌*◌, ◌<◌, ◌≤◌, ◌≢◌, List, length, get_or, map, AllPairs, Contains, ℤ, pos, ◌+ℤ◌, ◌≤ℤ◌, refl, sym, ap, subst₂, ◌∙◌, arith, add-le-add, le_refl, subst}
use Rattle.std.specs.List.{range_with_len}
use Rattle.std.proofs.lemmas.List.{length-map, get_or-map, get_or_default}
use Rattle.msp_class.specs.declared.sizes.TheConstants.{GREATEST, MOST_JOBS}
use Rattle.msp_class.proofs.IntegerRing.{pos-le, one-*ℤ, +ℤ_idr, ≤ℤ_trans}
use Rattle.msp_instance.specs.declared.Instance.{Instance}
use Rattle.msp_instance.specs.Instance.{job_at}
use Rattle.msp_pieces.specs.declared.Schedule.{Schedule}
use Rattle.msp_pieces.proofs.costs.InTime.{EndsInTime, free_jobs}
use Rattle.msp_pieces.proofs.bounds.Certified.{place_in}
use Rattle.msp_slots.specs.Earliest.{no_slot, start_in, machine_in}
use Rattle.msp_slots.proofs.Seats.{HasSeats}
use Rattle.msp_slots.proofs.Begins.{head_at}
use Rattle.msp_slots.proofs.UnitPieces.{AreUnitPieces, pieces_at, AreUnitPieces-from, IsInUnits, in_units}
use Rattle.msp_slots.proofs.SlotPlaces.{heads_many, slot_inside, same_slot, seats_in}
use Rattle.msp_threshold.specs.Squeezed.{AreKept, squeezed_by, CanMeet, CanBeFree}
use Rattle.msp_threshold.proofs.Rising.{no_less, released_here, in_time_here}
use Rattle.msp_threshold.proofs.Facts.{IsLatenessShop, many, lower_release, lower_due, lower_units, IsAt, IsAt-from}
use Rattle.msp_threshold.proofs.Meeting.{HasMoments, moments_of}

module _ (i : Instance) (t : IsLatenessShop i) (kept : List ℕ) (k : AreKept i kept) where
  abbrev n : ℕ
  n = length i.jobs

  abbrev start : ℕ → ℕ
  start = start_in k.slots

  heads : length k.heads ≡ n
  heads = heads_many i k.heads k.all

  -- ---- the numbers of the moments at which slots begin
  abbrev number : ℕ → ℕ
  number s = place_in kept (start s)

  distinct : AllPairs (λ x y. x ≢ y) kept
  distinct a b d l m e = absurd (omega (arith, k.rising a b d l m, e))

  numbered : (s : ℕ) → s < n → IsAt kept (start s)
  numbered s l =
      let many_slots : s < length k.slots = omega (arith, l, k.filled.count, heads) in
      let begins = map (λ x. x.start) k.slots in
      let at : get_or begins s 0 ≡ start s = get_or-map (λ x. x.start) k.slots s no_slot 0 many_slots in
      let c : Contains begins (start s) =
      (s, omega (arith, many_slots, length-map k.slots (λ x. x.start)), get_or_default begins s (start s) 0 (omega (arith, many_slots, length-map k.slots (λ x. x.start))) ∙ at) in
      IsAt-from kept (start s) distinct ((k.each (start s)).1 c)

  module _ (bound : ℤ) (m : HasMoments i t bound) (seat : ℕ → ℕ) (h : HasSeats n (head_at i) m.begin start seat) where
    abbrev lower : Instance
    lower = squeezed_by kept bound i

    abbrev begin : ℕ → ℕ
    begin j = number (seat j)

    abbrev machine : ℕ → ℕ
    machine j = machine_in k.slots (seat j)

    inside : (j : ℕ) → j < length lower.jobs → j < n
    inside j l = omega (arith, l, many i t kept bound)

    in_slots : (j : ℕ) → j < n → seat j < length k.heads
    in_slots j l = omega (arith, h.inside j l, heads)

    same_start : (a b : ℕ) → a < n → b < n → number a ≡ number b → start a ≡ start b
    same_start a b u v e = sym (numbered a u).is ∙ ap (λ x. get_or kept x 0) e ∙ (numbered b v).is

    pieces : AreUnitPieces lower begin machine (pieces_at begin machine (range_with_len 0 (length lower.jobs)))
    pieces = AreUnitPieces-from lower begin machine t.arcs (λ j l. slot_inside i.machines k.heads k.slots k.filled (seat j) (in_slots j (inside j l)))
        (λ a b u v e f. h.once a b (inside a u) (inside b v) (same_slot i.machines k.heads k.slots k.filled (seat a) (seat b)
        (in_slots a (inside a u)) (in_slots b (inside b v)) (same_start (seat a) (seat b) (h.inside a (inside a u)) (h.inside b (inside b v)) e) f))
        (λ j l. released j (inside j l)) (λ j l. omega (arith, soon j (inside j l)))
      where
        released : (j : ℕ) → j < n → (job_at lower j).release ≤ begin j
        released j l =
            let s = numbered (seat j) (h.inside j l) in
            omega (arith, lower_release i t kept bound j l, released_here kept k.rising (begin j) s.inside (job_at i j).release (omega (arith, s.is, h.released j l)))

        soon : (j : ℕ) → j < n → begin j ≤ 2 * GREATEST + MOST_JOBS
        soon j l = let s = numbered (seat j) (h.inside j l) in omega (arith, no_less kept k.rising (begin j) s.inside, s.is, k.filled.soon (seat j) (in_slots j l), heads, t.few)

    free : CanBeFree lower
    free = (s, units.runs.feasible, (free_jobs lower s refl (pos-le (omega arith))).1 (λ j l. ends j (inside j l)))
      where
        s : Schedule
        s = record { unit = pos 1; pieces = pieces_at begin machine (range_with_len 0 (length lower.jobs)) }

        units : IsInUnits lower begin s.pieces
        units = in_units lower (lower_units i t kept bound) begin machine s.pieces pieces

        ends : (j : ℕ) → j < n → EndsInTime lower (pos 0) s j
        ends j l =
            let b = numbered (seat j) (h.inside j l) in
            let date = (job_at i j).due +ℤ bound in
            let late = in_time_here kept k.rising (begin j) b.inside date (≤ℤ_trans (pos-le (add-le-add (subst (λ x. x ≤ m.begin j) (sym b.is) (h.early j l)) (le_refl 1))) (m.in_time j l)) in
            subst₂ (λ x y. x ≤ℤ y) (sym (units.runs.ends j (omega (arith, l, many i t kept bound))))
            (sym (one-*ℤ ((job_at lower j).due +ℤ pos 0) ∙ +ℤ_idr (job_at lower j).due ∙ lower_due i t kept bound j l)) (pos-le (omega (arith, late)))

pub free_if_met : (i : Instance) → IsLatenessShop i → (kept : List ℕ) → AreKept i kept → (bound : ℤ) → CanMeet i bound → CanBeFree (squeezed_by kept bound i)
free_if_met i t kept k bound met =
    let m = moments_of i t bound met in
    let (seat, h) = seats_in i k.heads k.slots k.all k.filled m.begin m.seated in
    free i t kept k bound m seat h
