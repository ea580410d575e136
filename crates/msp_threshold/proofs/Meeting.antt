-- When a bound on the greatest lateness can be met: exactly where jobs can begin at whole moments, no more at a time than there are machines,
-- so that each ends in time.
use Rattle.std.proofs.Common.{◌≡◌, ℕ, ◌+◌, ◌<◌, ◌≤◌, List, length, map, IsPermutation, ℤ, pos, nat_abs, ◌+ℤ◌, ◌-ℤ◌, ◌*ℤ◌, ◌≤ℤ◌, ◌<ℤ◌, sym, ap, subst, subst₂, arith, add-le-add, le_refl}
use Rattle.std.specs.List.{range_with_len}
use Rattle.std.proofs.lemmas.Int.{ints}
use Rattle.msp_class.specs.Crit.{is_greatest}
use Rattle.msp_class.proofs.IntegerRing.{natural, pos-le, one-*ℤ, *ℤ_comm, *ℤ-add, *ℤ-cancel_pos, *ℤ-cancel_lt, ≤ℤ_trans}
use Rattle.msp_instance.specs.declared.Instance.{Instance}
use Rattle.msp_instance.specs.Instance.{job_at}
use Rattle.msp_pieces.specs.declared.Piece.{Piece}
use Rattle.msp_pieces.specs.declared.Schedule.{Schedule}
use Rattle.msp_pieces.specs.Feasible.{Feasible}
use Rattle.msp_pieces.specs.Cost.{cost_of, end_of, job_cost}
use Rattle.msp_pieces.proofs.costs.Charges.{cost_of-bound}
use Rattle.msp_pieces.proofs.costs.InTime.{meets_jobs}
use Rattle.msp_slots.specs.declared.earliest.Slot.{Slot}
use Rattle.msp_slots.specs.Seating.{IsSeated}
use Rattle.msp_slots.specs.Earliest.{start_in, machine_in, AreSlots}
use Rattle.msp_slots.proofs.Begins.{head_at, HasBegins, begins_of}
use Rattle.msp_slots.proofs.UnitPieces.{AreUnitPieces, pieces_at, AreUnitPieces-from, in_units}
use Rattle.msp_slots.proofs.SlotPlaces.{heads_many, slot_inside, same_slot, seats_in}
use Rattle.msp_threshold.specs.Squeezed.{CanMeet}
use Rattle.msp_threshold.proofs.Facts.{IsLatenessShop, unit_jobs}

-- the cost of a schedule over unit 1 can be met
pub own_cost : (i : Instance) (pieces : List Piece) → Feasible i (record { unit = pos 1; pieces = pieces }) → CanMeet i (cost_of i (record { unit = pos 1; pieces = pieces }))
own_cost i pieces f = (record { unit = pos 1; pieces = pieces }, f, omega (arith, ints))

module _ (i : Instance) (t : IsLatenessShop i) where
  abbrev n : ℕ
  n = length i.jobs

  abbrev due : ℕ → ℤ
  due j = (job_at i j).due

  abbrev InTime : ℤ → (ℕ → ℕ) → Type 0
  InTime bound begin = (j : ℕ) → j < n → pos (begin j + 1) ≤ℤ (due j +ℤ bound)

  -- ---- from a schedule to moments
  pub record HasMoments (bound : ℤ) : Type 0 where
    pub begin : ℕ → ℕ
    pub seated : IsSeated n i.machines (head_at i) begin
    pub in_time : InTime bound begin

  moments : (s : Schedule) → Feasible i s → (begin : ℕ → ℕ) × HasBegins i s begin
  moments s f = begins_of i s t.kind t.cut (unit_jobs i t).ones f

  pub moments_of : (bound : ℤ) → CanMeet i bound → HasMoments bound
  moments_of bound (s, f, m) = let (begin, b) = moments s f in record {
    begin = begin;
    seated = b.seated;
    in_time = λ j l. *ℤ-cancel_pos s.unit (omega (arith, ints, f.unit)) (≤ℤ_trans (b.ends j l) ((meets_jobs i bound s t.crit t.some).0 m j l));
  }

  -- a schedule that costs less than a bound
  pub moments_below : (bound : ℤ) (s : Schedule) → Feasible i s → cost_of i s <ℤ (bound *ℤ s.unit) → HasMoments (bound -ℤ pos 1)
  moments_below bound s f less = let (begin, b) = moments s f in record {
    begin = begin;
    seated = b.seated;
    in_time = λ j l. one_less (pos (begin j + 1)) (due j)
        (*ℤ-cancel_lt (nat_abs s.unit) (subst (λ u. (u *ℤ pos (begin j + 1)) <ℤ (u *ℤ (due j +ℤ bound))) unit_is (strict j l (pos (begin j + 1)) (b.ends j l))));
  }
    where
      unit_is : s.unit ≡ pos (nat_abs s.unit)
      unit_is = natural s.unit (omega (arith, ints, f.unit))

      one_less : (x d : ℤ) → x <ℤ (d +ℤ bound) → x ≤ℤ (d +ℤ (bound -ℤ pos 1))
      one_less x d h = omega (arith, ints, h)

      parts : (x e d b c t : ℤ) → x ≤ℤ e → (e -ℤ d) ≤ℤ c → c <ℤ b → t ≡ d +ℤ b → x <ℤ t
      parts x e d b c t p q r u = omega (arith, ints, p, q, r, u)

      strict : (j : ℕ) → j < n → (x : ℤ) → (s.unit *ℤ x) ≤ℤ end_of s j → (s.unit *ℤ x) <ℤ (s.unit *ℤ (due j +ℤ bound))
      strict j l x h = parts (s.unit *ℤ x) (end_of s j) (s.unit *ℤ due j) (s.unit *ℤ bound) (cost_of i s) (s.unit *ℤ (due j +ℤ bound)) h
          (subst (λ c. job_cost c s.unit (job_at i j) (end_of s j) ≤ℤ cost_of i s) t.crit (cost_of-bound i s (ap is_greatest t.crit) j l))
          (subst (λ z. cost_of i s <ℤ z) (*ℤ_comm bound s.unit) less) (*ℤ-add s.unit (due j) bound)

  -- ---- from moments to a schedule
  pub meets_pieces : (bound : ℤ) (begin machine : ℕ → ℕ) (pieces : List Piece) → AreUnitPieces i begin machine pieces → InTime bound begin → CanMeet i bound
  meets_pieces bound begin machine pieces h ends = (
    record { unit = pos 1; pieces = pieces },
    (in_units i (unit_jobs i t) begin machine pieces h).runs.feasible,
    (meets_jobs i bound (record { unit = pos 1; pieces = pieces }) t.crit t.some).1 (λ j l.
        subst₂ (λ x y. x ≤ℤ y) (sym ((in_units i (unit_jobs i t) begin machine pieces h).runs.ends j l)) (sym (one-*ℤ (due j +ℤ bound))) (ends j l)),
  )

  module _ (heads : List ℕ) (slots : List Slot) (filled : AreSlots i.machines heads slots) (many : length heads ≡ n) where
    abbrev start : ℕ → ℕ
    start = start_in slots

    -- each job in a slot of its own
    pub meets_seats : (bound : ℤ) (seat : ℕ → ℕ) → ((j : ℕ) → j < n → seat j < n) → ((j k : ℕ) → j < n → k < n → seat j ≡ seat k → j ≡ k)
        → ((j : ℕ) → j < n → (job_at i j).release ≤ start (seat j)) → InTime bound (λ j. start (seat j)) → CanMeet i bound
    meets_seats bound seat inside once released here =
        meets_pieces bound (λ j. start (seat j)) (λ j. machine_in slots (seat j)) (pieces_at (λ j. start (seat j)) (λ j. machine_in slots (seat j)) (range_with_len 0 n))
        (AreUnitPieces-from i (λ j. start (seat j)) (λ j. machine_in slots (seat j)) t.arcs (λ j l. slot_inside i.machines heads slots filled (seat j) (omega (arith, inside j l, many)))
        (λ j k l b e f. once j k l b (same_slot i.machines heads slots filled (seat j) (seat k) (omega (arith, inside j l, many)) (omega (arith, inside k b, many)) e f)) released
        (λ j l. omega (arith, filled.soon (seat j) (omega (arith, inside j l, many)), many, t.few)))
        here

  pub meets_moments : (heads : List ℕ) (slots : List Slot) → IsPermutation (map (λ j. j.release) i.jobs) heads → AreSlots i.machines heads slots → (bound : ℤ) → HasMoments bound → CanMeet i bound
  meets_moments heads slots all filled bound m =
      let (seat, h) = seats_in i heads slots all filled m.begin m.seated in
      meets_seats heads slots filled (heads_many i heads all)
      bound seat h.inside h.once h.released (λ j l. ≤ℤ_trans (pos-le (add-le-add (h.early j l) (le_refl 1))) (m.in_time j l))
