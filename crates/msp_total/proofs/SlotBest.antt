-- A schedule of least cost in the slots of the earliest schedule is feasible and best.
use Rattle.std.proofs.Common.{◌≡◌, ℕ, ◌<◌, ◌≤◌, Bool, List, length, get_or, map, pos, ◌≤ℤ◌, All, refl, sym, ap, subst, ◌∙◌, arith}
use Rattle.std.specs.List.{range_with_len}
use Rattle.std.proofs.lemmas.List.{length-map, get_or-map}
use Rattle.std.proofs.lemmas.List.FromFn.{length-range_with_len, get_or-range_with_len}
use Rattle.std.proofs.lemmas.Grind.{same_number_lists}
use Rattle.std.proofs.lemmas.List.Elements.{All-nil}
use Rattle.msp_class.proofs.IntegerRing.{≤ℤ_of_same}
use Rattle.msp_class.proofs.Sums.{OnceBelow, OnceBelow-range}
use Rattle.msp_instance.specs.declared.Arc.{Arc}
use Rattle.msp_instance.specs.declared.Instance.{Instance}
use Rattle.msp_instance.specs.Conditions.{Inner}
use Rattle.msp_pieces.specs.declared.Piece.{Piece}
use Rattle.msp_class.specs.Env.{kind_of}
use Rattle.msp_pieces.specs.Cost.{Best}
use Rattle.msp_pieces.proofs.feasible.OfClass.{IsOfClass, IsOfClass-from}
use Rattle.msp_route.specs.Bounds.{IsBestAnswer}
use Rattle.msp_route.proofs.Owed.{unit_one}
use Rattle.msp_route.proofs.OneEach.{one_each_is_answer}
use Rattle.msp_assign.specs.Prices.{column_of}
use Rattle.msp_slots.specs.Earliest.{start_in, machine_in, piece_in}
use Rattle.msp_slots.proofs.Begins.{begins_of}
use Rattle.msp_slots.proofs.UnitPieces.{HasUnitJobs, HasUnitJobs-from, AreUnitPieces, IsInUnits, in_units}
use Rattle.msp_total.specs.LeastSlots.{HasSmallDates}
use Rattle.msp_total.specs.SlotSteps.{slot_class, AreLeastLaid}
use Rattle.msp_total.proofs.SlotFacts.{HasSmallDates-from}
use Rattle.msp_total.proofs.LeastSlots.{chosen_soon, chosen_machine, chosen_apart, in_time, best_in_slots}

abbrev pub IsUnitShop : Instance → Bool → Type 0
IsUnitShop i late = IsOfClass i (slot_class late)

pub small_dates : (i : Instance) (late : Bool) → IsUnitShop i late → HasSmallDates i
small_dates i late h = HasSmallDates-from i (slot_class late) late h refl refl refl

module _ (i : Instance) (late : Bool) (h : IsUnitShop i late) (pieces : List Piece) (l : AreLeastLaid i late pieces) where
  abbrev n : ℕ
  n = length i.jobs

  abbrev start : ℕ → ℕ
  start = start_in l.slots

  abbrev col : ℕ → ℕ
  col = column_of l.column

  small : HasSmallDates i
  small = small_dates i late h

  unit_jobs : HasUnitJobs i
  unit_jobs = HasUnitJobs-from i _ _ _ _ refl h

  -- ---- the pieces
  count : length pieces ≡ n
  count = l.laid.all

  all_pieces : (P : Piece → Type 0) → ((j : ℕ) → j < n → P (piece_in l.slots j (col j))) → All P pieces
  all_pieces P f k d b = let w : k < n = omega (arith, b, count) in subst P (sym (l.laid.each k d w)) (f k w)

  jobs : OnceBelow n (map (λ p. p.job) pieces)
  jobs = subst (OnceBelow n) (sym numbers) (OnceBelow-range n)
    where
      numbers : map (λ p. p.job) pieces ≡ range_with_len 0 n
      numbers = same_number_lists (map (λ p. p.job) pieces) (range_with_len 0 n)
          (length-map pieces (λ p. p.job) ∙ count ∙ sym (length-range_with_len 0 n)) (λ j b. place j (omega (arith, b, length-map pieces (λ p. p.job), count)))
        where
          place : (j : ℕ) → j < n → get_or (map (λ p. p.job) pieces) j 0 ≡ get_or (range_with_len 0 n) j 0
          place j b = let z = piece_in l.slots 0 0 in
              omega (arith, get_or-map (λ p. p.job) pieces j z 0 (omega (arith, b, count)), ap (λ p. p.job) (l.laid.each j z b), get_or-range_with_len 0 n j 0 b)

  unit_pieces : AreUnitPieces i (λ j. start (col j)) (λ j. machine_in l.slots (col j)) pieces
  unit_pieces = record {
    jobs = jobs;
    each = all_pieces (λ p. p ≡ piece_in l.slots p.job (col p.job)) (λ j b. refl);
    inside = chosen_machine i late i.machines 1 small h.machine (omega arith) (omega arith) l.slots l.column l.least;
    apart = chosen_apart i late i.machines 1 small h.machine (omega arith) (omega arith) l.slots l.column l.least;
    released = in_time i late i.machines 1 small h.machine (omega arith) (omega arith) l.slots l.column l.least;
    forward = subst (All (λ a. start (col a.before) < start (col a.after))) (sym h.arcs) (All-nil (λ (a : Arc). start (col a.before) < start (col a.after)));
    early = λ j b. omega (arith, chosen_soon i late i.machines 1 small h.machine (omega arith) (omega arith) l.slots l.column l.least j b);
  }

  units : IsInUnits i (λ j. start (col j)) pieces
  units = in_units i unit_jobs _ _ pieces unit_pieces

  best : Best i (record { unit = pos 1; pieces = pieces })
  best = best_in_slots i late i.machines 1 small h.machine (omega arith) (omega arith) l.slots l.column l.least h.crit pieces
      (λ j b. ≤ℤ_of_same (units.runs.ends j b)) units.runs.feasible (λ t f. begins_of i t h.kind h.cut unit_jobs.ones f)

pub IsSlotAnswer-from : (i : Instance) (late : Bool)
    → i.class ≡ slot_class late → Inner i → (pieces : List Piece) → AreLeastLaid i late pieces → IsBestAnswer i (record { unit = pos 1; pieces = pieces })
IsSlotAnswer-from i late class inner pieces l =
    let h = IsOfClass-from i (slot_class late) class inner in
    let units = units i late h pieces l in
    record { best = best i late h pieces l; answer = one_each_is_answer i units.runs.uncut 1 pieces units.runs.one_each (unit_one (kind_of i.class.env)) }
