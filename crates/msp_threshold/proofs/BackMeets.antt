-- The law of squeezing, the other way: a schedule of the squeezed instance in which no job is late, brought back to the kept moments, is
-- feasible and meets the bound.
use Rattle.std.proofs.Common.{◌≡◌, ℕ, ◌+◌, ◌*◌, ◌<◌, ◌≤◌, inl, inr, cond, eqb, List, [], ◌∷◌, length, get_or, map, count_by, All, AllPairs, ℤ, pos, nat_abs, ◌+ℤ◌, ◌*ℤ◌, ◌≤ℤ◌, add-le-add, le_refl}
use Rattle.std.proofs.Common.{◌<ℤ◌, refl, sym, ap, ap₂, subst, subst₂, ◌∙◌, arith}
use Rattle.std.specs.Prelude.{int_le}
use Rattle.std.proofs.lemmas.Int.{ints}
use Rattle.std.proofs.lemmas.Simd.{map-map}
use Rattle.std.proofs.lemmas.List.{length-map, get_or-map, get_or_default}
use Rattle.std.proofs.lemmas.List.Elements.{All-map}
use Rattle.std.proofs.lemmas.List.Sums.{length-filter, count_by-le-length}
use native.Mathlib.Nat.{le_of_mul-le-mul_left, lt_of_mul-lt-mul_left}
use Rattle.msp_class.specs.Env.{kind_of}
use Rattle.msp_class.proofs.IntegerRing.{natural, pos-le, le-pos, pos-lt, zero-le-pos, one-*ℤ, +ℤ_idr, ≤ℤ_trans}
use Rattle.msp_class.proofs.Sums.{OnceBelow, sum_by-map}
use Rattle.msp_instance.specs.declared.Instance.{Instance}
use Rattle.msp_instance.specs.Instance.{no_job, job_at}
use Rattle.msp_instance.specs.Conditions.{LiesWithin}
use Rattle.msp_pieces.specs.declared.Piece.{Piece}
use Rattle.msp_pieces.specs.declared.Schedule.{Schedule}
use Rattle.msp_pieces.specs.Piece.{pieces_of, IsApart}
use Rattle.msp_pieces.specs.Feasible.{Feasible, HasPlace, IsWholeWork}
use Rattle.msp_pieces.specs.Cost.{cost_of, end_of}
use Rattle.msp_pieces.specs.Laws.{floored, floored_piece}
use Rattle.msp_pieces.proofs.bounds.EndsAndFloors.{law_of_floors}
use Rattle.msp_pieces.proofs.costs.InTime.{EndsInTime, meets_jobs, free_jobs}
use Rattle.msp_pieces.proofs.changes.Moves.{AllPairs-map}
use Rattle.msp_pieces.proofs.feasible.LastEnds.{last_end-bound, last_end-least}
use Rattle.msp_pieces.proofs.feasible.OneMachine.{pieces_of-job}
use Rattle.msp_pieces.proofs.feasible.BackToBack.{ordered_without_arcs}
use Rattle.msp_pieces.proofs.feasible.OneEach.{IsUncut, IsUncut-identical, AreOneEach, one_each_is_feasible}
use Rattle.msp_route.specs.declared.bounds.TheConstants.{GREATEST_ANSWER_MOMENT}
use Rattle.msp_slots.proofs.UnitPieces.{HasUnitJobs}
use Rattle.msp_threshold.specs.Squeezed.{greatest_bound, AreKept, HasTime, squeezed_due, squeezed_by, CanMeet, CanBeFree}
use Rattle.msp_threshold.specs.Search.{number_of, piece_back, pieces_back}
use Rattle.msp_threshold.proofs.Rising.{released_there, in_time_there}
use Rattle.msp_threshold.proofs.Meeting.{moments_of}
use Rattle.msp_threshold.proofs.Facts.{IsLatenessShop, unit_jobs, due_small, many, lower_release, lower_due, lower_units}

module _ (i : Instance) (t : IsLatenessShop i) (kept : List ℕ) (k : AreKept i kept) (bound : ℤ) (small : LiesWithin greatest_bound bound) (possible : All (HasTime bound) i.jobs)
    (s : Schedule) (f : Feasible (squeezed_by kept bound i) s) (free : cost_of (squeezed_by kept bound i) s ≡ pos 0) where
  abbrev n : ℕ
  n = length i.jobs

  abbrev lower : Instance
  lower = squeezed_by kept bound i

  abbrev unit : ℕ
  unit = nat_abs s.unit

  units : HasUnitJobs lower
  units = lower_units i t kept bound

  unit_is : s.unit ≡ pos unit
  unit_is = natural s.unit (omega (arith, ints, f.unit))

  some_unit : 1 ≤ unit
  some_unit = le-pos (subst (λ u. pos 1 ≤ℤ u) unit_is f.unit)

  -- ---- the schedule whose pieces begin at whole moments
  g : Schedule
  g = floored s

  g_feasible : Feasible lower (floored s)
  g_feasible = (law_of_floors lower s units.kind units.cut units.ones f).0

  no_later : (j : ℕ) → end_of (floored s) j ≤ℤ end_of s j
  no_later = (law_of_floors lower s units.kind units.cut units.ones f).1

  at_floor : (P : Piece → Type 0) → All P (floored s).pieces → (m : ℕ) (d : Piece) → m < length s.pieces → P (floored_piece s.unit (get_or s.pieces m d))
  at_floor P h m d l = subst P (get_or-map (floored_piece s.unit) s.pieces m d d l) (h m d (omega (arith, l, length-map s.pieces (floored_piece s.unit))))

  -- ---- each piece
  record IsInSlot (p : Piece) : Type 0 where
    job : p.job < n
    machine : p.machine < i.machines
    inside : number_of s.unit p < length kept
    released : (job_at i p.job).release ≤ get_or kept (number_of s.unit p) 0
    in_time : pos (get_or kept (number_of s.unit p) 0 + 1) ≤ℤ ((job_at i p.job).due +ℤ bound)

  in_slot : All IsInSlot s.pieces
  in_slot m d l = by (get_or s.pieces m d) (at_floor (HasPlace lower) g_feasible.place m d l) (at_floor (λ p. (s.unit *ℤ pos (job_at lower p.job).release) ≤ℤ p.from) g_feasible.release m d l)
      (at_floor (λ p. p.to ≤ℤ end_of (floored s) p.job) (last_end-bound (floored s).pieces) m d l)
    where
      by : (p : Piece) → HasPlace lower (floored_piece s.unit p) → (s.unit *ℤ pos (job_at lower p.job).release) ≤ℤ (s.unit *ℤ pos (number_of s.unit p))
          → ((s.unit *ℤ pos (number_of s.unit p)) +ℤ s.unit) ≤ℤ end_of (floored s) p.job → IsInSlot p
      by p place head end = record {
        job = inside_job;
        machine = place.machine;
        inside = inside;
        released = released_there kept k.rising q inside (job_at i p.job).release
            (le_of_mul-le-mul_left {k = unit} (le-pos (subst₂ (λ u r. (u *ℤ pos r) ≤ℤ (u *ℤ pos q)) unit_is (lower_release i t kept bound p.job inside_job) head)) some_unit);
        in_time = in_time_there kept k.rising q inside date early;
      }
        where
          q : ℕ
          q = number_of s.unit p

          date : ℤ
          date = (job_at i p.job).due +ℤ bound

          inside_job : p.job < n
          inside_job = omega (arith, place.job, many i t kept bound)

          in_due : end_of s p.job ≤ℤ (s.unit *ℤ ((job_at lower p.job).due +ℤ pos 0))
          in_due = (free_jobs lower s refl f.unit).0 free p.job place.job

          early : q < squeezed_due kept date
          early =
              let reached = le-pos (subst₂ (λ x y. x ≤ℤ y) (ap (λ u. (u *ℤ pos q) +ℤ u) unit_is) (ap₂ (λ u d. u *ℤ d) unit_is
              (+ℤ_idr (job_at lower p.job).due ∙ lower_due i t kept bound p.job inside_job)) (≤ℤ_trans end (≤ℤ_trans (no_later p.job) in_due))) in
              lt_of_mul-lt-mul_left unit (omega (arith, some_unit, reached))

          inside : q < length kept
          inside = omega (arith, early, count_by-le-length (λ x. int_le (pos (x + 1)) date) kept)

  -- ---- the pieces brought back
  abbrev move : Piece → Piece
  move = piece_back kept s.unit

  abbrev pub back : List Piece
  back = pieces_back kept s

  ops : All (λ p. p.op ≡ 0) s.pieces
  ops m d l = (f.place m d l).operation

  jobs : OnceBelow n (map (λ p. p.job) s.pieces)
  jobs = record {
    within = All-map (λ j. j < n) (λ p. p.job) s.pieces (λ m d l. (in_slot m d l).job);
    once = λ j l. let (p, e, w) = f.work j 0 (omega (arith, l, many i t kept bound)) refl in once j p e;
  }
    where
      once : (j : ℕ) (p : Piece) → pieces_of s j 0 ≡ p ∷ [] → count_by (λ x. eqb x j) (map (λ p. p.job) s.pieces) ≡ 1
      once j p e = sum_by-map (λ x. cond (eqb x j) 1 0) (λ p. p.job) s.pieces ∙ sym (length-filter (λ p. eqb p.job j) s.pieces) ∙ ap length (sym (pieces_of-job s j ops) ∙ e)

  apart : AllPairs (λ p q. p.machine ≡ q.machine → IsApart p q) back
  apart = AllPairs-map (λ p q. p.machine ≡ q.machine → IsApart p q) move s.pieces (λ a b d l m e.
      let la : a < length s.pieces = omega (arith, l, m) in
      by (get_or s.pieces a d) (get_or s.pieces b d) (in_slot a d la) (in_slot b d m) (floors a b d l m e))
    where
      floors : (a b : ℕ) (d : Piece) → a < b → b < length s.pieces → (get_or s.pieces a d).machine ≡ (get_or s.pieces b d).machine
          → IsApart (floored_piece s.unit (get_or s.pieces a d)) (floored_piece s.unit (get_or s.pieces b d))
      floors a b d l m = subst₂ (λ p q. p.machine ≡ q.machine → IsApart p q) (get_or-map (floored_piece s.unit) s.pieces a d d (omega (arith, l, m)))
          (get_or-map (floored_piece s.unit) s.pieces b d d m) (g_feasible.machine a b d l (omega (arith, m, length-map s.pieces (floored_piece s.unit))))

      before : (p q : Piece) → IsInSlot q → ((s.unit *ℤ pos (number_of s.unit p)) +ℤ s.unit) ≤ℤ (s.unit *ℤ pos (number_of s.unit q))
          → pos (get_or kept (number_of s.unit p) 0 + 1) ≤ℤ pos (get_or kept (number_of s.unit q) 0)
      before p q on h = pos-le (omega (
        arith,
        k.rising (number_of s.unit p) (number_of s.unit q) 0 (lt_of_mul-lt-mul_left unit
            (omega (arith, some_unit, le-pos (subst (λ u. ((u *ℤ pos (number_of s.unit p)) +ℤ u) ≤ℤ (u *ℤ pos (number_of s.unit q))) unit_is h)))) on.inside,
      ))

      by : (p q : Piece) → IsInSlot p → IsInSlot q → IsApart (floored_piece s.unit p) (floored_piece s.unit q) → IsApart (move p) (move q)
      by p q on at (inl h) = inl (before p q at h)
      by p q on at (inr h) = inr (before q p on h)

  pub back_each : AreOneEach i 1 back
  back_each = record {
    some = omega arith;
    jobs = subst (OnceBelow n) (sym (map-map (λ p. p.job) move s.pieces)) jobs;
    ops = All-map (λ p. p.op ≡ 0) move s.pieces (λ m d l. refl);
    inside = All-map (λ p. p.machine < i.machines) move s.pieces (λ m d l. (in_slot m d l).machine);
    span = All-map (λ p. (pos 0 ≤ℤ p.from) × (p.from <ℤ p.to)) move s.pieces (λ m d l. (zero-le-pos _, pos-lt (omega arith)));
    apart = apart;
    released = All-map (λ p. (pos 1 *ℤ pos (job_at i p.job).release) ≤ℤ p.from) move s.pieces
        (λ m d l. omega (arith, ints, (in_slot m d l).released));
    forward = ordered_without_arcs i.arcs back t.arcs;
    whole = All-map (IsWholeWork (kind_of i.class.env) i (pos 1)) move s.pieces (λ m d l.
        let p = get_or s.pieces m d in
        subst (λ e. IsWholeWork e i (pos 1) (move p)) (sym t.kind) (omega (arith, ints, (unit_jobs i t).ones p.job (in_slot m d l).job)));
    ends = All-map (λ p. p.to ≤ℤ GREATEST_ANSWER_MOMENT) move s.pieces (λ m d l.
        let p = get_or s.pieces m d in
        omega (arith, ints, (in_slot m d l).in_time, (due_small i t p.job no_job (in_slot m d l).job).1, small.1));
  }

  abbrev schedule : Schedule
  schedule = record { unit = pos 1; pieces = back }

  uncut : IsUncut i
  uncut = IsUncut-identical i t.kind t.cut t.few

  pub back_feasible : Feasible i (record { unit = pos 1; pieces = back })
  back_feasible = one_each_is_feasible i uncut 1 back back_each

  ends_in_time : (j : ℕ) → j < n → EndsInTime i bound schedule j
  ends_in_time j l = last_end-least back j (pos 1 *ℤ date) (subst (λ x. pos 0 ≤ℤ x) (sym (one-*ℤ date)) (≤ℤ_trans (zero-le-pos ((job_at i j).release + 1)) (possible j no_job l)))
      (All-map (λ p. p.job ≡ j → p.to ≤ℤ (pos 1 *ℤ date)) move s.pieces
      (λ m d b e. subst (λ x. pos (get_or kept (number_of s.unit (get_or s.pieces m d)) 0 + 1) ≤ℤ x) (ap (λ a. (job_at i a).due +ℤ bound) e ∙ sym (one-*ℤ date)) (in_slot m d b).in_time))
    where
      date : ℤ
      date = (job_at i j).due +ℤ bound

  pub back_meets : cost_of i (record { unit = pos 1; pieces = back }) ≤ℤ (bound *ℤ pos 1)
  back_meets = (meets_jobs i bound schedule t.crit t.some).1 ends_in_time

  -- its numbers are those of kept moments
  pub back_inside : All (λ p. number_of s.unit p < length kept) s.pieces
  back_inside m d l = (in_slot m d l).inside

pub met_if_free : (i : Instance) → IsLatenessShop i → (kept : List ℕ)
    → AreKept i kept → (bound : ℤ) → LiesWithin greatest_bound bound → All (HasTime bound) i.jobs → CanBeFree (squeezed_by kept bound i) → CanMeet i bound
met_if_free i t kept k bound small possible (s, f, free) =
    (record { unit = pos 1; pieces = pieces_back kept s }, back_feasible i t kept k bound small possible s f free, back_meets i t kept k bound small possible s f free)

-- a bound that can be met leaves each job time
pub time_if_met : (i : Instance) → IsLatenessShop i → (bound : ℤ) → CanMeet i bound → All (HasTime bound) i.jobs
time_if_met i t bound met j d l = let m = moments_of i t bound met in
    subst (HasTime bound) (get_or_default i.jobs j no_job d l) (≤ℤ_trans (pos-le (add-le-add (m.seated.released j l) (le_refl 1))) (m.in_time j l))
