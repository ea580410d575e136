-- The law of segments: floors, and the law of ends list by list.
use Rattle.std.proofs.Common.{◌≡◌, ◌≢◌, ℕ, ◌+◌, ◌*◌, ◌/◌, ◌-◌, ◌<◌, ◌≤◌, Bool, true, cond, List, [], ◌∷◌, length, get_or, pos, nat_abs, ◌-ℤ◌, ◌*ℤ◌, ◌≤ℤ◌, All, AllPairs}
use Rattle.std.proofs.Common.{Contains, refl, sym, ap, subst, subst₂, ◌∙◌, arith}
use Rattle.std.specs.Prelude.{◌==◌, ⊤}
use Rattle.std.specs.List.{AllAdjacentBelow, flat_map, list_any}
use Rattle.std.proofs.lemmas.List.Elements.{All-head, All-tail, All-contains, Contains-get_or}
use Rattle.std.proofs.lemmas.List.Sums.{sum_by-cons}
use native.Mathlib.Nat.{mul-le-mul_left, le_of_mul-le-mul_left}
use Rattle.msp_class.specs.declared.environments.EnvKind.TheVariants.{Identical}
use Rattle.msp_class.specs.Env.{kind_of}
use Rattle.msp_class.proofs.Sums.{AllAdjacent-tail, sum_by-constant, sum_by-distinct_test, total_below-range, total_below-same}
use Rattle.msp_class.proofs.IntegerRing.{pos-le, le-pos, pos-sub, zero-le-pos, ≤ℤ_trans, <ℤ_weak}
use Rattle.msp_instance.specs.declared.Instance.{Instance}
use Rattle.msp_instance.specs.Instance.{need_at}
use Rattle.msp_instance.specs.Paths.{HasStep, HasPath, one, more}
use Rattle.msp_instance.proofs.ListingLemmas.{list_any-from_Contains, Contains-from_list_any}
use Rattle.msp_pieces.specs.declared.Piece.{Piece}
use Rattle.msp_pieces.specs.declared.Schedule.{Schedule}
use Rattle.msp_pieces.specs.Piece.{IsBefore}
use Rattle.msp_pieces.specs.Feasible.{Feasible}
use Rattle.msp_pieces.specs.Cost.{end_of}
use Rattle.msp_pieces.specs.Laws.{time_together, BeginsFrom, floored}
use Rattle.msp_pieces.specs.Segments.{LeadTo, AreSegments, segments_bound, LawOfSegments}
use Rattle.msp_pieces.proofs.lists.Parts.{AllPairs-front, AllPairs-back}
use Rattle.msp_pieces.proofs.feasible.OneMachine.{pieces_timed, unit_in_parts}
use Rattle.msp_pieces.proofs.bounds.EndsAndFloors.{law_of_ends, law_of_floors}
use Rattle.msp_pieces.proofs.bounds.Floored.{FillsUnit, floored-fills}
use Rattle.msp_pieces.proofs.feasible.LastEnds.{last_end-reached, last_end-contains}
use Rattle.msp_pieces.proofs.feasible.Frames.{Fits, Lasts, frame_of, piece_of, IsShaped-from_identical, Fits-from_feasible}
use Rattle.msp_pieces.proofs.bounds.Groups.{ends_last}
use Rattle.msp_pieces.proofs.bounds.LevelBound.{rounded_up, cancelled, unit_work}

-- ---- lists
AreSegments-rest : (i : Instance) (jobs : List ℕ) (rest : List (List ℕ)) → AreSegments i (jobs ∷ rest) → AreSegments i rest
AreSegments-rest i jobs rest a = record {
  some = All-tail (λ js. 0 < length js) jobs rest a.some;
  inside = All-tail (λ js. All (λ j. j < length i.jobs) js) jobs rest a.inside;
  apart = AllPairs-back (λ j k. j ≢ k) jobs (flat_map (λ js. js) rest) a.apart;
  lead = AllAdjacent-tail (LeadTo i) jobs rest a.lead;
}

-- whether the job is one of the list
abbrev is_in : List ℕ → ℕ → Bool
is_in jobs j = list_any (λ x. x == j) jobs

-- ---- numbers
room_in_units : (u m n h d : ℕ) → 1 ≤ u → h ≤ d → u * n ≤ m * (u * d - u * h) → n ≤ m * (d - h)
room_in_units u m n h d some less r = by (d - h) (omega arith)
  where
    by : (w : ℕ) → d ≡ h + w → n ≤ m * w
    by w e =
        let more : u * d ≡ u * h + u * w = ap (λ x. u * x) e ∙ omega arith in
        let cut : u * d - u * h ≡ u * w = omega (arith, more) in
        cancelled u m n w some (subst (λ x. u * n ≤ m * x) cut r)

-- ---- along paths
module _ (i : Instance) (kind : kind_of i.class.env ≡ Identical) (ones : (k : ℕ) → k < length i.jobs → (need_at i k 0).time ≡ 1)
    (ends : All (λ a. (a.before < length i.jobs) × (a.after < length i.jobs)) i.arcs) (s : Schedule) (f : Feasible i s) where
  fits : Fits (frame_of i) s.unit s.pieces
  fits = Fits-from_feasible i s (IsShaped-from_identical i kind) f

  arc_inside : (j k : ℕ) → HasStep i.arcs j k → (j < length i.jobs) × (k < length i.jobs)
  arc_inside j k c = All-contains (λ a. (a.before < length i.jobs) × (a.after < length i.jobs)) i.arcs (record { before = j; after = k }) ends c

  after_arc : (j k : ℕ) → HasStep i.arcs j k → (q : Piece) → Contains s.pieces q → q.job ≡ k → end_of s j ≤ℤ q.from
  after_arc j k c q here of =
      let (p, there, own, last) = last_end-reached (frame_of i) s.unit s.pieces fits (unit_work i kind ones) j (arc_inside j k c).0 in
      let pairs = All-contains (λ a. All (λ p. All (λ q. p.job ≡ a.before → q.job ≡ a.after → IsBefore p q) s.pieces) s.pieces) i.arcs (record { before = j; after = k }) f.arc c in
      let later = All-contains (λ p. All (λ q. p.job ≡ j → q.job ≡ k → IsBefore p q) s.pieces) s.pieces p pairs there in
      subst (λ x. x ≤ℤ q.from) last (All-contains (λ q. p.job ≡ j → q.job ≡ k → IsBefore p q) s.pieces q later here own of)

  -- no piece begins before a job from which a path leads to its job has ended
  after_path : (j k : ℕ) → HasPath i.arcs j k → (q : Piece) → Contains s.pieces q → q.job ≡ k → end_of s j ≤ℤ q.from
  after_path j k (one c) q here of = after_arc j k c q here of
  after_path j k (more {j = a} {k = b} {l = c} step path) q here of = ≤ℤ_trans (passed b (arc_inside j b step).1 (after_arc j b step)) (after_path b k path q here of)
    where
      passed : (b : ℕ) → b < length i.jobs → ((r : Piece) → Contains s.pieces r → r.job ≡ b → end_of s j ≤ℤ r.from) → end_of s j ≤ℤ end_of s b
      passed b l h =
          let (r, there, own) = piece_of (frame_of i) s.unit s.pieces fits (unit_work i kind ones) b l in
          ≤ℤ_trans (h r there own) (≤ℤ_trans (<ℤ_weak (All-contains Lasts s.pieces r f.span there).1) (subst (λ x. r.to ≤ℤ end_of s x) own (last_end-contains s.pieces r there)))

  -- ---- pieces that last one unit and begin at multiples of it
  module _ (unit : ℕ) (unit_is : s.unit ≡ pos unit) (pieces : All (FillsUnit unit) s.pieces) where
    some_unit : 1 ≤ unit
    some_unit = le-pos (subst (λ x. pos 1 ≤ℤ x) unit_is f.unit)

    -- a job that begins from h units on ends at a whole number of units, which is greater
    whole_end : (test : ℕ → Bool) (h k : ℕ) → BeginsFrom (pos (unit * h)) test s → k < length i.jobs → test k ≡ true → (d : ℕ) × (end_of s k ≡ pos (unit * d)) × (h ≤ d)
    whole_end test h k begins l passes =
        let (p, here, own, last) = last_end-reached (frame_of i) s.unit s.pieces fits (unit_work i kind ones) k l in
        let (q, from, to) = All-contains (FillsUnit unit) s.pieces p pieces here in
        let first = All-contains (λ p. test p.job ≡ true → pos (unit * h) ≤ℤ p.from) s.pieces p begins here (ap test own ∙ passes) in
        (q + 1, sym last ∙ to ∙ ap pos (omega arith), let less : h ≤ q = le_of_mul-le-mul_left {k = unit} (le-pos (subst (λ x. pos (unit * h) ≤ℤ x) from first)) some_unit in omega arith)

    -- the jobs of a list, none of which begins before h units, take as many units as the law of ends says
    list_takes : (jobs : List ℕ) (h : ℕ) → 0 < length jobs → All (λ j. j < length i.jobs) jobs → AllPairs (λ j k. j ≢ k) jobs → BeginsFrom (pos (unit * h)) (is_in jobs) s
        → (k : ℕ) × (d : ℕ) × Contains jobs k × (k < length i.jobs) × (end_of s k ≡ pos (unit * d)) × (h ≤ d) × ((length jobs + (i.machines - 1)) / i.machines ≤ d - h)
    list_takes jobs h some inside apart begins =
        let first = get_or jobs 0 0 in
        let (k, last, room) = law_of_ends.last i s (is_in jobs) (pos (unit * h)) kind f (zero-le-pos (unit * h))
        begins (λ j l. omega (arith, ones j l)) first (inside 0 0 some) (list_any-from_Contains jobs first (Contains-get_or jobs 0 0 some)) in
        let (d, is, less) = whole_end (is_in jobs) h k begins last.inside last.passes in (
          k,
          d,
          Contains-from_list_any jobs k last.passes,
          last.inside,
          is,
          less,
          rounded_up (length jobs) i.machines (d - h) (omega (arith, some))
              (in_units d less (subst₂ (λ u e. (u *ℤ pos (time_together i (is_in jobs))) ≤ℤ (pos i.machines *ℤ (e -ℤ pos (unit * h)))) unit_is is room)),
        )
      where
        n : ℕ
        n = length i.jobs

        long : length jobs ≤ time_together i (is_in jobs)
        long = omega (
          arith,
          sum_by-constant 1 jobs,
          sum_by-distinct_test (λ _. 1) (is_in jobs) n jobs inside apart (λ x d l. list_any-from_Contains jobs (get_or jobs x d) (Contains-get_or jobs x d l)),
          total_below-range n (λ j. cond (is_in jobs j) (need_at i j 0).time 0),
          total_below-same n (λ j. cond (is_in jobs j) (need_at i j 0).time 0) (λ j. cond (is_in jobs j) 1 0) (λ j l. ap (λ t. cond (is_in jobs j) t 0) (ones j l)),
        )

        in_units : (d : ℕ) → h ≤ d → (pos unit *ℤ pos (time_together i (is_in jobs))) ≤ℤ (pos i.machines *ℤ (pos (unit * d) -ℤ pos (unit * h))) → length jobs ≤ i.machines * (d - h)
        in_units d less r =
            let least : unit * h ≤ unit * d = mul-le-mul_left unit less in
            let together = room_in_units unit i.machines (time_together i (is_in jobs)) h d some_unit less
            (le-pos (subst (λ x. (pos unit *ℤ pos (time_together i (is_in jobs))) ≤ℤ (pos i.machines *ℤ x)) (sym (pos-sub (unit * d) (unit * h) least)) r)) in
            omega (arith, long, together)

    -- no job of the first list begins before h units
    abbrev BeginFrom : ℕ → List (List ℕ) → Type 0
    BeginFrom h [] = ⊤
    BeginFrom h (jobs ∷ rest) = BeginsFrom (pos (unit * h)) (is_in jobs) s

    -- list by list
    climbs : (segments : List (List ℕ)) (h r : ℕ) → AreSegments i segments
        → BeginFrom h segments → h ≤ r → ((k : ℕ) → k < length i.jobs → end_of s k ≤ℤ pos (unit * r)) → h + segments_bound i segments ≤ r
    climbs [] h r a begins less all = omega arith
    climbs (jobs ∷ rest) h r a begins less all =
        let (k, d, here, inside, is, from, long) = list_takes jobs h (All-head (λ js. 0 < length js) jobs rest a.some)
        (All-head (λ js. All (λ j. j < length i.jobs) js) jobs rest a.inside) (AllPairs-front (λ j k. j ≢ k) jobs (flat_map (λ js. js) rest) a.apart) begins in
        let within : d ≤ r = le_of_mul-le-mul_left {k = unit} (le-pos (subst (λ x. x ≤ℤ pos (unit * r)) is (all k inside))) some_unit in
        let later = climbs rest d r (AreSegments-rest i jobs rest a) (next rest k d here is a.lead) within all in
        omega (arith, sum_by-cons (λ js. (length js + (i.machines - 1)) / i.machines) jobs rest, later, long, from)
      where
        next : (rest : List (List ℕ)) (k d : ℕ) → Contains jobs k → end_of s k ≡ pos (unit * d) → AllAdjacentBelow (LeadTo i) (jobs ∷ rest) (length (jobs ∷ rest)) → BeginFrom d rest
        next [] k d here is lead = tt
        next (js ∷ others) k d here is lead = λ x e l passes.
            let q = get_or s.pieces x e in
            let paths = All-contains (λ j. All (λ k. HasPath i.arcs j k) js) jobs k (lead 0 jobs (omega arith)) here in
            let path = All-contains (λ z. HasPath i.arcs k z) js q.job paths (Contains-from_list_any js q.job passes) in
            subst (λ y. y ≤ℤ q.from) is (after_path k q.job path q (Contains-get_or s.pieces x e l) refl)

    starts : (test : ℕ → Bool) → BeginsFrom (pos (unit * 0)) test s
    starts test x d b e = subst (λ z. pos z ≤ℤ (get_or s.pieces x d).from) (let zero_is : 0 ≡ unit * 0 = omega arith in zero_is) (f.span x d b).0

    lasts : (segments : List (List ℕ)) (r : ℕ) → AreSegments i segments → ((k : ℕ) → k < length i.jobs → end_of s k ≤ℤ pos (unit * r)) → segments_bound i segments ≤ r
    lasts segments r a all = omega (arith, climbs segments 0 r a (from_start segments) (omega arith) all)
      where
        from_start : (segments : List (List ℕ)) → BeginFrom 0 segments
        from_start [] = tt
        from_start (jobs ∷ rest) = starts (is_in jobs)

-- ---- the law
pub law_of_segments : LawOfSegments
law_of_segments l i s segments kind whole ones h f a =
    let (g, no_later) = law_of_floors i s kind whole ones f in
    let unit = nat_abs s.unit in
    let unit_is = unit_in_parts i s f in
    let fills = floored-fills s f.unit in
    let (k, last) = ends_last i (floored s) (pieces_timed i (floored s) g) (λ _. true) 0 (omega (arith, h.some)) refl in
    let (r, is, from) = whole_end i kind ones h.ends (floored s) g unit unit_is fills (λ _. true) 0 k (starts i kind ones h.ends (floored s) g unit unit_is fills (λ _. true)) last.inside refl in
    let bound = lasts i kind ones h.ends (floored s) g unit unit_is fills segments r a (λ j b. subst (λ x. end_of (floored s) j ≤ℤ x) is (last.latest j b refl)) in
    (k, last.inside, ≤ℤ_trans (subst₂ (λ u e. (u *ℤ pos (segments_bound i segments)) ≤ℤ e) (sym unit_is) (sym is) (pos-le (mul-le-mul_left unit bound))) (no_later k))
