-- Jobs in places of their own: a feasible schedule, in which each job ends when its place does, within the bounds of an answer.
use Rattle.std.proofs.Common.{◌≡◌, ◌≢◌, ℕ, ◌+◌, ◌*◌, ◌-◌, ◌<◌, ◌≤◌, ◌⊎◌, inl, inr, List, length, get_or, map, All, AllPairs, pos, ◌-ℤ◌, ◌*ℤ◌, ◌≤ℤ◌, ◌<ℤ◌, refl, sym, ap, ap₂, le_antisymm, sub-add_cancel, ne_of_lt}
use Rattle.std.proofs.Common.{subst, subst₂, ◌∙◌, arith, zero-add}
use Rattle.std.proofs.lemmas.Bool.{cases_lt}
use Rattle.std.proofs.lemmas.Int.{ints}
use Rattle.std.proofs.lemmas.Nat.{mul-le}
use Rattle.std.proofs.lemmas.List.{length-map, get_or-map}
use Rattle.std.proofs.lemmas.List.FromFn.{get_or-map-range_with_len, length-map-range_with_len}
use Rattle.std.proofs.Math.Nat.{mul-le-mul_right}
use Rattle.msp_class.specs.declared.sizes.TheConstants.{MOST_JOBS, GREATEST_MULTIPLE}
use Rattle.msp_class.specs.declared.class.Crit.{Crit}
use Rattle.msp_class.specs.Env.{kind_of}
use Rattle.msp_class.proofs.IntegerRing.{pos-le, zero-le-pos, ≤ℤ_refl, ≤ℤ_antisym, pos-lt}
use Rattle.msp_class.proofs.Sums.{OnceBelow, OnceBelow-from_distinct}
use Rattle.msp_instance.specs.declared.Instance.{Instance}
use Rattle.msp_instance.specs.Instance.{job_at, need_at, common_time}
use Rattle.msp_instance.specs.Multiples.{IsLeastOfAll}
use Rattle.msp_pieces.specs.declared.Piece.{Piece}
use Rattle.msp_pieces.specs.declared.Schedule.{Schedule}
use Rattle.msp_pieces.specs.Piece.{IsApart, no_piece}
use Rattle.msp_pieces.specs.Feasible.{Feasible, IsWholeWork}
use Rattle.msp_pieces.specs.Cost.{end_of}
use Rattle.msp_pieces.specs.Within.{Within}
use Rattle.msp_pieces.proofs.feasible.OneEach.{IsUncut-uniform}
use Rattle.msp_pieces.proofs.feasible.BackToBack.{ordered_without_arcs}
use Rattle.msp_pieces.proofs.feasible.LastEnds.{last_end-contains, last_end-least}
use Rattle.msp_route.specs.declared.bounds.TheConstants.{GREATEST_ANSWER_MOMENT}
use Rattle.msp_route.specs.Bounds.{IsAnswer, answer_unit}
use Rattle.msp_route.proofs.OneEach.{IsUncut, AreOneEach, one_each_is_feasible, one_each_is_answer}
use Rattle.msp_route.proofs.Owed.{answer_is_within}
use Rattle.msp_places.specs.declared.place.Place.{Place}
use Rattle.msp_places.specs.Places.{lengths_of, place_on, IsPlace, ComesFirst, AreEarliest, AreEarliestPlaces, no_place, place_at}
use Rattle.msp_places.specs.Placed.{piece_in, placed, AreApart}
use Rattle.msp_places.proofs.OwnPlaces.{lengths-count, long-speed}
use Rattle.msp_places.proofs.Turns.{AreShort}
use Rattle.msp_places.proofs.PlaceFacts.{IsPlacesInstance, takes_common_time, no_release, common_time_within, lengths_short}
use Rattle.msp_places.specs.Bounds.{greatest_length, greatest_end}

abbrev pub placed_schedule : ℕ → ℕ → List Place → (ℕ → ℕ) → (ℕ → ℕ) → Schedule
placed_schedule unit n places job number = record { unit = pos unit; pieces = placed n places job number }

-- ---- the ends of the earliest places
pub ends_bounded : (lengths : List ℕ) → AreShort lengths → (n : ℕ) (places : List Place) → n ≤ MOST_JOBS → AreEarliest lengths n places
    → All (λ p. p.end ≤ greatest_end) places
ends_bounded lengths short n places few earliest k d l =
    let is = earliest.each k d l in
    let p = get_or places k d in
    omega (arith, ap (λ (x : Place). x.end) is.is, mul-le p.rank (get_or lengths p.machine 0) MOST_JOBS greatest_length (omega (arith, is.few, few)) (short p.machine 0 is.machine).1)

-- ---- two of the earliest places on one machine are apart
module _ (lengths : List ℕ) (n : ℕ) (places : List Place) (earliest : AreEarliest lengths n places) where
  pub place_is : (k : ℕ) → k < n → IsPlace lengths n (place_at places k)
  place_is k l = earliest.each k no_place (omega (arith, l, earliest.count))

  not_before_itself : (p q : Place) → p ≡ q → ComesFirst p q → ⊥
  not_before_itself p q e h = elim h [
    | inl l ↦ omega (arith, ap (λ (x : Place). x.end) e, l)
    | inr l ↦ omega (arith, ap (λ (x : Place). x.machine) e, l.1)
  ]

  differ : (x y : ℕ) → x < n → y < n → x ≢ y → place_at places x ≢ place_at places y
  differ x y l k ne e = elim (cases_lt x y) [
    | inl less ↦ not_before_itself (place_at places x) (place_at places y) e (earliest.order x y no_place less (omega (arith, k, earliest.count)))
    | inr more ↦ elim (cases_lt y x) [
      | inl less ↦ not_before_itself (place_at places y) (place_at places x) (sym e) (earliest.order y x no_place less (omega (arith, l, earliest.count)))
      | inr last ↦ ne (le_antisymm last more)
    ]
  ]

  -- of two ranks on a machine the lesser ends when the other begins, or before
  end_before : (m a b : ℕ) → a < b → (place_on lengths m a).end ≤ (place_on lengths m b).begin
  end_before m a b h = let less : a ≤ b - 1 = omega (arith, h) in mul-le-mul_right (get_or lengths m 0) less

  pub apart_places : (x y : ℕ) → x < n → y < n → x ≢ y → (place_at places x).machine ≡ (place_at places y).machine
      → ((place_at places x).end ≤ (place_at places y).begin) ⊎ ((place_at places y).end ≤ (place_at places x).begin)
  apart_places x y l k ne on = by (place_at places x) (place_at places y) (place_is x l).is (place_is y k).is on (differ x y l k ne)
    where
      by : (p q : Place) → p ≡ place_on lengths p.machine p.rank → q ≡ place_on lengths q.machine q.rank → p.machine ≡ q.machine → p ≢ q
          → (p.end ≤ q.begin) ⊎ (q.end ≤ p.begin)
      by p q e f on ne = elim (cases_lt p.rank q.rank) [
        | inl less ↦ inl (ends p q q.machine (e ∙ ap (λ m. place_on lengths m p.rank) on) f less)
        | inr more ↦ elim (cases_lt q.rank p.rank) [
          | inl less ↦ inr (ends q p q.machine f (e ∙ ap (λ m. place_on lengths m p.rank) on) less)
          | inr last ↦ absurd (ne (e ∙ ap₂ (place_on lengths) on (le_antisymm last more) ∙ sym f))
        ]
      ]
        where
          ends : (p q : Place) (m : ℕ) → p ≡ place_on lengths m p.rank → q ≡ place_on lengths m q.rank → p.rank < q.rank → p.end ≤ q.begin
          ends p q m e f h = subst₂ (λ x y. x ≤ y) (sym (ap (λ (x : Place). x.end) e)) (sym (ap (λ (x : Place). x.begin) f)) (end_before m p.rank q.rank h)

module _ (crit : Crit) (i : Instance) (h : IsPlacesInstance crit i) (unit : ℕ) (common : IsLeastOfAll i.speeds unit) (few : unit ≤ GREATEST_MULTIPLE) (places : List Place)
    (earliest : AreEarliestPlaces i unit places) (job number : ℕ → ℕ) (own : AreApart (length i.jobs) job number) where
  abbrev n : ℕ
  n = length i.jobs

  abbrev lengths : List ℕ
  lengths = lengths_of i unit

  abbrev pieces : List Piece
  pieces = placed n places job number

  abbrev s : Schedule
  s = placed_schedule unit n places job number

  abbrev place : ℕ → Place
  place k = place_at places (number k)

  abbrev piece : ℕ → Piece
  piece k = piece_in (job k) (place k)

  many : length pieces ≡ n
  many = length-map-range_with_len piece 0 n

  piece_at : (k : ℕ) (d : Piece) → k < n → get_or pieces k d ≡ piece k
  piece_at k d l = get_or-map-range_with_len piece 0 n k k d l (zero-add k)

  all : (P : Piece → Type 0) → ((k : ℕ) → k < n → P (piece k)) → All P pieces
  all P f k d l = let b : k < n = omega (arith, l, many) in subst P (sym (piece_at k d b)) (f k b)

  pairs : (R : Piece → Piece → Type 0) → ((x y : ℕ) → x < y → y < n → R (piece x) (piece y)) → AllPairs R pieces
  pairs R f a b d l k = let q : b < n = omega (arith, k, many) in subst₂ R (sym (piece_at a d (omega (arith, l, q)))) (sym (piece_at b d q)) (f a b l q)

  is : (k : ℕ) → k < n → IsPlace lengths n (place k)
  is k l = place_is lengths n places earliest (number k) (own.numbers k l)

  on : (k : ℕ) → k < n → (place k).machine < i.machines
  on k l = omega (arith, (is k l).machine, lengths-count i unit h.speeds common)

  abbrev long : ℕ → ℕ
  long m = get_or lengths m 0

  short : (k : ℕ) → k < n → (1 ≤ long (place k).machine) × (long (place k).machine ≤ greatest_length)
  short k l = lengths_short i h.speeds (common_time_within crit i h) unit common few (place k).machine 0 (is k l).machine

  end_is : (k : ℕ) → k < n → (place k).end ≡ (place k).rank * long (place k).machine
  end_is k l = ap (λ (x : Place). x.end) (is k l).is

  end_later : (k : ℕ) → k < n → (place k).end ≡ (place k).begin + long (place k).machine
  end_later k l = omega (arith, end_is k l, ap (λ (x : Place). x.begin) (is k l).is, ap (λ x. x * long (place k).machine) (sub-add_cancel (is k l).some))

  end_soon : (k : ℕ) → k < n → (place k).end ≤ greatest_end
  end_soon k l = omega (arith, end_is k l, mul-le (place k).rank (long (place k).machine) MOST_JOBS greatest_length (omega (arith, (is k l).few, h.few)) (short k l).1)

  different : (x y : ℕ) → x < y → y < n → job x ≢ job y
  different x y l k e = ne_of_lt l (own.once x y (omega (arith, l, k)) k e)

  jobs : OnceBelow n (map (λ p. p.job) pieces)
  jobs = OnceBelow-from_distinct n (map (λ p. p.job) pieces) (length-map pieces (λ p. p.job) ∙ many) within distinct
    where
      job_is : (k d : ℕ) → k < n → get_or (map (λ (p : Piece). p.job) pieces) k d ≡ job k
      job_is k d l = get_or-map (λ (p : Piece). p.job) pieces k no_piece d (omega (arith, l, many)) ∙ ap (λ (p : Piece). p.job) (piece_at k no_piece l)

      within : All (λ x. x < n) (map (λ p. p.job) pieces)
      within k d l = let b : k < n = omega (arith, l, many, length-map pieces (λ p. p.job)) in subst (λ x. x < n) (sym (job_is k d b)) (own.jobs k b)

      distinct : AllPairs (λ x y. x ≢ y) (map (λ p. p.job) pieces)
      distinct a b d l k e =
          let q : b < n = omega (arith, k, many, length-map pieces (λ p. p.job)) in
          different a b l q (sym (job_is a d (omega (arith, l, q))) ∙ e ∙ job_is b d q)

  apart : (x y : ℕ) → x < y → y < n → (piece x).machine ≡ (piece y).machine → IsApart (piece x) (piece y)
  apart x y l k on = elim (apart_places lengths n places earliest (number x) (number y) (own.numbers x (omega (arith, l, k)))
      (own.numbers y k) (λ e. ne_of_lt l (own.own x y (omega (arith, l, k)) k e)) on) [ inl a ↦ inl (pos-le a) | inr a ↦ inr (pos-le a) ]

  whole : (k : ℕ) → k < n → IsWholeWork (kind_of i.class.env) i (pos unit) (piece k)
  whole k l = subst (λ e. IsWholeWork e i (pos unit) (piece k)) (sym h.kind)
      (by (place k).begin (place k).end (long (place k).machine) (get_or i.speeds (place k).machine 0) unit (common_time i) (need_at i (job k) 0).time
      (end_later k l) (long-speed i unit h.speeds common (place k).machine (on k l)) (takes_common_time crit i h (job k) (own.jobs k l)))
    where
      by : (a b l v u p t : ℕ) → b ≡ a + l → l * v ≡ u * p → t ≡ p → (pos b -ℤ pos a) *ℤ pos v ≡ pos u *ℤ pos t
      by a b l v u p t e f g = ap (λ x. x *ℤ pos v) (lasts a b l e) ∙ ap pos (f ∙ ap (λ x. u * x) (sym g))
        where
          lasts : (a b l : ℕ) → b ≡ a + l → pos b -ℤ pos a ≡ pos l
          lasts a b l e = omega (arith, ints, e)

  each : AreOneEach i unit pieces
  each = record {
    some = common.some;
    jobs = jobs;
    ops = all (λ p. p.op ≡ 0) (λ k l. refl);
    inside = all (λ p. p.machine < i.machines) on;
    span = all (λ p. (pos 0 ≤ℤ p.from) × (p.from <ℤ p.to)) (λ k l. (zero-le-pos (place k).begin, pos-lt (omega (arith, end_later k l, (short k l).0))));
    apart = pairs (λ p q. p.machine ≡ q.machine → IsApart p q) apart;
    released = all (λ p. (pos unit *ℤ pos (job_at i p.job).release) ≤ℤ p.from) (λ k l. released unit (job_at i (job k)).release (place k).begin (no_release crit i h (job k) (own.jobs k l)));
    forward = ordered_without_arcs i.arcs pieces h.arcs;
    whole = all (IsWholeWork (kind_of i.class.env) i (pos unit)) whole;
    ends = all (λ p. p.to ≤ℤ GREATEST_ANSWER_MOMENT) (λ k l. pos-le (omega (arith, end_soon k l)));
  }
    where
      released : (u r b : ℕ) → r ≡ 0 → (pos u *ℤ pos r) ≤ℤ pos b
      released u r b z = subst (λ y. (pos u *ℤ pos y) ≤ℤ pos b) (sym z) (omega (arith, ints))

  uncut : IsUncut i
  uncut = IsUncut-uniform i h.kind h.cut h.few

  pub placed_is_feasible : Feasible i s
  placed_is_feasible = one_each_is_feasible i uncut unit pieces each

  pub placed_is_answer : IsAnswer i s
  placed_is_answer = one_each_is_answer i uncut unit pieces each (subst (λ k. pos unit ≤ℤ answer_unit k) (sym h.kind) (omega (arith, ints, few)))

  pub placed_is_within : Within i s
  placed_is_within = answer_is_within i s placed_is_feasible placed_is_answer

  -- each job ends when its place does
  pub placed_end : (k : ℕ) → k < n → end_of s (job k) ≡ pos (place k).end
  placed_end k l = ≤ℤ_antisym (last_end-least pieces (job k) (pos (place k).end) (zero-le-pos (place k).end) (all (λ p. p.job ≡ job k → p.to ≤ℤ pos (place k).end) no_later))
      (last_end-contains pieces (piece k) (k, omega (arith, l, many), piece_at k (piece k) l))
    where
      no_later : (x : ℕ) → x < n → job x ≡ job k → pos (place x).end ≤ℤ pos (place k).end
      no_later x m e = subst (λ y. pos (place y).end ≤ℤ pos (place k).end) (sym (own.once x k m l e)) (≤ℤ_refl (pos (place k).end))
