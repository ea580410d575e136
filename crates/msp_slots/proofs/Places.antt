-- The law of places. A job's whole number is how many common times are over when it begins; its place is how many lesser numbers are in use.
use Rattle.std.proofs.Common.{◌≡◌, ◌≢◌, ℕ, zero, suc, ◌+◌, ◌*◌, ◌/◌, ◌<◌, ◌≤◌, ◌⊎◌, inl, inr, Bool, true, false, cond, eqb, ltb, List, [], ◌∷◌, length, get_or, map, fold, mul-zero}
use Rattle.std.proofs.Common.{pos, nat_abs, ◌-ℤ◌, ◌*ℤ◌, ◌≤ℤ◌, ◌<ℤ◌, ℤ, All, AllPairs, Contains, refl, sym, ap, subst, subst₂, ◌∙◌, arith}
use Rattle.std.specs.Prelude.{◌==◌, ◌&&◌, MatchBool}
use Rattle.std.specs.Int.{int_max}
use Rattle.std.proofs.lemmas.Bool.{eqb-true, eq-eqb}
use Rattle.std.proofs.lemmas.Bool.Decides.{nat_tests}
use Rattle.std.proofs.lemmas.Int.{ints}
use Rattle.std.proofs.lemmas.List.Elements.{All-contains}
use Rattle.std.proofs.Math.Nat.{mul-div-le, le-div_iff_mul-le, mul-pos}
use Rattle.std.proofs.Math.Numerals.{suc-eq-add-one}
use native.Mathlib.Nat.{mul-le-mul_left}
use Rattle.msp_class.specs.declared.class.Times.{Times}
use Rattle.msp_class.specs.declared.environments.EnvKind.{EnvKind}
use Rattle.msp_class.specs.declared.environments.EnvKind.TheVariants.{Identical, Unrelated}
use Rattle.msp_class.specs.Env.{kind_of}
use Rattle.msp_class.specs.Sums.{total_below}
use Rattle.msp_class.proofs.Sums.{total_below-same, total_below-term, total_below-bound, total_below-exchange, total_below-constant}
use Rattle.msp_class.proofs.Cases.{same_or_not}
use Rattle.msp_class.proofs.Sums.{total_below-only, cond-le, AllPairs-contains, Contains-from_filter}
use Rattle.msp_pieces.proofs.lists.Places.{total_below-within}
use Rattle.msp_pieces.proofs.lists.Positions.{count_at_most_one, total_below-strict}
use Rattle.msp_class.proofs.IntegerRing.{natural, pos-le, le-pos, zero-le-pos, int_max-right}
use Rattle.msp_instance.specs.declared.Need.{Need}
use Rattle.msp_instance.specs.declared.Arc.{Arc}
use Rattle.msp_instance.specs.declared.Instance.{Instance}
use Rattle.msp_instance.specs.Instance.{no_need, no_job, job_at, need_at, common_time}
use Rattle.msp_instance.specs.Conditions.{Limits, MeetsConditions, HasShape, HasTimes, least_time}
use Rattle.msp_pieces.specs.declared.Piece.{Piece}
use Rattle.msp_pieces.specs.declared.Schedule.{Schedule}
use Rattle.msp_pieces.specs.Piece.{no_piece, length_of, pieces_of, IsApart, IsBefore}
use Rattle.msp_pieces.specs.Feasible.{Feasible, HasPlace, HasOperation, MayRun, IsWholeWork}
use Rattle.msp_pieces.specs.Cost.{end_of}
use Rattle.msp_pieces.proofs.feasible.OneMachine.{pieces_of-job, both_true}
use Rattle.msp_slots.specs.Seating.{one_if, begin_at}
use Rattle.msp_slots.specs.Places.{ArePlaces, TakeCommonTime, EndAfterPlaces, LawOfPlaces}
use Rattle.msp_slots.proofs.Seats.{begin_before, before_next, neither_less}

-- ---- numbers in use, from 0
-- whether one of the first n jobs has the number, and how many lesser numbers are in use
abbrev used : ℕ → (ℕ → ℕ) → ℕ → ℕ
used n number y = one_if (ltb 0 (begin_at n number y))

abbrev pub place_of : ℕ → (ℕ → ℕ) → ℕ → ℕ
place_of n number j = total_below (number j) (used n number)

used_below : (n : ℕ) (number : ℕ → ℕ) (y : ℕ) → total_below y (used n number) ≤ begin_before n number y
used_below n number zero = omega arith
used_below n number (suc y) = grind (arith, nat_tests, used_below n number y, before_next n number y, ap (begin_before n number) (suc-eq-add-one y))

is_used : (n : ℕ) (number : ℕ → ℕ) (j : ℕ) → j < n → used n number (number j) ≡ 1
is_used n number j l = one (begin_at n number (number j)) (omega (arith, total_below-term n (λ k. one_if (eqb (number k) (number j))) j l, ap one_if (eq-eqb (number j) (number j) refl)))
  where
    one : (a : ℕ) → 1 ≤ a → one_if (ltb 0 a) ≡ 1
    one a h = grind (arith, nat_tests)

module _ (n : ℕ) (number : ℕ → ℕ) where
  place_rises : (a b : ℕ) → a < n → number a < number b → place_of n number a < place_of n number b
  place_rises a b l h = omega (arith, total_below-within (used n number) (suc (number a)) (number b) (omega (arith, h)), is_used n number a l)

  place_no_later : (j : ℕ) → place_of n number j ≤ number j
  place_no_later j = omega (arith, total_below-bound (number j) 1 (used n number) (λ y _. cond-le (ltb 0 (begin_at n number y)) 1))

  same_number : (a b : ℕ) → a < n → b < n → place_of n number a ≡ place_of n number b → number a ≡ number b
  same_number a b k l e = neither_less (λ h. omega (arith, e, place_rises a b k h)) (λ h. omega (arith, e, place_rises b a l h))

  -- one job less than all has a lesser number
  less_than_all : (x j k : ℕ) → j < k → x ≤ number j → begin_before k number x < k
  less_than_all x j k l h =
      let last : one_if (ltb (number j) x) < 1 = grind (arith, nat_tests) in
      let less = total_below-strict k (λ j. one_if (ltb (number j) x)) (λ _. 1) j l (λ c _. cond-le (ltb (number c) x) 1) last in
      omega (arith, less, total_below-constant k 1)

  place_early : (j : ℕ) → j < n → place_of n number j < n
  place_early j l = omega (arith, used_below n number (number j), less_than_all (number j) j n l (omega arith))

-- ---- jobs of one number stand on different machines
abbrev pub at_value : (ℕ → Bool) → (ℕ → ℕ) → ℕ → ℕ → Bool
at_value test value j y = cond (test j) (eqb (value j) y) false

pub both_passed : (a b : Bool) → cond a b false ≡ true → (a ≡ true) × (b ≡ true)
both_passed true b e = (refl, e)
both_passed false b e = absurd (cc)

spread : (m v : ℕ) (t : Bool) → (t ≡ true → v < m) → one_if t ≡ total_below m (λ y. one_if (cond t (eqb v y) false))
spread m v false inside = sym (total_below-constant m 0 ∙ mul-zero m)
spread m v true inside = sym (total_below-only m (λ _. 1) v (inside refl))

-- those that pass have different values below m
pub injected : (n m : ℕ) (test : ℕ → Bool) (value : ℕ → ℕ) → ((j : ℕ) → j < n → test j ≡ true → value j < m)
    → ((a b : ℕ) → a < n → b < n → test a ≡ true → test b ≡ true → value a ≡ value b → a ≡ b) → total_below n (λ j. one_if (test j)) ≤ m
injected n m test value inside once =
    omega (
      arith,
      total_below-same n (λ j. one_if (test j)) (λ j. total_below m (λ y. one_if (at_value test value j y))) (λ j l. spread m (value j) (test j) (inside j l)),
      total_below-exchange n m (λ j y. one_if (at_value test value j y)),
      total_below-bound m 1 (λ y. total_below n (λ j. one_if (at_value test value j y))) (λ y _. column y),
    )
  where
    column : (y : ℕ) → total_below n (λ j. one_if (at_value test value j y)) ≤ 1
    column y = count_at_most_one n (λ j. at_value test value j y) (λ a b k l s t.
        let (p, q) = both_passed (test a) (eqb (value a) y) s in
        let (u, v) = both_passed (test b) (eqb (value b) y) t in
        once a b k l p u (eqb-true (value a) y q ∙ sym (eqb-true (value b) y v)))

-- ---- the pieces of a schedule
-- the numbers of pieces that are apart
floor_apart : (d a b : ℕ) → 1 ≤ d → a + d ≤ b → a / d < b / d
floor_apart d a b some h = omega (arith, (le-div_iff_mul-le {k = d} {x = a / d + 1} {y = b} some).1 (omega (arith, mul-div-le a d, h)))

-- two pieces of a list are related one way or the other
pair_of : (R : Piece → Piece → Type 0) (ps : List Piece) (p q : Piece) → AllPairs R ps → Contains ps p → Contains ps q → p.job ≢ q.job → R p q ⊎ R q p
pair_of R ps p q h c d ne = elim (AllPairs-contains R ps p q h c d) [
  | inl before ↦ inl before
  | inr other ↦ elim other [ inl same ↦ absurd (ne (ap (λ x. x.job) same)) | inr after ↦ inr after ]
]

-- a piece of a job, by its kind of machines
abbrev IsEither : EnvKind → Type 0
IsEither k = (k ≡ Identical) ⊎ (k ≡ Unrelated)

first_operation : (k : EnvKind) (i : Instance) (j o : ℕ) → IsEither k → HasOperation k i j o → o ≡ 0
first_operation k i j o (inl e) h = subst (λ k. HasOperation k i j o) e h
first_operation k i j o (inr e) h = subst (λ k. HasOperation k i j o) e h

has_first : (k : EnvKind) (i : Instance) (j : ℕ) → IsEither k → HasOperation k i j 0
has_first k i j (inl e) = subst (λ k. HasOperation k i j 0) (sym e) refl
has_first k i j (inr e) = subst (λ k. HasOperation k i j 0) (sym e) refl

machine_inside : (k : EnvKind) (i : Instance) (j o m : ℕ) → IsEither k → MayRun k i j o m → m < i.machines
machine_inside k i j o m (inl e) h = subst (λ k. MayRun k i j o m) e h
machine_inside k i j o m (inr e) h = subst (λ k. MayRun k i j o m) e h

whole_length : (k : EnvKind) (i : Instance) (unit : ℤ) (time : ℕ) (p : Piece) → IsEither k
    → p.op ≡ 0 → p.machine < i.machines → HasShape k i.class.env i.machines (job_at i p.job).needs → All (λ n. n.time ≡ time) (job_at i p.job).needs
    → IsWholeWork k i unit p → length_of p ≡ unit *ℤ pos time
whole_length k i unit time p (inl e) op inside shape times w =
    subst (λ k. IsWholeWork k i unit p) e w ∙ ap (λ t. unit *ℤ pos t)
    (ap (λ o. (need_at i p.job o).time) op ∙ times 0 no_need (omega (arith, (subst (λ k. HasShape k i.class.env i.machines (job_at i p.job).needs) e shape).0)))
whole_length k i unit time p (inr e) op inside shape times w =
    subst (λ k. IsWholeWork k i unit p) e w
    ∙ ap (λ t. unit *ℤ pos t) (times p.machine no_need (omega (arith, inside, (subst (λ k. HasShape k i.class.env i.machines (job_at i p.job).needs) e shape).0)))

pub least_one : (k : EnvKind) (i : Instance) (t : Times) (g : ℕ) (needs : List Need)
    → IsEither k → 1 ≤ i.machines → HasShape k i.class.env i.machines needs → HasTimes (least_time k t) g needs → 1 ≤ (get_or needs 0 no_need).time
least_one k i t g needs (inl e) some shape times =
    subst (λ k. HasTimes (least_time k t) g needs → 1 ≤ (get_or needs 0 no_need).time)
    (sym e) (λ h. (h 0 no_need (omega (arith, (subst (λ k. HasShape k i.class.env i.machines needs) e shape).0))).0) times
least_one k i t g needs (inr e) some shape times =
    subst (λ k. HasTimes (least_time k t) g needs → 1 ≤ (get_or needs 0 no_need).time)
    (sym e) (λ h. (h 0 no_need (omega (arith, some, (subst (λ k. HasShape k i.class.env i.machines needs) e shape).0))).0) times

when_false : (A B : Type 0) (t : Bool) → t ≡ false → MatchBool t A B → B
when_false A B t e h = subst (λ t. MatchBool t A B) e h

ends_at : (from to unit : ℤ) (a u t : ℕ) → from ≡ pos a → unit ≡ pos u → to -ℤ from ≡ unit *ℤ pos t → to ≡ pos (a + u * t)
ends_at from to unit a u t e f h = let k : to -ℤ from ≡ pos (u * t) = h ∙ ap (λ x. x *ℤ pos t) f in omega (arith, ints, e, k)

-- a job that begins when so many times are over ends when one more is
late : (p q u t a : ℕ) → p ≤ q → u * t * q ≤ a → u * (t * (p + 1)) ≤ a + u * t
late p q u t a h k = omega (arith, mul-le-mul_left (u * t) h, k)

module _ (l : Limits) (i : Instance) (s : Schedule) (kind : IsEither (kind_of i.class.env)) (uncut : i.class.cut ≡ false) (c : MeetsConditions l i) (times : TakeCommonTime i) (f : Feasible i s) where
  abbrev n : ℕ
  n = length i.jobs

  abbrev unit : ℕ
  unit = nat_abs s.unit

  unit_is : s.unit ≡ pos unit
  unit_is = natural s.unit (omega (arith, ints, f.unit))

  some_time : 1 ≤ common_time i
  some_time = let first = (c.jobs 0 no_job (omega (arith, c.some))).needs in least_one (kind_of i.class.env) i i.class.times _ (job_at i 0).needs kind c.machines.0 first.shape first.times

  operations : All (λ p. p.op ≡ 0) s.pieces
  operations k d b = first_operation (kind_of i.class.env) i (get_or s.pieces k d).job (get_or s.pieces k d).op kind (f.place k d b).operation

  -- the piece of a job
  abbrev mine : ℕ → Piece
  mine j = get_or (pieces_of s j 0) 0 no_piece

  record IsMine (j : ℕ) : Type 0 where
    only : pieces_of s j 0 ≡ mine j ∷ []
    whole : IsWholeWork (kind_of i.class.env) i s.unit (mine j)

  is_mine : (j : ℕ) → j < n → IsMine j
  is_mine j b =
      let (p, e, w) = when_false _ ((p : Piece) × (pieces_of s j 0 ≡ p ∷ []) × IsWholeWork (kind_of i.class.env) i s.unit p)
      i.class.cut uncut (f.work j 0 b (has_first (kind_of i.class.env) i j kind)) in
      let first : mine j ≡ p = ap (λ ps. get_or ps 0 no_piece) e in
      record { only = e ∙ ap (λ q. q ∷ []) (sym first); whole = subst (IsWholeWork (kind_of i.class.env) i s.unit) (sym first) w }

  here : (j : ℕ) → j < n → Contains s.pieces (mine j) × (((mine j).job == j) && ((mine j).op == 0)) ≡ true
  here j b = let in_mine : Contains (pieces_of s j 0) (mine j) = subst (λ ps. Contains ps (mine j)) (sym (is_mine j b).only) (0, omega arith, refl) in
      Contains-from_filter (λ p. (p.job == j) && (p.op == 0)) s.pieces (mine j) in_mine

  of_job : (j : ℕ) → j < n → (mine j).job ≡ j
  of_job j b = eqb-true (mine j).job j (both_true ((mine j).job == j) ((mine j).op == 0) (here j b).1).0

  placed : (j : ℕ) → j < n → HasPlace i (mine j)
  placed j b = All-contains (HasPlace i) s.pieces (mine j) f.place (here j b).0

  abbrev machine : ℕ → ℕ
  machine j = (mine j).machine

  inside : (j : ℕ) → j < n → machine j < i.machines
  inside j b = machine_inside (kind_of i.class.env) i (mine j).job (mine j).op (machine j) kind (placed j b).machine

  -- when it begins and ends
  abbrev begin : ℕ → ℕ
  begin j = nat_abs (mine j).from

  abbrev long : ℕ
  long = unit * common_time i

  long_some : 1 ≤ long
  long_some = mul-pos (le-pos (subst (λ x. pos 1 ≤ℤ x) unit_is f.unit)) some_time

  from_is : (j : ℕ) → j < n → (mine j).from ≡ pos (begin j)
  from_is j b = natural (mine j).from (All-contains (λ p. (pos 0 ≤ℤ p.from) × (p.from <ℤ p.to)) s.pieces (mine j) f.span (here j b).0).0

  to_is : (j : ℕ) → j < n → (mine j).to ≡ pos (begin j + long)
  to_is j b =
      let shape = (c.jobs (mine j).job no_job (placed j b).job).needs.shape in
      ends_at (mine j).from (mine j).to s.unit (begin j) unit (common_time i) (from_is j b) unit_is
      (whole_length (kind_of i.class.env) i s.unit (common_time i) (mine j) kind
      (All-contains (λ p. p.op ≡ 0) s.pieces (mine j) operations (here j b).0) (inside j b) shape (times (mine j).job (placed j b).job) (is_mine j b).whole)

  ends_is : (j : ℕ) → j < n → end_of s j ≡ pos (begin j + long)
  ends_is j b =
      ap (λ ps. fold int_max (pos 0) (map (λ p. p.to) ps)) (sym (pieces_of-job s j operations) ∙ (is_mine j b).only)
      ∙ ap (int_max (pos 0)) (to_is j b) ∙ int_max-right (pos 0) (pos (begin j + long)) (zero-le-pos (begin j + long))

  -- how many common times are over
  abbrev number : ℕ → ℕ
  number j = begin j / long

  before : (a b : ℕ) → a < n → b < n → IsBefore (mine a) (mine b) → number a < number b
  before a b k m h = floor_apart long (begin a) (begin b) long_some (le-pos (subst₂ (λ x y. x ≤ℤ y) (to_is a k) (from_is b m) h))

  alone : (a b : ℕ) → a < n → b < n → machine a ≡ machine b → number a ≡ number b → a ≡ b
  alone a b k m e same = elim (same_or_not a b) [
    | inl is ↦ is
    | inr ne ↦ elim (pair_of (λ p q. p.machine ≡ q.machine → IsApart p q) s.pieces (mine a) (mine b) f.machine (here a k).0 (here b m).0 (λ z. ne (sym (of_job a k) ∙ z ∙ of_job b m))) [
      | inl apart ↦ never (apart e)
      | inr apart ↦ never (turned (apart (sym e)))
    ]
  ]
    where
      turned : IsApart (mine b) (mine a) → IsApart (mine a) (mine b)
      turned (inl h) = inr h
      turned (inr h) = inl h

      never : IsApart (mine a) (mine b) → a ≡ b
      never (inl h) = absurd (omega (arith, before a b k m h, same))
      never (inr h) = absurd (omega (arith, before b a m k h, same))

  places : ArePlaces i (place_of n number)
  places = record {
    few = λ x. injected n i.machines (λ j. eqb (place_of n number j) x) machine (λ j b _. inside j b)
        (λ a b k m u v e. alone a b k m e (same_number n number a b k m (eqb-true (place_of n number a) x u ∙ sym (eqb-true (place_of n number b) x v))));
    forward = λ k d b. forward (get_or i.arcs k d) (c.ends k d b) (f.arc k d b);
    early = λ j b. place_early n number j b;
  }
    where
      forward : (a : Arc) → (a.before < n) × (a.after < n)
          → All (λ p. All (λ q. p.job ≡ a.before → q.job ≡ a.after → IsBefore p q) s.pieces) s.pieces → place_of n number a.before < place_of n number a.after
      forward a (k, m) h =
          place_rises n number a.before a.after k (before a.before a.after k m
          (All-contains (λ q. (mine a.before).job ≡ a.before → q.job ≡ a.after → IsBefore (mine a.before) q) s.pieces (mine a.after)
          (All-contains (λ p. All (λ q. p.job ≡ a.before → q.job ≡ a.after → IsBefore p q) s.pieces) s.pieces (mine a.before) h (here a.before k).0)
          (here a.after m).0 (of_job a.before k) (of_job a.after m)))

  ends : EndAfterPlaces i s (place_of n number)
  ends j b =
      subst₂ (λ u e. (u *ℤ pos (common_time i * (place_of n number j + 1))) ≤ℤ e) (sym unit_is) (sym (ends_is j b))
      (pos-le (late (place_of n number j) (number j) unit (common_time i) (begin j) (place_no_later n number j) (mul-div-le (begin j) long)))

pub law_of_places : LawOfPlaces
law_of_places l i s kind uncut c times f = (place_of (length i.jobs) (number l i s kind uncut c times f), places l i s kind uncut c times f, ends l i s kind uncut c times f)
