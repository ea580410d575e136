-- The law of earliest places. A job's place in a schedule is that of its rank on its machine, by the ends; these are different places.
use Rattle.std.proofs.Common.{◌≡◌, ◌≢◌, ℕ, ◌+◌, ◌*◌, ◌-◌, ◌/◌, ◌<◌, ◌≤◌, ◌⊎◌, inl, inr, Bool, true, false, cond, eqb, leb, List, length, get_or, ℤ, pos, nat_abs, ◌-ℤ◌, ◌*ℤ◌, ◌≤ℤ◌, add-one-le, le_antisymm, mul-one, mul_comm}
use Rattle.std.proofs.Common.{refl, sym, ap, ap₂, subst, ◌∙◌, arith}
use Rattle.std.specs.Prelude.{◌&&◌}
use Rattle.std.proofs.lemmas.Bool.{cases_lt, eqb-true, eq-eqb, leb-true, le-leb}
use Rattle.std.proofs.lemmas.Int.{ints}
use Rattle.std.proofs.lemmas.List.{length-map, get_or-map, get_or_default}
use Rattle.std.proofs.Math.Nat.{div-mul_cancel, mul-le-mul_left}
use native.Mathlib.Nat.{le_of_mul-le-mul_left}
use Rattle.msp_class.specs.declared.environments.EnvKind.TheVariants.{Uniform}
use Rattle.msp_class.specs.Env.{kind_of}
use Rattle.msp_class.specs.Sums.{total_below}
use Rattle.msp_class.proofs.IntegerRing.{natural, pos-le, pos-same, ≤ℤ_trans, *ℤ-mono, *ℤ-mono_nonneg}
use Rattle.msp_class.proofs.Sums.{cond-yes, cond-no, cond-le, total_below-same, total_below-scale, total_below-term}
use Rattle.msp_class.proofs.Cases.{same_or_not}
use Rattle.msp_instance.specs.declared.Instance.{Instance}
use Rattle.msp_instance.specs.Instance.{no_need, no_job, job_at, need_at, common_time}
use Rattle.msp_instance.specs.Conditions.{Limits, MeetsConditions, HasShape, HasTimes, HasSpeeds, least_time, greatest_time}
use Rattle.msp_instance.specs.Multiples.{IsLeastOfAll}
use Rattle.msp_pieces.specs.declared.Schedule.{Schedule}
use Rattle.msp_pieces.specs.Piece.{start, finish, IsTimed}
use Rattle.msp_pieces.specs.Intervals.{IsApart}
use Rattle.msp_pieces.specs.Feasible.{Feasible, HasOperation, MayRun, IsWholeWork}
use Rattle.msp_pieces.specs.Cost.{end_of}
use Rattle.msp_pieces.proofs.lists.Positions.{total_below-strict, holds_up, ends_after}
use Rattle.msp_pieces.proofs.feasible.OneMachine.{both_true}
use Rattle.msp_pieces.proofs.feasible.SolePieces.{only_piece, IsOnly, is_only, only_timed, only_placed, only_apart, only_end}
use Rattle.msp_places.specs.declared.place.Place.{Place}
use Rattle.msp_places.specs.Places.{lengths_of, place_on, ComesFirst, AreEarliest, no_place, place_at, HaveOwnPlaces, TakeCommonTime, LawOfEarliestPlaces}
use Rattle.msp_places.proofs.Ranks.{one_if, rank, rank_inside, rank_once, rank_early}

-- ---- places in order, as numbers: by end, then by machine
abbrev pub order_of : ℕ → ℕ → ℕ → ℕ
order_of machines end m = machines * end + m

pub less_by_end : (machines e f m k : ℕ) → m < machines → e < f → order_of machines e m < order_of machines f k
less_by_end machines e f m k l h = omega (arith, l, mul-le-mul_left machines (add-one-le h))

pub less_by_order : (machines : ℕ) (p q : Place) → p.machine < machines → ComesFirst p q → order_of machines p.end p.machine < order_of machines q.end q.machine
less_by_order machines p q l (inl h) = less_by_end machines p.end q.end p.machine q.machine l h
less_by_order machines p q l (inr h) = omega (arith, ap (λ e. machines * e) h.0, h.1)

pub end_by_order : (machines e f m k : ℕ) → k < machines → order_of machines e m ≤ order_of machines f k → e ≤ f
end_by_order machines e f m k l h = elim (cases_lt f e) [ inl g ↦ absurd (omega (arith, less_by_end machines f e k m l g, h)) | inr g ↦ omega (arith, g) ]

same_order : (machines e f m k : ℕ) → m < machines → k < machines → order_of machines e m ≡ order_of machines f k → (e ≡ f) × (m ≡ k)
same_order machines e f m k l n h =
    let same : e ≡ f = le_antisymm (end_by_order machines e f m k n (omega (arith, h))) (end_by_order machines f e k m l (omega (arith, h))) in
    (same, omega (arith, h, ap (λ x. machines * x) same))

-- ---- what a uniform instance has
cancel : (v x y : ℕ) → 1 ≤ v → v * x ≡ v * y → x ≡ y
cancel v x y k e = le_antisymm (le_of_mul-le-mul_left {k = v} (omega (arith, e)) k) (le_of_mul-le-mul_left {k = v} (omega (arith, e)) k)

pub first_time : (l : Limits) (i : Instance) → kind_of i.class.env ≡ Uniform → MeetsConditions l i → (1 ≤ common_time i) × (common_time i ≤ greatest_time l i.class.times)
first_time l i kind c =
    let needs = (c.jobs 0 no_job (omega (arith, c.some))).needs in
    let single = subst (λ k. HasShape k i.class.env i.machines (job_at i 0).needs) kind needs.shape in
    subst (λ k. HasTimes (least_time k i.class.times) (greatest_time l i.class.times) (job_at i 0).needs) kind needs.times 0 no_need (omega (arith, single.0))

pub speeds_of : (l : Limits) (i : Instance) → kind_of i.class.env ≡ Uniform → MeetsConditions l i → HasSpeeds Uniform i.machines i.speeds
speeds_of l i kind c = subst (λ k. HasSpeeds k i.machines i.speeds) kind c.speeds

module _ (i : Instance) (unit : ℕ) (speeds : HasSpeeds Uniform i.machines i.speeds) (common : IsLeastOfAll i.speeds unit) where
  abbrev pub long : ℕ → ℕ
  long m = get_or (lengths_of i unit) m 0

  abbrev pub speed : ℕ → ℕ
  speed m = get_or i.speeds m 0

  pub lengths-count : length (lengths_of i unit) ≡ i.machines
  lengths-count = length-map i.speeds (λ s. common_time i * (unit / s)) ∙ speeds.0

  -- a job's time on a machine, times the speed
  pub long-speed : (m : ℕ) → m < i.machines → long m * speed m ≡ unit * common_time i
  long-speed m l =
      let inside : m < length i.speeds = omega (arith, l, speeds.0) in
      ap (λ x. x * speed m) (get_or-map (λ s. common_time i * (unit / s)) i.speeds m 0 0 inside)
      ∙ turned (common_time i) (unit / speed m) (speed m) unit (div-mul_cancel (speed m) (common.common m 0 inside))
    where
      turned : (a b c u : ℕ) → b * c ≡ u → a * b * c ≡ u * a
      turned a b c u e = omega (arith, ap (λ x. x * a) e)

  pub long-some : (m : ℕ) → m < i.machines → 1 ≤ common_time i → 1 ≤ long m
  long-some m l some = by (long m) (speed m) unit (common_time i) (long-speed m l) common.some some
    where
      by : (a b u p : ℕ) → a * b ≡ u * p → 1 ≤ u → 1 ≤ p → 1 ≤ a
      by a b u p e k h = grind arith

-- ---- jobs on machines, each in one piece
module _ (n : ℕ) (machine begin end : ℕ → ℕ) (lasts : (a : ℕ) → a < n → begin a < end a)
    (apart : (a b : ℕ) → a < n → b < n → a ≢ b → machine a ≡ machine b → IsApart begin end a b) where
  -- how many jobs end on the machine of b by its end
  abbrev pub front : ℕ → ℕ
  front b = total_below n (λ a. cond (holds_up n machine end a b) 1 0)

  abbrev held : ℕ → ℕ → Bool
  held a b = holds_up n machine end a b

  held_itself : (b : ℕ) → held b b ≡ true
  held_itself b = ap (λ t. t && leb (end b) (end b)) (eq-eqb (machine b) (machine b) refl) ∙ le-leb (end b) (end b) (omega arith)

  pub front-some : (b : ℕ) → b < n → 1 ≤ front b
  front-some b l = omega (arith, total_below-term n (λ a. cond (held a b) 1 0) b l, cond-yes 1 (held_itself b))

  -- of two jobs on a machine the later one has the greater number
  front-rises : (a b : ℕ) → b < n → machine a ≡ machine b → end a < end b → front a < front b
  front-rises a b l on less = total_below-strict n (λ c. cond (held c a) 1 0)
      (λ c. cond (held c b) 1 0) b l (λ c _. more c (held c a) refl) (omega (arith, cond-yes 1 (held_itself b), later (held b a) refl))
    where
      more : (c : ℕ) (t : Bool) → held c a ≡ t → cond (held c a) 1 0 ≤ cond (held c b) 1 0
      more c true e =
          let (p, q) = both_true (eqb (machine c) (machine a)) (leb (end c) (end a)) e in
          omega (
            arith,
            cond-le (held c a) 1,
            cond-yes 1 (ap (λ t. t && leb (end c) (end b)) (eq-eqb (machine c) (machine b) (eqb-true (machine c) (machine a) p ∙ on))
                ∙ le-leb (end c) (end b) (omega (arith, leb-true (end c) (end a) q, less))),
          )
      more c false e = omega (arith, cond-no 1 e)

      later : (t : Bool) → held b a ≡ t → one_if (held b a) ≡ 0
      later true e = absurd (omega (arith, leb-true (end b) (end a) (both_true (eqb (machine b) (machine a)) (leb (end b) (end a)) e).1, less))
      later false e = cond-no 1 e

  pub front-once : (a b : ℕ) → a < n → b < n → machine a ≡ machine b → front a ≡ front b → a ≡ b
  front-once a b l h on same = elim (same_or_not a b) [
    | inl e ↦ e
    | inr ne ↦ elim (apart a b l h ne on) [
      | inl k ↦ absurd (omega (arith, same, front-rises a b h on (omega (arith, k, lasts b h))))
      | inr k ↦ absurd (omega (arith, same, front-rises b a l (sym on) (omega (arith, k, lasts a l))))
    ]
  ]

  -- where the jobs of a machine take equal times over a common unit
  pub front-takes : (unit other : ℕ) (time : ℕ → ℕ) → ((a : ℕ) → a < n → unit * (end a - begin a) ≡ time (machine a) * other) → (b : ℕ) → b < n
      → other * (front b * time (machine b)) ≤ unit * end b
  front-takes unit other time takes b l =
      subst (λ x. x ≤ unit * end b) (sym (total_below-scale n unit (λ a. cond (held a b) (end a - begin a) 0)) ∙ counted) here
    where
      here : unit * total_below n (λ a. cond (held a b) (end a - begin a) 0) ≤ unit * end b
      here = mul-le-mul_left unit (ends_after n machine end begin lasts apart b l)

      counted : total_below n (λ a. unit * cond (held a b) (end a - begin a) 0) ≡ other * (front b * time (machine b))
      counted =
          total_below-same n (λ a. unit * cond (held a b) (end a - begin a) 0) (λ a. time (machine b) * other * cond (held a b) 1 0) (λ a k. each a k (held a b) refl)
          ∙ total_below-scale n (time (machine b) * other) (λ a. cond (held a b) 1 0)
          ∙ turned (time (machine b)) other (front b)
        where
          turned : (a b c : ℕ) → a * b * c ≡ b * (c * a)
          turned a b c = omega arith

          each : (a : ℕ) → a < n → (t : Bool) → held a b ≡ t → unit * cond (held a b) (end a - begin a) 0 ≡ time (machine b) * other * cond (held a b) 1 0
          each a k true e =
              ap (λ x. unit * x) (cond-yes (end a - begin a) e)
              ∙ takes a k ∙ ap (λ m. time m * other) (eqb-true (machine a) (machine b) (both_true (eqb (machine a) (machine b)) (leb (end a) (end b)) e).0)
              ∙ sym (mul-one (time (machine b) * other)) ∙ ap (λ x. time (machine b) * other * x) (sym (cond-yes 1 e))
          each a k false e = omega (arith, ap (λ x. unit * x) (cond-no (end a - begin a) e), ap (λ x. time (machine b) * other * x) (cond-no 1 e))

-- ---- the law
module _ (l : Limits) (i : Instance) (s : Schedule) (unit : ℕ) (places : List Place) (kind : kind_of i.class.env ≡ Uniform) (uncut : i.class.cut ≡ false)
    (c : MeetsConditions l i) (times : TakeCommonTime i) (f : Feasible i s) (common : IsLeastOfAll i.speeds unit)
    (earliest : AreEarliest (lengths_of i unit) (length i.jobs) places) where
  abbrev n : ℕ
  n = length i.jobs

  abbrev other : ℕ
  other = nat_abs s.unit

  abbrev on : ℕ → ℕ
  on j = (only_piece s j).machine

  abbrev begin : ℕ → ℕ
  begin j = start (only_piece s j)

  abbrev end : ℕ → ℕ
  end j = finish (only_piece s j)

  works : (j : ℕ) → j < n → HasOperation (kind_of i.class.env) i j 0
  works j l = subst (λ k. HasOperation k i j 0) (sym kind) refl

  lasts : (j : ℕ) → j < n → begin j < end j
  lasts j l = (only_timed i s uncut works f j l).lasts

  apart : (a b : ℕ) → a < n → b < n → a ≢ b → on a ≡ on b → IsApart begin end a b
  apart a b l m ne same = only_apart i s uncut works f a b l m ne same

  on-inside : (j : ℕ) → j < n → on j < i.machines
  on-inside j l = subst (λ k. MayRun k i (only_piece s j).job (only_piece s j).op (on j)) kind (only_placed i s uncut works f j l).machine

  unit_is : s.unit ≡ pos other
  unit_is = natural s.unit (omega (arith, ints, f.unit))

  speeds : HasSpeeds Uniform i.machines i.speeds
  speeds = speeds_of l i kind c

  abbrev take : ℕ → ℕ
  take m = long i unit speeds common m

  -- the unit times a job's length is its time on the machine times the other unit
  takes : (j : ℕ) → j < n → unit * (end j - begin j) ≡ take (on j) * other
  takes j l = by (end j - begin j) (take (on j)) (speed i unit speeds common (on j))
      unit (common_time i) other (long-speed i unit speeds common (on j) (on-inside j l)) work (speeds.1 (on j) 0 (omega (arith, on-inside j l, speeds.0))).0
    where
      -- x·v ≡ o·p and a·v ≡ u·p give u·x ≡ a·o
      by : (x a v u p o : ℕ) → a * v ≡ u * p → x * v ≡ o * p → 1 ≤ v → u * x ≡ a * o
      by x a v u p o e g some = cancel v (u * x) (a * o) some (omega (arith, ap (λ y. u * y) g, ap (λ y. o * y) e))

      only : IsOnly i s uncut works f j (only_piece s j)
      only = is_only i s uncut works f j l

      at : IsTimed (only_piece s j)
      at = only_timed i s uncut works f j l

      lasting : (m k : ℕ) (x y : ℤ) → x ≡ pos m → y ≡ pos k → k < m → x -ℤ y ≡ pos (m - k)
      lasting m k x y e g l = omega (arith, ints)

      work : (end j - begin j) * speed i unit speeds common (on j) ≡ other * common_time i
      work = pos-same (
          sym (ap (λ x. x *ℤ pos (speed i unit speeds common (on j))) (lasting (end j) (begin j) (only_piece s j).to (only_piece s j).from at.to at.from at.lasts))
          ∙ subst (λ k. IsWholeWork k i s.unit (only_piece s j)) kind only.work
          ∙ ap (λ x. s.unit *ℤ pos x.time) (ap₂ (need_at i) only.job only.op) ∙ ap (λ x. s.unit *ℤ pos x) (times j l) ∙ ap (λ u. u *ℤ pos (common_time i)) unit_is)

  abbrev number_on : ℕ → ℕ
  number_on j = front n on begin end lasts apart j

  ends_then : (j : ℕ) → j < n → (s.unit *ℤ pos (number_on j * take (on j))) ≤ℤ (pos unit *ℤ end_of s j)
  ends_then j l = subst (λ u. (u *ℤ pos (number_on j * take (on j))) ≤ℤ (pos unit *ℤ end_of s j)) (sym unit_is)
      (≤ℤ_trans (pos-le (front-takes n on begin end lasts apart unit other take takes j l)) (*ℤ-mono unit (only_end i s uncut works f j l)))

  -- ---- the places of the schedule and the earliest ones, as numbers
  abbrev key : ℕ → ℕ
  key j = order_of i.machines (number_on j * take (on j)) (on j)

  abbrev listed : ℕ → ℕ
  listed r = order_of i.machines (place_at places r).end (place_at places r).machine

  key-once : (a b : ℕ) → a < n → b < n → key a ≡ key b → a ≡ b
  key-once a b k m e =
      let (ends, same) = same_order i.machines (number_on a * take (on a)) (number_on b * take (on b)) (on a) (on b) (on-inside a k) (on-inside b m) e in
      front-once n on begin end lasts apart a b k m same (cancel (take (on b)) (number_on a) (number_on b) (long-some i unit speeds common (on b) (on-inside b m) (first_time l i kind c).0)
      (mul_comm (take (on b)) (number_on a) ∙ ap (λ x. number_on a * take x) (sym same) ∙ ends ∙ mul_comm (number_on b) (take (on b))))

  machine-listed : (r : ℕ) → r < n → (place_at places r).machine < i.machines
  machine-listed r l = omega (arith, (earliest.each r no_place (omega (arith, l, earliest.count))).machine, lengths-count i unit speeds common)

  listed-rises : (a b : ℕ) → a < b → b < n → listed a < listed b
  listed-rises a b less l = less_by_order i.machines
      (place_at places a) (place_at places b) (machine-listed a (omega (arith, less, l))) (earliest.order a b no_place less (omega (arith, l, earliest.count)))

  covers : (j : ℕ) → j < n → ((r : ℕ) × (r < n) × (listed r ≡ key j)) ⊎ ((r : ℕ) → r < n → listed r < key j)
  covers j l = elim (earliest.earliest (on j) (number_on j) (omega (arith, on-inside j l, lengths-count i unit speeds common)) (front-some n on begin end lasts apart j l)) [
    | inl w ↦ inl
        (w.0, omega (arith, w.1, earliest.count), ap (λ p. order_of i.machines p.end p.machine) (get_or_default places w.0 no_place (place_on (lengths_of i unit) (on j) (number_on j)) w.1 ∙ w.2))
    | inr all ↦ inr (λ r k. less_by_order i.machines (place_at places r) (place_on (lengths_of i unit) (on j) (number_on j)) (machine-listed r k) (all r no_place (omega (arith, k, earliest.count))))
  ]

  abbrev number : ℕ → ℕ
  number = rank n key listed key-once listed-rises covers

  own_places : HaveOwnPlaces i s unit places number
  own_places = record {
    inside = λ j l. rank_inside n key listed key-once listed-rises covers j l;
    own = λ j k l m e. rank_once n key listed key-once listed-rises covers j k l m e;
    ends = λ j l. ≤ℤ_trans (*ℤ-mono_nonneg s.unit (omega (arith, ints, f.unit))
        (pos-le (end_by_order i.machines (place_at places (number j)).end (number_on j * take (on j)) (place_at places (number j)).machine (on j)
        (on-inside j l) (rank_early n key listed key-once listed-rises covers j l)))) (ends_then j l);
  }

pub law_of_earliest_places : LawOfEarliestPlaces
law_of_earliest_places l i s unit places kind uncut c times f common earliest =
    (number l i s unit places kind uncut c times f common earliest, own_places l i s unit places kind uncut c times f common earliest)
