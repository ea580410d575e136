-- Due slots lowered by those of the jobs that follow, from the last job of a forward order to the first.
use Rattle.std.proofs.Common.{◌≡◌, ◌≢◌, ℕ, zero, suc, ◌+◌, ◌*◌, ◌/◌, ◌%◌, ◌-◌, ◌<◌, ◌≤◌, inl, inr, min, Bool, true, false, eqb, ltb, leb, List, length, get_or, set, replicate, add-one-le, add-one}
use Rattle.std.proofs.Common.{Fits, w32, All, ap₂, refl, sym, ap, subst, ◌∙◌, arith}
use Rattle.std.specs.Prelude.{◌&&◌, IsTrue, ◌↔◌, if◌then◌else◌}
use Rattle.std.proofs.lemmas.Bool.{cases_lt, false_from_ne_true}
use Rattle.std.proofs.lemmas.Bool.Decides.{nat_tests}
use Rattle.std.proofs.lemmas.Grind.{div_ceil_times}
use Rattle.std.proofs.lemmas.List.{get_or-set_same, get_or-set_other, get_or_default, get_or-replicate, get_or_past, length-replicate, length-set}
use Rattle.std.proofs.lemmas.List.Elements.{All-contains}
use Rattle.std.proofs.Math.Nat.{mul-le-mul_left}
use Rattle.std.proofs.Math.Numerals.{suc-eq-add-one}
use Rattle.msp_class.specs.declared.sizes.TheConstants.{MOST_JOBS}
use Rattle.msp_class.specs.Sums.{total_below}
use Rattle.msp_class.proofs.Sums.{total_below-same, total_below-add, total_below-none, total_below-bound, cond-le}
use Rattle.msp_instance.specs.declared.Instance.{Instance}
use Rattle.msp_instance.specs.Conditions.{IsSequence, GoesForward}
use Rattle.msp_instance.specs.Paths.{HasPath, one, more}
use Rattle.msp_instance.proofs.CycleLemmas.{OnceBelow-from_sequence}
use Rattle.msp_class.proofs.Sums.{OnceBelow-distinct}
use Rattle.msp_pieces.proofs.bounds.Certified.{place_in, place_in-is}
use Rattle.msp_pieces.proofs.lists.ForwardOrders.{at_inside, each_at, set_elsewhere, leads_to}
use Rattle.msp_pieces.proofs.lists.Places.{total_below-within}
use Rattle.msp_slots.specs.Seating.{one_if}
use Rattle.msp_class.proofs.Cases.{same_or_not}
use Rattle.msp_due.specs.Steps.{how_many, due_after, IsLowered, AreLowered, AreLoweredFrom}
use Rattle.msp_due.proofs.Counts.{how_many-same}

-- ---- one end
pub fitted_fits : (slot after m end result : ℕ) → 1 ≤ m → result ≡ min slot (end - (after / m + min 1 (after % m))) → 1 ≤ result → after + m * result ≤ m * end
fitted_fits slot after m end result some is first = by (after / m + min 1 (after % m)) (div_ceil_times after m some).0 is
  where
    by : (q : ℕ) → after ≤ q * m → result ≡ min slot (end - q) → after + m * result ≤ m * end
    by q h e = let below : q + result ≤ end = omega (arith, e, first) in omega (arith, h, mul-le-mul_left m below)

pub fitted_greatest : (slot after m end result : ℕ) → 1 ≤ m → result ≡ min slot (end - (after / m + min 1 (after % m))) → (v : ℕ) → v ≤ slot → after + m * v ≤ m * end → v ≤ result
fitted_greatest slot after m end result some is v l room = by (after / m + min 1 (after % m)) (div_ceil_times after m some).1 is
  where
    by : (q : ℕ) → q * m < after + m → result ≡ min slot (end - q) → v ≤ result
    by q h e = elim (cases_lt end (q + v)) [
      | inl past ↦ absurd (omega (arith, mul-le-mul_left m (add-one-le past), h, room))
      | inr fits ↦ omega (arith, e, l, fits)
    ]

pub fitted_none : (m end slot : ℕ) (after : ℕ) → after ≡ 0 → 1 ≤ after → after + m * slot ≤ m * end
fitted_none m end slot after e h = absurd (omega (arith, e, h))

-- as the code computes it
pub fitted_is : (result slot after m end rest up count machines : ℕ) → result ≡ min slot rest → rest ≡ end - up
    → up ≡ count / machines + min 1 (count % machines) → count ≡ after → machines ≡ m → result ≡ min slot (end - (after / m + min 1 (after % m)))
fitted_is result slot after m end rest up count machines e f g h k = e ∙ ap (min slot) (f ∙ ap (λ u. end - u) (g ∙ ap₂ (λ x y. x / y + min 1 (x % y)) h k))

pub small_fits : (x : ℕ) → x ≤ MOST_JOBS → Fits w32 x
small_fits x h = omega (arith, h)

-- ---- end by end
pub IsLowered-start : (m : ℕ) (after : ℕ → ℕ) (due : ℕ) → IsLowered 0 m after due due
IsLowered-start m after due = record { most = omega arith; fits = λ c l. absurd (omega (arith, l)); greatest = λ v l _. l }

pub IsLowered-next : (m : ℕ) (after : ℕ → ℕ) (due end old new count : ℕ)
    → count ≡ after end → new ≤ old → (1 ≤ new → 1 ≤ count → count + m * new ≤ m * end) → ((v : ℕ) → v ≤ old → (1 ≤ count → count + m * v ≤ m * end) → v ≤ new)
    → IsLowered end m after due old → IsLowered (end + 1) m after due new
IsLowered-next m after due end old new count is less fits greatest h = record {
  most = omega (arith, less, h.most);
  fits = λ c l first some. elim (cases_lt c end) [
    | inl before ↦ omega (arith, h.fits c before (omega (arith, first, less)) some, mul-le-mul_left m less)
    | inr last ↦ let e : end ≡ c = omega (arith, l, last) in subst (λ x. 1 ≤ after x → after x + m * new ≤ m * x) e (λ s. subst (λ x. 1 ≤ x → x + m * new ≤ m * end) is (fits first) s) some
  ];
  greatest = λ v l room. greatest v (h.greatest v l (λ c b. room c (omega (arith, b)))) (subst (λ x. 1 ≤ x → x + m * v ≤ m * end) (sym is) (room end (omega arith)));
}

pub IsLowered-same : (ends m : ℕ) (after other : ℕ → ℕ) (due slot : ℕ) → ((c : ℕ) → after c ≡ other c) → IsLowered ends m after due slot → IsLowered ends m other due slot
IsLowered-same ends m after other due slot same h = record {
  most = h.most;
  fits = λ c l first some. subst (λ x. x + m * slot ≤ m * c) (same c) (h.fits c l first (omega (arith, same c, some)));
  greatest = λ v l room. h.greatest v l (λ c b some. subst (λ x. x + m * v ≤ m * c) (sym (same c)) (room c b (omega (arith, same c, some))));
}

-- ---- counts by slot
pub counted : (n : ℕ) (f : ℕ → Bool) (low : ℕ → ℕ) (k : ℕ) → total_below k (λ s. how_many n (λ z. f z && eqb (low z) s)) ≡ how_many n (λ z. f z && ltb (low z) k)
counted n f low zero = sym (total_below-none n (λ z. one_if (f z && ltb (low z) 0)) (λ z l. none (low z) (f z)))
  where
    none : (x : ℕ) (t : Bool) → one_if (t && ltb x 0) ≡ 0
    none x false = refl
    none x true = grind (arith, nat_tests)
counted n f low (suc k) =
    ap (λ x. x + how_many n (λ z. f z && eqb (low z) k)) (counted n f low k)
    ∙ sym (total_below-same n (λ z. one_if (f z && ltb (low z) (suc k))) (λ z. one_if (f z && ltb (low z) k) + one_if (f z && eqb (low z) k)) (λ z l. parts (low z) (f z))
    ∙ total_below-add n (λ z. one_if (f z && ltb (low z) k)) (λ z. one_if (f z && eqb (low z) k)))
  where
    parts : (x : ℕ) (t : Bool) → one_if (t && ltb x (suc k)) ≡ one_if (t && ltb x k) + one_if (t && eqb x k)
    parts x false = refl
    parts x true = grind (arith, nat_tests)

pub how_many-most : (n : ℕ) (f : ℕ → Bool) → how_many n f ≤ n
how_many-most n f = omega (arith, total_below-bound n 1 (λ z. one_if (f z)) (λ z _. cond-le (f z) 1))

-- those due by c are those counted in the slots up to it
pub counted_by : (n : ℕ) (leads : ℕ → ℕ → Bool) (low : ℕ → ℕ) (x : ℕ) (counts : ℕ → ℕ)
    → ((c : ℕ) → counts c ≡ how_many n (λ z. leads x z && eqb (low z) c)) → (c : ℕ) → total_below (c + 1) counts ≡ due_after n leads low x c
counted_by n leads low x counts is c = total_below-same (c + 1) counts (λ s. how_many n (λ z. leads x z && eqb (low z) s)) (λ s _. is s) ∙ counted n (leads x) low (c + 1)
    ∙ how_many-same n (λ z. leads x z && ltb (low z) (c + 1)) (λ z. leads x z && leb (low z) c) (λ z l. ap (λ t. leads x z && t) (same (low z) c))
  where
    same : (a c : ℕ) → ltb a (c + 1) ≡ leb a c
    same a c = grind (arith, nat_tests)

pub counted_few : (n : ℕ) (leads : ℕ → ℕ → Bool) (low : ℕ → ℕ) (x : ℕ) (counts : ℕ → ℕ)
    → ((c : ℕ) → counts c ≡ how_many n (λ z. leads x z && eqb (low z) c)) → n ≤ MOST_JOBS → total_below (n + 1) counts ≤ MOST_JOBS
counted_few n leads low x counts is few = omega (arith, counted_by n leads low x counts is n, how_many-most n (λ z. leads x z && leb (low z) n), few)

abbrev none : List ℕ
none = replicate (MOST_JOBS + 1) 0

pub no_count : (k : ℕ) → get_or none k 0 ≡ 0
no_count k = elim (cases_lt k (MOST_JOBS + 1)) [ inl l ↦ get_or-replicate (MOST_JOBS + 1) k 0 0 l | inr l ↦ get_or_past none k 0 (omega (arith, length-replicate {A = ℕ} (MOST_JOBS + 1) 0, l)) ]

-- one more job counted
pub count-next : (f : ℕ → Bool) (low : ℕ → ℕ) (k slot : ℕ) (old new : ℕ → ℕ) → slot ≡ low k → ((c : ℕ) → old c ≡ how_many k (λ z. f z && eqb (low z) c))
    → ((c : ℕ) → new c ≡ (if f k && eqb slot c then old c + 1 else old c)) → (c : ℕ) → new c ≡ how_many (k + 1) (λ z. f z && eqb (low z) c)
count-next f low k slot old new at so_far is c = is c ∙ one_test (f k && eqb slot c) (old c) ∙ ap (λ x. x + one_if (f k && eqb slot c)) (so_far c)
    ∙ ap (λ s. how_many k (λ z. f z && eqb (low z) c) + one_if (f k && eqb s c)) at ∙ ap (λ m. how_many m (λ z. f z && eqb (low z) c)) (suc-eq-add-one k)
  where
    one_test : (t : Bool) (x : ℕ) → (if t then x + 1 else x) ≡ x + one_if t
    one_test true x = refl
    one_test false x = omega arith

pub total_below-next : (k : ℕ) (f : ℕ → ℕ) → total_below (k + 1) f ≡ total_below k f + f k
total_below-next k f = ap (λ m. total_below m f) (add-one k)

pub sum_small : (k n : ℕ) (f : ℕ → ℕ) (after count : ℕ) → k < n → after ≡ total_below k f → count ≡ f k → total_below n f ≤ MOST_JOBS → after + count ≤ MOST_JOBS
sum_small k n f after count l is at few = omega (arith, is, at, total_below-next k f, total_below-within f (k + 1) n (omega (arith, l)), few)

-- ---- from the last place to the first
module _ (i : Instance) (order : List ℕ) (s : IsSequence i order) (forward : All (GoesForward order) i.arcs) where
  path_forward : (k : ℕ) → k < length order → (x y : ℕ) → x ≡ get_or order k 0 → HasPath i.arcs x y → (q : ℕ) × (k < q) × (q < length order) × (get_or order q 0 ≡ y)
  path_forward k l x y e (one step) = All-contains (λ a. a.before ≡ get_or order k 0 → (q : ℕ) × (k < q) × (q < length order) × (get_or order q 0 ≡ a.after))
      i.arcs (record { before = x; after = y }) (leads_to i order s forward k l) step e
  path_forward k l x y e (more {k = z} step path) =
      let (q, later, near, is) = All-contains (λ a. a.before ≡ get_or order k 0 → (q : ℕ) × (k < q) × (q < length order) × (get_or order q 0 ≡ a.after))
      i.arcs (record { before = x; after = z }) (leads_to i order s forward k l) step e in
      let (r, past, inside, there) = path_forward q near z y (sym is) path in
      (r, omega (arith, later, past), inside, there)

  -- no path leads back
  no_way : (k p : ℕ) → p ≤ k → k < length order → p < length order → HasPath i.arcs (get_or order k 0) (get_or order p 0) → ⊥
  no_way k p h l m path =
      let (q, later, near, is) = path_forward k l (get_or order k 0) (get_or order p 0) refl path in
      let distinct = OnceBelow-distinct (OnceBelow-from_sequence i order s) in
      absurd (omega (arith, place_in-is order q distinct near, ap (place_in order) is, place_in-is order p distinct m, later, h))

  module _ (n : ℕ) (many : n ≡ length i.jobs) (leads : ℕ → ℕ → Bool) (shows : (j k : ℕ) → j < length i.jobs → k < length i.jobs → IsTrue (leads j k) ↔ HasPath i.arcs j k) where
    not_led : (k p : ℕ) → p ≤ k → k < length order → p < length order → leads (get_or order k 0) (get_or order p 0) ≡ false
    not_led k p h l m = false_from_ne_true (leads (get_or order k 0) (get_or order p 0))
        (λ e. no_way k p h l m ((shows (get_or order k 0) (get_or order p 0) (at_inside i order s k l) (at_inside i order s p m)).0 e))

    after-same : (x job c : ℕ) (low new : ℕ → ℕ) → leads x job ≡ false → ((z : ℕ) → z ≢ job → new z ≡ low z) → due_after n leads low x c ≡ due_after n leads new x c
    after-same x job c low new fails same = how_many-same n (λ z. leads x z && leb (low z) c) (λ z. leads x z && leb (new z) c) (λ z l. each z)
      where
        each : (z : ℕ) → (leads x z && leb (low z) c) ≡ (leads x z && leb (new z) c)
        each z = elim (same_or_not z job) [
          | inl is ↦ ap (λ t. t && leb (low z) c) (ap (leads x) is ∙ fails) ∙ sym (ap (λ t. t && leb (new z) c) (ap (leads x) is ∙ fails))
          | inr other ↦ ap (λ y. leads x z && leb y c) (sym (same z other))
        ]

    module _ (m : ℕ) (due low : List ℕ) (whole : length due ≡ n) (p job value : ℕ) (h : AreLoweredFrom m leads order due (p + 1) low) (at : job ≡ get_or order p 0)
        (v : IsLowered (length low + 1) m (due_after (length low) leads (λ z. get_or low z 0) job) (get_or low job 0) value) where
      near : p < length order
      near = omega (arith, h.inside)

      job_inside : job < length i.jobs
      job_inside = subst (λ x. x < length i.jobs) (sym at) (at_inside i order s p near)

      abbrev new : List ℕ
      new = set low job value

      here : get_or new job 0 ≡ value
      here = get_or-set_same low job value 0 (omega (arith, job_inside, h.whole, whole, many))

      others : (z : ℕ) → z ≢ job → get_or new z 0 ≡ get_or low z 0
      others z ne = get_or-set_other low job z value 0 ne

      value_small : value ≤ get_or due job 0
      value_small = omega (arith, v.most, h.most job)

      elsewhere : (k : ℕ) → k < length order → k ≢ p → get_or new (get_or order k 0) 0 ≡ get_or low (get_or order k 0) 0
      elsewhere k l ne = subst (λ x. get_or (set low x value) (get_or order k 0) 0 ≡ get_or low (get_or order k 0) 0) (sym at) (set_elsewhere i order s low p k value near l ne)

      -- due slots by which others are lowered have not changed
      still_lowered : (k : ℕ) → p ≤ k → k < length order → (due_slot slot : ℕ) → IsLowered (length due + 1) m (due_after (length due) leads (λ z. get_or low z 0) (get_or order k 0)) due_slot slot
          → IsLowered (length due + 1) m (due_after (length due) leads (λ z. get_or new z 0) (get_or order k 0)) due_slot slot
      still_lowered k from l due_slot slot is =
          subst (λ n. IsLowered (n + 1) m (due_after n leads (λ z. get_or new z 0) (get_or order k 0)) due_slot slot) (sym whole)
          (IsLowered-same (n + 1) m (due_after n leads (λ z. get_or low z 0) (get_or order k 0)) (due_after n leads (λ z. get_or new z 0) (get_or order k 0)) due_slot slot
          (λ c. after-same (get_or order k 0) job c (λ z. get_or low z 0) (λ z. get_or new z 0) (ap (leads (get_or order k 0)) at ∙ not_led k p from l near) others)
          (subst (λ n. IsLowered (n + 1) m (due_after n leads (λ z. get_or low z 0) (get_or order k 0)) due_slot slot) whole is))

      first : IsLowered (length due + 1) m (due_after (length due) leads (λ z. get_or low z 0) (get_or order p 0)) (get_or due (get_or order p 0) 0) (get_or new (get_or order p 0) 0)
      first =
          let at_due = subst (λ n. IsLowered (n + 1) m (due_after n leads (λ z. get_or low z 0) job) (get_or low job 0) value) h.whole v in
          let at_place = subst (λ j. IsLowered (length due + 1) m (due_after (length due) leads (λ z. get_or low z 0) j) (get_or low j 0) value) at at_due in
          let by_due = subst (λ d. IsLowered (length due + 1) m (due_after (length due) leads (λ z. get_or low z 0) (get_or order p 0)) d value) (h.still p (omega arith)) at_place in
          subst (λ w. IsLowered (length due + 1) m (due_after (length due) leads (λ z. get_or low z 0) (get_or order p 0)) (get_or due (get_or order p 0) 0) w)
          (sym (ap (λ j. get_or new j 0) (sym at) ∙ here)) by_due

      pub AreLoweredFrom-next : AreLoweredFrom m leads order due p new
      AreLoweredFrom-next = record {
        whole = length-set low job value ∙ h.whole;
        inside = omega (arith, near);
        most = λ x. elim (same_or_not x job) [
          | inl is ↦ omega (arith, ap (λ x. get_or new x 0) is, here, value_small, ap (λ x. get_or due x 0) is)
          | inr other ↦ omega (arith, others x other, h.most x)
        ];
        still = λ k l. elsewhere k (omega (arith, l, near)) (λ e. absurd (omega (arith, e, l))) ∙ h.still k (omega (arith, l));
        done = λ k from l. elim (cases_lt p k) [
          | inl past ↦ subst (λ y. IsLowered (length due + 1) m (due_after (length due) leads (λ z. get_or new z 0) (get_or order k 0)) (get_or due (get_or order k 0) 0) y)
              (sym (elsewhere k l (λ e. absurd (omega (arith, e, past))))) (still_lowered k (omega (arith, past)) l _ _ (h.done k (omega (arith, past)) l))
          | inr now ↦ let is : p ≡ k = omega (arith, from, now) in
              subst (λ k. IsLowered (length due + 1) m (due_after (length due) leads (λ z. get_or new z 0) (get_or order k 0)) (get_or due (get_or order k 0) 0) (get_or new (get_or order k 0) 0))
              is (still_lowered p (omega arith) near _ _ first)
        ];
      }

pub AreLoweredFrom-start : (m : ℕ) (leads : ℕ → ℕ → Bool) (order due : List ℕ) (place : ℕ) → place ≡ length order → AreLoweredFrom m leads order due place due
AreLoweredFrom-start m leads order due place e = record { whole = refl; inside = omega (arith, e); most = λ x. omega arith; still = λ k l. refl; done = λ k h l. absurd (omega (arith, e, h, l)) }

pub AreLoweredFrom-end : (i : Instance) (m : ℕ) (leads : ℕ → ℕ → Bool) (order due low : List ℕ) (place : ℕ)
    → place ≡ 0 → IsSequence i order → length due ≡ length i.jobs → AreLoweredFrom m leads order due place low
    → AreLowered (length i.jobs) m leads (λ j. get_or due j 0) (λ j. get_or low j 0)
AreLoweredFrom-end i m leads order due low place e s whole h =
    each_at i order s (λ x. IsLowered (length i.jobs + 1) m (due_after (length i.jobs) leads (λ z. get_or low z 0) x) (get_or due x 0) (get_or low x 0))
    (λ k l. subst (λ n. IsLowered (n + 1) m (due_after n leads (λ z. get_or low z 0) (get_or order k 0)) (get_or due (get_or order k 0) 0) (get_or low (get_or order k 0) 0))
    whole (h.done k (omega (arith, e)) l))

pub place_inside : (i : Instance) (order due low : List ℕ) (place : ℕ) → IsSequence i order → 0 < place → place ≤ length order → length low ≡ length due → length due ≡ length i.jobs
    → get_or order (place - 1) 0 < length low
place_inside i order due low place s some inside whole all = omega (arith, at_inside i order s (place - 1) (omega (arith, some, inside)), whole, all)

-- no lowered due slot is later than the number of jobs
pub low_small : (n : ℕ) (due low : List ℕ) → All (λ s. s ≤ n) due → length low ≡ length due → ((x : ℕ) → get_or low x 0 ≤ get_or due x 0) → All (λ s. s ≤ n) low
low_small n due low small whole most k d l = omega (arith, ap (λ x. x) (get_or_default low k d 0 l), most k, small k 0 (omega (arith, l, whole)))
