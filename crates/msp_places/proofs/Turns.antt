-- Places that are taken in turn are the earliest.
use Rattle.std.proofs.Common.{◌≡◌, ◌≢◌, ℕ, ◌+◌, ◌*◌, ◌-◌, ◌<◌, ◌≤◌, inl, inr, List, [], ◌∷◌, ◌++◌, length, get_or, set, All, Contains, sym, ap, zero-mul, one-mul, add-sub_cancel, le_antisymm}
use Rattle.std.proofs.Common.{ap₂, subst, subst₂, ◌∙◌, arith}
use Rattle.std.proofs.lemmas.Bool.{cases_lt}
use Rattle.std.proofs.lemmas.Nat.{mul-le}
use Rattle.std.proofs.lemmas.Grind.{get_or-set_at}
use Rattle.std.proofs.lemmas.List.{get_or-set_other, get_or_default, get_or_append_left, length-append, length-set, get_or_push}
use Rattle.std.proofs.lemmas.List.Elements.{All-nil, All-push, Contains-append_left, Contains-push}
use Rattle.std.proofs.Math.Nat.{mul-le-mul_right}
use Rattle.msp_class.specs.declared.sizes.TheConstants.{MOST_JOBS}
use Rattle.msp_class.proofs.Cases.{same_or_not}
use Rattle.msp_pieces.proofs.feasible.Series.{AllPairs-append}
use Rattle.msp_places.specs.declared.place.Place.{Place}
use Rattle.msp_places.specs.Places.{place_on, IsPlace, ComesFirst, AreEarliest, no_place, place_at}
use Rattle.msp_places.specs.Taken.{IsFirstPlace, AreFirst, behind, TakesTurn, AreTaken}
use Rattle.msp_places.specs.Bounds.{greatest_length, greatest_end}

-- ---- the place that ends first
-- of the first places of a list
pub record IsFirstBelow (places : List Place) (bound k : ℕ) : Type 0 where
  pub inside : k < bound
  pub least : (m : ℕ) → m < bound → (place_at places k).end ≤ (place_at places m).end
  pub first : (m : ℕ) → m < k → (place_at places k).end < (place_at places m).end

-- ---- the first places
pub record AreFirstBelow (lengths : List ℕ) (count : ℕ) (first : List Place) : Type 0 where
  pub many : length first ≡ count
  pub each : (m : ℕ) → m < count → place_at first m ≡ place_on lengths m 1

-- the place from moment 0 on
abbrev pub from_zero : ℕ → ℕ → Place
from_zero m l = record { machine = m; rank = 1; begin = 0; end = l }

first_is : (lengths : List ℕ) (m : ℕ) → from_zero m (get_or lengths m 0) ≡ place_on lengths m 1
first_is lengths m = ap₂ (λ b e. record { machine = m; rank = 1; begin = b; end = e }) (sym (zero-mul (get_or lengths m 0))) (sym (one-mul (get_or lengths m 0)))

pub first_next : (lengths : List ℕ) (k : ℕ) (new old : List Place) (p : Place) → new ≡ old ++ p ∷ [] → p ≡ from_zero k (get_or lengths k 0)
    → AreFirstBelow lengths k old → AreFirstBelow lengths (k + 1) new
first_next lengths k new old p e is so_far = record {
  many = ap length e ∙ length-append old (p ∷ []) ∙ omega (arith, so_far.many);
  each = λ m l. ap (λ xs. place_at xs m) e ∙ elim (cases_lt m k) [
    | inl less ↦ get_or_append_left old (p ∷ []) no_place m (omega (arith, less, so_far.many)) ∙ so_far.each m less
    | inr more ↦
        let same : k ≡ m = omega (arith, l, more) in
        subst (λ n. place_at (old ++ p ∷ []) n ≡ place_on lengths n 1) same (get_or_push old p no_place k so_far.many ∙ is ∙ first_is lengths k)
  ];
}

pub first_all : (lengths : List ℕ) (k : ℕ) (first : List Place) → k ≡ length lengths → AreFirstBelow lengths k first → AreFirst lengths first
first_all lengths k first e h = record { count = h.many ∙ e; each = λ m l. h.each m (omega (arith, l, e)) }

-- ---- the order of places
abbrev pub AreShort : List ℕ → Type 0
AreShort lengths = All (λ l. (1 ≤ l) × (l ≤ greatest_length)) lengths

ComesFirst-trans : (p q : Place) (r : Place) → ComesFirst p q → q.end < r.end → ComesFirst p r
ComesFirst-trans p q r h k = inl (elim h [ inl l ↦ omega (arith, l, k) | inr e ↦ omega (arith, e.0, k) ])

ComesFirst-same : (p q r : Place) → ComesFirst p q → q.end ≤ r.end → q.machine ≡ r.machine → ComesFirst p r
ComesFirst-same p q r h k e = elim (cases_lt q.end r.end) [
  | inl l ↦ ComesFirst-trans p q r h l
  | inr l ↦ elim h [ inl f ↦ inl (omega (arith, f, k)) | inr f ↦ inr (omega (arith, f.0, k, l), omega (arith, f.1, e)) ]
]

-- the place behind that of a rank is that of the next rank
behind_is : (lengths : List ℕ) (m r : ℕ) → behind (place_on lengths m r) (get_or lengths m 0) ≡ place_on lengths m (r + 1)
behind_is lengths m r = ap₂ (λ b e. record { machine = m; rank = r + 1; begin = b; end = e }) (ap (λ x. x * get_or lengths m 0) (sym (add-sub_cancel r 1)))
    (last r (get_or lengths m 0))
  where
    last : (r l : ℕ) → r * l + l ≡ (r + 1) * l
    last r l = omega arith

weaker_place : (lengths : List ℕ) (n m : ℕ) (p : Place) → n ≤ m → IsPlace lengths n p → IsPlace lengths m p
weaker_place lengths n m p l h = record { machine = h.machine; some = h.some; few = omega (arith, h.few, l); is = h.is }

-- ---- at the start
pub taken_none : (lengths : List ℕ) (first : List Place) → AreFirst lengths first → AreTaken lengths [] first
taken_none lengths first h = record {
  each = All-nil (IsPlace lengths 0);
  order = λ a b d l k. absurd (omega (arith, k));
  count = h.count;
  places = λ m l. h.each m l ∙ ap (place_on lengths m) (sym (one m l));
  some = λ m l. omega (arith, one m l);
  few = λ m l. omega (arith, one m l);
  before = λ m l. All-nil (λ p. ComesFirst p (place_at first m));
  whole = λ m rank l some less. absurd (omega (arith, one m l, some, less));
}
  where
    one : (m : ℕ) → m < length lengths → (place_at first m).rank ≡ 1
    one m l = ap (λ (p : Place). p.rank) (h.each m l)

-- ---- one turn more
module _ (lengths : List ℕ) (long : (m : ℕ) → m < length lengths → 1 ≤ get_or lengths m 0) (taken next : List Place) (h : AreTaken lengths taken next) (k : ℕ)
    (first : IsFirstPlace next k) where
  abbrev p : Place
  p = place_at next k

  abbrev r : ℕ
  r = p.rank

  abbrev q : Place
  q = behind p (get_or lengths k 0)

  abbrev more : List Place
  more = taken ++ p ∷ []

  abbrev after : List Place
  after = set next k q

  inside : k < length lengths
  inside = omega (arith, first.inside, h.count)

  p-is : p ≡ place_on lengths k r
  p-is = h.places k inside

  q-is : q ≡ place_on lengths k (r + 1)
  q-is = ap (λ x. behind x (get_or lengths k 0)) p-is ∙ behind_is lengths k r

  p-machine : p.machine ≡ k
  p-machine = ap (λ (x : Place). x.machine) p-is

  p-before_q : p.end < q.end
  p-before_q = omega (arith, long k inside)

  many : length more ≡ length taken + 1
  many = length-append taken (p ∷ []) ∙ omega arith

  -- what holds of the new place of the machine k, and of the places of the others
  by_machine : (P : ℕ → Place → Type 0) → P k q → ((m : ℕ) → m < length lengths → m ≢ k → P m (place_at next m)) → (m : ℕ) → m < length lengths → P m (place_at after m)
  by_machine P here there m l = elim (same_or_not m k) [
    | inl same ↦ subst (P m) (sym (get_or-set_at next k m q no_place same first.inside)) (subst (λ x. P x q) (sym same) here)
    | inr other ↦ subst (P m) (sym (get_or-set_other next k m q no_place other)) (there m l other)
  ]

  -- the place that is taken comes before the next places of the other machines
  p-before : (m : ℕ) → m < length lengths → m ≢ k → ComesFirst p (place_at next m)
  p-before m l ne = elim (cases_lt p.end (place_at next m).end) [
    | inl less ↦ inl less
    | inr same ↦ elim (cases_lt m k) [
      | inl early ↦ absurd (omega (arith, first.first m early, same))
      | inr late ↦ inr
          (le_antisymm (first.least m (omega (arith, l, h.count))) same, omega (arith, ap (λ (x : Place). x.machine) (h.places m l), p-machine, late, ne))
    ]
  ]

  pub taken_more : AreTaken lengths more after
  taken_more = record {
    each = subst (λ n. All (IsPlace lengths n) more) (sym many)
        (All-push (IsPlace lengths (length taken + 1)) taken p (λ a d l. weaker_place lengths (length taken) (length taken + 1) (get_or taken a d) (omega arith) (h.each a d l)) new_place);
    order = AllPairs-append ComesFirst taken (p ∷ []) h.order (λ a b d l e. absurd (omega (arith, l, e)))
        (λ a d l. All-push (ComesFirst (get_or taken a d)) [] p (All-nil (ComesFirst (get_or taken a d))) (h.before k inside a d l));
    count = length-set next k q ∙ h.count;
    places = by_machine (λ m x. x ≡ place_on lengths m x.rank) q-is (λ m l _. h.places m l);
    some = by_machine (λ m x. 1 ≤ x.rank) (omega arith) (λ m l _. h.some m l);
    few = by_machine (λ m x. x.rank ≤ length more + 1) (omega (arith, h.few k inside, many)) (λ m l _. omega (arith, h.few m l, many));
    before = by_machine (λ m x. All (λ y. ComesFirst y x) more)
        (All-push (λ y. ComesFirst y q) taken p (λ a d l. ComesFirst-trans (get_or taken a d) p q (h.before k inside a d l) p-before_q) (inl p-before_q))
        (λ m l ne. All-push (λ y. ComesFirst y (place_at next m)) taken p (h.before m l) (p-before m l ne));
    whole = λ m rank l some less. by_machine (λ m x. (rank : ℕ) → 1 ≤ rank → rank < x.rank → Contains more (place_on lengths m rank))
        here (λ m l _ rank some less. Contains-append_left taken (p ∷ []) (place_on lengths m rank) (h.whole m rank l some less)) m l rank some less;
  }
    where
      new_place : IsPlace lengths (length taken + 1) p
      new_place = record { machine = omega (arith, p-machine, inside); some = h.some k inside; few = h.few k inside; is = p-is ∙ ap (λ m. place_on lengths m r) (sym p-machine) }

      here : (rank : ℕ) → 1 ≤ rank → rank < r + 1 → Contains more (place_on lengths k rank)
      here rank some less = elim (cases_lt rank r) [
        | inl old ↦ Contains-append_left taken (p ∷ []) (place_on lengths k rank) (h.whole k rank inside some old)
        | inr new ↦
            let same : r ≡ rank = omega (arith, less, new) in
            subst (Contains more) (p-is ∙ ap (place_on lengths k) same) (Contains-push taken p)
      ]

-- ---- at the end
pub earliest_taken : (lengths : List ℕ) (long : (m : ℕ) → m < length lengths → 1 ≤ get_or lengths m 0) (n : ℕ) (taken next : List Place)
    → AreTaken lengths taken next → length taken ≡ n → AreEarliest lengths n taken
earliest_taken lengths long n taken next h e = record {
  count = e;
  each = subst (λ n. All (IsPlace lengths n) taken) e h.each;
  order = h.order;
  earliest = λ m rank l some. elim (cases_lt rank (place_at next m).rank) [
    | inl less ↦ inl (h.whole m rank l some less)
    | inr more ↦ inr
        (λ a d k. ComesFirst-same (get_or taken a d) (place_at next m) (place_on lengths m rank) (h.before m l a d k)
        (omega (arith, ap (λ (x : Place). x.end) (h.places m l), mul-le-mul_right (get_or lengths m 0) more)) (ap (λ (x : Place). x.machine) (h.places m l)))
  ];
}

-- ---- as the code has it
pub record HasTaken (lengths : List ℕ) (turn : ℕ) (taken next : List Place) : Type 0 where
  pub taken_are : AreTaken lengths taken next
  pub count : length taken ≡ turn

pub at_first : (lengths : List ℕ) (taken first : List Place) → taken ≡ [] → AreFirst lengths first → HasTaken lengths 0 taken first
at_first lengths taken first e h = record { taken_are = subst (λ t. AreTaken lengths t first) (sym e) (taken_none lengths first h); count = ap length e }

pub turn_taken : (lengths : List ℕ) → AreShort lengths → (turn : ℕ) (taken next new after : List Place) (place : Place) → HasTaken lengths turn taken next
    → TakesTurn lengths next place after → new ≡ taken ++ place ∷ [] → HasTaken lengths (turn + 1) new after
turn_taken lengths short turn taken next new after place h t e =
    record {
      taken_are = subst₂ (AreTaken lengths) (sym (e ∙ ap (λ p. taken ++ p ∷ []) t.is)) (sym (t.next ∙ ap (λ p. set next t.machine (behind p (get_or lengths t.machine 0))) t.is))
          (taken_more lengths (λ m l. (short m 0 l).0) taken next h.taken_are t.machine t.first);
      count = ap length e ∙ length-append taken (place ∷ []) ∙ omega (arith, h.count);
    }

-- the ranks and ends of the next places are small
pub ranks_small : (lengths : List ℕ) (turn : ℕ) (taken next : List Place) → HasTaken lengths turn taken next → turn < MOST_JOBS → All (λ p. p.rank ≤ MOST_JOBS) next
ranks_small lengths turn taken next h l k d b =
    let inside : k < length lengths = omega (arith, b, h.taken_are.count) in
    omega (arith, h.taken_are.few k inside, h.count, l, ap (λ (p : Place). p.rank) (get_or_default next k d no_place b))

pub ends_small : (lengths : List ℕ) → AreShort lengths → (turn : ℕ) (taken next : List Place) → HasTaken lengths turn taken next → turn < MOST_JOBS
    → All (λ p. p.end ≤ greatest_end) next
ends_small lengths short turn taken next h l k d b =
    let inside : k < length lengths = omega (arith, b, h.taken_are.count) in
    omega (
      arith,
      ap (λ (p : Place). p.end) (get_or_default next k d no_place b ∙ h.taken_are.places k inside),
      mul-le (place_at next k).rank (get_or lengths k 0) MOST_JOBS greatest_length (omega (arith, h.taken_are.few k inside, h.count, l)) (short k 0 inside).1,
    )

pub earliest_at_end : (lengths : List ℕ) → AreShort lengths → (n turn : ℕ) (taken next : List Place) → HasTaken lengths turn taken next → turn ≡ n
    → AreEarliest lengths n taken
earliest_at_end lengths short n turn taken next h e = earliest_taken lengths (λ m l. (short m 0 l).0) n taken next h.taken_are (h.count ∙ e)
