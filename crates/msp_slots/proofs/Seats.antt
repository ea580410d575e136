-- Unit jobs in slots: where each job may begin at its release date, and no more begin at a time than there are machines, the slots of the
-- earliest schedule suffice. Stated of numbers: job j is released at `release j` and begins at `begin j`.
use Rattle.std.proofs.Common.{◌≡◌, ◌≢◌, ℕ, zero, suc, ◌+◌, ◌-◌, ◌*◌, ◌<◌, ◌≤◌, ◌⊎◌, inl, inr, Bool, true, false, cond, eqb, ltb, leb, refl, sym, ap, subst, ◌∙◌, arith, below_more}
use Rattle.std.proofs.lemmas.Bool.{cases_lt, eqb-true, eqb-false, eq-eqb, ne_eqb}
use Rattle.std.proofs.lemmas.Bool.Decides.{nat_tests}
use Rattle.std.proofs.Math.Numerals.{suc-eq-add-one}
use Rattle.msp_pieces.proofs.lists.Places.{total_below-within}
use Rattle.msp_pieces.proofs.lists.Positions.{count_at_most_one}
use Rattle.msp_slots.specs.Seating.{one_if, begin_at, IsSeated, IsTight, Rises}
use Rattle.msp_class.specs.Sums.{total_below}
use Rattle.msp_class.proofs.Sums.{total_below-mono, total_below-same, total_below-add, total_below-none, total_below-bound, total_below-constant, total_below-split, cond-le}

-- ---- numbers below n
-- the first that serves, or that all serve otherwise
pub either_below : (n : ℕ) (P Q : ℕ → Type 0) → ((j : ℕ) → j < n → P j ⊎ Q j) → ((j : ℕ) × (j < n) × P j) ⊎ ((j : ℕ) → j < n → Q j)
either_below zero P Q h = inr (λ j l. absurd (omega (arith, l)))
either_below (suc n) P Q h = elim (h n (omega arith)) [
  | inl p ↦ inl (n, omega arith, p)
  | inr q ↦ elim (either_below n P Q (λ j l. h j (omega (arith, l)))) [
    | inl found ↦ inl (found.0, omega (arith, found.1), found.2)
    | inr all ↦ inr (λ j l. below_more Q n all q j (omega (arith, l)))
  ]
]

-- a lesser total has a lesser term
pub total_below-less : (n : ℕ) (f g : ℕ → ℕ) → total_below n f < total_below n g → (j : ℕ) × (j < n) × (f j < g j)
total_below-less zero f g h = absurd (omega (arith, h))
total_below-less (suc n) f g h = elim (cases_lt (f n) (g n)) [
  | inl less ↦ (n, omega arith, less)
  | inr more ↦ let (j, l, p) = total_below-less n f g (omega (arith, h, more)) in (j, omega (arith, l), p)
]

-- one term changes
pub total_below-changed : (n : ℕ) (f g : ℕ → ℕ) (j : ℕ) → j < n → ((k : ℕ) → k ≢ j → f k ≡ g k) → total_below n f + g j ≡ total_below n g + f j
total_below-changed zero f g j l same = absurd (omega (arith, l))
total_below-changed (suc n) f g j l same = elim (cases_lt j n) [
  | inl less ↦ omega (arith, total_below-changed n f g j less same, same n (λ e. absurd (omega (arith, e, less))))
  | inr more ↦
      let e : n ≡ j = omega (arith, l, more) in
      omega (arith, total_below-same n f g (λ k b. same k (λ q. absurd (omega (arith, q, b, more)))), ap f e, ap g e)
]

-- ---- begins that differ are one at a time
pub one_at_most : (n : ℕ) (begin : ℕ → ℕ) (x : ℕ) → ((a b : ℕ) → a < n → b < n → begin a ≡ begin b → a ≡ b) → begin_at n begin x ≤ 1
one_at_most n begin x apart = count_at_most_one n (λ j. eqb (begin j) x) (λ a b k l s t. apart a b k l (eqb-true (begin a) x s ∙ sym (eqb-true (begin b) x t)))

-- ---- how many jobs of the first n begin before the moment, and are released by it
abbrev pub begin_before : ℕ → (ℕ → ℕ) → ℕ → ℕ
begin_before n begin x = total_below n (λ j. one_if (ltb (begin j) x))

abbrev pub released_by : ℕ → (ℕ → ℕ) → ℕ → ℕ
released_by n release x = total_below n (λ j. one_if (leb (release j) x))

before_start : (n : ℕ) (begin : ℕ → ℕ) → begin_before n begin 0 ≡ 0
before_start n begin = total_below-none n (λ j. one_if (ltb (begin j) 0)) (λ j l. grind (arith, nat_tests))

pub before_next : (n : ℕ) (begin : ℕ → ℕ) (x : ℕ) → begin_before n begin (x + 1) ≡ begin_before n begin x + begin_at n begin x
before_next n begin x = total_below-same n (λ j. one_if (ltb (begin j) (x + 1))) (λ j. one_if (ltb (begin j) x) + one_if (eqb (begin j) x))
    (λ j l. grind (arith, nat_tests)) ∙ total_below-add n (λ j. one_if (ltb (begin j) x)) (λ j. one_if (eqb (begin j) x))

before_mono : (n : ℕ) (begin : ℕ → ℕ) (x y : ℕ) → x ≤ y → begin_before n begin x ≤ begin_before n begin y
before_mono n begin x y h = total_below-mono n (λ j. one_if (ltb (begin j) x)) (λ j. one_if (ltb (begin j) y)) (λ j l. grind (arith, nat_tests))

pub before_most : (n : ℕ) (begin : ℕ → ℕ) (x : ℕ) → begin_before n begin x ≤ n
before_most n begin x = omega (arith, total_below-bound n 1 (λ j. one_if (ltb (begin j) x)) (λ j l. cond-le (ltb (begin j) x) 1))

-- ---- tight: how many begin before a moment is determined by the release dates
before_step : (n m : ℕ) (release begin : ℕ → ℕ) → IsSeated n m release begin → IsTight n m release begin → (x : ℕ)
    → (begin_before n begin (x + 1) ≤ released_by n release x) × (begin_before n begin (x + 1) ≤ begin_before n begin x + m)
    × ((begin_before n begin (x + 1) ≡ released_by n release x) ⊎ (begin_before n begin (x + 1) ≡ begin_before n begin x + m))
before_step n m release begin h tight x = (
  early,
  omega (arith, before_next n begin x, h.few x),
  elim (cases_lt (begin_before n begin (x + 1)) (released_by n release x)) [
    | inl less ↦
        let (j, l, p) = total_below-less n (λ j. one_if (ltb (begin j) (x + 1))) (λ j. one_if (leb (release j) x)) less in
        let (r, b) = waits (release j) (begin j) p in
        inr (omega (arith, before_next n begin x, h.few x, tight j x l r b))
    | inr more ↦ inl (omega (arith, more, early))
  ],
)
  where
    early : begin_before n begin (x + 1) ≤ released_by n release x
    early = total_below-mono n (λ j. one_if (ltb (begin j) (x + 1))) (λ j. one_if (leb (release j) x)) (λ j l. grind (arith, nat_tests, h.released j l))

    waits : (r b : ℕ) → one_if (ltb b (x + 1)) < one_if (leb r x) → (r ≤ x) × (x < b)
    waits r b l = (grind (arith, nat_tests), grind (arith, nat_tests))

pub before_same : (n m : ℕ) (release begin heads start : ℕ → ℕ) → IsSeated n m release begin → IsTight n m release begin → IsSeated n m heads start → IsTight n m heads start
    → ((x : ℕ) → released_by n release x ≡ released_by n heads x) → (x : ℕ) → begin_before n begin x ≡ begin_before n start x
before_same n m release begin heads start a b c d same zero = before_start n begin ∙ sym (before_start n start)
before_same n m release begin heads start a b c d same (suc x) =
    let (u, v, w) = before_step n m release begin a b x in
    let (p, q, r) = before_step n m heads start c d x in
    ap (begin_before n begin) (suc-eq-add-one x)
    ∙ both (begin_before n begin x) (begin_before n start x) (begin_before n begin (x + 1)) (begin_before n start (x + 1))
    (released_by n release x) (released_by n heads x) (before_same n m release begin heads start a b c d same x) (same x) u v w p q r
    ∙ sym (ap (begin_before n start) (suc-eq-add-one x))
  where
    both : (k l k' l' r r' : ℕ) → k ≡ l → r ≡ r' → k' ≤ r → k' ≤ k + m → (k' ≡ r) ⊎ (k' ≡ k + m) → l' ≤ r' → l' ≤ l + m → (l' ≡ r') ⊎ (l' ≡ l + m) → k' ≡ l'
    both k l k' l' r r' e f g h s i j t = grind arith

-- ---- tighten: jobs that can, begin earlier
abbrev moved : (ℕ → ℕ) → ℕ → ℕ → ℕ → ℕ
moved begin j x k = cond (eqb k j) x (begin k)

module _ (begin : ℕ → ℕ) (j x : ℕ) where
  moved_here : moved begin j x j ≡ x
  moved_here = ap (λ b. cond b x (begin j)) (eq-eqb j j refl)

  moved_other : (k : ℕ) → k ≢ j → moved begin j x k ≡ begin k
  moved_other k ne = ap (λ b. cond b x (begin k)) (ne_eqb k j ne)

module _ (n m : ℕ) (release begin : ℕ → ℕ) (h : IsSeated n m release begin) (j x : ℕ) (inside : j < n) (head : release j ≤ x) (free : begin_at n begin x < m) where
  moved_less : total_below n (moved begin j x) + begin j ≡ total_below n begin + x
  moved_less = omega (arith, total_below-changed n (moved begin j x) begin j inside (moved_other begin j x), moved_here begin j x)

  moved_seated : x < begin j → IsSeated n m release (moved begin j x)
  moved_seated less = record {
    released = λ k l. by k l (eqb k j) refl;
    few = λ z. fits z (begin j) (begin_at n (moved begin j x) z) (begin_at n begin z) (counts z) (h.few z) (λ e. subst (λ z. begin_at n begin z < m) (sym e) free);
  }
    where
      by : (k : ℕ) → k < n → (b : Bool) → eqb k j ≡ b → release k ≤ moved begin j x k
      by k l true e = let same : k ≡ j = eqb-true k j e in omega (arith, ap release same, head, ap (moved begin j x) same, moved_here begin j x)
      by k l false e = omega (arith, h.released k l, moved_other begin j x k (eqb-false k j e))

      counts : (z : ℕ) → begin_at n (moved begin j x) z + one_if (eqb (begin j) z) ≡ begin_at n begin z + one_if (eqb x z)
      counts z =
          let here = ap (λ y. one_if (eqb y z)) (moved_here begin j x) in
          let c = total_below-changed n (λ k. one_if (eqb (moved begin j x k) z)) (λ k. one_if (eqb (begin k) z)) j inside (λ k ne. ap (λ y. one_if (eqb y z)) (moved_other begin j x k ne)) in
          omega (arith, c, here)

      fits : (z b a c : ℕ) → a + one_if (eqb b z) ≡ c + one_if (eqb x z) → c ≤ m → (z ≡ x → c < m) → a ≤ m
      fits z b a c e f g = grind (arith, nat_tests)

module _ (n m : ℕ) (release begin : ℕ → ℕ) where
  abbrev Waits : ℕ → Type 0
  Waits j = (x : ℕ) × (x < begin j) × (release j ≤ x) × (begin_at n begin x < m)

  waits_or_tight : ((j : ℕ) × (j < n) × Waits j) ⊎ IsTight n m release begin
  waits_or_tight = elim (either_below n Waits (λ j. (x : ℕ) → x < begin j → release j ≤ x → m ≤ begin_at n begin x) search) [
    | inl found ↦ inl found
    | inr all ↦ inr (λ j x l r b. all j l x b r)
  ]
    where
      search : (j : ℕ) → j < n → Waits j ⊎ ((x : ℕ) → x < begin j → release j ≤ x → m ≤ begin_at n begin x)
      search j l = elim (either_below (begin j) (λ x. (release j ≤ x) × (begin_at n begin x < m)) (λ x. release j ≤ x → m ≤ begin_at n begin x) (at j)) [
        | inl (x, b, p) ↦ inl (x, b, p.0, p.1)
        | inr all ↦ inr all
      ]
        where
          at : (j x : ℕ) → x < begin j → ((release j ≤ x) × (begin_at n begin x < m)) ⊎ (release j ≤ x → m ≤ begin_at n begin x)
          at j x b = elim (cases_lt x (release j)) [
            | inl less ↦ inr (λ r. absurd (omega (arith, less, r)))
            | inr more ↦ elim (cases_lt (begin_at n begin x) m) [ inl free ↦ inl (more, free) | inr full ↦ inr (λ _. full) ]
          ]

abbrev IsTightened : ℕ → ℕ → (ℕ → ℕ) → (ℕ → ℕ) → (ℕ → ℕ) → Type 0
IsTightened n m release begin early = IsSeated n m release early × IsTight n m release early × ((j : ℕ) → j < n → early j ≤ begin j)

tightened_later : (n m : ℕ) (release begin early : ℕ → ℕ) (j x : ℕ) → x < begin j → IsTightened n m release (moved begin j x) early → IsTightened n m release begin early
tightened_later n m release begin early j x b (seated, tight, less) = (seated, tight, λ k i. omega (arith, less k i, lower k (eqb k j) refl))
  where
    lower : (k : ℕ) (t : Bool) → eqb k j ≡ t → moved begin j x k ≤ begin k
    lower k true e = let same : k ≡ j = eqb-true k j e in omega (arith, ap (moved begin j x) same, moved_here begin j x, b, ap begin same)
    lower k false e = omega (arith, moved_other begin j x k (eqb-false k j e))

pub tighten : (bound n m : ℕ) (release begin : ℕ → ℕ) → total_below n begin ≤ bound → IsSeated n m release begin → (early : ℕ → ℕ) × IsTightened n m release begin early
tighten zero n m release begin size h = elim (waits_or_tight n m release begin) [
  | inr tight ↦ (begin, (h, tight, λ j l. omega arith))
  | inl (j, l, (x, b, r, free)) ↦ absurd (omega (arith, size, moved_less n m release begin h j x l r free, b))
]
tighten (suc bound) n m release begin size h = elim (waits_or_tight n m release begin) [
  | inr tight ↦ (begin, (h, tight, λ j l. omega arith))
  | inl (j, l, (x, b, r, free)) ↦
      let (early, t) = tighten bound n m release (moved begin j x) (omega (arith, size, moved_less n m release begin h j x l r free, b)) (moved_seated n m release begin h j x l r free b) in
      (early, tightened_later n m release begin early j x b t)
]

-- ---- seats: the jobs by their beginnings, ties by number
abbrev pub seat_of : ℕ → (ℕ → ℕ) → ℕ → ℕ
seat_of n begin j = begin_before n begin (begin j) + begin_at j begin (begin j)

-- fewer of the first jobs begin at a moment than of the first and this one
pub at_more : (begin : ℕ → ℕ) (i n x : ℕ) → i < n → begin i ≡ x → begin_at i begin x < begin_at n begin x
at_more begin i n x l e = omega (arith, total_below-within (λ j. one_if (eqb (begin j) x)) (suc i) n (omega (arith, l)), ap one_if (eq-eqb (begin i) x e))

seat_early : (n : ℕ) (begin : ℕ → ℕ) (j : ℕ) → j < n → seat_of n begin j < begin_before n begin (begin j + 1)
seat_early n begin j l = omega (arith, before_next n begin (begin j), at_more begin j n (begin j) l refl)

pub seat_inside : (n : ℕ) (begin : ℕ → ℕ) (j : ℕ) → j < n → seat_of n begin j < n
seat_inside n begin j l = omega (arith, seat_early n begin j l, before_most n begin (begin j + 1))

pub neither_less : {x y : ℕ} → (x < y → ⊥) → (y < x → ⊥) → x ≡ y
neither_less {x} {y} f g = elim (cases_lt x y) [ inl l ↦ absurd (f l) | inr m ↦ elim (cases_lt y x) [ inl l ↦ absurd (g l) | inr k ↦ omega (arith, m, k) ] ]

seat_later : (n : ℕ) (begin : ℕ → ℕ) (i j : ℕ) → i < n → begin i < begin j → seat_of n begin i < seat_of n begin j
seat_later n begin i j l b = omega (arith, seat_early n begin i l, before_mono n begin (begin i + 1) (begin j) (omega (arith, b)))

seat_next : (n : ℕ) (begin : ℕ → ℕ) (i j : ℕ) → i < j → begin i ≡ begin j → seat_of n begin i < seat_of n begin j
seat_next n begin i j l e = omega (arith, at_more begin i j (begin j) l e, ap (begin_before n begin) e, ap (begin_at i begin) e)

pub seat_once : (n : ℕ) (begin : ℕ → ℕ) (i j : ℕ) → i < n → j < n → seat_of n begin i ≡ seat_of n begin j → i ≡ j
seat_once n begin i j a b e =
    let same : begin i ≡ begin j = neither_less (λ l. omega (arith, e, seat_later n begin i j a l)) (λ l. omega (arith, e, seat_later n begin j i b l)) in
    neither_less (λ l. omega (arith, e, seat_next n begin i j l same)) (λ l. omega (arith, e, seat_next n begin j i l (sym same)))

-- in a rising list as many numbers below x as stand before the first that is not
rising_from : (n : ℕ) (start : ℕ → ℕ) (k x : ℕ) → Rises n start → k < n → begin_before n start x ≤ k → x ≤ start k
rising_from n start k x rises l h = elim (cases_lt (start k) x) [
  | inr more ↦ more
  | inl less ↦
      let all : total_below (suc k) (λ j. one_if (ltb (start j) x)) ≡ suc k * 1 =
      total_below-same (suc k) (λ j. one_if (ltb (start j) x)) (λ _. 1) (λ j b. grind (arith, nat_tests, rises j k (omega (arith, b)) l, less)) ∙ total_below-constant (suc k) 1 in
      absurd (omega (arith, all, total_below-within (λ j. one_if (ltb (start j) x)) (suc k) n (omega (arith, l)), h))
]

rising_before : (n : ℕ) (start : ℕ → ℕ) (k x : ℕ) → Rises n start → k < n → k < begin_before n start x → start k < x
rising_before n start k x rises l h = elim (cases_lt (start k) x) [
  | inl less ↦ less
  | inr more ↦
      let rest : total_below (n - k) (λ i. one_if (ltb (start (k + i)) x)) ≡ 0 =
      total_below-none (n - k) (λ i. one_if (ltb (start (k + i)) x)) (λ i b. grind (arith, nat_tests, rises k (k + i) (omega arith) (omega (arith, b)), more)) in
      let whole : n ≡ k + (n - k) = omega (arith, l) in
      absurd (omega (arith, rest, ap (λ z. begin_before z start x) whole, total_below-split k (n - k) (λ j. one_if (ltb (start j) x)), before_most k start x, h))
]

-- each job has a slot of its own, which begins no earlier than its release date and no later than the job did
pub record HasSeats (n : ℕ) (release begin start seat : ℕ → ℕ) : Type 0 where
  pub inside : (j : ℕ) → j < n → seat j < n
  pub once : (i j : ℕ) → i < n → j < n → seat i ≡ seat j → i ≡ j
  pub released : (j : ℕ) → j < n → release j ≤ start (seat j)
  pub early : (j : ℕ) → j < n → start (seat j) ≤ begin j

-- the law of seats: the slots are tight over the same release dates in any order
pub law_of_seats : (n m : ℕ) (release begin heads start : ℕ → ℕ) → IsSeated n m release begin → IsSeated n m heads start → IsTight n m heads start → Rises n start
    → ((x : ℕ) → released_by n release x ≡ released_by n heads x) → (seat : ℕ → ℕ) × HasSeats n release begin start seat
law_of_seats n m release begin heads start h slots tight_slots rises same =
    let (early, (seated, tight, less)) = tighten (total_below n begin) n m release begin (omega arith) h in
    let at : (j : ℕ) → j < n → start (seat_of n early j) ≡ early j = λ j l.
    let k = seat_of n early j in
    let inside = seat_inside n early j l in
    let profile = before_same n m release early heads start seated tight slots tight_slots same in
    omega (
      arith,
      rising_from n start k (early j) rises inside (omega (arith, profile (early j))),
      rising_before n start k (early j + 1) rises inside (omega (arith, profile (early j + 1), seat_early n early j l)),
    ) in (
      seat_of n early,
      record {
        inside = seat_inside n early;
        once = seat_once n early;
        released = λ j l. omega (arith, at j l, seated.released j l);
        early = λ j l. omega (arith, at j l, less j l);
      },
    )
