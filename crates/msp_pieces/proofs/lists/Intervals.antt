-- Pieces of time [from, to) on machines: how much of an interval they fill.
use Rattle.std.proofs.Common.{◌≡◌, ℕ, zero, suc, ◌+◌, ◌*◌, ◌-◌, ◌≤◌, ◌<◌, min, max, Bool, true, false, cond, eqb, leb, List, [], ◌∷◌, length, get_or, All, AllPairs}
use Rattle.std.proofs.Common.{Contains, filter, sum_by, le_trans, arith, refl, sym, ap, subst, ◌∙◌, inl, inr}
use Rattle.std.proofs.lemmas.List.Sums.{sum_by-cons}
use Rattle.std.proofs.lemmas.List.Elements.{All-filter, filter_passes, All-nil, All-cons, All-head, All-tail, All-contains, Contains-get_or}
use Rattle.std.proofs.lemmas.List.Kept.{AllPairs-filter}
use Rattle.std.proofs.lemmas.Bool.{eqb-true, leb-true, leb-false, eq-eqb, cases_lt}
use Rattle.msp_class.specs.Sums.{total_below}
use Rattle.msp_class.proofs.Sums.{sum_by-mono, sum_by-same, sum_by-add, sum_by-filter, sum_by-by_key_filter, sum_by-by_key_test, total_below-some, cond-yes, total_below-bound}
use Rattle.msp_class.proofs.Sums.{AllPairs-head, AllPairs-tail, Contains-filter, Contains-from_filter, sum_by-some}
use Rattle.msp_pieces.specs.Intervals.{size_of, IsApart, IsApartOn, work_of}

-- ---- two intervals
-- how long [u, v) and [a, b) overlap
abbrev pub overlap : ℕ → ℕ → ℕ → ℕ → ℕ
overlap u v a b = min v b - max u a

pub overlap-add : (u v : ℕ) {a b c : ℕ} → a ≤ b → b ≤ c → overlap u v a c ≡ overlap u v a b + overlap u v b c
overlap-add u v {a} {b} {c} h k = omega arith

pub overlap-inside : {u v a b : ℕ} → a ≤ u → v ≤ b → overlap u v a b ≡ v - u
overlap-inside {u} {v} {a} {b} h k = omega arith

fills : (x y a b s t : ℕ) → x ≤ y → s ≤ min b x - a → t ≤ b - max a y → overlap x y a b + (s + t) ≤ b - a
fills x y a b s t h k l = omega arith

-- ---- pieces: elements of any type with the moments at which they begin and end
-- how much of [a, b) a piece fills
abbrev pub overlap_of : {X : Type 0} → (X → ℕ) → (X → ℕ) → ℕ → ℕ → X → ℕ
overlap_of from to a b q = overlap (from q) (to q) a b

-- pieces that are apart fill no more of [a, b) than it holds
pub packing : {X : Type 0} (from to : X → ℕ) (a b : ℕ) (xs : List X) → AllPairs (IsApart from to) xs → sum_by (overlap_of from to a b) xs ≤ b - a
packing from to a b [] h = omega arith
packing {X} from to a b (x ∷ xs) h = by (leb (from x) (to x)) refl (packing from to a b xs tail) (packing from to a (min b (from x)) xs tail) (packing from to (max a (to x)) b xs tail)
  where
    tail : AllPairs (IsApart from to) xs
    tail = AllPairs-tail (IsApart from to) x xs h

    parts : sum_by (overlap_of from to a b) xs ≤ sum_by (λ q. overlap_of from to a (min b (from x)) q + overlap_of from to (max a (to x)) b q) xs
    parts = sum_by-mono (overlap_of from to a b) (λ q. overlap_of from to a (min b (from x)) q + overlap_of from to (max a (to x)) b q)
        xs (λ k d l. omega (arith, AllPairs-head (IsApart from to) x xs h k d l))

    by : (t : Bool) → leb (from x) (to x) ≡ t → sum_by (overlap_of from to a b) xs ≤ b - a → sum_by (overlap_of from to a (min b (from x))) xs ≤ min b (from x) - a
        → sum_by (overlap_of from to (max a (to x)) b) xs ≤ b - max a (to x) → sum_by (overlap_of from to a b) (x ∷ xs) ≤ b - a
    by true e whole before after =
        let most = fills (from x) (to x) a b _ _ (leb-true (from x) (to x) e) before after in
        let head = sum_by-cons (overlap_of from to a b) x xs in
        let both = sum_by-add (overlap_of from to a (min b (from x))) (overlap_of from to (max a (to x)) b) xs in
        omega (arith, head, parts, both, most)
    by false e whole before after =
        subst (λ n. n ≤ b - a) (sym (sum_by-cons (overlap_of from to a b) x xs)) (omega (arith, leb-false (from x) (to x) e))

-- pieces that are apart and inside [a, b) last no longer than it
pub packed : {X : Type 0} (from to : X → ℕ) (a b : ℕ) (xs : List X) → AllPairs (IsApart from to) xs → All (λ q. (a ≤ from q) × (to q ≤ b)) xs → sum_by (size_of from to) xs ≤ b - a
packed from to a b xs h inside = subst (λ n. n ≤ b - a) (sum_by-same (overlap_of from to a b) (size_of from to) xs (λ k d l. let i = inside k d l in overlap-inside i.0 i.1)) (packing from to a b xs h)

-- ---- pieces by machine and job
-- on one machine, and on each of several
pub apart_from_one : {X : Type 0} (machine from to : X → ℕ) (μ : ℕ) (xs : List X) → All (λ q. machine q ≡ μ) xs → AllPairs (IsApartOn machine from to) xs → AllPairs (IsApart from to) xs
apart_from_one machine from to μ xs on h i j d a b = h i j d a b (on i d (omega arith) ∙ sym (on j d b))

pub apart_on_each : {X : Type 0} (machine from to : X → ℕ) (μ : ℕ) (xs : List X) → AllPairs (IsApartOn machine from to) xs → AllPairs (IsApart from to) (filter (λ q. eqb (machine q) μ) xs)
apart_on_each machine from to μ xs h =
    let on = λ (q : _). eqb (machine q) μ in
    apart_from_one machine from to μ (filter on xs) (λ k d l. eqb-true _ _ (filter_passes on xs k d l)) (AllPairs-filter (IsApartOn machine from to) on xs h)

-- the work on the jobs that pass a test, by job
pub work_by_job : {X : Type 0} (job from to : X → ℕ) (test : ℕ → Bool) (n : ℕ) (xs : List X)
    → All (λ q. job q < n) xs → sum_by (size_of from to) (filter (λ q. test (job q)) xs) ≡ total_below n (λ j. cond (test j) (work_of job from to xs j) 0)
work_by_job job from to test n xs h = sum_by-filter (size_of from to) (λ q. test (job q)) xs ∙ sum_by-by_key_test job (size_of from to) test n xs h

-- room: pieces of the jobs that pass a test, on m machines and inside [a, b), last no longer than m times as long
pub room : {X : Type 0} (job machine from to : X → ℕ) (test : ℕ → Bool) (m n a b : ℕ) (xs : List X)
    → All (λ q. job q < n) xs → All (λ q. machine q < m) xs → AllPairs (IsApartOn machine from to) xs
    → All (λ q. test (job q) ≡ true → (a ≤ from q) × (to q ≤ b)) xs
    → total_below n (λ j. cond (test j) (work_of job from to xs j) 0) ≤ m * (b - a)
room {X} job machine from to test m n a b xs jobs machines apart inside =
    subst (λ z. z ≤ m * (b - a))
    (sym (sum_by-by_key_filter machine (size_of from to) m chosen (All-filter passes (λ q. machine q < m) xs machines))
    ∙ work_by_job job from to test n xs jobs)
    (total_below-bound m (b - a) (λ μ. sum_by (size_of from to) (filter (λ q. eqb (machine q) μ) chosen)) (λ μ l. packed from to a b
    _ (apart_on_each machine from to μ chosen (AllPairs-filter (IsApartOn machine from to) passes xs apart)) (All-filter (λ q. eqb (machine q) μ) (λ q. (a ≤ from q) × (to q ≤ b)) chosen within)))
  where
    passes : X → Bool
    passes q = test (job q)

    chosen : List X
    chosen = filter passes xs

    within : All (λ q. (a ≤ from q) × (to q ≤ b)) chosen
    within k d l = All-filter passes (λ q. test (job q) ≡ true → (a ≤ from q) × (to q ≤ b)) xs inside k d l (filter_passes passes xs k d l)

-- the same on one machine
pub room_on_one : {X : Type 0} (job from to : X → ℕ) (test : ℕ → Bool) (n a b : ℕ) (xs : List X)
    → All (λ q. job q < n) xs → AllPairs (IsApart from to) xs
    → All (λ q. test (job q) ≡ true → (a ≤ from q) × (to q ≤ b)) xs
    → total_below n (λ j. cond (test j) (work_of job from to xs j) 0) ≤ b - a
room_on_one {X} job from to test n a b xs jobs apart inside =
    omega (arith, room job (λ _. 0) from to test 1 n a b xs jobs (λ k d l. omega arith) (λ i j d l m _. apart i j d l m) inside)

-- earlier ends: where every piece of job j ends by `last j`, the jobs that end no later than a moment have no more work than that
pub earlier_ends : {X : Type 0} (job from to : X → ℕ) (last : ℕ → ℕ) (n t : ℕ) (xs : List X)
    → All (λ q. job q < n) xs → AllPairs (IsApart from to) xs → All (λ q. to q ≤ last (job q)) xs
    → total_below n (λ i. cond (leb (last i) t) (work_of job from to xs i) 0) ≤ t
earlier_ends job from to last n t xs jobs apart ends =
    omega (arith, room_on_one job from to (λ i. leb (last i) t) n 0 t xs jobs apart (λ k d l e. (omega arith, le_trans (ends k d l) (leb-true _ _ e))))

-- ---- the greatest of a list's values
abbrev pub greatest_by : {X : Type 0} → (X → ℕ) → List X → ℕ
greatest_by f [] = 0
greatest_by f (x ∷ xs) = max (f x) (greatest_by f xs)

pub greatest_by-bound : {X : Type 0} (f : X → ℕ) (xs : List X) → All (λ x. f x ≤ greatest_by f xs) xs
greatest_by-bound f [] = All-nil (λ y. f y ≤ 0)
greatest_by-bound f (x ∷ xs) = All-cons (λ y. f y ≤ max (f x) (greatest_by f xs)) x xs (omega arith) (λ k d l. omega (arith, greatest_by-bound f xs k d l))

pub greatest_by-contains : {X : Type 0} (f : X → ℕ) (xs : List X) (x : X) → Contains xs x → f x ≤ greatest_by f xs
greatest_by-contains f xs x c = All-contains (λ y. f y ≤ greatest_by f xs) xs x (greatest_by-bound f xs) c

pub greatest_by-least : {X : Type 0} (f : X → ℕ) (b : ℕ) (xs : List X) → All (λ x. f x ≤ b) xs → greatest_by f xs ≤ b
greatest_by-least f b [] h = omega arith
greatest_by-least f b (x ∷ xs) h = omega (arith, All-head (λ y. f y ≤ b) x xs h, greatest_by-least f b xs (All-tail (λ y. f y ≤ b) x xs h))

-- it is reached
pub greatest_by-reached : {X : Type 0} (f : X → ℕ) (xs : List X) → 0 < length xs → (x : X) × Contains xs x × (f x ≡ greatest_by f xs)
greatest_by-reached f [] h = absurd (omega arith)
greatest_by-reached {X} f (x ∷ []) h = (x, (0, omega arith, refl), omega arith)
greatest_by-reached {X} f (x ∷ y ∷ ys) h = elim (cases_lt (f x) (greatest_by f (y ∷ ys))) [
  | inl less ↦ let (z, c, p) = greatest_by-reached f (y ∷ ys) (omega arith) in (z, (suc c.0, omega (arith, c.1), c.2), p ∙ omega (arith, less))
  | inr most ↦ (x, (0, omega arith, refl), omega (arith, most))
]

-- the moment by which job j is complete: the greatest end of its pieces
abbrev pub last_of : {X : Type 0} → (X → ℕ) → (X → ℕ) → List X → ℕ → ℕ
last_of job to xs j = greatest_by to (filter (λ q. eqb (job q) j) xs)

pub last_of-bound : {X : Type 0} (job to : X → ℕ) (xs : List X) → All (λ q. to q ≤ last_of job to xs (job q)) xs
last_of-bound {X} job to xs k d l =
    let mine = λ (q : X). eqb (job q) (job (get_or xs k d)) in
    let q = get_or xs k d in
    greatest_by-contains to (filter mine xs) q (Contains-filter mine xs q (Contains-get_or xs k d l) (eq-eqb (job q) (job q) refl))

-- whatever bounds the ends of j's pieces, and is reached or below all such bounds, is this moment
pub last_of-least : {X : Type 0} (job to : X → ℕ) (xs : List X) (j b : ℕ) → All (λ q. job q ≡ j → to q ≤ b) xs → last_of job to xs j ≤ b
last_of-least job to xs j b h = greatest_by-least to b _ (λ k d l. All-filter _ (λ q. job q ≡ j → to q ≤ b) xs h k d l (eqb-true _ _ (filter_passes (λ q. eqb (job q) j) xs k d l)))

-- a job with work has a piece that ends there
pub last_of-reached : {X : Type 0} (job from to : X → ℕ) (xs : List X) (j : ℕ) → 0 < work_of job from to xs j → (q : X) × Contains xs q × (job q ≡ j) × (to q ≡ last_of job to xs j)
last_of-reached {X} job from to xs j h =
    let mine = λ (q : X). eqb (job q) j in
    let (x, c, p) = sum_by-some (size_of from to) (filter mine xs) h in
    let (q, d, e) = greatest_by-reached to (filter mine xs) (omega (arith, c.1)) in
    let (i, m) = Contains-from_filter mine xs q d in
    (q, i, eqb-true (job q) j m, e)

-- a job with work has a piece
pub piece_of : {X : Type 0} (job from to : X → ℕ) (xs : List X) (j : ℕ) → 0 < work_of job from to xs j → (q : X) × Contains xs q × (job q ≡ j) × (from q < to q)
piece_of {X} job from to xs j h =
    let mine = λ (q : X). eqb (job q) j in
    let (q, c, p) = sum_by-some (size_of from to) (filter mine xs) h in
    let (i, m) = Contains-from_filter mine xs q c in
    (q, i, eqb-true (job q) j m, omega arith)

-- ---- the greatest of the values below n
abbrev pub greatest_below : ℕ → (ℕ → ℕ) → ℕ
greatest_below zero f = 0
greatest_below (suc n) f = max (greatest_below n f) (f n)

pub greatest_below-bound : (n : ℕ) (f : ℕ → ℕ) (i : ℕ) → i < n → f i ≤ greatest_below n f
greatest_below-bound zero f i l = absurd (omega arith)
greatest_below-bound (suc n) f i l = grind (arith, greatest_below-bound n f i)

pub greatest_below-reached : (n : ℕ) (f : ℕ → ℕ) → 0 < n → (i : ℕ) × (i < n) × (f i ≡ greatest_below n f)
greatest_below-reached zero f h = absurd (omega arith)
greatest_below-reached (suc zero) f h = (0, omega arith, omega arith)
greatest_below-reached (suc (suc n)) f h = elim (cases_lt (f (suc n)) (greatest_below (suc n) f)) [
  | inl less ↦ let (i, l, s) = greatest_below-reached (suc n) f (omega arith) in (i, omega arith, s ∙ omega (arith, less))
  | inr most ↦ (suc n, omega arith, omega (arith, most))
]

-- ---- the law of ends
-- where no piece of the jobs that pass a test begins before a, and they have work: one of them ends last, after a, and the work is at most m times as long as from a to there
pub law_of_ends : {X : Type 0} (job machine from to : X → ℕ) (test : ℕ → Bool) (last : ℕ → ℕ) (m n a : ℕ) (xs : List X)
    → All (λ q. job q < n) xs → All (λ q. machine q < m) xs → AllPairs (IsApartOn machine from to) xs
    → All (λ q. test (job q) ≡ true → a ≤ from q) xs → All (λ q. to q ≤ last (job q)) xs
    → 0 < total_below n (λ j. cond (test j) (work_of job from to xs j) 0)
    → (i : ℕ) × (i < n) × (test i ≡ true) × ((k : ℕ) → k < n → test k ≡ true → last k ≤ last i) × (a < last i) × (total_below n (λ j. cond (test j) (work_of job from to xs j) 0) ≤ m * (last i - a))
law_of_ends {X} job machine from to test last m n a xs jobs machines apart begin ends some =
    let (i, l, e) = greatest_below-reached n ended (omega (arith, (total_below-some n (λ j. cond (test j) (work_of job from to xs j) 0) some).1)) in
    let (t, s) = passed (test i) (last i) e in (
      i,
      l,
      t,
      (λ k l' p. omega (arith, greatest_below-bound n ended k l', cond-yes (last k) p, s)),
      omega
          (arith, after, s),
      subst (λ b. total_below n (λ j. cond (test j) (work_of job from to xs j) 0) ≤ m * (b - a)) (sym s) bound,
    )
  where
    ended : ℕ → ℕ
    ended j = cond (test j) (last j) 0

    most : ℕ
    most = greatest_below n ended

    bound : total_below n (λ j. cond (test j) (work_of job from to xs j) 0) ≤ m * (most - a)
    bound = room job machine from to test m n a most xs jobs machines apart
        (λ k d l p. (begin k d l p, omega (arith, ends k d l, greatest_below-bound n ended (job (get_or xs k d)) (jobs k d l), cond-yes (last (job (get_or xs k d))) p)))

    after : a < most
    after = elim (cases_lt a most) [
      | inl less ↦ less
      | inr past ↦ let none : most - a ≡ 0 = omega (arith, past) in absurd (omega (arith, some, bound, ap (λ x. m * x) none))
    ]

    passed : (b : Bool) (z : ℕ) → cond b z 0 ≡ most → (b ≡ true) × (z ≡ most)
    passed true z f = (refl, f)
    passed false z f = absurd (omega (arith, after))

-- on one machine: some job ends no sooner than the work after a
pub last_job : {X : Type 0} (job from to : X → ℕ) (test : ℕ → Bool) (last : ℕ → ℕ) (n a : ℕ) (xs : List X)
    → All (λ q. job q < n) xs → AllPairs (IsApart from to) xs
    → All (λ q. test (job q) ≡ true → a ≤ from q) xs → All (λ q. to q ≤ last (job q)) xs
    → 0 < total_below n (λ j. cond (test j) (work_of job from to xs j) 0)
    → (i : ℕ) × (i < n) × (test i ≡ true) × ((k : ℕ) → k < n → test k ≡ true → last k ≤ last i) × (a + total_below n (λ j. cond (test j) (work_of job from to xs j) 0) ≤ last i)
last_job job from to test last n a xs jobs apart begin ends some =
    let (i, l, t, g, f, b) = law_of_ends job (λ _. 0) from to test last 1 n a xs jobs (λ k d l. omega arith) (λ i j d l m _. apart i j d l m) begin ends some in
    (i, l, t, g, omega (arith, f, b))
