-- A condition as a factor, and finite sums of natural numbers over a list (std's `sum_by`).
use Rattle.std.proofs.Common.{◌≡◌, ℕ, zero, suc, ◌+◌, ◌*◌, ◌≤◌, ◌<◌, Bool, true, false, cond, eqb, ◌≢◌, List, [], ◌∷◌, map, length, get_or, take, All}
use Rattle.std.proofs.Common.{Contains, filter, sum_by, arith, refl, sym, ap, subst, ◌∙◌, inl, inr}
use Rattle.std.proofs.lemmas.List.Sums.{sum_by-cons, sum_by_push}
use Rattle.std.proofs.lemmas.List.Elements.{All-head, All-tail, All-contains, All-filter, All-contains_itself, filter_passes}
use Rattle.std.proofs.lemmas.List.{take_more}
use Rattle.std.proofs.lemmas.Bool.Decides.{nat_tests}
use Rattle.std.proofs.lemmas.Bool.{cases_lt, cond_both}

-- ---- a condition as a factor: x where b, else 0
pub cond-zero : (b : Bool) {n : ℕ} → n ≡ 0 → cond b n 0 ≡ 0
cond-zero b e = grind arith

pub cond-le : (b : Bool) (n : ℕ) → cond b n 0 ≤ n
cond-le b n = grind arith

pub cond-scale : (b : Bool) (k n : ℕ) → cond b (k * n) 0 ≡ k * cond b n 0
cond-scale b k n = grind arith

pub cond-count : (b : Bool) (n : ℕ) → cond b n 0 ≡ n * cond b 1 0
cond-count b n = grind arith

pub cond-mono : (b : Bool) {m n : ℕ} → m ≤ n → cond b m 0 ≤ cond b n 0
cond-mono b h = grind arith

pub cond-yes : {b : Bool} (n : ℕ) → b ≡ true → cond b n 0 ≡ n
cond-yes n e = ap (λ c. cond c n 0) e

pub cond-no : {b : Bool} (n : ℕ) → b ≡ false → cond b n 0 ≡ 0
cond-no n e = ap (λ c. cond c n 0) e

pub eqb_comm : (m n : ℕ) → eqb m n ≡ eqb n m
eqb_comm m n = grind (arith, nat_tests)

-- ---- over a list
module _ {X : Type 0} where
  pub sum_by-take_more : (f : X → ℕ) (xs : List X) (k : ℕ) (d : X) → k < length xs → sum_by f (take (k + 1) xs) ≡ sum_by f (take k xs) + f (get_or xs k d)
  sum_by-take_more f xs k d l = ap (sum_by f) (take_more xs k d l) ∙ sum_by_push f (take k xs) (get_or xs k d)

  pub sum_by-mono : (f g : X → ℕ) (xs : List X) → All (λ x. f x ≤ g x) xs → sum_by f xs ≤ sum_by g xs
  sum_by-mono f g [] h = omega arith
  sum_by-mono f g (x ∷ xs) h = omega (arith, sum_by-cons f x xs, sum_by-cons g x xs, All-head (λ y. f y ≤ g y) x xs h, sum_by-mono f g xs (All-tail (λ y. f y ≤ g y) x xs h))

  pub sum_by-same : (f g : X → ℕ) (xs : List X) → All (λ x. f x ≡ g x) xs → sum_by f xs ≡ sum_by g xs
  sum_by-same f g [] h = refl
  sum_by-same f g (x ∷ xs) h = omega (arith, sum_by-cons f x xs, sum_by-cons g x xs, All-head (λ y. f y ≡ g y) x xs h, sum_by-same f g xs (All-tail (λ y. f y ≡ g y) x xs h))

  pub sum_by-agree : (f g : X → ℕ) (xs : List X) → ((x : X) → f x ≡ g x) → sum_by f xs ≡ sum_by g xs
  sum_by-agree f g xs h = sum_by-same f g xs (λ k d l. h (get_or xs k d))

  pub sum_by-add : (f g : X → ℕ) (xs : List X) → sum_by (λ x. f x + g x) xs ≡ sum_by f xs + sum_by g xs
  sum_by-add f g [] = omega arith
  sum_by-add f g (x ∷ xs) = omega (arith, sum_by-cons (λ y. f y + g y) x xs, sum_by-cons f x xs, sum_by-cons g x xs, sum_by-add f g xs)

  pub sum_by-scale : (k : ℕ) (f : X → ℕ) (xs : List X) → sum_by (λ x. k * f x) xs ≡ k * sum_by f xs
  sum_by-scale k f [] = omega arith
  sum_by-scale k f (x ∷ xs) = omega (arith, sum_by-cons (λ y. k * f y) x xs, ap (λ n. k * n) (sum_by-cons f x xs), sum_by-scale k f xs)

  pub sum_by-scale_right : (k : ℕ) (f : X → ℕ) (xs : List X) → sum_by (λ x. f x * k) xs ≡ sum_by f xs * k
  sum_by-scale_right k f xs = sum_by-agree (λ x. f x * k) (λ x. k * f x) xs (λ x. omega arith) ∙ sum_by-scale k f xs ∙ omega arith

  pub sum_by-constant : (k : ℕ) (xs : List X) → sum_by (λ _. k) xs ≡ length xs * k
  sum_by-constant k [] = omega arith
  sum_by-constant k (x ∷ xs) = omega (arith, sum_by-cons (λ _. k) x xs, sum_by-constant k xs)

  pub sum_by-none : (f : X → ℕ) (xs : List X) → All (λ x. f x ≡ 0) xs → sum_by f xs ≡ 0
  sum_by-none f xs h = sum_by-same f (λ _. 0) xs h ∙ sum_by-constant 0 xs ∙ omega arith

  pub sum_by-filter : (f : X → ℕ) (p : X → Bool) (xs : List X) → sum_by f (filter p xs) ≡ sum_by (λ x. cond (p x) (f x) 0) xs
  sum_by-filter f p [] = refl
  sum_by-filter f p (x ∷ xs) =
      let ys = filter p xs in
      let both = elim (p x) as (λ b. sum_by f (cond b (x ∷ ys) ys) ≡ cond b (f x) 0 + sum_by f ys)
      [ true ↦ sum_by-cons f x ys | false ↦ omega arith ] in
      omega (arith, both, sum_by-cons (λ y. cond (p y) (f y) 0) x xs, sum_by-filter f p xs)

  -- a term is at most the sum
  pub sum_by-contains : (f : X → ℕ) (xs : List X) (x : X) → Contains xs x → f x ≤ sum_by f xs
  sum_by-contains f [] x h = absurd (omega (arith, h.1))
  sum_by-contains f (y ∷ ys) x (zero, l, e) = omega (arith, sum_by-cons f y ys, ap f e)
  sum_by-contains f (y ∷ ys) x (suc k, l, e) = omega (arith, sum_by-cons f y ys, sum_by-contains f ys x (k, omega arith, e))

  -- a sum that is not 0 has a term that is not
  pub sum_by-some : (f : X → ℕ) (xs : List X) → 0 < sum_by f xs → (x : X) × Contains xs x × (0 < f x)
  sum_by-some f [] h = absurd (omega arith)
  sum_by-some f (y ∷ ys) h = elim (cases_lt 0 (f y)) [
    | inl some ↦ (y, (0, omega arith, refl), some)
    | inr z ↦ let (x, c, p) = sum_by-some f ys (omega (arith, sum_by-cons f y ys)) in (x, (suc c.0, omega (arith, c.1), c.2), p)
  ]

  pub Contains-tail : (x : X) (xs : List X) (y : X) → Contains (x ∷ xs) y → (x ≢ y) → Contains xs y
  Contains-tail x xs y (zero, l, e) n = absurd (n e)
  Contains-tail x xs y (suc k, l, e) n = (k, omega arith, e)

  -- what a filter keeps
  pub Contains-filter : (p : X → Bool) (xs : List X) (x : X) → Contains xs x → p x ≡ true → Contains (filter p xs) x
  Contains-filter p [] x c e = absurd (omega (arith, c.1))
  Contains-filter p (y ∷ ys) x (zero, l, s) e = subst (λ b. Contains (cond b (y ∷ filter p ys) (filter p ys)) x) (sym (ap p s ∙ e)) (0, omega arith, s)
  Contains-filter p (y ∷ ys) x (suc k, l, s) e =
      let c = Contains-filter p ys x (k, omega arith, s) e in
      cond_both (p y) (y ∷ filter p ys) (filter p ys) (λ zs. Contains zs x) (λ _. (suc c.0, omega (arith, c.1), c.2)) (λ _. c)

  pub Contains-from_filter : (p : X → Bool) (xs : List X) (x : X) → Contains (filter p xs) x → Contains xs x × (p x ≡ true)
  Contains-from_filter p xs x c =
      (All-contains (Contains xs) (filter p xs) x (All-filter p (Contains xs) xs (All-contains_itself xs)) c, All-contains (λ y. p y ≡ true) (filter p xs) x (filter_passes p xs) c)

module _ {X Y : Type 0} where
  pub sum_by-map : (f : Y → ℕ) (g : X → Y) (xs : List X) → sum_by f (map g xs) ≡ sum_by (λ x. f (g x)) xs
  sum_by-map f g [] = refl
  sum_by-map f g (x ∷ xs) = omega (arith, sum_by-cons f (g x) (map g xs), sum_by-cons (λ y. f (g y)) x xs, sum_by-map f g xs)
