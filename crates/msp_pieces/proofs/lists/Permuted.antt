-- What reordering a list keeps: pairs in a symmetric relation, filters, folds, and feasible schedules with their ends.
use Rattle.std.proofs.Common.{◌≡◌, ℕ, zero, suc, ◌<◌, Bool, true, false, cond, List, [], ◌∷◌, length, get_or, map, filter, fold, All, AllPairs, IsPermutation, inl, inr, ℤ, pos}
use Rattle.std.proofs.Common.{◌+ℤ◌, ◌*ℤ◌, ◌≤ℤ◌, ◌<ℤ◌, refl, sym, ap, subst, ◌∙◌, arith}
use Rattle.std.specs.Prelude.{◌==◌, ◌&&◌, MatchBool}
use Rattle.std.specs.Int.{int_max}
use Rattle.std.specs.List.{swap, slice_set}
use Rattle.std.proofs.lemmas.Int.{ints}
use Rattle.std.proofs.lemmas.List.Elements.{All-head, All-tail, All-nil, All-cons}
use Rattle.std.proofs.lemmas.List.Kept.{AllPairs-cons}
use Rattle.std.proofs.lemmas.List.Sorted.{IsPermutation-refl, IsPermutation-trans, IsPermutation-cons, IsPermutation-swap, IsPermutation-keeps, All-permutation, length_permutation}
use Rattle.msp_class.proofs.Sums.{AllPairs-head, AllPairs-tail}
use Rattle.msp_class.specs.declared.environments.EnvKind.{EnvKind}
use Rattle.msp_class.specs.declared.environments.EnvKind.TheVariants.{FlowShop, JobShop}
use Rattle.msp_class.specs.Env.{kind_of}
use Rattle.msp_instance.specs.declared.Instance.{Instance}
use Rattle.msp_instance.specs.Instance.{job_at}
use Rattle.msp_pieces.specs.declared.Piece.{Piece}
use Rattle.msp_pieces.specs.declared.Schedule.{Schedule}
use Rattle.msp_pieces.specs.Piece.{IsBefore, IsApart, pieces_of}
use Rattle.msp_pieces.specs.Feasible.{Feasible, HasPlace, FollowsRoute, IsWholeWork, total, whole_work, work_of}
use Rattle.msp_pieces.specs.Cost.{last_end}

-- a relation that holds when two neighbours change places, and goes on from the rest of a list and from one to the next, holds of a list and
-- its orders
module _ {X : Type 0} (T : List X → List X → Type 0)
    (same : (xs : List X) → T xs xs)
    (next : (xs ys zs : List X) → T xs ys → T ys zs → T xs zs)
    (more : (x : X) (xs ys : List X) → T xs ys → T (x ∷ xs) (x ∷ ys))
    (exchange : (x y : X) (xs : List X) → T (x ∷ y ∷ xs) (y ∷ x ∷ xs)) where
  -- the first and another change places
  first_moved : (x : X) (xs : List X) (j : ℕ) (d : X) → j < length xs → T (x ∷ xs) (get_or xs j d ∷ slice_set xs j x)
  first_moved x [] j d l = absurd (omega arith)
  first_moved x (y ∷ ys) zero d l = exchange x y ys
  first_moved x (y ∷ ys) (suc j) d l =
      next _ _ _ (exchange x y ys) (next _ _ _ (more y _ _ (first_moved x ys j d (omega arith))) (exchange y (get_or ys j d) (slice_set ys j x)))

  swapped_set : (xs : List X) (i j : ℕ) (d : X) → i < length xs → j < length xs → T xs (slice_set (slice_set xs i (get_or xs j d)) j (get_or xs i d))
  swapped_set [] i j d a b = absurd (omega arith)
  swapped_set (x ∷ xs) zero zero d a b = same (x ∷ xs)
  swapped_set (x ∷ xs) zero (suc j) d a b = first_moved x xs j d (omega arith)
  swapped_set (x ∷ xs) (suc i) zero d a b = first_moved x xs i d (omega arith)
  swapped_set (x ∷ xs) (suc i) (suc j) d a b = more x _ _ (swapped_set xs i j d (omega arith) (omega arith))

  swapped : (xs : List X) (i j : ℕ) → i < length xs → j < length xs → T xs (swap xs i j)
  swapped [] i j a b = absurd (omega arith)
  swapped (x ∷ xs) i j a b = swapped_set (x ∷ xs) i j x a b

  pub permuted : (xs ys : List X) → IsPermutation xs ys → T xs ys
  permuted xs ys h = IsPermutation-keeps xs (T xs) (same xs) (λ l i j a b t. next _ _ _ t (swapped l i j a b)) ys h

-- ---- pairs
module _ {X : Type 0} (R : X → X → Type 0) (both : (x y : X) → R x y → R y x) where
  abbrev Paired : List X → List X → Type 0
  Paired xs ys = IsPermutation xs ys × (AllPairs R xs → AllPairs R ys)

  exchanged : (x y : X) (xs : List X) → Paired (x ∷ y ∷ xs) (y ∷ x ∷ xs)
  exchanged x y xs = (
    IsPermutation-swap (x ∷ y ∷ xs) (y ∷ x ∷ xs) 0 1 (omega arith) (omega arith) refl,
    λ h.
        let of_x = AllPairs-head R x (y ∷ xs) h in
        let rest = AllPairs-tail R x (y ∷ xs) h in
        AllPairs-cons R y (x ∷ xs) (All-cons (R y) x xs (both x y (All-head (R x) y xs of_x)) (AllPairs-head R y xs rest))
        (AllPairs-cons R x xs (All-tail (R x) y xs of_x) (AllPairs-tail R y xs rest)),
  )

  pub AllPairs-permutation : (xs ys : List X) → IsPermutation xs ys → AllPairs R xs → AllPairs R ys
  AllPairs-permutation xs ys h = (permuted Paired (λ l. (IsPermutation-refl l, λ p. p)) (λ a b c s t. (IsPermutation-trans a b c s.0 t.0, λ p. t.1 (s.1 p)))
      (λ x a b s. (IsPermutation-cons x a b s.0, λ p. AllPairs-cons R x b (All-permutation (R x) a b s.0 (AllPairs-head R x a p)) (s.1 (AllPairs-tail R x a p)))) exchanged xs ys h).1

-- ---- filters
module _ {X : Type 0} (p : X → Bool) where
  abbrev Filtered : List X → List X → Type 0
  Filtered xs ys = IsPermutation (filter p xs) (filter p ys)

  filtered_more : (x : X) (xs ys : List X) → Filtered xs ys → Filtered (x ∷ xs) (x ∷ ys)
  filtered_more x xs ys h = by (p x)
    where
      by : (b : Bool) → IsPermutation (cond b (x ∷ filter p xs) (filter p xs)) (cond b (x ∷ filter p ys) (filter p ys))
      by true = IsPermutation-cons x (filter p xs) (filter p ys) h
      by false = h

  filtered_exchange : (x y : X) (xs : List X) → Filtered (x ∷ y ∷ xs) (y ∷ x ∷ xs)
  filtered_exchange x y xs = by (p x) (p y) (filter p xs)
    where
      by : (b c : Bool) (l : List X) → IsPermutation (cond b (x ∷ cond c (y ∷ l) l) (cond c (y ∷ l) l)) (cond c (y ∷ cond b (x ∷ l) l) (cond b (x ∷ l) l))
      by true true l = IsPermutation-swap (x ∷ y ∷ l) (y ∷ x ∷ l) 0 1 (omega arith) (omega arith) refl
      by _ _ l = IsPermutation-refl _

  pub filter-permutation : (xs ys : List X) → IsPermutation xs ys → IsPermutation (filter p xs) (filter p ys)
  filter-permutation xs ys h = permuted Filtered (λ l. IsPermutation-refl (filter p l)) (λ a b c s t. IsPermutation-trans _ _ _ s t) filtered_more filtered_exchange xs ys h

-- ---- folds
module _ {X : Type 0} (op : ℤ → ℤ → ℤ) (commutes : (a x y : ℤ) → op (op a x) y ≡ op (op a y) x) (f : X → ℤ) where
  abbrev FoldsAlike : List X → List X → Type 0
  FoldsAlike xs ys = (a : ℤ) → fold op a (map f xs) ≡ fold op a (map f ys)

  pub fold-permutation : (xs ys : List X) → IsPermutation xs ys → FoldsAlike xs ys
  fold-permutation xs ys h = permuted FoldsAlike (λ l a. refl) (λ k l m s t a. s a ∙ t a) (λ x k l s a. s (op a (f x))) (λ x y l a. ap (λ z. fold op z (map f l)) (commutes a (f x) (f y))) xs ys h

one_left : {X : Type 0} (x : X) (ys : List X) → IsPermutation (x ∷ []) ys → ys ≡ x ∷ []
one_left x [] h = absurd (omega (arith, length_permutation (x ∷ []) [] h))
one_left x (y ∷ []) h = ap (λ z. z ∷ []) (All-head (λ z. z ≡ x) y [] (All-permutation (λ z. z ≡ x) (x ∷ []) (y ∷ []) h (All-cons (λ z. z ≡ x) x [] refl (All-nil (λ z. z ≡ x)))))
one_left x (y ∷ z ∷ zs) h = absurd (omega (arith, length_permutation (x ∷ []) (y ∷ z ∷ zs) h))

-- ---- schedules
add_commutes : (a x y : ℤ) → (a +ℤ x) +ℤ y ≡ (a +ℤ y) +ℤ x
add_commutes a x y = omega (arith, ints)

pub last_end-permutation : (ps qs : List Piece) → IsPermutation ps qs → (j : ℕ) → last_end ps j ≡ last_end qs j
last_end-permutation ps qs h j = fold-permutation int_max (λ a x y. grind (arith, ints))
    (λ p. p.to) (filter (λ p. p.job == j) ps) (filter (λ p. p.job == j) qs) (filter-permutation (λ p. p.job == j) ps qs h) (pos 0)

pub twice : (R : Piece → Piece → Type 0) (ps qs : List Piece) → IsPermutation ps qs → All (λ p. All (R p) ps) ps → All (λ p. All (R p) qs) qs
twice R ps qs h a = All-permutation (λ p. All (R p) qs) ps qs h (λ k d l. All-permutation (R (get_or ps k d)) ps qs h (a k d l))

apart_both : (p q : Piece) → IsApart p q → IsApart q p
apart_both p q a = elim a [ inl b ↦ inr b | inr b ↦ inl b ]

route_permuted : (k : EnvKind) (ps qs : List Piece) → IsPermutation ps qs → FollowsRoute k ps → FollowsRoute k qs
route_permuted FlowShop ps qs h r = twice (λ p q. p.job ≡ q.job → p.op < q.op → IsBefore p q) ps qs h r
route_permuted JobShop ps qs h r = twice (λ p q. p.job ≡ q.job → p.op < q.op → IsBefore p q) ps qs h r
route_permuted _ ps qs h r = r

module _ (i : Instance) (s t : Schedule) (units : s.unit ≡ t.unit) (h : IsPermutation s.pieces t.pieces) where
  mine : (j o : ℕ) → IsPermutation (pieces_of s j o) (pieces_of t j o)
  mine j o = filter-permutation (λ p. (p.job == j) && (p.op == o)) s.pieces t.pieces h

  abbrev Work : Schedule → ℕ → ℕ → Bool → Type 0
  Work r j o cut = MatchBool cut (total (map (work_of (kind_of i.class.env) i) (pieces_of r j o)) ≡ r.unit *ℤ pos (whole_work (kind_of i.class.env) i j o))
      ((p : Piece) × (pieces_of r j o ≡ p ∷ []) × IsWholeWork (kind_of i.class.env) i r.unit p)

  pub work_permuted : (j o : ℕ) (cut : Bool) → Work s j o cut → Work t j o cut
  work_permuted j o true w = sym (fold-permutation ◌+ℤ◌ add_commutes (work_of (kind_of i.class.env) i) (pieces_of s j o) (pieces_of t j o) (mine j o) (pos 0))
      ∙ w ∙ ap (λ u. u *ℤ pos (whole_work (kind_of i.class.env) i j o)) units
  work_permuted j o false (p, e, w) = (p, one_left p (pieces_of t j o) (subst (λ l. IsPermutation l (pieces_of t j o)) e (mine j o)), subst (λ u. IsWholeWork (kind_of i.class.env) i u p) units w)

  pub Feasible-permutation : Feasible i s → Feasible i t
  Feasible-permutation f = record {
    unit = subst (λ u. pos 1 ≤ℤ u) units f.unit;
    span = All-permutation (λ p. (pos 0 ≤ℤ p.from) × (p.from <ℤ p.to)) s.pieces t.pieces h f.span;
    place = All-permutation (HasPlace i) s.pieces t.pieces h f.place;
    machine = AllPairs-permutation (λ p q. p.machine ≡ q.machine → IsApart p q) (λ p q a e. apart_both p q (a (sym e))) s.pieces t.pieces h f.machine;
    job = AllPairs-permutation (λ p q. p.job ≡ q.job → IsApart p q) (λ p q a e. apart_both p q (a (sym e))) s.pieces t.pieces h f.job;
    release = subst (λ u. All (λ p. (u *ℤ pos (job_at i p.job).release) ≤ℤ p.from) t.pieces)
        units (All-permutation (λ p. (s.unit *ℤ pos (job_at i p.job).release) ≤ℤ p.from) s.pieces t.pieces h f.release);
    arc = λ a d l. twice (λ p q. p.job ≡ (get_or i.arcs a d).before → q.job ≡ (get_or i.arcs a d).after → IsBefore p q) s.pieces t.pieces h (f.arc a d l);
    route = route_permuted (kind_of i.class.env) s.pieces t.pieces h f.route;
    work = λ j o l w. work_permuted j o i.class.cut (f.work j o l w);
  }
