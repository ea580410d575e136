-- Lists taken apart: pairs across an append, an element taken out of a reordered list, lists joined end to end, and orders of the numbers below n.
use Rattle.std.proofs.Common.{◌≡◌, ℕ, zero, suc, ◌<◌, ◌≤◌, ◌⊎◌, inl, inr, cond, eqb, List, [], ◌∷◌, ◌++◌, length, get_or, map, take, drop, remove, All, AllPairs}
use Rattle.std.proofs.Common.{IsPermutation, count_by, refl, sym, ap, ◌∙◌, arith}
use Rattle.std.specs.List.{concat}
use Rattle.std.proofs.Math.Seq.{split_at}
use Rattle.std.proofs.lemmas.List.{append_assoc, map-id}
use Rattle.std.proofs.lemmas.Bool.{cases_lt, eq-eqb, ne_eqb}
use Rattle.std.proofs.lemmas.List.Sums.{sum_by-cons}
use Rattle.std.proofs.lemmas.List.Elements.{All-nil, All-cons, All-append}
use Rattle.std.proofs.lemmas.List.Sorted.{IsPermutation-refl, IsPermutation-sym, IsPermutation-trans, IsPermutation-cons, IsPermutation-remove, sum_by-IsPermutation}
use Rattle.std.proofs.lemmas.List.Sorted.{IsPermutation-append_left, IsPermutation-append_right, IsPermutation-append_comm, All-permutation}
use Rattle.msp_pieces.proofs.feasible.Series.{AllPairs-append}
use Rattle.msp_class.proofs.Sums.{AllPairs-head, AllPairs-tail, sum_by-none, cond-yes, cond-no, OnceBelow}
use Rattle.msp_pieces.proofs.lists.Parts.{All-front, All-back, AllPairs-front, AllPairs-back}
use Rattle.msp_pieces.proofs.lists.Permuted.{permuted}
use Rattle.msp_instance.proofs.ListingLemmas.{Contains-from_count}
use Rattle.std.proofs.lemmas.List.Concat.{concat_is, flat_map_single}
use Rattle.std.proofs.lemmas.List.Folds.{flat_map-map}

-- ---- what holds of an append
-- two neighbouring parts change places
pub exchanged : {X : Type 0} (xs ys zs : List X) → IsPermutation (xs ++ (ys ++ zs)) (ys ++ (xs ++ zs))
exchanged xs ys zs = rw (← append_assoc xs ys zs, ← append_assoc ys xs zs)
    (IsPermutation-append_left zs (xs ++ ys) (ys ++ xs) (IsPermutation-append_comm xs ys))

module _ {X : Type 0} (R : X → X → Type 0) where
  pub pairs_across : (xs ys : List X) → AllPairs R (xs ++ ys) → All (λ x. All (R x) ys) xs
  pairs_across [] ys h = All-nil (λ x. All (R x) ys)
  pairs_across (x ∷ xs) ys h = All-cons (λ x. All (R x) ys) x xs (All-back (R x) xs ys (AllPairs-head R x (xs ++ ys) h)) (pairs_across xs ys (AllPairs-tail R x (xs ++ ys) h))

  pub pairs_exchanged : (xs ys us zs : List X) → AllPairs R (xs ++ (ys ++ (us ++ zs))) → All (λ u. All (R u) ys) us → AllPairs R (xs ++ (us ++ (ys ++ zs)))
  pairs_exchanged xs ys us zs h k =
      let rest = AllPairs-back R xs (ys ++ (us ++ zs)) h in
      let later = AllPairs-back R ys (us ++ zs) rest in
      let first = pairs_across ys (us ++ zs) rest in
      AllPairs-append R xs (us ++ (ys ++ zs)) (AllPairs-front R xs (ys ++ (us ++ zs)) h)
      (AllPairs-append R us (ys ++ zs) (AllPairs-front R us zs later)
      (AllPairs-append R ys zs (AllPairs-front R ys (us ++ zs) rest) (AllPairs-back R us zs later) (λ i d l. All-back (R (get_or ys i d)) us zs (first i d l)))
      (λ i d l. All-append (R (get_or us i d)) ys zs (k i d l) (pairs_across us zs later i d l)))
      (λ i d l. All-permutation (R (get_or xs i d)) (ys ++ (us ++ zs)) (us ++ (ys ++ zs))
      (exchanged ys us zs) (pairs_across xs (ys ++ (us ++ zs)) h i d l))

-- ---- an element that stands in the middle of a reordered list
module _ {X : Type 0} where
  -- the element in the list xs, and xs without it is a reordering of this rest
  pub record IsTaken (x : X) (xs rest : List X) (front back : List X) : Type 0 where
    pub is : xs ≡ front ++ x ∷ back
    pub same : IsPermutation (front ++ back) rest

  -- each element of the second one is one of the first, and without both they are still reorderings
  abbrev Has : List X → List X → ℕ → Type 0
  Has xs ys k = (m : ℕ) × (m < length xs) × ((d : X) → get_or xs m d ≡ get_or ys k d) × IsPermutation (remove xs m) (remove ys k)

  abbrev Takes : List X → List X → Type 0
  Takes xs ys = IsPermutation xs ys × ((k : ℕ) → k < length ys → Has xs ys k)

  takes_next : (xs ys zs : List X) → Takes xs ys → Takes ys zs → Takes xs zs
  takes_next xs ys zs s t = (
    IsPermutation-trans xs ys zs s.0 t.0,
    λ k l. let (m, b, e, p) = t.1 k l in let (n, c, f, q) = s.1 m b in (n, c, λ d. f d ∙ e d, IsPermutation-trans (remove xs n) (remove ys m) (remove zs k) q p),
  )

  takes_more : (y : X) (xs ys : List X) → Takes xs ys → Takes (y ∷ xs) (y ∷ ys)
  takes_more y xs ys s = (IsPermutation-cons y xs ys s.0, by)
    where
      by : (k : ℕ) → k < length (y ∷ ys) → Has (y ∷ xs) (y ∷ ys) k
      by zero l = (0, omega arith, λ d. refl, s.0)
      by (suc k) l = let (m, b, e, p) = s.1 k (omega (arith, l)) in (suc m, omega (arith, b), e, IsPermutation-cons y (remove xs m) (remove ys k) p)

  takes_exchanged : (x y : X) (xs : List X) → Takes (x ∷ y ∷ xs) (y ∷ x ∷ xs)
  takes_exchanged x y xs = (exchanged (x ∷ []) (y ∷ []) xs, by)
    where
      by : (k : ℕ) → k < length (y ∷ x ∷ xs) → Has (x ∷ y ∷ xs) (y ∷ x ∷ xs) k
      by zero l = (suc zero, omega arith, λ d. refl, IsPermutation-refl (x ∷ xs))
      by (suc zero) l = (zero, omega arith, λ d. refl, IsPermutation-refl (y ∷ xs))
      by (suc (suc k)) l = (suc (suc k), omega (arith, l), λ d. refl, exchanged (x ∷ []) (y ∷ []) (remove xs k))

  -- where xs is a reordering of x and the rest, x can be taken out of it
  pub taken : (x : X) (rest xs : List X) → IsPermutation (x ∷ rest) xs → (front : List X) × (back : List X) × IsTaken x xs rest front back
  taken x rest xs h =
      let (m, l, e, p) = (permuted Takes (λ xs. (IsPermutation-refl xs, λ k l. (k, l, λ d. refl, IsPermutation-refl (remove xs k))))
      takes_next takes_more takes_exchanged xs (x ∷ rest) (IsPermutation-sym (x ∷ rest) xs h)).1 0 (omega arith) in
      (take m xs, drop (suc m) xs, record { is = split_at xs m x l ∙ ap (λ z. take m xs ++ z ∷ drop (suc m) xs) (e x); same = p })

  -- where two lists are the same, an element of the second one stands in the front of the first or in the back
  pub parted : (us bs cs : List X) (x : X) (ds : List X) → us ++ bs ≡ cs ++ x ∷ ds
      → ((ys : List X) × (us ≡ cs ++ x ∷ ys) × (ds ≡ ys ++ bs)) ⊎ ((ys : List X) × (cs ≡ us ++ ys) × (bs ≡ ys ++ x ∷ ds))
  parted [] bs cs x ds e = inr (cs, refl, e)
  parted (a ∷ us) bs [] x ds e = let first : a ≡ x = cc in let rest : us ++ bs ≡ ds = cc in inl (us, ap (λ z. z ∷ us) first, sym rest)
  parted (a ∷ us) bs (c ∷ cs) x ds e =
      let first : a ≡ c = cc in
      let rest : us ++ bs ≡ cs ++ x ∷ ds = cc in
      elim (parted us bs cs x ds rest) [
        | inl h ↦ inl (h.0, ap (λ z. z ∷ us) first ∙ ap (λ l. c ∷ l) h.1, h.2)
        | inr h ↦ inr (h.0, ap (λ l. c ∷ l) h.1 ∙ ap (λ z. z ∷ (us ++ h.0)) (sym first), h.2)
      ]

-- ---- lists joined end to end
pub concat-permutation : (xs ys : List (List ℕ)) → IsPermutation xs ys → IsPermutation (concat xs) (concat ys)
concat-permutation xs ys h = permuted (λ a b. IsPermutation (concat a) (concat b)) (λ a. IsPermutation-refl (concat a))
    (λ a b c s t. IsPermutation-trans (concat a) (concat b) (concat c) s t)
    (λ x a b s. IsPermutation-append_right x (concat a) (concat b) s) (λ x y zs. exchanged x y (concat zs)) xs ys h

pub All-concat : (P : ℕ → Type 0) (xss : List (List ℕ)) → All P (concat xss) → All (All P) xss
All-concat P [] h = All-nil (All P)
All-concat P (xs ∷ xss) h = All-cons (All P) xs xss (All-front P xs (concat xss) h) (All-concat P xss (All-back P xs (concat xss) h))

pub concat-singles : (xs : List ℕ) → concat (map (λ x. x ∷ []) xs) ≡ xs
concat-singles xs = concat_is (map (λ x. x ∷ []) xs) ∙ flat_map-map (λ x. x) (λ x. x ∷ []) xs ∙ flat_map_single (λ x. x) xs ∙ map-id xs

-- ---- lists with the same numbers
permutation_from_counts : (xs ys : List ℕ) → ((i : ℕ) → count_by (λ x. eqb x i) xs ≡ count_by (λ x. eqb x i) ys) → IsPermutation xs ys
permutation_from_counts [] [] same = IsPermutation-refl []
permutation_from_counts [] (y ∷ ys) same = absurd (omega (arith, same y, sum_by-cons (λ z. cond (eqb z y) 1 0) y ys, cond-yes 1 (eq-eqb y y refl)))
permutation_from_counts (x ∷ xs) ys same =
    let (k, l, e) = Contains-from_count ys x (omega (arith, same x, sum_by-cons (λ z. cond (eqb z x) 1 0) x xs, cond-yes 1 (eq-eqb x x refl))) in
    let parts = IsPermutation-remove ys k x l (sym e) in
    IsPermutation-trans (x ∷ xs) (x ∷ remove ys k) ys (IsPermutation-cons x xs (remove ys k) (permutation_from_counts xs (remove ys k) (λ i. less i x xs ys (remove ys k) parts (same i))))
    (IsPermutation-sym ys (x ∷ remove ys k) parts)
  where
    less : (i x : ℕ) (xs ys rest : List ℕ) → IsPermutation ys (x ∷ rest) → count_by (λ z. eqb z i) (x ∷ xs) ≡ count_by (λ z. eqb z i) ys → count_by (λ z. eqb z i) xs ≡ count_by (λ z. eqb z i) rest
    less i x xs ys rest parts same = let one : ℕ → ℕ = λ z. cond (eqb z i) 1 0 in omega (arith, same, sum_by-IsPermutation one ys (x ∷ rest) parts, sum_by-cons one x xs, sum_by-cons one x rest)

pub permutation_from_once : (n : ℕ) (xs ys : List ℕ) → OnceBelow n xs → OnceBelow n ys → IsPermutation xs ys
permutation_from_once n xs ys h k = permutation_from_counts xs ys (λ i. elim (cases_lt i n) [ inl l ↦ h.once i l ∙ sym (k.once i l) | inr past ↦ none i past xs h ∙ sym (none i past ys k) ])
  where
    none : (i : ℕ) → n ≤ i → (xs : List ℕ) → OnceBelow n xs → count_by (λ x. eqb x i) xs ≡ 0
    none i past xs h = sum_by-none (λ x. cond (eqb x i) 1 0) xs (λ m d l. cond-no 1 (ne_eqb (get_or xs m d) i (λ e. absurd (omega (arith, h.within m d l, e, past)))))
