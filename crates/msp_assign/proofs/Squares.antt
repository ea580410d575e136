-- As many columns as rows: a free column where a row pays least, and prices that are normal at the end.
use Rattle.std.proofs.Common.{◌≡◌, ◌≢◌, ℕ, ◌+◌, ◌<◌, ◌≤◌, ◌⊎◌, inl, inr, refl, Bool, true, false, Option, Some, None, IfSome, List, [], ◌∷◌, ◌++◌}
use Rattle.std.proofs.Common.{length, set, replicate, All, AllPairs, Contains, sym, ap, subst, ◌∙◌, arith}
use Rattle.std.proofs.lemmas.List.{get_or-set_same, get_or-set_other, length-set, length-append, length-replicate, get_or-replicate, get_or_append_left}
use Rattle.std.proofs.Math.Seq.{get_or-append_seam}
use Rattle.std.proofs.lemmas.List.Elements.{All-append, All-cons, All-nil, Contains-append_left, Contains-push_cases, Contains-get_or}
use Rattle.std.proofs.lemmas.List.Quantifiers.{all_pairs_push}
use Rattle.std.proofs.lemmas.List.Sorted.{Contains-permutation, IsPermutation-refl, IsPermutation-sym}
use Rattle.msp_class.proofs.Cases.{same_or_not}
use Rattle.msp_assign.specs.Passing.{at}
use Rattle.msp_assign.specs.declared.square.Cheapest.{Cheapest}
use Rattle.msp_assign.specs.Search.{paid, IsCheapest, IsPlaced, IsOneMore}
use Rattle.msp_assign.specs.Square.{is_taken, AreMarked, IsCheaper, IsFreeCheapest}
use Rattle.msp_assign.proofs.Lists.{at-Contains}
use Rattle.msp_class.proofs.Sums.{OnceBelow-from_distinct, OnceBelow-contains}

-- ---- a free column where the row pays least
if_some : (o : Option ℕ) (P : ℕ → Type 0) → ((c : ℕ) → o ≡ Some c → P c) → IfSome o P
if_some None P h = tt
if_some (Some c) P h = h c refl

if_some-weaker : (o : Option ℕ) (P Q : ℕ → Type 0) → ((c : ℕ) → P c → Q c) → IfSome o P → IfSome o Q
if_some-weaker None P Q f h = tt
if_some-weaker (Some c) P Q f h = f c h

pub IsCheaper-kept : (best : Cheapest) (price column : ℕ) (taken : Bool) → best.paid ≤ price → IsCheaper best price column taken best
IsCheaper-kept best price column taken l = record {
  before = omega arith;
  close = l;
  found = if_some best.column (λ c. ((c ≡ column) × (best.paid ≡ price) × (taken ≡ false)) ⊎ ((best.column ≡ Some c) × (best.paid ≡ best.paid))) (λ c e. inr (e, refl));
}

pub IsCheaper-free : (best : Cheapest) (price column : ℕ) (taken : Bool) → price ≤ best.paid → taken ≡ false → IsCheaper best price column taken (record { paid = price; column = Some column })
IsCheaper-free best price column taken l e = record { before = l; close = omega arith; found = inl (refl, refl, e) }

pub IsCheaper-none : (best : Cheapest) (price column : ℕ) (taken : Bool) → price ≤ best.paid → IsCheaper best price column taken (record { paid = price; column = None })
IsCheaper-none best price column taken l = record { before = l; close = omega arith; found = tt }

-- of the first k columns
pub record IsCheapestSoFar (cost : ℕ → ℕ → ℕ) (fall : List ℕ) (taken : List Bool) (r k : ℕ) (best : Cheapest) : Type 0 where
  pub least : (d : ℕ) → d < k → best.paid ≤ paid cost fall r d
  pub found : IfSome best.column (λ c. (c < k) × (is_taken taken c ≡ false) × (best.paid ≡ paid cost fall r c))

pub IsCheapestSoFar-start : (cost : ℕ → ℕ → ℕ) (fall : List ℕ) (taken : List Bool) (r most : ℕ) → IsCheapestSoFar cost fall taken r 0 (record { paid = most; column = None })
IsCheapestSoFar-start cost fall taken r most = record { least = λ d l. absurd (omega (arith, l)); found = tt }

pub IsCheapestSoFar-next : (cost : ℕ → ℕ → ℕ) (fall : List ℕ) (taken : List Bool) (r k : ℕ) (best : Cheapest) (price : ℕ) (mark : Bool) (next : Cheapest)
    → IsCheapestSoFar cost fall taken r k best → price ≡ paid cost fall r k → mark ≡ is_taken taken k → IsCheaper best price k mark next → IsCheapestSoFar cost fall taken r (k + 1) next
IsCheapestSoFar-next cost fall taken r k best price mark next h e m q = record {
  least = λ d l. elim (same_or_not d k) [
    | inl s ↦ omega (arith, q.close, e, ap (paid cost fall r) s)
    | inr n ↦ omega (arith, q.before, h.least d (omega arith))
  ];
  found = if_some-weaker next.column _ _ (λ c x. step c x) q.found;
}
  where
    old : (o : Option ℕ) (c : ℕ) → IfSome o (λ c. (c < k) × (is_taken taken c ≡ false) × (best.paid ≡ paid cost fall r c))
        → o ≡ Some c → (c < k) × (is_taken taken c ≡ false) × (best.paid ≡ paid cost fall r c)
    old o c i s = subst (λ o. IfSome o (λ c. (c < k) × (is_taken taken c ≡ false) × (best.paid ≡ paid cost fall r c))) s i

    step : (c : ℕ) → ((c ≡ k) × (next.paid ≡ price) × (mark ≡ false)) ⊎ ((best.column ≡ Some c) × (next.paid ≡ best.paid)) → (c < k + 1) × (is_taken taken c ≡ false) × (next.paid ≡ paid cost fall r c)
    step c (inl x) = (omega (arith, x.0), ap (is_taken taken) x.0 ∙ sym m ∙ x.2, x.1 ∙ e ∙ ap (paid cost fall r) (sym x.0))
    step c (inr x) = let o = old best.column c h.found x.0 in (omega (arith, o.0), o.1, x.1 ∙ o.2)

pub IsFreeCheapest-end : (cost : ℕ → ℕ → ℕ) (columns : ℕ) (fall : List ℕ) (taken : List Bool) (r k : ℕ) (best : Cheapest)
    → columns ≡ k → IsCheapestSoFar cost fall taken r k best → IfSome best.column (IsFreeCheapest cost columns fall taken r)
IsFreeCheapest-end cost columns fall taken r k best e h =
    if_some-weaker best.column _ (IsFreeCheapest cost columns fall taken r)
    (λ c x. record { inside = omega (arith, e, x.0); free = x.1; cheapest = record { cheapest = λ d l. omega (arith, x.2, h.least d (omega (arith, e, l))) } }) h.found

-- ---- one more row has a free column
module _ (cost : ℕ → ℕ → ℕ) (columns : ℕ) (fall column : List ℕ) (taken : List Bool) (p : IsPlaced cost columns fall column) (m : AreMarked columns column taken)
    (free : ℕ) (f : IsFreeCheapest cost columns fall taken (length column) free) where
  unused : ¬ Contains column free
  unused = m.free free f.inside f.free

  pub IsOneMore-free : IsOneMore columns column fall (column ++ free ∷ []) free
  IsOneMore-free = record { same = IsPermutation-refl (column ++ free ∷ []); inside = f.inside; free_before = unused; unfallen = p.unused free f.inside unused }

  pub IsPlaced-free : IsPlaced cost columns fall (column ++ free ∷ [])
  IsPlaced-free = record {
    size = p.size;
    low = p.low;
    inside = All-append (λ c. c < columns) column (free ∷ []) p.inside (All-cons (λ c. c < columns) free [] f.inside (All-nil (λ c. c < columns)));
    apart = all_pairs_push (λ c d. c ≢ d) column free p.apart (λ k d l e. unused (subst (Contains column) e (Contains-get_or column k d l)));
    cheapest = λ r l. elim (same_or_not r (length column)) [
      | inl s ↦ subst (λ r. IsCheapest cost columns fall r (at (column ++ free ∷ []) r)) (sym s)
          (subst (IsCheapest cost columns fall (length column)) (sym (get_or-append_seam column free [] 0)) f.cheapest)
      | inr n ↦
          let lr : r < length column = omega (arith, l, length-append column (free ∷ [])) in
          subst (IsCheapest cost columns fall r) (sym (get_or_append_left column (free ∷ []) 0 r lr)) (p.cheapest r lr)
    ];
    unused = λ c l n. p.unused c l (λ x. n (Contains-append_left column (free ∷ []) c x));
  }

-- the column is marked as taken
pub AreMarked-next : (columns : ℕ) (column after fall : List ℕ) (taken : List Bool) (c : ℕ)
    → AreMarked columns column taken → IsOneMore columns column fall after c → AreMarked columns after (set taken c true)
AreMarked-next columns column after fall taken c h o = record {
  size = length-set taken c true ∙ h.size;
  free = λ d l e m. elim (same_or_not d c) [
    | inl s ↦ absurd (let both : true ≡ false = sym (get_or-set_same taken c true true (omega (arith, h.size, o.inside))) ∙ sym (ap (is_taken (set taken c true)) s) ∙ e in cc)
    | inr n ↦ elim (Contains-push_cases column c d (Contains-permutation after _ d (IsPermutation-sym (column ++ c ∷ []) after o.same) m)) [
      | inl x ↦ h.free d l (sym (get_or-set_other taken c d true true n) ∙ e) x
      | inr y ↦ n (sym y)
    ]
  ];
}

-- no row has a column yet
pub AreMarked-start : (columns : ℕ) (taken : List Bool) (n : ℕ) → n ≡ columns → taken ≡ replicate n false → AreMarked columns [] taken
AreMarked-start columns taken n e s = record {
  size = ap length s ∙ length-replicate n false ∙ e;
  free = λ c l f m. let w = at-Contains [] c m in omega (arith, w.1);
}

pub IsPlaced-start : (cost : ℕ → ℕ → ℕ) (columns : ℕ) (falls : List ℕ) (n : ℕ) → n ≡ columns → falls ≡ replicate n 0 → IsPlaced cost columns falls []
IsPlaced-start cost columns falls n same e = record {
  size = ap length e ∙ length-replicate n 0 ∙ same;
  low = λ c l. omega (arith, fallen c l);
  inside = All-nil (λ c. c < columns);
  apart = λ i j d a b. absurd (omega (arith, b));
  cheapest = λ r l. absurd (omega (arith, l));
  unused = λ c l n. fallen c l;
}
  where
    fallen : (c : ℕ) → c < columns → at falls c ≡ 0
    fallen c l = ap (λ x. at x c) e ∙ get_or-replicate n c 0 0 (omega (arith, same, l))

-- ---- rows with columns of their own, as many as columns, have them all
pub all_taken : (n : ℕ) (xs : List ℕ) → All (λ x. x < n) xs → AllPairs (λ x y. x ≢ y) xs → length xs ≡ n → (c : ℕ) → c < n → Contains xs c
all_taken n xs inside apart whole c l = OnceBelow-contains (OnceBelow-from_distinct n xs whole inside apart) c l
