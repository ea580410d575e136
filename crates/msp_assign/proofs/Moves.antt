-- After a search the prices move, and the columns are passed on: one row more has a column where it pays least.
use Rattle.std.proofs.Common.{◌≡◌, ◌≢◌, ℕ, zero, suc, ◌+◌, ◌-◌, ◌<◌, ◌≤◌, inl, inr, ℤ, List, [], ◌∷◌, ◌++◌, length, get_or, All, AllPairs, Contains, sym, ap, subst, ◌∙◌, arith}
use Rattle.std.proofs.lemmas.List.{length-append, get_or_default}
use Rattle.std.proofs.lemmas.List.Elements.{All-append, All-cons, All-nil, All-contains, Contains-append_left, Contains-get_or}
use Rattle.std.proofs.lemmas.List.Quantifiers.{all_pairs_push}
use Rattle.std.proofs.lemmas.List.Sorted.{All-permutation, Contains-permutation, length_permutation}
use Rattle.msp_assign.specs.Passing.{at, IsTree, IsStep, IsPassedOn}
use Rattle.msp_assign.proofs.Lists.{same_place, distinct-permutation, contained_or_not, Contains-at}
use Rattle.msp_assign.specs.Search.{HasCharges, greatest_charge, greatest_payment, sizes, IsCheapest, IsPlaced, IsLevel, IsSearch, IsNearest, IsLowered, IsOneMore}
use Rattle.msp_assign.proofs.Growth.{IsClosest, IsClosest-at}
use Rattle.msp_assign.proofs.Bounds.{sizes-at_most}
use Rattle.msp_assign.proofs.Passing.{first_free, row_before, kept_column, IsTree-longer}

module _ (cost : ℕ → ℕ → ℕ) (columns : ℕ) (fall column : List ℕ) (p : IsPlaced cost columns fall column)
    (distance «from» left tree : List ℕ) (h : IsSearch cost columns fall column distance «from» left tree)
    (free : ℕ) (near : IsClosest distance left free) (unused : ¬ Contains column free)
    (bound : (r : ℕ) → r < length column → cost r free ≤ greatest_charge)
    (next : List ℕ) (lowered : IsLowered (at distance free) distance column tree fall next) where
  in_view : free < columns
  in_view = All-contains (λ c. c < columns) left free h.inside near.among

  -- each column that is nearer than the free one falls by as much as it is nearer
  moved : (c : ℕ) → c < columns → at next c ≡ at fall c + (at distance free - at distance c)
  moved c l = elim (contained_or_not left c) [
    | inl m ↦ omega (arith, near.least c m, lowered.others c (λ k a b e. h.own k a b (subst (Contains left) (sym e) m)))
    | inr n ↦ elim (h.owned c l) [
      | inl m ↦ absurd (n m)
      | inr w ↦ subst (λ x. at next x ≡ at fall x + (at distance free - at distance x)) w.3 (lowered.reached w.0 w.1 w.2)
    ]
  ]

  -- a column that is level for the row and no farther than the free one is the cheapest after the move
  cheapest_near : (r c : ℕ) → c < columns → at distance c ≤ at distance free → IsLevel cost columns fall distance r c → IsCheapest cost columns next r c
  cheapest_near r c l a v = record { cheapest = λ d ld. omega (arith, v.level d ld, moved c l, moved d ld, a) }

  -- and one that was the cheapest and is no nearer
  cheapest_far : (r c : ℕ) → c < columns → at distance free ≤ at distance c → IsCheapest cost columns fall r c → IsCheapest cost columns next r c
  cheapest_far r c l a v = record { cheapest = λ d ld. omega (arith, v.cheapest d ld, moved c l, moved d ld, a) }

  inside : (r : ℕ) → r < length column → at column r < columns
  inside r l = p.inside r 0 l

  settled_near : (c : ℕ) → c < columns → ¬ Contains left c → at distance c ≤ at distance free
  settled_near c l n = h.nearer c free l n near.among

  -- each row before keeps its column as the cheapest
  kept : (r : ℕ) → r < length column → IsCheapest cost columns next r (at column r)
  kept r l = elim (h.owned (at column r) (inside r l)) [
    | inl m ↦ cheapest_far r (at column r) (inside r l) (near.least (at column r) m) (p.cheapest r l)
    | inr w ↦
        let same : at tree w.0 ≡ r = same_place column p.apart (at tree w.0) r (h.grown.rows w.0 w.1 w.2) l w.3 in
        cheapest_near r (at column r) (inside r l) (settled_near (at column r) (inside r l) (subst (λ x. ¬ Contains left x) w.3 (h.own w.0 w.1 w.2)))
        (subst (λ s. IsLevel cost columns fall distance s (at column s)) same (h.level_own w.0 w.1 w.2))
  ]

  -- a column on the way back is the cheapest for the row from which it is reached
  step_inside : (c : ℕ) → IsStep (column ++ free ∷ []) tree c → (c < columns) × (at distance c ≤ at distance free)
  step_inside c (zero, l, e) =
      let same : free ≡ c = sym (first_free columns column «from» tree h.grown free) ∙ e in
      (subst (λ x. x < columns) same in_view, omega (arith, ap (at distance) same))
  step_inside c (suc k, l, e) =
      let same : at column (at tree (suc k)) ≡ c = sym (kept_column columns column «from» tree h.grown free (suc k) (omega arith) l) ∙ e in
      let own = inside (at tree (suc k)) (h.grown.rows (suc k) (omega arith) l) in
      (subst (λ x. x < columns) same own, subst (λ x. at distance x ≤ at distance free) same (settled_near (at column (at tree (suc k))) own (h.own (suc k) (omega arith) l)))

  reached : (r c : ℕ) → at tree (at «from» c) ≡ r → IsStep (column ++ free ∷ []) tree c → IsCheapest cost columns next r c
  reached r c e s = let i = step_inside c s in cheapest_near r c i.0 i.1 (subst (λ x. IsLevel cost columns fall distance x c) e (h.level c i.0))

  -- only the price of an owned column moves
  still : (c : ℕ) → c < columns → ¬ Contains column c → (at distance free ≤ at distance c) × (at next c ≡ 0)
  still c l n = elim (h.owned c l) [
    | inl m ↦ let a = near.least c m in (a, omega (arith, a, moved c l, p.unused c l n))
    | inr w ↦ absurd (n (Contains-at column (at tree w.0) c (h.grown.rows w.0 w.1 w.2) w.3))
  ]

  low : (c : ℕ) → c < columns → at next c ≤ greatest_charge
  low c l = elim (h.owned c l) [
    | inl m ↦ omega (arith, near.least c m, moved c l, p.low c l)
    | inr w ↦
        let s = h.grown.rows w.0 w.1 w.2 in
        let k = (kept (at tree w.0) s).cheapest free in_view in
        omega (arith, k, (still free in_view unused).1, bound (at tree w.0) s, ap (at next) w.3)
  ]

  module _ (after : List ℕ) (q : IsPassedOn (column ++ free ∷ []) «from» tree after) where
    longer : length after ≡ length column + 1
    longer = length_permutation (column ++ free ∷ []) after q.same ∙ length-append column (free ∷ [])

    pub IsPlaced-moved : IsPlaced cost columns next after
    IsPlaced-moved = record {
      size = lowered.size ∙ p.size;
      low = low;
      inside = All-permutation (λ c. c < columns) (column ++ free ∷ [])
          after q.same (All-append (λ c. c < columns) column (free ∷ []) p.inside (All-cons (λ c. c < columns) free [] in_view (All-nil (λ c. c < columns))));
      apart = distinct-permutation (column ++ free ∷ []) after q.same (all_pairs_push (λ c d. c ≢ d) column free p.apart
          (λ k d l e. unused (subst (Contains column) e (Contains-get_or column k d l))));
      cheapest = λ r l. elim (q.each r (omega (arith, l, length_permutation (column ++ free ∷ []) after q.same))) [
        | inl a ↦
            let old : r < length column = omega (arith, l, longer, a.0, h.grown.first) in
            subst (IsCheapest cost columns next r) (sym (a.1 ∙ row_before columns column «from» tree h.grown free r old)) (kept r old)
        | inr a ↦ reached r (at after r) a.0 a.1
      ];
      unused = λ c l n. (still c l (λ m. n (Contains-permutation (column ++ free ∷ []) after c q.same (Contains-append_left column (free ∷ []) c m)))).1;
    }

    pub IsOneMore-moved : IsOneMore columns column next after free
    IsOneMore-moved = record { same = q.same; inside = in_view; free_before = unused; unfallen = (still free in_view unused).1 }

-- what lowering the prices asks
pub record IsLowerable (columns far : ℕ) (distance column tree : List ℕ) : Type 0 where
  pub some : 1 ≤ length tree
  pub rows : (k : ℕ) → 1 ≤ k → k < length tree → at tree k < length column
  pub once : (j k : ℕ) → j < k → k < length tree → at tree j ≢ at tree k
  pub apart : AllPairs (λ c d. c ≢ d) column
  pub inside : All (λ c. c < columns) column
  pub sizes : length distance ≡ columns
  pub near : far ≤ greatest_payment

-- what the row's step gives
pub record IsStepped (cost : ℕ → ℕ → ℕ) (columns : ℕ) (next column after : List ℕ) (free : ℕ) : Type 0 where
  pub placed : IsPlaced cost columns next after
  pub longer : length after ≡ length column + 1
  pub taken : IsOneMore columns column next after free

-- what lowering the prices asks, as the lists are read
pub IsLowerable-row : (cost : ℕ → ℕ → ℕ) (columns : ℕ) (fall column column2 column3 distance distance2 «from» left tree tree2 : List ℕ) (k free far : ℕ)
    → column2 ≡ column → column3 ≡ column → distance2 ≡ distance → tree2 ≡ tree → free ≡ get_or left k free → far ≡ get_or distance free far
    → IsPlaced cost columns fall column → IsSearch cost columns fall column2 distance «from» left tree → IsNearest distance left k → IsLowerable (length fall) far distance2 column3 tree2
IsLowerable-row cost columns fall column column2 column3 distance distance2 from_ left tree tree2 k free far ec ec3 ed et es ef p h near =
    let g = rw ec at h in
    let inside_left : k < length left = omega (arith, near.inside) in
    let inside : free < columns = omega (arith, es ∙ get_or_default left k free 0 inside_left, g.inside k 0 inside_left) in
    let low = g.low free inside in
    rw (ed, ec3, et, p.size) record {
      some = g.grown.some;
      rows = g.grown.rows;
      once = g.grown.apart;
      apart = p.apart;
      inside = p.inside;
      sizes = g.distances;
      near = omega (arith, ef ∙ get_or_default distance free far 0 (omega (arith, g.distances, inside)), low);
    }

-- the tree over which the columns are passed on, as the lists are read
pub IsTree-row : (cost : ℕ → ℕ → ℕ) (columns : ℕ) (fall column column2 pushed distance «from» from2 left tree tree2 : List ℕ) (k free : ℕ)
    → column2 ≡ column → from2 ≡ «from» → tree2 ≡ tree → free ≡ get_or left k free → pushed ≡ column ++ free ∷ []
    → IsPlaced cost columns fall column → IsSearch cost columns fall column2 distance «from» left tree → IsNearest distance left k → IsTree pushed from2 tree2
IsTree-row cost columns fall column column2 pushed distance from_ from2 left tree tree2 k free ec ef et es ep p h near =
    let inside_left : k < length left = omega (arith, near.inside) in
    let inside : free < columns = omega (arith, es ∙ get_or_default left k free 0 inside_left, h.inside k 0 inside_left) in
    let g = subst (λ x. IsSearch cost columns fall x distance from_ left tree) ec h in
    let t = IsTree-longer columns column from_ tree g.grown free p.inside inside in
    subst (λ x. IsTree x from2 tree2) (sym ep) (subst (λ x. IsTree (column ++ free ∷ []) x tree2) (sym ef) (subst (IsTree (column ++ free ∷ []) from_) (sym et) t))

-- the row's step, as the lists are read
pub IsStepped-row : (rows : ℕ) (cost : ℕ → ℕ → ℤ) (columns : ℕ)
    (fall column column2 column3 pushed distance distance2 «from» from2 left tree tree2 tree3 : List ℕ) (k free far : ℕ) (next passed after : List ℕ)
    → column2 ≡ column → column3 ≡ column → distance2 ≡ distance → from2 ≡ «from» → tree2 ≡ tree → tree3 ≡ tree → free ≡ get_or left k free → far ≡ get_or distance free far
    → pushed ≡ column ++ free ∷ [] → after ≡ passed
    → HasCharges rows columns cost → length column < rows → IsPlaced (sizes cost) columns fall column
    → IsSearch (sizes cost) columns fall column2 distance «from» left tree → IsNearest distance left k → ¬ Contains column2 (at left k)
    → IsLowered far distance2 column3 tree2 fall next → IsPassedOn pushed from2 tree3 passed → IsStepped (sizes cost) columns next column after free
IsStepped-row rows cost columns fall column column2 column3 pushed
    distance distance2 from_ from2 left tree tree2 tree3 k free far next passed after ec ec3 ed ef et et3 es ex ep ea costs more p h near unused moved walk =
    let inside_left : k < length left = omega (arith, near.inside) in
    let is : free ≡ at left k = es ∙ get_or_default left k free 0 inside_left in
    let close = IsClosest-at distance left k free near is in
    let inside : free < columns = omega (arith, is, h.inside k 0 inside_left) in
    let is_far : far ≡ at distance free = ex ∙ get_or_default distance free far 0 (omega (arith, h.distances, inside)) in
    let g = rw ec at h in
    let u : ¬ Contains column free = subst (λ x. ¬ Contains x free) ec (subst (λ x. ¬ Contains column2 x) (sym is) unused) in
    let l = rw (is_far, ed, et, ec3) at moved in
    let q = rw (ep, et3, ef) at walk in
    let bound : (r : ℕ) → r < length column → sizes cost r free ≤ greatest_charge = λ r lr. sizes-at_most rows columns cost costs r free (omega (arith, lr, more)) inside in
    subst (λ x. IsStepped (sizes cost) columns next column x free) (sym ea) record {
      placed = IsPlaced-moved (sizes cost) columns fall column p distance from_ left tree g free close u bound next l passed q;
      longer = longer (sizes cost) columns fall column p distance from_ left tree g free close u bound next l passed q;
      taken = IsOneMore-moved (sizes cost) columns fall column p distance from_ left tree g free close u bound next l passed q;
    }
