-- The search begins with the new row, and grows by the row of the nearest column.
use Rattle.std.proofs.Common.{◌≡◌, ◌≢◌, ℕ, ℤ, ◌+◌, ◌<◌, ◌≤◌, ◌⊎◌, inl, inr, List, [], ◌∷◌, ◌++◌, length, get_or, replicate, All, AllPairs, Contains, IsPermutation, sym, ap, subst, ◌∙◌, arith, refl}
use Rattle.std.proofs.Math.Seq.{get_or-append_seam}
use Rattle.std.proofs.lemmas.List.{get_or-replicate, length-replicate, length-append, get_or_append_left, get_or_default}
use Rattle.std.proofs.lemmas.List.Elements.{All-contains, All-from_get_or}
use Rattle.msp_assign.specs.Passing.{at}
use Rattle.msp_class.proofs.Cases.{same_or_not}
use Rattle.msp_assign.proofs.Lists.{distinct-permutation, contained_or_not, Contains-at, at-Contains, All-from_contained, IsWithout}
use Rattle.msp_assign.specs.Search.{paid, AreAll, IsPlaced, IsGrown, IsLevel, IsSearch, IsNearest, AreNearest, IsRelaxed, IsOpenRow, HasEdges, sizes, greatest_payment}
use Rattle.std.proofs.lemmas.List.Sorted.{All-permutation, Contains-permutation, IsPermutation-sym}

-- the nearest column of those that are left
pub record IsClosest (distance left : List ℕ) (e : ℕ) : Type 0 where
  pub among : Contains left e
  pub least : (d : ℕ) → Contains left d → at distance e ≤ at distance d

pub IsClosest-at : (distance left : List ℕ) (k e : ℕ) → IsNearest distance left k → e ≡ at left k → IsClosest distance left e
IsClosest-at distance left k e h is = record {
  among = Contains-at left k e (omega (arith, h.inside)) (sym is);
  least = λ d m. let w = at-Contains left d m in omega (arith, ap (at distance) is, h.least w.0 w.1, ap (at distance) w.2);
}

-- without the one at place k those before it are as near as it was
pub AreNearest-rest : (distance left rest : List ℕ) (k e depth : ℕ) → IsNearest distance left k → IsWithout left e rest → e ≡ at left k → depth ≡ at distance e → length rest + 1 ≡ length left
    → ((j d : ℕ) → j ≢ k → j + 1 < length left → get_or rest j d ≡ get_or left j d) → AreNearest distance rest k depth
AreNearest-rest distance left rest k e depth h w is far size still = record {
  inside = omega (arith, h.inside, size);
  same = λ j l. omega (arith, ap (at distance) (still j 0 (omega (arith, l)) (omega (arith, l, h.inside))), h.same j (omega (arith, l)), far, ap (at distance) is);
  least = λ j l. let m = at-Contains left (at rest j) (w.before (at rest j) (Contains-at rest j (at rest j) l refl)) in omega (arith, h.least m.0 m.1, ap (at distance) m.2, far, ap (at distance) is);
}

-- none is near before the search begins
pub AreNearest-none : (distance left : List ℕ) → AreNearest distance left 0 0
AreNearest-none distance left = record { inside = omega arith; same = λ j l. absurd (omega (arith, l)); least = λ j l. omega arith }

-- all columns are left at first
module _ (columns : ℕ) (left : List ℕ) (h : AreAll columns left) where
  pub all-inside : All (λ c. c < columns) left
  all-inside = All-from_get_or (λ c. c < columns) left 0 (λ k l. omega (arith, h.each k (omega (arith, l, h.size)), l, h.size))

  pub all-apart : AllPairs (λ c d. c ≢ d) left
  all-apart j k d a b e =
      let lj : j < length left = omega (arith, a, b) in
      omega (arith, a, get_or_default left j 0 d lj, get_or_default left k 0 d b, e, h.each j (omega (arith, lj, h.size)), h.each k (omega (arith, b, h.size)))

  pub all-contained : (c : ℕ) → c < columns → Contains left c
  all-contained c l = Contains-at left c c (omega (arith, l, h.size)) (h.each c l)

module _ (cost : ℕ → ℕ → ℕ) (columns : ℕ) (fall column : List ℕ) where
  module _ (left distance «from» next next_from : List ℕ)
      (inside : All (λ c. c < columns) left)
      (apart : AllPairs (λ c d. c ≢ d) left)
      (all : (c : ℕ) → c < columns → Contains left c)
      (bound : (c : ℕ) → c < columns → paid cost fall (length column) c ≤ greatest_payment)
      (far : (c : ℕ) → c < columns → greatest_payment < at distance c)
      (h : IsRelaxed cost fall (length column) 0 0 0 left distance «from» next next_from) where
    -- each column is reached from the new row
    begun_at : (c : ℕ) → c < columns → (at next_from c ≡ 0) × (at next c ≡ paid cost fall (length column) c)
    begun_at c l = elim (h.each c (all c l)).change [
      | inl a ↦ absurd (omega (arith, a.0, (h.each c (all c l)).close, bound c l, far c l))
      | inr a ↦ (a.0, omega (arith, a.1))
    ]

    pub IsSearch-begin : length next ≡ columns → length next_from ≡ columns → IsSearch cost columns fall column next next_from left ([] ++ length column ∷ [])
    IsSearch-begin sd sf = record {
      grown = record {
        size = sf;
        some = omega arith;
        first = refl;
        rows = λ k a b. absurd (omega (arith, a, b));
        apart = λ j k a b. absurd (omega (arith, a, b));
        before = λ k a b. absurd (omega (arith, a, b));
        within = λ c l. omega (arith, (begun_at c l).0);
      };
      distances = sd;
      inside = inside;
      apart = apart;
      own = λ k a b. absurd (omega (arith, a, b));
      owned = λ c l. inl (all c l);
      level_own = λ k a b. absurd (omega (arith, a, b));
      level = λ c l. record {
        level = λ d ld. subst (λ k. at next d + paid cost fall (at (length column ∷ []) k) c ≤ at next c + paid cost fall (at (length column ∷ []) k) d)
            (sym (begun_at c l).0) (omega (arith, (begun_at c l).1, (begun_at d ld).1));
      };
      nearer = λ c d l n m. absurd (n (all c l));
      low = λ c l. omega (arith, (begun_at c l).1, bound c l);
    }

  -- the order of the columns that are left does not matter
  pub IsSearch-reordered : (distance «from» left left2 tree : List ℕ)
      → IsPermutation left left2 → IsSearch cost columns fall column distance «from» left tree → IsSearch cost columns fall column distance «from» left2 tree
  IsSearch-reordered distance from_ left left2 tree p h =
      let there : (c : ℕ) → Contains left c → Contains left2 c = λ c m. Contains-permutation left left2 c p m in
      let back : (c : ℕ) → Contains left2 c → Contains left c = λ c m. Contains-permutation left2 left c (IsPermutation-sym left left2 p) m in
      record {
        grown = h.grown;
        distances = h.distances;
        inside = All-permutation (λ c. c < columns) left left2 p h.inside;
        apart = distinct-permutation left left2 p h.apart;
        own = λ k a b m. h.own k a b (back (at column (at tree k)) m);
        owned = λ c l. elim (h.owned c l) [ inl m ↦ inl (there c m) | inr t ↦ inr t ];
        level_own = h.level_own;
        level = h.level;
        nearer = λ c d l n m. h.nearer c d l (λ x. n (there c x)) (back d m);
        low = h.low;
      }

  module _ (p : IsPlaced cost columns fall column) (distance «from» left tree : List ℕ) (h : IsSearch cost columns fall column distance «from» left tree)
      (e r : ℕ) (near : IsClosest distance left e) (lr : r < length column) (has : at column r ≡ e) (rest : List ℕ) (w : IsWithout left e rest) where
    in_view : e < columns
    in_view = All-contains (λ c. c < columns) left e h.inside near.among

    -- a free column stays
    pub still_left : (c : ℕ) → c < columns → ¬ Contains column c → Contains rest c
    still_left c l n = elim (h.owned c l) [
      | inl m ↦ w.after c m (λ x. n (Contains-at column r c lr (has ∙ sym x)))
      | inr t ↦ absurd (n (Contains-at column (at tree t.0) c (h.grown.rows t.0 t.1 t.2) t.3))
    ]

    module _ (next next_from : List ℕ) (depth own : ℕ) (is_depth : depth ≡ at distance e) (is_own : own ≡ paid cost fall r e)
        (q : IsRelaxed cost fall r (length tree) depth own rest distance «from» next next_from) where
      old_at : (k : ℕ) → k < length tree → at (tree ++ r ∷ []) k ≡ at tree k
      old_at k l = get_or_append_left tree (r ∷ []) 0 k l

      new_at : at (tree ++ r ∷ []) (length tree) ≡ r
      new_at = get_or-append_seam tree r [] 0

      longer : length (tree ++ r ∷ []) ≡ length tree + 1
      longer = length-append tree (r ∷ [])

      node : (k : ℕ) → k < length (tree ++ r ∷ []) → ((k < length tree) × (at (tree ++ r ∷ []) k ≡ at tree k)) ⊎ ((k ≡ length tree) × (at (tree ++ r ∷ []) k ≡ r))
      node k l = elim (same_or_not k (length tree)) [
        | inl x ↦ inr (x, ap (at (tree ++ r ∷ [])) x ∙ new_at)
        | inr n ↦ let s : k < length tree = omega (arith, longer) in inl (s, old_at k s)
      ]

      -- final distances stay
      frozen : (c : ℕ) → ¬ Contains left c → (at next c ≡ at distance c) × (at next_from c ≡ at «from» c)
      frozen c n = q.others c (λ m. n (w.before c m))

      frozen_here : (at next e ≡ at distance e) × (at next_from e ≡ at «from» e)
      frozen_here = q.others e w.gone

      cheapest : (d : ℕ) → d < columns → paid cost fall r e ≤ paid cost fall r d
      cheapest d l = subst (λ x. paid cost fall r x ≤ paid cost fall r d) has ((p.cheapest r lr).cheapest d l)

      inside : (k : ℕ) → 1 ≤ k → k < length tree → at column (at tree k) < columns
      inside k a b = p.inside (at tree k) 0 (h.grown.rows k a b)

      -- no distance grows
      fewer : (d : ℕ) → d < columns → at next d ≤ at distance d
      fewer d l = elim (contained_or_not rest d) [
        | inl m ↦ (q.each d m).fewer
        | inr n ↦ omega (arith, (q.others d n).0)
      ]

      -- one that is not left is no farther than the new one
      settled_near : (d : ℕ) → d < columns → ¬ Contains rest d → at distance d ≤ at distance e
      settled_near d l n = elim (same_or_not d e) [
        | inl x ↦ omega (arith, ap (at distance) x)
        | inr m ↦ h.nearer d e l (λ k. n (w.after d k m)) near.among
      ]

      level_new : IsLevel cost columns fall next r e
      level_new = record {
        level = λ d l. elim (contained_or_not rest d) [
          | inl m ↦ omega (arith, (q.each d m).close, is_depth, is_own, frozen_here.0)
          | inr n ↦ elim (same_or_not d e) [
            | inl x ↦ subst (λ y. at next y + paid cost fall r e ≤ at next e + paid cost fall r y) (sym x) (omega arith)
            | inr m ↦ omega (arith, fewer d l, settled_near d l n, frozen_here.0, cheapest d l)
          ]
        ];
      }

      level_kept : (s c : ℕ) → at next c ≡ at distance c → IsLevel cost columns fall distance s c → IsLevel cost columns fall next s c
      level_kept s c x y = record { level = λ d ld. omega (arith, y.level d ld, fewer d ld, x) }

      level_relaxed : (c : ℕ) → at next c + own ≡ depth + paid cost fall r c → IsLevel cost columns fall next r c
      level_relaxed c x = record { level = λ d ld. omega (arith, level_new.level d ld, x, is_own, is_depth, frozen_here.0) }

      -- how a column is reached
      reached : (c : ℕ) → ((at next c ≡ at distance c) × (at next_from c ≡ at «from» c)) ⊎ ((at next_from c ≡ length tree) × (at next c + own ≡ depth + paid cost fall r c))
      reached c = elim (contained_or_not rest c) [ inl m ↦ (q.each c m).change | inr n ↦ inl (q.others c n) ]

      tree_next : length next_from ≡ columns → IsGrown columns column next_from (tree ++ r ∷ [])
      tree_next sf = record {
        size = sf;
        some = omega (arith, longer);
        first = old_at 0 (omega (arith, h.grown.some)) ∙ h.grown.first;
        rows = λ k a b. elim (node k b) [
          | inl x ↦ omega (arith, x.1, h.grown.rows k a x.0)
          | inr x ↦ omega (arith, x.1)
        ];
        apart = λ j k a b s. elim (node k b) [
          | inl x ↦ h.grown.apart j k a x.0 (sym (old_at j (omega (arith, x.0))) ∙ s ∙ x.1)
          | inr x ↦
              let lj : j < length tree = omega (arith, x.0) in
              let same : at tree j ≡ r = sym (old_at j lj) ∙ s ∙ x.1 in
              elim (same_or_not j 0) [
                | inl z ↦ omega (arith, same, ap (at tree) z, h.grown.first)
                | inr z ↦ h.own j (omega arith) lj (subst (Contains left) (sym (ap (at column) same ∙ has)) near.among)
              ]
        ];
        before = λ k a b. elim (node k b) [
          | inl x ↦ subst (λ y. at next_from (at column y) < k) (sym x.1)
              (subst (λ y. y < k) (sym (frozen (at column (at tree k)) (h.own k a x.0)).1) (h.grown.before k a x.0))
          | inr x ↦ subst (λ y. at next_from y < k) (sym (ap (at column) x.1 ∙ has)) (omega (arith, frozen_here.1, h.grown.within e in_view, x.0))
        ];
        within = λ c l. elim (reached c) [
          | inl a ↦ omega (arith, a.1, h.grown.within c l, longer)
          | inr a ↦ omega (arith, a.0, longer)
        ];
      }

      pub IsSearch-grow : length next ≡ columns → length next_from ≡ columns → IsSearch cost columns fall column next next_from rest (tree ++ r ∷ [])
      IsSearch-grow sd sf = record {
        grown = tree_next sf;
        distances = sd;
        inside = All-from_contained (λ c. c < columns) rest (λ c m. All-contains (λ d. d < columns) left c h.inside (w.before c m));
        apart = w.apart;
        own = λ k a b. elim (node k b) [
          | inl x ↦ λ m. h.own k a x.0 (subst (Contains left) (ap (at column) x.1) (w.before _ m))
          | inr x ↦ λ m. w.gone (subst (Contains rest) (ap (at column) x.1 ∙ has) m)
        ];
        owned = λ c l. elim (same_or_not c e) [
          | inl x ↦ inr (length tree, h.grown.some, omega (arith, longer), ap (at column) new_at ∙ has ∙ sym x)
          | inr n ↦ elim (h.owned c l) [
            | inl m ↦ inl (w.after c m n)
            | inr t ↦ inr (t.0, t.1, omega (arith, t.2, longer), ap (at column) (old_at t.0 t.2) ∙ t.3)
          ]
        ];
        level_own = λ k a b. elim (node k b) [
          | inl x ↦ subst (λ y. IsLevel cost columns fall next y (at column y)) (sym x.1) (level_kept _ _ (frozen (at column (at tree k)) (h.own k a x.0)).0 (h.level_own k a x.0))
          | inr x ↦ subst (λ y. IsLevel cost columns fall next y (at column y)) (sym x.1) (subst (IsLevel cost columns fall next r) (sym has) level_new)
        ];
        level = λ c l. elim (reached c) [
          | inl a ↦ subst (λ y. IsLevel cost columns fall next y c) (sym (ap (at (tree ++ r ∷ [])) a.1 ∙ old_at (at «from» c) (h.grown.within c l))) (level_kept _ c a.0 (h.level c l))
          | inr a ↦ subst (λ y. IsLevel cost columns fall next y c) (sym (ap (at (tree ++ r ∷ [])) a.0 ∙ new_at)) (level_relaxed c a.1)
        ];
        nearer = λ c d lc n m.
            let ld : d < columns = All-contains (λ x. x < columns) left d h.inside (w.before d m) in
            let far : at distance e ≤ at distance d = near.least d (w.before d m) in
            let close : at distance c ≤ at distance e = settled_near c lc n in
            elim (q.each d m).change [
              | inl a ↦ omega (arith, (q.others c n).0, a.0, far, close)
              | inr a ↦ omega (arith, (q.others c n).0, a.1, close, is_depth, is_own, cheapest d ld)
            ];
        low = λ c l. omega (arith, fewer c l, h.low c l);
      }

-- a row of the search pays at its own column no more than at any
pub HasEdges-own : (rows columns : ℕ) (cost : ℕ → ℕ → ℤ) (fall column distance «from» left tree : List ℕ) → IsOpenRow rows columns cost fall column
    → IsSearch (sizes cost) columns fall column distance «from» left tree → (e r depth own : ℕ) → Contains left e → r < length column → at column r ≡ e
    → depth ≡ at distance e → own ≡ paid (sizes cost) fall r e → HasEdges rows columns cost fall r depth own
HasEdges-own rows columns cost fall column distance from_ left tree o h e r depth own m lr has far pays = record {
  costs = o.costs;
  falls = o.placed.size;
  low = o.placed.low;
  inside = omega (arith, lr, o.next);
  near = subst (λ x. x ≤ greatest_payment) (sym far) (h.low e (All-contains (λ c. c < columns) left e h.inside m));
  least = λ c l. coe 0 1 (i. sym pays i ≤ paid (sizes cost) fall r c) (subst (λ x. paid (sizes cost) fall r x ≤ paid (sizes cost) fall r c) has ((o.placed.cheapest r lr).cheapest c l));
}

-- the lists as they are made
pub IsSearch-made : (cost : ℕ → ℕ → ℕ) (columns : ℕ) (fall column : List ℕ) (most : ℕ) (left left2 distance «from» next next_from tree : List ℕ) → greatest_payment < most
    → AreAll columns left → distance ≡ replicate columns most → length «from» ≡ columns
    → ((c : ℕ) → c < columns → paid cost fall (length column) c ≤ greatest_payment) → length next ≡ length distance → length next_from ≡ length «from»
    → IsRelaxed cost fall (length column) 0 0 0 left distance «from» next next_from
    → tree ≡ [] ++ length column ∷ [] → IsPermutation left left2 → IsSearch cost columns fall column next next_from left2 tree
IsSearch-made cost columns fall column most left left2 distance from_ next next_from tree lm all ed lf bound ln lnf q et p =
    IsSearch-reordered cost columns fall column next next_from left left2 tree p
    (subst (IsSearch cost columns fall column next next_from left) (sym et)
    (IsSearch-begin cost columns fall column left distance from_ next next_from (all-inside columns left all) (all-apart columns left all) (all-contained columns left all)
    bound
    (λ c l. let e : at distance c ≡ most = ap (λ x. get_or x c 0) ed ∙ get_or-replicate columns c most 0 l in omega (arith, e))
    q
    (omega (arith, ln, ap length ed, length-replicate columns most))
    (omega (arith, lnf, lf))))
