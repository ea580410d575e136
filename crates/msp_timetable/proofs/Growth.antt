-- The search grows, and never runs dry: Hall's count.
use Rattle.std.proofs.Common.{◌≡◌, ◌≢◌, ℕ, zero, suc, ◌+◌, ◌*◌, ◌<◌, ◌≤◌, ◌⊎◌, inl, inr, refl, List, [], ◌∷◌, ◌++◌, Bool, true, false, eqb, ltb, length, set, map, Contains, All, le_trans, le-mul_of_pos_right}
use Rattle.std.proofs.Common.{cond, count_by, sum_by, get_or, sym, ap, subst, ◌∙◌, arith}
use Rattle.std.proofs.lemmas.Bool.{ltb-true, eq-eqb, lt-ltb}
use Rattle.std.proofs.lemmas.Bool.Decides.{nat_tests}
use Rattle.std.proofs.lemmas.List.{get_or-set_same, get_or-set_other, length-set, get_or_append_left, length-append, get_or-map, length-map, get_or_default}
use Rattle.std.proofs.Math.Seq.{get_or-append_seam}
use Rattle.std.proofs.lemmas.List.Elements.{Contains-get_or}
use Rattle.msp_class.specs.Sums.{total_below}
use Rattle.msp_class.proofs.Sums.{total_below-mono, total_below-same, total_below-scale_right, sum_by-total_below, sum_by-mono, sum_by-constant, sum_by_counts, sum_by-contains}
use Rattle.msp_class.proofs.Sums.{sum_by-cond, sum_by-distinct_test, cond-yes}
use Rattle.msp_assign.specs.Passing.{at}
use Rattle.msp_class.proofs.Cases.{same_or_not}
use Rattle.msp_timetable.specs.Square.{IsPermuted, IsOwners, IsBalanced, IsGrowing, IsSearch, IsFound}
use Rattle.msp_timetable.proofs.Lists.{all_at, pairs_at, distinct_short, same_back_to_back}

-- the rows of a tree are at most n
pub IsGrowing-short : (n : ℕ) (f : ℕ → ℕ → ℕ) (column from tree : List ℕ) → IsGrowing n f column from tree → length tree ≤ n
IsGrowing-short n f column from tree g = distinct_short n tree (all_at (λ x. x < n) tree g.rows) (pairs_at (λ x y. x ≢ y) tree g.apart)

module _ (n : ℕ) (f : ℕ → ℕ → ℕ) (left : ℕ) (b : IsBalanced n f left) where
  module _ (tree ys : List ℕ) (test : ℕ → Bool)
      (rows : (k : ℕ) → k < length tree → at tree k < n) (apart : (j k : ℕ) → j < k → k < length tree → at tree j ≢ at tree k)
      (inside : All (λ y. y < n) ys) (fewer : length ys + 1 ≡ length tree)
      (named : (c : ℕ) → c < n → test c ≡ true → Contains ys c)
      (within : (k c : ℕ) → k < length tree → c < n → 0 < f (at tree k) c → test c ≡ true) where
    -- what the rows of the tree hold in the columns that pass the test
    abbrev held : ℕ → ℕ
    held c = cond (test c) (sum_by (λ r. f r c) tree) 0

    -- a row of the tree adds up to what it holds there
    row_in : (k : ℕ) → k < length tree → left ≤ total_below n (λ c. cond (test c) (f (at tree k) c) 0)
    row_in k l =
        let m = total_below-mono n (λ c. f (at tree k) c) (λ c. cond (test c) (f (at tree k) c) 0) (λ c lc. grind (arith, nat_tests, within k c l lc)) in
        omega (arith, b.rows (at tree k) (rows k l), m)

    rows_in : length tree * left ≤ total_below n (λ c. held c)
    rows_in =
        let m = sum_by-mono (λ _. left) (λ r. total_below n (λ c. cond (test c) (f r c) 0)) tree (all_at (λ r. left ≤ total_below n (λ c. cond (test c) (f r c) 0)) tree row_in) in
        let e = sum_by-total_below (λ r c. cond (test c) (f r c) 0) n tree in
        let s = total_below-same n (λ c. sum_by (λ r. cond (test c) (f r c) 0) tree) (λ c. cond (test c) (sum_by (λ r. f r c) tree) 0) (λ c l. sum_by-cond (test c) (λ r. f r c) tree) in
        omega (arith, sum_by-constant left tree, m, e, s)

    -- the rows of the tree hold in a column at most what it adds up to
    column_most : (c : ℕ) → c < n → sum_by (λ r. f r c) tree ≤ left
    column_most c l =
        let d = sum_by-distinct_test (λ r. f r c) (λ _. true) n tree (all_at (λ x. x < n) tree rows) (pairs_at (λ x y. x ≢ y) tree apart) (λ k v m. refl) in
        omega (arith, d, b.columns c l)

    abbrev counts : ℕ → ℕ
    counts c = 1 * count_by (λ y. eqb y c) ys

    held_most : (c : ℕ) → c < n → held c ≤ counts c * left
    held_most c l = by (test c) (named c l)
      where
        by : (v : Bool) → (v ≡ true → Contains ys c) → cond v (sum_by (λ r. f r c) tree) 0 ≤ 1 * count_by (λ y. eqb y c) ys * left
        by true h =
            let some : 1 ≤ count_by (λ y. eqb y c) ys = omega (arith, sum_by-contains (λ y. cond (eqb y c) 1 0) ys c (h refl), cond-yes 1 (eq-eqb c c refl)) in
            le_trans (column_most c l) (le_trans (le-mul_of_pos_right left some) (omega arith))
        by false h = omega arith

    columns_most : total_below n (λ c. held c) ≤ length ys * left
    columns_most =
        let m = total_below-mono n (λ c. held c) (λ c. counts c * left) held_most in
        let s = total_below-scale_right n left counts in
        let q = sum_by_counts (λ _. 1) n ys inside in
        let one = sum_by-constant 1 ys in
        let same : total_below n counts ≡ length ys = omega (arith, q, one) in
        omega (arith, m, s, ap (λ k. k * left) same)

    pub never_dry : 0 < left → ⊥
    never_dry p = omega (arith, rows_in, columns_most, p, ap (λ i. i * left) fewer)

module _ (n : ℕ) (f : ℕ → ℕ → ℕ) (column owner : List ℕ) (p : IsPermuted n column) (o : IsOwners n column owner)
    (start place c : ℕ) (from tree : List ℕ) (h : IsSearch n f column start place c from tree)
    (l : place < length tree) (lc : c < n) (unreached : n ≤ at from c) (holds : 0 < f (at tree place) c) where
  abbrev after : List ℕ
  after = set from c place

  place_small : place < n
  place_small = omega (arith, IsGrowing-short n f column from tree h.growing)

  here : at after c ≡ place
  here = get_or-set_same from c place 0 (omega (arith, h.growing.size))

  other : (d : ℕ) → d ≢ c → at after d ≡ at from d
  other d e = get_or-set_other from c d place 0 e

  still : (d : ℕ) → at from d < n → at after d < n
  still d q = grind (arith, other d)

  -- the column of a row of the tree is another
  not_new : (k : ℕ) → 1 ≤ k → k < length tree → at column (at tree k) ≢ c
  not_new k a b e = let q = (h.growing.before k a b).1 in omega (arith, ap (at from) e)

  growing_set : IsGrowing n f column after tree
  growing_set = record {
    size = length-set from c place ∙ h.growing.size;
    some = h.growing.some;
    rows = h.growing.rows;
    apart = h.growing.apart;
    before = λ k a b. let q = h.growing.before k a b in let e = other (at column (at tree k)) (not_new k a b) in (omega (arith, q.0, e), omega (arith, q.1, e));
    edges = λ d ld q. elim (same_or_not d c) [
      | inl e ↦ subst (λ x. (at after x < length tree) × (0 < f (at tree (at after x)) x)) (sym e) (subst (λ x. (x < length tree) × (0 < f (at tree x) c)) (sym here) (l, holds))
      | inr e ↦ subst (λ x. (x < length tree) × (0 < f (at tree x) d)) (sym (other d e)) (h.growing.edges d ld (omega (arith, other d e)))
    ];
  }

  pub IsFound-new : f (at owner c) c ≡ 0 → IsFound n f column start (set from c place) tree c
  IsFound-new empty = record {
    growing = growing_set;
    first = h.first;
    inside = lc;
    reached = omega (arith, here, place_small);
    other = not_new;
    empty = λ r lr e. subst (λ x. f x c ≡ 0) (same_back_to_back n column p (at owner c) r (o.each c lc).0 lr ((o.each c lc).1 ∙ sym e)) empty;
  }

  module _ (full : 0 < f (at owner c) c) where
    abbrev grown : List ℕ
    grown = tree ++ at owner c ∷ []

    long : length grown ≡ length tree + 1
    long = length-append tree (at owner c ∷ [])

    old : (k : ℕ) → k < length tree → at grown k ≡ at tree k
    old k b = get_or_append_left tree (at owner c ∷ []) 0 k b

    new : at grown (length tree) ≡ at owner c
    new = get_or-append_seam tree (at owner c) [] 0

    not_in : (j : ℕ) → j < length tree → at tree j ≢ at owner c
    not_in zero b e =
        let s : start ≡ at owner c = sym h.first ∙ e in
        let q : f start (at column start) ≡ f (at owner c) c = ap (λ x. f x (at column x)) s ∙ ap (f (at owner c)) (o.each c lc).1 in
        omega (arith, h.bare, q, full)
    not_in (suc j) b e = not_new (suc j) (omega arith) b (ap (at column) e ∙ (o.each c lc).1)

    place_of : (k : ℕ) → k < length grown → (k < length tree) ⊎ (k ≡ length tree)
    place_of k b = grind (arith, long)

    pub IsSearch-new : IsSearch n f column start place (c + 1) (set from c place) (tree ++ at owner c ∷ [])
    IsSearch-new = record {
      growing = record {
        size = growing_set.size;
        some = omega (arith, long);
        rows = λ k b. elim (place_of k b) [
          | inl a ↦ subst (λ x. x < n) (sym (old k a)) (h.growing.rows k a)
          | inr e ↦ subst (λ x. x < n) (sym (ap (at grown) e ∙ new)) (o.each c lc).0
        ];
        apart = λ j k a b. elim (place_of k b) [
          | inl d ↦ λ e. h.growing.apart j k a d (sym (old j (omega arith)) ∙ e ∙ old k d)
          | inr d ↦ λ e. not_in j (omega arith) (sym (old j (omega arith)) ∙ e ∙ ap (at grown) d ∙ new)
        ];
        before = λ k a b. elim (place_of k b) [
          | inl d ↦ subst (λ x. (at after (at column x) < k) × (at after (at column x) < n)) (sym (old k d)) (growing_set.before k a d)
          | inr d ↦ subst (λ x. (at after x < k) × (at after x < n)) (sym (ap (at column) (ap (at grown) d ∙ new) ∙ (o.each c lc).1)) (omega (arith, here, l), omega (arith, here, place_small))
        ];
        edges = λ d ld q. let w = growing_set.edges d ld q in (omega (arith, long, w.0), subst (λ x. 0 < f x d) (sym (old (at after d) w.0)) w.1);
      };
      first = old 0 h.growing.some ∙ h.first;
      bare = h.bare;
      owned = λ d ld q. elim (same_or_not d c) [
        | inl e ↦ (length tree, h.growing.some, omega (arith, long), ap (at column) new ∙ (o.each c lc).1 ∙ sym e)
        | inr e ↦ let w = h.owned d ld (omega (arith, other d e)) in (w.0, w.1, omega (arith, long, w.2), ap (at column) (old w.0 w.2) ∙ w.3)
      ];
      here = omega (arith, long);
      closed = λ j d a ld q. still d (h.closed j d a ld (subst (λ x. 0 < f x d) (old j (omega arith)) q));
      scanned = λ d a ld b q. elim (same_or_not d c) [
        | inl e ↦ omega (arith, ap (at after) e, here, place_small)
        | inr e ↦ still d (h.scanned d (omega arith) ld l (subst (λ x. 0 < f x d) (old place l) q))
      ];
    }

-- on to the next place
pub IsSearch-next : (n : ℕ) (f : ℕ → ℕ → ℕ) (column : List ℕ) (start place : ℕ) (from tree : List ℕ)
    → IsSearch n f column start place n from tree → place < length tree → IsSearch n f column start (place + 1) 0 from tree
IsSearch-next n f column start place from tree h l = record {
  growing = h.growing;
  first = h.first;
  bare = h.bare;
  owned = h.owned;
  here = omega arith;
  closed = λ j d a ld q. elim (same_or_not j place) [
    | inl e ↦ h.scanned d ld ld l (subst (λ x. 0 < f (at tree x) d) e q)
    | inr e ↦ h.closed j d (omega arith) ld q
  ];
  scanned = λ d a ld b q. absurd (omega arith);
}

-- the last place is never the end of the tree
pub IsSearch-goes_on : (n : ℕ) (f : ℕ → ℕ → ℕ) (left : ℕ) → IsBalanced n f left → 0 < left
    → (column : List ℕ) → IsPermuted n column → (start place : ℕ) (from tree : List ℕ) → IsSearch n f column start place 0 from tree → place < length tree
IsSearch-goes_on n f left b positive column p start place from [] h = absurd (omega (arith, h.growing.some))
IsSearch-goes_on n f left b positive column p start place from (x ∷ rest) h = elim (same_or_not place (length (x ∷ rest))) [
  | inr e ↦ omega (arith, h.here)
  | inl e ↦ absurd (never_dry n f left b (x ∷ rest) (map (at column) rest) (λ d. ltb (at from d) n) h.growing.rows h.growing.apart
      (λ k d l. inside k d l)
      (omega (arith, length-map rest (at column)))
      (λ d ld q. named d (h.owned d ld (ltb-true (at from d) n q)))
      (λ k d l ld q. lt-ltb (at from d) n (h.closed k d (omega arith) ld q)) positive)
]
  where
    mapped : (k : ℕ) → k < length rest → at (map (at column) rest) k ≡ at column (at rest k)
    mapped k l = get_or-map (at column) rest k 0 0 l

    inside : All (λ y. y < n) (map (at column) rest)
    inside = all_at (λ y. y < n) (map (at column) rest)
        (λ k l. let m : k < length rest = omega (arith, length-map rest (at column)) in omega (arith, mapped k m, p.inside (at rest k) (h.growing.rows (suc k) (omega arith))))

    named : (d : ℕ) → ((k : ℕ) × (1 ≤ k) × (k < length (x ∷ rest)) × (at column (at (x ∷ rest) k) ≡ d)) → Contains (map (at column) rest) d
    named d (zero, a, l, e) = absurd (omega arith)
    named d (suc k, a, l, e) = let m : k < length rest = omega arith in
        subst (Contains (map (at column) rest)) (mapped k m ∙ e) (Contains-get_or (map (at column) rest) k 0 (omega (arith, length-map rest (at column))))

pub IsSearch-start : (n : ℕ) (f : ℕ → ℕ → ℕ) (column : List ℕ) (start : ℕ) → start < n → f start (at column start) ≡ 0
    → (from tree : List ℕ) → length from ≡ n → ((d : ℕ) → d < n → at from d ≡ n) → tree ≡ start ∷ [] → IsSearch n f column start 0 0 from tree
IsSearch-start n f column start l e from tree size far is = subst (IsSearch n f column start 0 0 from) (sym is) record {
  growing = record {
    size = size;
    some = omega arith;
    rows = λ k b. let z : k ≡ 0 = omega arith in subst (λ x. at (start ∷ []) x < n) (sym z) l;
    apart = λ j k a b. absurd (omega arith);
    before = λ k a b. absurd (omega arith);
    edges = λ d ld q. absurd (omega (arith, far d ld));
  };
  first = refl;
  bare = e;
  owned = λ d ld q. absurd (omega (arith, far d ld));
  here = omega arith;
  closed = λ j d a ld q. absurd (omega arith);
  scanned = λ d a ld b q. absurd (omega arith);
}

-- the same search, as the tree is read
pub IsSearch-same : {n : ℕ} {f : ℕ → ℕ → ℕ} {column : List ℕ} {start place c : ℕ} {from tree tree2 : List ℕ}
    → IsSearch n f column start place c from tree → tree ≡ tree2 → IsSearch n f column start place c from tree2
IsSearch-same {n} {f} {column} {start} {place} {c} {from} {tree} {tree2} h e = subst (IsSearch n f column start place c from) e h

-- what the code reads of a search
pub reads : {n : ℕ} (f : ℕ → ℕ → ℕ) (from tree owner : List ℕ) (place column x r o : ℕ) → length from ≡ n → place < length tree → length owner ≡ n → column < n
    → x ≡ get_or from column x → n ≤ x → r ≡ get_or tree place r → 0 < f r column → o ≡ get_or owner column o → (n ≤ at from column) × (0 < f (at tree place) column) × (o ≡ at owner column)
reads f from tree owner place column x r o size here owners inside is low row holds own = (
  omega (arith, is ∙ get_or_default from column x 0 (omega (arith, size, inside))),
  subst (λ k. 0 < f k column) (row ∙ get_or_default tree place r 0 here) holds,
  own ∙ get_or_default owner column o 0 (omega (arith, owners, inside)),
)

-- a place is scanned, and the search goes on
pub IsSearch-step : (n : ℕ) (f : ℕ → ℕ → ℕ) (column : List ℕ) → IsPermuted n column → (left : ℕ) × (0 < left) × IsBalanced n f left
    → (start start2 place : ℕ) (from tree : List ℕ) → start2 ≡ start → IsSearch n f column start2 place n from tree → place < length tree
    → IsSearch n f column start (place + 1) 0 from tree × (place + 1 < length tree)
IsSearch-step n f column p b start start2 place from tree e h l =
    let next = IsSearch-next n f column start place from tree (subst (λ x. IsSearch n f column x place n from tree) e h) l in
    (next, IsSearch-goes_on n f b.0 b.2 b.1 column p start (place + 1) from tree next)
