-- One more slice: what it takes, and what is left.
use Rattle.std.proofs.Common.{◌≡◌, ℕ, ◌+◌, ◌-◌, ◌<◌, ◌≤◌, ◌⊎◌, inl, inr, List, [], ◌∷◌, ◌++◌, eqb, ltb, length, cond, ℤ, pos, ◌+ℤ◌, ◌≤ℤ◌, sym, ap, subst, ◌∙◌, arith}
use Rattle.std.proofs.lemmas.Bool.{eq-eqb, ne_eqb, lt-ltb, le-ltb, cond-true, cond-false}
use Rattle.std.proofs.lemmas.Bool.Decides.{nat_tests}
use Rattle.std.proofs.lemmas.Int.{ints}
use Rattle.std.proofs.lemmas.List.{length-append}
use Rattle.std.proofs.lemmas.List.Elements.{All-append, All-cons, All-nil}
use Rattle.msp_class.specs.Sums.{total_below}
use Rattle.msp_class.proofs.Sums.{total_below-add, total_below-same, total_below-only, total_below-term, sum_by-OnceBelow, OnceBelow}
use Rattle.msp_assign.specs.Passing.{at}
use Rattle.msp_class.proofs.Cases.{same_or_not, less_or_not}
use Rattle.msp_class.proofs.IntegerRing.{+ℤ_idr, +ℤ_idl, pos-le}
use Rattle.msp_timetable.specs.declared.matrix.Matrix.{Matrix}
use Rattle.msp_timetable.specs.declared.matrix.Slice.{Slice}
use Rattle.msp_timetable.specs.declared.square.Square.{Square}
use Rattle.msp_timetable.specs.Split.{cell, column_of, total, time_at, greatest_sum, IsSlice, IsGreatestSum, IsSplit}
use Rattle.msp_timetable.specs.Square.{cell_at, stock, used, given_share, padding_share, IsPermuted, IsOwners, IsBalanced, IsLeastUsed, IsEntries, IsCut, IsFilled, IsSplitting}
use Rattle.msp_timetable.proofs.Lists.{sum_at, OnceBelow-permuted}
use Rattle.msp_timetable.proofs.Fills.{IsGreatestSum-square}

pub total-push : (f : Slice → ℤ) (xs : List Slice) (x : Slice) → total f (xs ++ x ∷ []) ≡ total f xs +ℤ f x
total-push f [] x = omega (arith, ints)
total-push f (y ∷ ys) x = omega (arith, ints, total-push f ys x)

-- a total over the rows, by their columns, is the total over the columns
at_total : (f : ℕ → ℕ) (xs : List ℕ) (n : ℕ) → OnceBelow n xs → length xs ≡ n → total_below n (λ r. f (at xs r)) ≡ total_below n f
at_total f xs n o size = sym (sum_at f xs n size) ∙ sum_by-OnceBelow f o

module _ (s t : Square) (column : List ℕ) (p : IsPermuted s.size column) (d : ℕ) (c : IsCut s t column d) where
  abbrev share : ℕ → ℕ → ℕ
  share r k = cond (eqb (at column r) k) d 0

  shares : (r k : ℕ) → given_share s column d r k + padding_share s column d r k ≡ share r k
  shares r k = grind (arith, nat_tests)

  less : (r k : ℕ) → r < s.size → k < s.size → (cell_at s.size t.given.items r k + cell_at s.size t.padding.items r k) + share r k ≡ stock s r k
  less r k lr lk = omega (arith, c.given r k lr lk, c.padding r k lr lk, shares r k)

  row_share : (r : ℕ) → r < s.size → total_below s.size (λ k. share r k) ≡ d
  row_share r l = total_below-only s.size (λ _. d) (at column r) (p.inside r l)

  column_share : (k : ℕ) → k < s.size → total_below s.size (λ r. share r k) ≡ d
  column_share k l = at_total (λ y. cond (eqb y k) d 0) column s.size (OnceBelow-permuted s.size column p) p.size
      ∙ total_below-same s.size (λ y. cond (eqb y k) d 0) (λ y. cond (eqb k y) d 0) (λ y m. grind (arith, nat_tests))
      ∙ total_below-only s.size (λ _. d) k l

  pub IsBalanced-cut : (left : ℕ) → IsBalanced s.size (stock s) left → IsBalanced t.size (stock t) (left - d)
  IsBalanced-cut left b = subst (λ n. IsBalanced n (λ r k. cell_at n t.given.items r k + cell_at n t.padding.items r k) (left - d)) (sym c.size) record {
    rows = λ r l. omega (
      arith,
      total_below-add s.size (λ k. cell_at s.size t.given.items r k + cell_at s.size t.padding.items r k) (λ k. share r k),
      total_below-same s.size (λ k. (cell_at s.size t.given.items r k + cell_at s.size t.padding.items r k) + share r k) (λ k. stock s r k) (λ k lk. less r k l lk),
      row_share r l,
      b.rows r l,
    );
    columns = λ k l. omega (
      arith,
      total_below-add s.size (λ r. cell_at s.size t.given.items r k + cell_at s.size t.padding.items r k) (λ r. share r k),
      total_below-same s.size (λ r. (cell_at s.size t.given.items r k + cell_at s.size t.padding.items r k) + share r k) (λ r. stock s r k) (λ r lr. less r k lr l),
      column_share k l,
      b.columns k l,
    );
  }

-- the longest slice is at least 1, and no longer than what is left
used-most : (a p : ℕ) → used a p ≤ a + p
used-most a p = grind (arith, nat_tests)

used-some : (a p : ℕ) → 0 < a + p → 0 < used a p
used-some a p l = grind (arith, nat_tests)

module _ (s : Square) (column : List ℕ) (p : IsPermuted s.size column) (d : ℕ) (least : IsLeastUsed s column d) where
  pub longest-positive : ((r : ℕ) → r < s.size → 0 < stock s r (at column r)) → 0 < d
  longest-positive h = let w = least.some in
      let q = used-some (cell_at s.size s.given.items w.0 (at column w.0)) (cell_at s.size s.padding.items w.0 (at column w.0)) (h w.0 w.1) in omega (arith, q, w.2)

  pub longest-most : (left : ℕ) → IsBalanced s.size (stock s) left → d ≤ left
  longest-most left b = let w = least.some in
      let q = used-most (cell_at s.size s.given.items w.0 (at column w.0)) (cell_at s.size s.padding.items w.0 (at column w.0)) in
      let t = total_below-term s.size (λ k. stock s w.0 k) (at column w.0) (p.inside w.0 w.1) in
      omega (arith, q, t, w.2, b.rows w.0 w.1)

-- ---- the slice
module _ (m : Matrix) (s : Square) (column entries : List ℕ) (p : IsPermuted s.size column) (rows : m.rows ≤ s.size) (columns : m.columns ≤ s.size)
    (outside : (r c : ℕ) → r < s.size → c < s.size → (m.rows ≤ r) ⊎ (m.columns ≤ c) → cell_at s.size s.given.items r c ≡ 0)
    (h : IsEntries s m.rows m.columns column entries) where
  -- a row has its column, where it uses its part of the matrix there, or none
  has : (r : ℕ) → r < m.rows → ((0 < cell_at s.size s.given.items r (at column r)) × (at entries r ≡ at column r) × (at column r < m.columns))
      ⊎ ((cell_at s.size s.given.items r (at column r) ≡ 0) × (at entries r ≡ m.columns))
  has r l = elim (less_or_not 0 (cell_at s.size s.given.items r (at column r))) [
    | inl some ↦
        let small : at column r < m.columns = elim (less_or_not (at column r) m.columns) [
          | inl y ↦ y
          | inr y ↦ let z = outside r _ (omega (arith, l, rows)) (p.inside r (omega (arith, l, rows))) (inr y) in absurd (omega (arith, some, z))
        ] in
        inl (some, h.each r l ∙ cond-true _ (at column r) m.columns (lt-ltb 0 _ some), small)
    | inr none ↦ inr (omega (arith, none), h.each r l ∙ cond-false _ (at column r) m.columns (le-ltb 0 _ none))
  ]

  pub IsSlice-made : (x : Slice) (d : ℕ) → x.length ≡ pos d → x.column ≡ entries → 0 < d → IsSlice m.rows m.columns x
  IsSlice-made x d el ec positive = record {
    lasts = subst (λ z. pos 1 ≤ℤ z) (sym el) (pos-le positive);
    all = ap length ec ∙ h.all;
    inside = λ r l. subst (λ xs. at xs r ≤ m.columns) (sym ec) (elim (has r l) [
      | inl w ↦ omega (arith, w.1, w.2)
      | inr w ↦ omega (arith, w.1)
    ]);
    apart = λ q r l lr e. subst (λ xs. at xs q ≡ m.columns) (sym ec) (different q r l lr (subst (λ xs. at xs q ≡ at xs r) ec e));
  }
    where
      different : (q r : ℕ) → q < r → r < m.rows → at entries q ≡ at entries r → at entries q ≡ m.columns
      different q r l lr e = elim (has q (omega arith)) [
        | inr w ↦ w.1
        | inl w ↦ elim (has r lr) [
          | inl v ↦ absurd (p.apart q r l (omega (arith, lr, rows)) (sym w.1 ∙ e ∙ v.1))
          | inr v ↦ absurd (omega (arith, w.1, w.2, e, v.1))
        ]
      ]

  -- the slice is as long at a cell as what it takes there
  pub time_at-made : (x : Slice) (d : ℕ) → x.length ≡ pos d → x.column ≡ entries → (r c : ℕ) → r < m.rows → c < m.columns → time_at r c x ≡ pos (given_share s column d r c)
  time_at-made x d el ec r c lr lc = ap (λ z. cond (eqb (column_of x r) c) z (pos 0)) el ∙ ap (λ xs. cond (eqb (at xs r) c) (pos d) (pos 0)) ec ∙ elim (same_or_not (at column r) c) [
    | inl e ↦ elim (has r lr) [
      | inl w ↦ ap (λ b. cond b (pos d) (pos 0)) (eq-eqb (at entries r) c (w.1 ∙ e))
          ∙ sym (ap pos (ap (λ b. cond b (cond (ltb 0 (cell_at s.size s.given.items r c)) d 0) 0) (eq-eqb (at column r) c e)
          ∙ ap (λ b. cond b d 0) (lt-ltb 0 (cell_at s.size s.given.items r c) (subst (λ k. 0 < cell_at s.size s.given.items r k) e w.0))))
      | inr w ↦ ap (λ b. cond b (pos d) (pos 0)) (ne_eqb (at entries r) c (λ q. omega (arith, w.1, q)))
          ∙ sym (ap pos (ap (λ b. cond b (cond (ltb 0 (cell_at s.size s.given.items r c)) d 0) 0) (eq-eqb (at column r) c e)
          ∙ ap (λ b. cond b d 0) (le-ltb 0 (cell_at s.size s.given.items r c) (subst (λ k. cell_at s.size s.given.items r k ≤ 0) e (omega (arith, w.0))))))
    ]
    | inr e ↦ ap (λ b. cond b (pos d) (pos 0)) (ne_eqb (at entries r) c (λ q. e (other q)))
        ∙ sym (ap pos (ap (λ b. cond b (cond (ltb 0 (cell_at s.size s.given.items r c)) d 0) 0) (ne_eqb (at column r) c e)))
  ]
    where
      other : at entries r ≡ c → at column r ≡ c
      other q = elim (has r lr) [
        | inl w ↦ sym w.1 ∙ q
        | inr w ↦ absurd (omega (arith, w.1, q))
      ]

-- ---- the state
pub IsSplitting-next : (m : Matrix) (s t : Square) (column column2 owner owner2 entries : List ℕ) (slices : List Slice) (x : Slice) (left d : ℕ) → IsSplitting m s column owner slices left
    → IsPermuted s.size column2 → IsOwners s.size column2 owner2
    → IsLeastUsed s column2 d → 0 < d → IsEntries s m.rows m.columns column2 entries → IsCut s t column2 d → x.length ≡ pos d → x.column ≡ entries
    → IsSplitting m t column2 owner2 (slices ++ x ∷ []) (left - d)
IsSplitting-next m s t column column2 owner owner2 entries slices x left d h p o least positive e c el ec = record {
  square = c.square;
  rows = omega (arith, c.size, h.rows);
  columns = omega (arith, c.size, h.columns);
  most = omega (arith, c.size, h.most);
  permuted = subst (λ n. IsPermuted n column2) (sym c.size) p;
  owners = subst (λ n. IsOwners n column2 owner2) (sym c.size) o;
  balanced = IsBalanced-cut s t column2 p d c left h.balanced;
  outside = λ r k lr lk q. subst (λ n. cell_at n t.given.items r k ≡ 0) (sym c.size)
      (let z = h.outside r k (omega (arith, lr, c.size)) (omega (arith, lk, c.size)) q in omega (arith, z, c.given r k (omega (arith, lr, c.size)) (omega (arith, lk, c.size))));
  each = All-append (IsSlice m.rows m.columns) slices (x ∷ []) h.each
      (All-cons (IsSlice m.rows m.columns) x [] (IsSlice-made m s column2 entries p h.rows h.columns h.outside e x d el ec positive) (All-nil (IsSlice m.rows m.columns)));
  cells = λ r k lr lk. subst (λ n. total (time_at r k) (slices ++ x ∷ []) +ℤ pos (cell_at n t.given.items r k) ≡ cell m r k) (sym c.size)
      (together (total (time_at r k) slices) (time_at r k x) (total (time_at r k) (slices ++ x ∷ []))
      (cell m r k) (given_share s column2 d r k) (cell_at s.size t.given.items r k) (cell_at s.size s.given.items r k)
      (total-push (time_at r k) slices x) (time_at-made m s column2 entries p h.rows h.columns h.outside e x d el ec r k lr lk)
      (c.given r k (omega (arith, lr, h.rows)) (omega (arith, lk, h.columns))) (h.cells r k lr lk));
  lengths = subst (IsGreatestSum m) (lasted (total (λ y. y.length) slices) x.length (total (λ y. y.length) (slices ++ x ∷ [])) left d (total-push (λ y. y.length) slices x) el most) h.lengths;
  low = omega (arith, h.low);
  few = omega (arith, h.few, c.fewer, c.size, length-append slices (x ∷ []));
}
  where
    most : d ≤ left
    most = longest-most s column2 p d least left h.balanced

    together : (a b ab y : ℤ) (u v w : ℕ) → ab ≡ a +ℤ b → b ≡ pos u → v + u ≡ w → a +ℤ pos w ≡ y → ab +ℤ pos v ≡ y
    together a b ab y u v w e f g q = omega (arith, ints)

    lasted : (a b ab : ℤ) (l k : ℕ) → ab ≡ a +ℤ b → b ≡ pos k → k ≤ l → a +ℤ pos l ≡ ab +ℤ pos (l - k)
    lasted a b ab l k e f q = omega (arith, ints)

-- nothing is left
pub IsSplit-end : (m : Matrix) (s : Square) (column owner : List ℕ) (slices : List Slice) → IsSplitting m s column owner slices 0 → IsSplit m slices
IsSplit-end m s column owner slices h = record {
  each = h.each;
  cells = λ r c lr lc.
      let t = total_below-term s.size (λ k. stock s r k) c (omega (arith, lc, h.columns)) in
      let b = h.balanced.rows r (omega (arith, lr, h.rows)) in
      omega (arith, ints, t, b, h.cells r c lr lc);
  lengths = subst (IsGreatestSum m) (+ℤ_idr (total (λ y. y.length) slices)) h.lengths;
  few = omega (arith, h.few, h.most);
}

-- the same, as the lists are read
pub IsSplitting-read : (m : Matrix) (s t : Square) (column column2 column3 owner owner2 entries : List ℕ) (slices slices2 : List Slice) (x : Slice) (left d : ℕ)
    → column3 ≡ column2 → IsSplitting m s column owner slices left
    → IsPermuted s.size column2 → IsOwners s.size column2 owner2 → ((r : ℕ) → r < s.size → 0 < stock s r (at column2 r)) → IsLeastUsed s column3 d
    → IsEntries s m.rows m.columns column3 entries → IsCut s t column3 d → x.length ≡ pos d → x.column ≡ entries → slices2 ≡ slices ++ x ∷ []
    → IsSplitting m t column2 owner2 slices2 (left - d)
IsSplitting-read m s t column column2 column3 owner owner2 entries slices slices2 x left d q h p o some least e c el ec es =
    let low = subst (λ xs. IsLeastUsed s xs d) q least in
    subst (λ xs. IsSplitting m t column2 owner2 xs (left - d)) (sym es)
    (IsSplitting-next m s t column column2 owner owner2 entries slices x left d h p o low
    (longest-positive s column2 p d low some) (subst (λ xs. IsEntries s m.rows m.columns xs entries) q e) (subst (λ xs. IsCut s t xs d) q c) el ec)

pub longest-fits : (m : Matrix) (s : Square) (column column2 column3 owner : List ℕ) (slices : List Slice) (left d : ℕ) → column3 ≡ column2
    → IsSplitting m s column owner slices left → IsPermuted s.size column2 → ((r : ℕ) → r < s.size → 0 < stock s r (at column2 r)) → IsLeastUsed s column3 d
    → (0 < d) × (d ≤ left) × (d ≤ greatest_sum)
longest-fits m s column column2 column3 owner slices left d q h p some least =
    let low = subst (λ xs. IsLeastUsed s xs d) q least in
    let most = longest-most s column2 p d low left h.balanced in
    (longest-positive s column2 p d low some, most, omega (arith, most, h.low))

pub IsSplitting-start : (m : Matrix) (s : Square) (g : ℕ) (column owner : List ℕ) (slices : List Slice) → 1 ≤ m.rows → (m.rows ≤ s.size) × (m.columns ≤ s.size)
    × (s.size ≤ m.rows + m.columns) → IsFilled m s g → IsPermuted s.size column → IsOwners s.size column owner → slices ≡ [] → IsSplitting m s column owner slices g
IsSplitting-start m s g column owner slices some size f p o e = subst (λ xs. IsSplitting m s column owner xs g) (sym e) record {
  square = f.square;
  rows = size.0;
  columns = size.1;
  most = size.2;
  permuted = p;
  owners = o;
  balanced = f.balanced;
  outside = f.spread.outside;
  each = All-nil (IsSlice m.rows m.columns);
  cells = λ r c lr lc. +ℤ_idl (pos (cell_at s.size s.given.items r c)) ∙ f.spread.cells r c lr lc;
  lengths = subst (IsGreatestSum m) (sym (+ℤ_idl (pos g))) (IsGreatestSum-square m s.size s.given.items g size.0 size.1 some f.spread f.greatest);
  low = f.greatest.low;
  few = omega (arith, f.few);
}
