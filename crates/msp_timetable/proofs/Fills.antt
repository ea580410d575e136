-- The square is filled: the matrix, what the lines lack, and the padding from corner to corner.
use Rattle.std.proofs.Common.{◌≡◌, ◌≢◌, ℕ, zero, suc, ◌+◌, ◌-◌, ◌*◌, ◌<◌, ◌≤◌, ◌⊎◌, inl, inr, refl, List, Bool, true, false, eqb, ltb, length, set, cond, ℤ, pos, nat_abs}
use Rattle.std.proofs.Common.{sym, ap, subst, ◌∙◌, arith}
use Rattle.std.proofs.lemmas.Bool.Decides.{nat_tests}
use Rattle.std.proofs.lemmas.Int.{ints}
use Rattle.std.proofs.lemmas.List.{get_or-set_same, get_or-set_other, length-set}
use Rattle.msp_class.specs.declared.sizes.TheConstants.{MOST_JOBS}
use Rattle.msp_class.specs.Sums.{total_below}
use Rattle.msp_class.proofs.Sums.{total_below-add, total_below-same, total_below-none, total_below-only, total_below-exchange, total_below-term, int_total_below-natural, cond-le}
use Rattle.msp_assign.specs.Passing.{at}
use Rattle.msp_class.proofs.Cases.{same_or_not, less_or_not}
use Rattle.msp_class.proofs.IntegerRing.{natural}
use Rattle.msp_timetable.specs.declared.matrix.Matrix.{Matrix}
use Rattle.msp_timetable.specs.declared.square.Square.{Square}
use Rattle.msp_timetable.specs.Split.{cell, row_sum, column_sum, greatest_sum, IsMatrix, IsGreatestSum}
use Rattle.msp_timetable.specs.Square.{cell_at, stocks, row_total, column_total, IsSpreadRow, IsSpread, HasSmallLines, IsGreatest, IsLacking, IsPadding, IsFilled, IsCornerFilled}
use Rattle.msp_timetable.proofs.Places.{cell-same, cell-other, stocks-set}

-- ---- the matrix is copied
pub record IsSpreading (n : ℕ) (m : Matrix) (row : ℕ) (old now : List ℕ) (k : ℕ) : Type 0 where
  pub size : length now ≡ length old
  pub cells : (c : ℕ) → c < k → pos (cell_at n now row c) ≡ cell m row c
  pub others : (r c : ℕ) → r < n → c < n → (r ≢ row) ⊎ (k ≤ c) → cell_at n now r c ≡ cell_at n old r c
  pub few : stocks now ≤ stocks old + k

pub IsSpreading-next : (n : ℕ) (m : Matrix) (row : ℕ) (old now : List ℕ) (k : ℕ) → length old ≡ n * n
    → row < n → k < n → IsSpreading n m row old now k → (v : ℕ) → pos v ≡ cell m row k → IsSpreading n m row old (set now (row * n + k) v) (k + 1)
IsSpreading-next n m row old now k size lr lk h v e = record {
  size = length-set now (row * n + k) v ∙ h.size;
  cells = λ c l. elim (same_or_not c k) [
    | inl q ↦ subst (λ x. pos (cell_at n (set now (row * n + k) v) row x) ≡ cell m row x) (sym q) (ap pos (cell-same n now row k v here lr lk) ∙ e)
    | inr q ↦ ap pos (cell-other n now row k v here lr lk row c (omega (arith, lk)) (inr q)) ∙ h.cells c (omega arith)
  ];
  others = λ r c a b q. cell-other n now row k v here lr lk r c b (grind arith) ∙ h.others r c a b (grind arith);
  few = let s = stocks-set n now row k v here lr lk in let o = cond-le (ltb 0 v) 1 in omega (arith, s, o, h.few);
}
  where
    here : length now ≡ n * n
    here = h.size ∙ size

pub cell-abs : (m : Matrix) (r c : ℕ) → IsMatrix m → r < m.rows → c < m.columns → pos (nat_abs (cell m r c)) ≡ cell m r c
cell-abs m r c h lr lc = sym (natural (cell m r c) (h.cells r c lr lc))

-- the rows before k are copied
pub record IsSpreadBelow (n : ℕ) (m : Matrix) (now : List ℕ) (k : ℕ) : Type 0 where
  pub size : length now ≡ n * n
  pub cells : (r c : ℕ) → r < k → c < m.columns → pos (cell_at n now r c) ≡ cell m r c
  pub outside : (r c : ℕ) → r < n → c < n → (k ≤ r) ⊎ (m.columns ≤ c) → cell_at n now r c ≡ 0
  pub few : stocks now ≤ k * m.columns

pub IsSpreadBelow-next : (n : ℕ) (m : Matrix) (now next : List ℕ) (k : ℕ)
    → m.rows ≤ n → m.columns ≤ n → k < m.rows → IsSpreadBelow n m now k → IsSpreadRow n m k now next → IsSpreadBelow n m next (k + 1)
IsSpreadBelow-next n m now next k a b lk h s = record {
  size = s.size ∙ h.size;
  cells = λ r c lr lc. elim (same_or_not r k) [
    | inl q ↦ subst (λ x. pos (cell_at n next x c) ≡ cell m x c) (sym q) (s.cells c lc)
    | inr q ↦ ap pos (s.others r c (omega (arith, lk, a)) (omega (arith, lc, b)) (inl q)) ∙ h.cells r c (omega arith) lc
  ];
  outside = λ r c lr lc q. s.others r c lr lc (grind arith) ∙ h.outside r c lr lc (grind arith);
  few = omega (arith, s.few, h.few);
}

-- ---- lines
pub total_below-part : (n k : ℕ) (f : ℕ → ℕ) → k < n → total_below k f + f k ≤ total_below n f
total_below-part zero k f l = absurd (omega arith)
total_below-part (suc n) k f l = elim (same_or_not k n) [
  | inl e ↦ subst (λ x. total_below x f + f x ≤ total_below n f + f n) (sym e) (omega arith)
  | inr e ↦ omega (arith, total_below-part n k f (omega arith))
]

-- a total whose terms from k on are 0
pub total_below-rest : (n k : ℕ) (f : ℕ → ℕ) → k ≤ n → ((i : ℕ) → k ≤ i → i < n → f i ≡ 0) → total_below n f ≡ total_below k f
total_below-rest zero k f l h = let z : k ≡ 0 = omega arith in ap (λ x. total_below x f) (sym z)
total_below-rest (suc n) k f l h = elim (same_or_not k (suc n)) [
  | inl e ↦ ap (λ x. total_below x f) (sym e)
  | inr e ↦ omega (arith, h n (omega arith) (omega arith), total_below-rest n k f (omega arith) (λ i a b. h i a (omega arith)))
]

module _ (n : ℕ) (m : Matrix) (given : List ℕ) (a : m.rows ≤ n) (b : m.columns ≤ n) (h : IsSpread n m given) where
  -- a line of the square that the matrix has is its line there
  pub row-is : (r : ℕ) → r < m.rows → row_sum m r ≡ pos (row_total n given r)
  row-is r l = int_total_below-natural m.columns (λ c. cell m r c) (λ c. cell_at n given r c) (λ c lc. sym (h.cells r c l lc))
      ∙ ap pos (sym (total_below-rest n m.columns (λ c. cell_at n given r c) b (λ c lc ln. h.outside r c (omega (arith, l, a)) ln (inr lc))))

  pub column-is : (c : ℕ) → c < m.columns → column_sum m c ≡ pos (column_total n given c)
  column-is c l = int_total_below-natural m.rows (λ r. cell m r c) (λ r. cell_at n given r c) (λ r lr. sym (h.cells r c lr l))
      ∙ ap pos (sym (total_below-rest n m.rows (λ r. cell_at n given r c) a (λ r lr ln. h.outside r c ln (omega (arith, l, b)) (inl lr))))

  pub row-none : (r : ℕ) → m.rows ≤ r → r < n → row_total n given r ≡ 0
  row-none r l ln = total_below-none n (λ c. cell_at n given r c) (λ c lc. h.outside r c ln lc (inl l))

  pub column-none : (c : ℕ) → m.columns ≤ c → c < n → column_total n given c ≡ 0
  column-none c l ln = total_below-none n (λ r. cell_at n given r c) (λ r lr. h.outside r c lr ln (inr l))

  pub HasSmallLines-matrix : IsMatrix m → HasSmallLines n given
  HasSmallLines-matrix q = record {
    rows = λ r l. elim (less_or_not r m.rows) [
      | inl s ↦ omega (arith, ints, row-is r s, q.row_sums r s)
      | inr s ↦ let z = row-none r s l in omega (arith, z)
    ];
    columns = λ c l. elim (less_or_not c m.columns) [
      | inl s ↦ omega (arith, ints, column-is c s, q.column_sums c s)
      | inr s ↦ let z = column-none c s l in omega (arith, z)
    ];
  }

-- ---- what the lines lack adds up to the same
pub IsLacking-same : (n : ℕ) (given : List ℕ) (g : ℕ) (d e : List ℕ) → IsLacking n given g d e → total_below n (λ r. at d r) ≡ total_below n (λ c. at e c)
IsLacking-same n given g d e h =
    let r = total_below-add n (λ r. row_total n given r) (λ r. at d r) in
    let c = total_below-add n (λ c. column_total n given c) (λ c. at e c) in
    let rs = total_below-same n (λ r. row_total n given r + at d r) (λ _. g) h.each_row in
    let cs = total_below-same n (λ c. column_total n given c + at e c) (λ _. g) h.each_column in
    let x = total_below-exchange n n (λ r c. cell_at n given r c) in
    omega (arith, r, c, rs, cs, x)

-- ---- the padding
module _ (n : ℕ) (rows columns : List ℕ) where
  -- the padding is filled up to a corner
  pub record IsCorner (padding d e : List ℕ) (i j : ℕ) : Type 0 where
    pub size : length padding ≡ n * n
    pub row_size : length d ≡ n
    pub column_size : length e ≡ n
    pub each_row : (r : ℕ) → r < n → row_total n padding r + at d r ≡ at rows r
    pub each_column : (c : ℕ) → c < n → column_total n padding c + at e c ≡ at columns c
    pub same : total_below n (λ r. at d r) ≡ total_below n (λ c. at e c)
    pub rows_done : (r : ℕ) → r < i → at d r ≡ 0
    pub columns_done : (c : ℕ) → c < j → at e c ≡ 0
    pub few : stocks padding ≤ i + j
    pub row_here : i ≤ n
    pub column_here : j ≤ n

  module _ (padding d e padding2 d2 e2 : List ℕ) (i j : ℕ) (done : Bool) (h : IsCorner padding d e i j) (li : i < n) (lj : j < n) (s : IsCornerFilled n i j padding d e padding2 d2 e2 done) where
    cells : (r c : ℕ) → r < n → c < n → cell_at n padding2 r c ≡ cell_at n padding r c + cond (eqb i r) (cond (eqb j c) s.both 0) 0
    cells r c lr lc = rw s.padding
        (grind (arith, nat_tests, cell-same n padding i j (cell_at n padding i j + s.both) h.size li lj, cell-other n padding i j (cell_at n padding i j + s.both) h.size li lj r c lc))

    only : (b : Bool) (k : ℕ) → k < n → total_below n (λ c. cond b (cond (eqb k c) s.both 0) 0) ≡ cond b s.both 0
    only true k l = total_below-only n (λ _. s.both) k l
    only false k l = total_below-none n (λ c. 0) (λ c lc. refl)

    row_more : (r : ℕ) → r < n → row_total n padding2 r ≡ row_total n padding r + cond (eqb i r) s.both 0
    row_more r l = total_below-same n (λ c. cell_at n padding2 r c) (λ c. cell_at n padding r c + cond (eqb i r) (cond (eqb j c) s.both 0) 0) (λ c lc. cells r c l lc)
        ∙ total_below-add n (λ c. cell_at n padding r c) (λ c. cond (eqb i r) (cond (eqb j c) s.both 0) 0)
        ∙ ap (λ k. row_total n padding r + k) (only (eqb i r) j lj)

    column_more : (c : ℕ) → c < n → column_total n padding2 c ≡ column_total n padding c + cond (eqb j c) s.both 0
    column_more c l = total_below-same n (λ r. cell_at n padding2 r c) (λ r. cell_at n padding r c + cond (eqb j c) (cond (eqb i r) s.both 0) 0)
        (λ r lr. grind (arith, nat_tests, cells r c lr l))
        ∙ total_below-add n (λ r. cell_at n padding r c) (λ r. cond (eqb j c) (cond (eqb i r) s.both 0) 0)
        ∙ ap (λ k. column_total n padding c + k) (only (eqb j c) i li)

    lowered : (xs ys : List ℕ) (k : ℕ) → k < n → length xs ≡ n → ys ≡ set xs k (at xs k - s.both) → s.both ≤ at xs k → (r : ℕ) → at ys r + cond (eqb k r) s.both 0 ≡ at xs r
    lowered xs ys k l size q low r = rw q
        (grind (arith, nat_tests, low, get_or-set_same xs k (at xs k - s.both) 0 (omega (arith, size)), get_or-set_other xs k r (at xs k - s.both) 0))

    lowered_total : (xs ys : List ℕ) (k : ℕ) → k < n → ((r : ℕ) → at ys r + cond (eqb k r) s.both 0 ≡ at xs r) → total_below n (λ r. at ys r) + s.both ≡ total_below n (λ r. at xs r)
    lowered_total xs ys k l q =
        let a = total_below-add n (λ r. at ys r) (λ r. cond (eqb k r) s.both 0) in
        let e = total_below-same n (λ r. at ys r + cond (eqb k r) s.both 0) (λ r. at xs r) (λ r lr. q r) in
        let o = total_below-only n (λ _. s.both) k l in
        omega (arith, a, e, o)

    d_low : (r : ℕ) → at d2 r + cond (eqb i r) s.both 0 ≡ at d r
    d_low = lowered d d2 i li h.row_size s.rows s.row_most

    e_low : (c : ℕ) → at e2 c + cond (eqb j c) s.both 0 ≡ at e c
    e_low = lowered e e2 j lj h.column_size s.columns s.column_most

    few_more : stocks padding2 ≤ i + j + 1
    few_more =
        let v = cell_at n padding i j + s.both in
        let c = stocks-set n padding i j v h.size li lj in
        let o = cond-le (ltb 0 v) 1 in
        let q : stocks padding2 ≡ stocks (set padding (i * n + j) v) = ap stocks s.padding in
        omega (arith, c, o, q, h.few)

    moved : (i2 j2 : ℕ) → ((r : ℕ) → r < i2 → at d2 r ≡ 0) → ((c : ℕ) → c < j2 → at e2 c ≡ 0) → i2 + j2 ≡ i + j + 1 → i2 ≤ n → j2 ≤ n → IsCorner padding2 d2 e2 i2 j2
    moved i2 j2 rd cd q a b = record {
      size = ap length s.padding ∙ length-set padding (i * n + j) (cell_at n padding i j + s.both) ∙ h.size;
      row_size = ap length s.rows ∙ length-set d i (at d i - s.both) ∙ h.row_size;
      column_size = ap length s.columns ∙ length-set e j (at e j - s.both) ∙ h.column_size;
      each_row = λ r l. omega (arith, row_more r l, d_low r, h.each_row r l);
      each_column = λ c l. omega (arith, column_more c l, e_low c, h.each_column c l);
      same = omega (arith, lowered_total d d2 i li d_low, lowered_total e e2 j lj e_low, h.same);
      rows_done = rd;
      columns_done = cd;
      few = omega (arith, few_more, q);
      row_here = a;
      column_here = b;
    }

    done_next : (xs ys : List ℕ) (k : ℕ) → ((r : ℕ) → at ys r + cond (eqb k r) s.both 0 ≡ at xs r) → at xs k ≡ s.both → ((r : ℕ) → r < k → at xs r ≡ 0) → (r : ℕ) → r < k + 1 → at ys r ≡ 0
    done_next xs ys k q z f r l = grind (arith, nat_tests, q r, z, f r)

    pub IsCorner-row : done ≡ true → IsCorner padding2 d2 e2 (i + 1) j
    IsCorner-row q = moved (i + 1) j (done_next d d2 i d_low (s.yes q) h.rows_done) (λ c l. omega (arith, e_low c, h.columns_done c l)) (omega arith) (omega arith) h.column_here

    pub IsCorner-column : done ≡ false → IsCorner padding2 d2 e2 i (j + 1)
    IsCorner-column q = moved i (j + 1) (λ r l. omega (arith, d_low r, h.rows_done r l)) (done_next e e2 j e_low (s.no q) h.columns_done) (omega arith) h.row_here (omega arith)

  all_zero : (f g : ℕ → ℕ) → total_below n f ≡ total_below n g → ((r : ℕ) → r < n → f r ≡ 0) → (c : ℕ) → c < n → g c ≡ 0
  all_zero f g e z c l = let t = total_below-term n g c l in let s = total_below-none n f z in omega (arith, t, s, e)

  -- where one side is done, so is the other
  pub IsPadding-end : (padding d e : List ℕ) (i j : ℕ) → IsCorner padding d e i j → (n ≤ i) ⊎ (n ≤ j) → IsPadding n rows columns padding
  IsPadding-end padding d e i j h q = record {
    size = h.size;
    each_row = λ r l. let z = (zeros q).0 r l in omega (arith, h.each_row r l, z);
    each_column = λ c l. let z = (zeros q).1 c l in omega (arith, h.each_column c l, z);
    few = omega (arith, h.few, h.row_here, h.column_here);
  }
    where
      zeros : (n ≤ i) ⊎ (n ≤ j) → ((r : ℕ) → r < n → at d r ≡ 0) × ((c : ℕ) → c < n → at e c ≡ 0)
      zeros (inl a) = let z : (r : ℕ) → r < n → at d r ≡ 0 = λ r l. h.rows_done r (omega arith) in (z, all_zero (λ r. at d r) (λ c. at e c) h.same z)
      zeros (inr a) = let z : (c : ℕ) → c < n → at e c ≡ 0 = λ c l. h.columns_done c (omega arith) in (all_zero (λ c. at e c) (λ r. at d r) (sym h.same) z, z)

  pub IsCorner-start : (padding : List ℕ) → length padding ≡ n * n → ((k : ℕ) → at padding k ≡ 0) → stocks padding ≡ 0
      → length rows ≡ n → length columns ≡ n → total_below n (λ r. at rows r) ≡ total_below n (λ c. at columns c) → IsCorner padding rows columns 0 0
  IsCorner-start padding size z none rs cs same = record {
    size = size;
    row_size = rs;
    column_size = cs;
    each_row = λ r l. omega (arith, total_below-none n (λ c. cell_at n padding r c) (λ c lc. z (r * n + c)));
    each_column = λ c l. omega (arith, total_below-none n (λ r. cell_at n padding r c) (λ r lr. z (r * n + c)));
    same = same;
    rows_done = λ r l. absurd (omega arith);
    columns_done = λ c l. absurd (omega arith);
    few = omega (arith, none);
    row_here = omega arith;
    column_here = omega arith;
  }

pub IsSpreading-start : (n : ℕ) (m : Matrix) (row : ℕ) (old : List ℕ) → IsSpreading n m row old old 0
IsSpreading-start n m row old = record { size = refl; cells = λ c l. absurd (omega arith); others = λ r c a b q. refl; few = omega arith }

pub IsSpreadRow-end : (n : ℕ) (m : Matrix) (row : ℕ) (old now : List ℕ) → IsSpreading n m row old now m.columns → IsSpreadRow n m row old now
IsSpreadRow-end n m row old now h = record { size = h.size; cells = h.cells; others = h.others; few = h.few }

pub IsSpreadBelow-start : (n : ℕ) (m : Matrix) (xs : List ℕ) → length xs ≡ n * n → ((k : ℕ) → at xs k ≡ 0) → stocks xs ≡ 0 → IsSpreadBelow n m xs 0
IsSpreadBelow-start n m xs size z none = record { size = size; cells = λ r c l lc. absurd (omega arith); outside = λ r c lr lc q. z (r * n + c); few = omega (arith, none) }

pub IsSpread-end : (n : ℕ) (m : Matrix) (xs : List ℕ) → IsSpreadBelow n m xs m.rows → IsSpread n m xs
IsSpread-end n m xs h = record { size = h.size; cells = h.cells; outside = h.outside; few = h.few }

pub corner-small : (n : ℕ) (rows columns padding d e : List ℕ) (i j : ℕ)
    → IsCorner n rows columns padding d e i j → i < n → j < n → ((r : ℕ) → r < n → at rows r ≤ greatest_sum) → cell_at n padding i j + at d i ≤ greatest_sum
corner-small n rows columns padding d e i j h li lj low = let t = total_below-term n (λ c. cell_at n padding i c) j lj in omega (arith, t, h.each_row i li, low i li)

pub IsSpreading-read : (n : ℕ) (m : Matrix) (row : ℕ) (old now : List ℕ) (k : ℕ) → length old ≡ n * n → row < m.rows → m.rows ≤ n → m.columns ≤ n → k < m.columns
    → IsMatrix m → IsSpreading n m row old now k → (q v : ℕ) (z : ℤ) → q ≡ row * n + k → v ≡ nat_abs z → z ≡ cell m row k → IsSpreading n m row old (set now q v) (k + 1)
IsSpreading-read n m row old now k size lr a b lk h s q v z eq ev ez =
    subst (λ x. IsSpreading n m row old (set now x v) (k + 1)) (sym eq)
    (IsSpreading-next n m row old now k size (omega arith) (omega arith) s v (ap pos (ev ∙ ap nat_abs ez) ∙ cell-abs m row k h lr lk))

-- all of it
pub IsFilled-made : (m : Matrix) (s : Square) (g : ℕ) (d e : List ℕ) → s.size ≤ MOST_JOBS → IsSpread s.size m s.given.items
    → IsGreatest s.size s.given.items g → IsLacking s.size s.given.items g d e → IsPadding s.size d e s.padding.items → IsFilled m s g
IsFilled-made m s g d e small spread greatest l p = record {
  square = record { small = small; given = spread.size; padding = p.size };
  spread = spread;
  greatest = greatest;
  balanced = record {
    rows = λ r lr. total_below-add s.size (λ c. cell_at s.size s.given.items r c) (λ c. cell_at s.size s.padding.items r c)
        ∙ ap (λ k. row_total s.size s.given.items r + k) (p.each_row r lr) ∙ l.each_row r lr;
    columns = λ c lc. total_below-add s.size (λ r. cell_at s.size s.given.items r c) (λ r. cell_at s.size s.padding.items r c)
        ∙ ap (λ k. column_total s.size s.given.items c + k) (p.each_column c lc) ∙ l.each_column c lc;
  };
  few = omega (arith, spread.few, p.few);
}

-- what a line lacks is small
pub IsLacking-small : (n : ℕ) (given : List ℕ) (g : ℕ) (d e : List ℕ) → IsGreatest n given g → IsLacking n given g d e → (r : ℕ) → r < n → at d r ≤ greatest_sum
IsLacking-small n given g d e b l r lr = omega (arith, b.low, l.each_row r lr)

-- the greatest sum of a line of the square is that of the matrix
module _ (m : Matrix) (n : ℕ) (given : List ℕ) (g : ℕ) (a : m.rows ≤ n) (b : m.columns ≤ n) (some : 1 ≤ m.rows) (s : IsSpread n m given) (h : IsGreatest n given g) where
  zero_line : g ≡ 0 → ((r : ℕ) × (r < m.rows) × (row_sum m r ≡ pos g)) ⊎ ((c : ℕ) × (c < m.columns) × (column_sum m c ≡ pos g))
  zero_line e = inl (0, omega arith, omega (arith, ints, row-is n m given a b s 0 (omega arith), h.rows 0 (omega arith), e))

  line_of : (l : ℕ) → l < n → (row_total n given l ≡ g) ⊎ (column_total n given l ≡ g) → ((r : ℕ) × (r < m.rows) × (row_sum m r ≡ pos g)) ⊎ ((c : ℕ) × (c < m.columns) × (column_sum m c ≡ pos g))
  line_of l ll (inl e) = elim (less_or_not l m.rows) [
    | inl q ↦ inl (l, q, row-is n m given a b s l q ∙ ap pos e)
    | inr q ↦ zero_line (sym e ∙ row-none n m given a b s l q ll)
  ]
  line_of l ll (inr e) = elim (less_or_not l m.columns) [
    | inl q ↦ inr (l, q, column-is n m given a b s l q ∙ ap pos e)
    | inr q ↦ zero_line (sym e ∙ column-none n m given a b s l q ll)
  ]

  pub IsGreatestSum-square : IsGreatestSum m (pos g)
  IsGreatestSum-square = record {
    rows = λ r l. omega (arith, ints, row-is n m given a b s r l, h.rows r (omega (arith, l, a)));
    columns = λ c l. omega (arith, ints, column-is n m given a b s c l, h.columns c (omega (arith, l, b)));
    line = elim h.line [
      | inl e ↦ zero_line e
      | inr w ↦ line_of w.0 w.1 w.2
    ];
  }
