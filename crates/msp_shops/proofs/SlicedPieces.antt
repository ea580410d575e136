-- Slices laid one after another: what their pieces are, that they fit together, and how long each row has each column.
use Rattle.std.proofs.Common.{◌≡◌, ◌≢◌, ℕ, zero, suc, ◌+◌, ◌*◌, ◌<◌, ◌≤◌, ◌⊎◌, inl, inr, Bool, true, false, cond, eqb, ltb, List, [], ◌∷◌, ◌++◌, length, length-append, get_or}
use Rattle.std.proofs.Common.{drop, map, filter, All, AllPairs, ℤ, pos, ◌+ℤ◌, ◌≤ℤ◌, ◌<ℤ◌, refl, sym, ap, ap₂, subst, ◌∙◌, arith}
use Rattle.std.specs.Prelude.{◌==◌, ◌&&◌}
use Rattle.std.proofs.lemmas.Bool.{cond_both, cases_lt, ltb-true, ltb-false, eq-eqb, ne_eqb, and_right}
use Rattle.std.proofs.lemmas.Int.{ints}
use Rattle.std.proofs.lemmas.List.{map-append, drop_more}
use Rattle.std.proofs.lemmas.List.Elements.{All-nil, All-cons, All-append, All-head, All-tail, All-drop, filter-append}
use Rattle.msp_class.proofs.IntegerRing.{+ℤ_idl}
use Rattle.msp_pieces.specs.declared.Piece.{Piece}
use Rattle.msp_pieces.specs.Piece.{length_of, IsApart}
use Rattle.msp_pieces.specs.Feasible.{total as sum}
use Rattle.msp_pieces.proofs.changes.Moves.{total-cons}
use Rattle.msp_pieces.proofs.feasible.Series.{AllPairs-append}
use Rattle.msp_timetable.specs.declared.matrix.Slice.{Slice}
use Rattle.msp_timetable.specs.Split.{column_of, total, time_at, greatest_sum, IsSlice}
use Rattle.msp_shops.specs.Sliced.{row_piece, row_part, row_parts, laid}

-- ---- lists
sum-append : (xs ys : List ℤ) → sum (xs ++ ys) ≡ sum xs +ℤ sum ys
sum-append [] ys = sym (+ℤ_idl (sum ys))
sum-append (x ∷ xs) ys = omega (arith, ints, total-cons x (xs ++ ys), total-cons x xs, sum-append xs ys)

pub pairs_nil : {X : Type 0} (R : X → X → Type 0) → AllPairs R []
pairs_nil R a b d l m = absurd (omega (arith, m))

pub pairs_one : {X : Type 0} (R : X → X → Type 0) (x : X) → AllPairs R (x ∷ [])
pairs_one R x a b d l m = absurd (omega (arith, l, m))

and_true : (a b : Bool) → b ≡ true → (a && b) ≡ a
and_true true b e = e
and_true false b e = refl

-- how long an operation has among some pieces
abbrev pub among : ℕ → ℕ → List Piece → ℤ
among j o ps = sum (map length_of (filter (λ p. (p.job == j) && (p.op == o)) ps))

pub among-append : (j o : ℕ) (ps qs : List Piece) → among j o (ps ++ qs) ≡ among j o ps +ℤ among j o qs
among-append j o ps qs =
    ap (λ l. sum (map length_of l)) (filter-append (λ p. (p.job == j) && (p.op == o)) ps qs)
    ∙ ap sum (map-append length_of (filter (λ p. (p.job == j) && (p.op == o)) ps) (filter (λ p. (p.job == j) && (p.op == o)) qs))
    ∙ sum-append (map length_of (filter (λ p. (p.job == j) && (p.op == o)) ps)) (map length_of (filter (λ p. (p.job == j) && (p.op == o)) qs))

-- pieces of different machines and different jobs
abbrev pub Differ : Piece → Piece → Type 0
Differ p q = (p.machine ≢ q.machine) × (p.job ≢ q.job)

-- ---- one slice
module _ (columns : ℕ) (moment : ℤ) (s : Slice) where
  record IsRowPiece (p : Piece) : Type 0 where
    pub machine : p.machine ≡ p.op
    pub column : p.job ≡ column_of s p.op
    pub job : p.job < columns
    pub from : p.from ≡ moment
    pub to : p.to ≡ moment +ℤ s.length

  part_is : (n : ℕ) → All (λ p. (p.op ≡ n) × IsRowPiece p) (row_part columns moment s n)
  part_is n = cond_both (ltb (column_of s n) columns) (row_piece moment s n ∷ []) [] (All (λ p. (p.op ≡ n) × IsRowPiece p)) (λ e. All-cons (λ p. (p.op ≡ n) × IsRowPiece p) (row_piece moment s n)
      [] (refl, record { machine = refl; column = refl; job = ltb-true _ _ e; from = refl; to = refl }) (All-nil (λ p. (p.op ≡ n) × IsRowPiece p))) (λ _. All-nil (λ p. (p.op ≡ n) × IsRowPiece p))

  part_few : (n : ℕ) → length (row_part columns moment s n) ≤ 1
  part_few n = cond_both (ltb (column_of s n) columns) (row_piece moment s n ∷ []) [] (λ ps. length ps ≤ 1) (λ _. omega arith) (λ _. omega arith)

  part_pairs : (R : Piece → Piece → Type 0) (n : ℕ) → AllPairs R (row_part columns moment s n)
  part_pairs R n a b d l m = absurd (omega (arith, l, m, part_few n))

  differ : (rows q r : ℕ) → IsSlice rows columns s → q < r → r < rows → (x y : Piece) → (x.op ≡ q) × IsRowPiece x → (y.op ≡ r) × IsRowPiece y → Differ x y
  differ rows q r w below inside x y (is, h) (same, g) = (
    λ z. absurd (omega (arith, z, h.machine, g.machine, below, is, same)),
    λ z. absurd (omega (arith, h.job, h.column ∙ ap (column_of s) is, w.apart q r below inside (sym (ap (column_of s) is) ∙ sym h.column ∙ z ∙ g.column ∙ ap (column_of s) same))),
  )

  module _ (c r : ℕ) (inside : c < columns) where
    part_other : (n : ℕ) → n ≢ r → among c r (row_part columns moment s n) ≡ pos 0
    part_other n other = cond_both (ltb (column_of s n) columns) (row_piece moment s n ∷ []) [] (λ ps. among c r ps ≡ pos 0)
        (λ _. ap (λ v. sum (map length_of (cond v (row_piece moment s n ∷ []) []))) (and_right (column_of s n == c) (n == r) (ne_eqb n r other))) (λ _. refl)

    part_same : among c r (row_part columns moment s r) ≡ time_at r c s
    part_same = cond_both (ltb (column_of s r) columns) (row_piece moment s r ∷ []) [] (λ ps. among c r ps ≡ time_at r c s)
        (λ _. ap (λ v. sum (map length_of (cond v (row_piece moment s r ∷ []) []))) (and_true (column_of s r == c) (r == r) (eq-eqb r r refl)) ∙ whole (eqb (column_of s r) c))
        (λ e. sym (ap (λ v. cond v s.length (pos 0)) (ne_eqb (column_of s r) c (λ z. omega (arith, ltb-false _ _ e, z, inside)))))
      where
        whole : (v : Bool) → sum (map length_of (cond v (row_piece moment s r ∷ []) [])) ≡ cond v s.length (pos 0)
        whole true = omega (arith, ints)
        whole false = refl

-- ---- all slices
pub lengths_from : (slices : List Slice) → All (λ s. pos 1 ≤ℤ s.length) slices → pos 0 ≤ℤ total (λ s. s.length) slices
lengths_from [] h = omega (arith, ints)
lengths_from (s ∷ rest) h = omega (arith, ints, All-head (λ x. pos 1 ≤ℤ x.length) s rest h, lengths_from rest (All-tail (λ x. pos 1 ≤ℤ x.length) s rest h))

-- a slice is short, where it and those after it end in time
pub slice_fits : (slices : List Slice) (k : ℕ) (x d : Slice) (end : ℤ) → k < length slices → x ≡ get_or slices k d
    → All (λ s. pos 1 ≤ℤ s.length) slices → (end +ℤ total (λ s. s.length) (drop k slices)) ≤ℤ pos greatest_sum → (end +ℤ x.length) ≤ℤ pos greatest_sum
slice_fits slices k x d end l e lasts h =
    let parts : drop k slices ≡ x ∷ drop (k + 1) slices = drop_more slices k d l ∙ ap (λ y. y ∷ drop (k + 1) slices) (sym e) in
    let rest : pos 0 ≤ℤ total (λ s. s.length) (drop (k + 1) slices) = lengths_from (drop (k + 1) slices) (All-drop (λ s. pos 1 ≤ℤ s.length) (k + 1) slices lasts) in
    omega (arith, ints, h, ap (total (λ s. s.length)) parts, rest)

pub lasts_at : (slices : List Slice) (k : ℕ) (x d : Slice) → k < length slices → x ≡ get_or slices k d → All (λ s. pos 1 ≤ℤ s.length) slices → pos 1 ≤ℤ x.length
lasts_at slices k x d l e h = let P : Slice → Type 0 = λ s. pos 1 ≤ℤ s.length in subst P (sym e) (h k d l)

-- what is left after a slice
pub slice_rest : (slices : List Slice) (k : ℕ) (x d : Slice) (end : ℤ) (g : ℤ) → k < length slices
    → x ≡ get_or slices k d → (end +ℤ total (λ s. s.length) (drop k slices)) ≤ℤ g → ((end +ℤ x.length) +ℤ total (λ s. s.length) (drop (k + 1) slices)) ≤ℤ g
slice_rest slices k x d end g l e h =
    let parts : drop k slices ≡ x ∷ drop (k + 1) slices = drop_more slices k d l ∙ ap (λ y. y ∷ drop (k + 1) slices) (sym e) in
    omega (arith, ints, h, ap (total (λ s. s.length)) parts)

module _ (rows columns : ℕ) where
  not_negative : (r c : ℕ) (s : Slice) → pos 1 ≤ℤ s.length → pos 0 ≤ℤ time_at r c s
  not_negative r c s l = cond_both (eqb (column_of s r) c) s.length (pos 0) (λ x. pos 0 ≤ℤ x) (λ _. omega (arith, ints, l)) (λ _. omega (arith, ints))

  none_negative : (r c : ℕ) (slices : List Slice) → All (IsSlice rows columns) slices → pos 0 ≤ℤ total (time_at r c) slices
  none_negative r c [] h = omega (arith, ints)
  none_negative r c (s ∷ rest) h = omega (arith, ints, not_negative r c s (All-head (IsSlice rows columns) s rest h).lasts, none_negative r c rest (All-tail (IsSlice rows columns) s rest h))

  -- a piece of slices between two moments
  pub record IsLaidPiece (slices : List Slice) (first last : ℤ) (p : Piece) : Type 0 where
    pub row : p.op < rows
    pub machine : p.machine ≡ p.op
    pub job : p.job < columns
    pub from : first ≤ℤ p.from
    pub lasts : p.from <ℤ p.to
    pub to : p.to ≤ℤ last
    pub uses : pos 1 ≤ℤ total (time_at p.op p.job) slices

  abbrev last_of : ℤ → List Slice → ℤ
  last_of moment slices = moment +ℤ total (λ s. s.length) slices

  -- two pieces run at different times, or on different machines for different jobs
  abbrev pub Parted : Piece → Piece → Type 0
  Parted p q = IsApart p q ⊎ Differ p q

  -- ---- one row
  row_pieces : (r : ℕ) → r < rows → (moment : ℤ) (slices : List Slice)
      → All (IsSlice rows columns) slices → All (λ p. (p.op ≡ r) × IsLaidPiece slices moment (last_of moment slices) p) (row_parts columns moment r slices)
  row_pieces r inside moment [] h = All-nil (λ p. (p.op ≡ r) × IsLaidPiece [] moment (moment +ℤ pos 0) p)
  row_pieces r inside moment (s ∷ rest) h =
      All-append (λ p. (p.op ≡ r) × IsLaidPiece (s ∷ rest) moment (last_of moment (s ∷ rest)) p) (row_part columns moment s r) (row_parts columns (moment +ℤ s.length) r rest)
      (λ k d l. here _ (part_is columns moment s r k d l))
      (λ k d l. later _ (row_pieces r inside (moment +ℤ s.length) rest others k d l))
    where
      one : IsSlice rows columns s
      one = All-head (IsSlice rows columns) s rest h

      others : All (IsSlice rows columns) rest
      others = All-tail (IsSlice rows columns) s rest h

      here : (p : Piece) → (p.op ≡ r) × IsRowPiece columns moment s p → (p.op ≡ r) × IsLaidPiece (s ∷ rest) moment (last_of moment (s ∷ rest)) p
      here p (e, g) = (
        e,
        record {
          row = omega (arith, e, inside);
          machine = g.machine;
          job = g.job;
          from = omega (arith, ints, g.from);
          lasts = omega (arith, ints, g.from, g.to, one.lasts);
          to = omega (arith, ints, g.to, lengths_from rest (λ k d l. (others k d l).lasts));
          uses = omega (arith, ints, ap (λ v. cond v s.length (pos 0)) (eq-eqb (column_of s p.op) p.job (sym g.column)), one.lasts, none_negative p.op p.job rest others);
        },
      )

      later : (p : Piece) → (p.op ≡ r) × IsLaidPiece rest (moment +ℤ s.length) (last_of (moment +ℤ s.length) rest) p → (p.op ≡ r) × IsLaidPiece (s ∷ rest) moment (last_of moment (s ∷ rest)) p
      later p (e, g) = (
        e,
        record {
          row = g.row;
          machine = g.machine;
          job = g.job;
          from = omega (arith, ints, g.from, one.lasts);
          lasts = g.lasts;
          to = omega (arith, ints, g.to);
          uses = omega (arith, ints, g.uses, not_negative p.op p.job s one.lasts);
        },
      )

  before : (moment : ℤ) (s : Slice) (rest : List Slice) (p q : Piece) → IsRowPiece columns moment s p → IsLaidPiece rest (moment +ℤ s.length) (last_of (moment +ℤ s.length) rest) q → p.to ≤ℤ q.from
  before moment s rest p q g f = omega (arith, ints, g.to, f.from)

  row_apart : (r : ℕ) → r < rows → (moment : ℤ) (slices : List Slice) → All (IsSlice rows columns) slices → AllPairs Parted (row_parts columns moment r slices)
  row_apart r inside moment [] h = pairs_nil Parted
  row_apart r inside moment (s ∷ rest) h =
      let others = All-tail (IsSlice rows columns) s rest h in
      AllPairs-append Parted (row_part columns moment s r) (row_parts columns (moment +ℤ s.length) r rest) (part_pairs columns moment s Parted r) (row_apart r inside (moment +ℤ s.length) rest others)
      (λ k d l a e m. inl (inl (before moment s rest _ _ (part_is columns moment s r k d l).1 (row_pieces r inside (moment +ℤ s.length) rest others a e m).1)))

  -- ---- two rows
  cross : (q r : ℕ) → q < r → r < rows → (moment : ℤ) (slices : List Slice)
      → All (IsSlice rows columns) slices → All (λ x. All (Parted x) (row_parts columns moment r slices)) (row_parts columns moment q slices)
  cross q r below inside moment [] h = All-nil (λ x. All (Parted x) [])
  cross q r below inside moment (s ∷ rest) h = All-append (λ x. All (Parted x) (row_parts columns moment r (s ∷ rest))) (row_part columns moment s q) (row_parts columns next q rest)
      (λ k d l. here _ (part_is columns moment s q k d l))
      (λ k d l. later _ (row_pieces q (omega (arith, below, inside)) next rest others k d l).1 (cross q r below inside next rest others k d l))
    where
      next : ℤ
      next = moment +ℤ s.length

      others : All (IsSlice rows columns) rest
      others = All-tail (IsSlice rows columns) s rest h

      here : (x : Piece) → (x.op ≡ q) × IsRowPiece columns moment s x → All (Parted x) (row_parts columns moment r (s ∷ rest))
      here x f = All-append (Parted x) (row_part columns moment s r) (row_parts columns next r rest)
          (λ a e m. inr (differ columns moment s rows q r (All-head (IsSlice rows columns) s rest h) below inside x _ f (part_is columns moment s r a e m)))
          (λ a e m. inl (inl (before moment s rest x _ f.1 (row_pieces r inside next rest others a e m).1)))

      later : (x : Piece) → IsLaidPiece rest next (last_of next rest) x → All (Parted x) (row_parts columns next r rest) → All (Parted x) (row_parts columns moment r (s ∷ rest))
      later x f parted = All-append (Parted x) (row_part columns moment s r) (row_parts columns next r rest)
          (λ a e m. inl (inr (before moment s rest _ x (part_is columns moment s r a e m).1 f)))
          parted

  -- ---- all rows
  module _ (slices : List Slice) (h : All (IsSlice rows columns) slices) where
    laid_pieces : (n : ℕ) → n ≤ rows → All (IsLaidPiece slices (pos 0) (last_of (pos 0) slices)) (laid columns slices n)
    laid_pieces zero l = All-nil (IsLaidPiece slices (pos 0) (last_of (pos 0) slices))
    laid_pieces (suc n) l = All-append (IsLaidPiece slices (pos 0) (last_of (pos 0) slices)) (laid columns slices n) (row_parts columns (pos 0) n slices) (laid_pieces n (omega (arith, l)))
        (λ k d m. (row_pieces n (omega (arith, l)) (pos 0) slices h k d m).1)

    across : (n r : ℕ) → n ≤ r → r < rows → All (λ x. All (Parted x) (row_parts columns (pos 0) r slices)) (laid columns slices n)
    across zero r l m = All-nil (λ x. All (Parted x) (row_parts columns (pos 0) r slices))
    across (suc n) r l m = All-append (λ x. All (Parted x) (row_parts columns (pos 0) r slices))
        (laid columns slices n) (row_parts columns (pos 0) n slices) (across n r (omega (arith, l)) m) (cross n r (omega (arith, l)) m (pos 0) slices h)

    laid_apart : (n : ℕ) → n ≤ rows → AllPairs Parted (laid columns slices n)
    laid_apart zero l = pairs_nil Parted
    laid_apart (suc n) l = AllPairs-append Parted (laid columns slices n) (row_parts columns (pos 0) n slices)
        (laid_apart n (omega (arith, l))) (row_apart n (omega (arith, l)) (pos 0) slices h) (across n n (omega arith) (omega (arith, l)))

    laid_few : (n : ℕ) → length (laid columns slices n) ≤ length slices * n
    laid_few zero = omega arith
    laid_few (suc n) = omega (arith, length-append (laid columns slices n) (row_parts columns (pos 0) n slices), laid_few n, row_few n (pos 0) slices)
      where
        row_few : (r : ℕ) (moment : ℤ) (slices : List Slice) → length (row_parts columns moment r slices) ≤ length slices
        row_few r moment [] = omega arith
        row_few r moment (s ∷ rest) = omega
            (arith, length-append (row_part columns moment s r) (row_parts columns (moment +ℤ s.length) r rest), part_few columns moment s r, row_few r (moment +ℤ s.length) rest)

  -- each row has each column as long as the slices say
  row_work : (c r : ℕ) → c < columns → (moment : ℤ) (slices : List Slice) → among c r (row_parts columns moment r slices) ≡ total (time_at r c) slices
  row_work c r inside moment [] = refl
  row_work c r inside moment (s ∷ rest) = among-append c r (row_part columns moment s r) (row_parts columns (moment +ℤ s.length) r rest)
      ∙ ap₂ ◌+ℤ◌ (part_same columns moment s c r inside) (row_work c r inside (moment +ℤ s.length) rest)

  other_work : (c r n : ℕ) → c < columns → n ≢ r → (moment : ℤ) (slices : List Slice) → among c r (row_parts columns moment n slices) ≡ pos 0
  other_work c r n inside other moment [] = refl
  other_work c r n inside other moment (s ∷ rest) = among-append c r (row_part columns moment s n) (row_parts columns (moment +ℤ s.length) n rest)
      ∙ ap₂ ◌+ℤ◌ (part_other columns moment s c r inside n other) (other_work c r n inside other (moment +ℤ s.length) rest)

  work_before : (c r n : ℕ) → c < columns → n ≤ r → (slices : List Slice) → among c r (laid columns slices n) ≡ pos 0
  work_before c r zero inside l slices = refl
  work_before c r (suc n) inside l slices = among-append c r (laid columns slices n) (row_parts columns (pos 0) n slices)
      ∙ ap₂ ◌+ℤ◌ (work_before c r n inside (omega (arith, l)) slices) (other_work c r n inside (λ z. omega (arith, l, z)) (pos 0) slices)

  laid_work : (c r n : ℕ) → c < columns → r < n → (slices : List Slice) → among c r (laid columns slices n) ≡ total (time_at r c) slices
  laid_work c r zero inside l slices = absurd (omega (arith, l))
  laid_work c r (suc n) inside l slices = among-append c r (laid columns slices n) (row_parts columns (pos 0) n slices) ∙ elim (cases_lt r n) [
    | inl m ↦ omega (arith, ints, laid_work c r n inside m slices, other_work c r n inside (λ z. omega (arith, m, z)) (pos 0) slices)
    | inr m ↦
        let z : n ≡ r = omega (arith, l, m) in
        omega (arith, ints, work_before c r n inside m slices, ap (λ k. among c r (row_parts columns (pos 0) k slices)) z, row_work c r inside (pos 0) slices)
  ]

  -- what is said of the pieces of slices, and holds too where they are joined
  pub record AreLaid (slices : List Slice) (pieces : List Piece) : Type 0 where
    pub each : All (IsLaidPiece slices (pos 0) (last_of (pos 0) slices)) pieces
    pub apart : AllPairs Parted pieces
    pub work : (c r : ℕ) → c < columns → r < rows → among c r pieces ≡ total (time_at r c) slices
    pub few : length pieces ≤ length slices * rows

  pub AreLaid-parts : (slices : List Slice) → All (IsSlice rows columns) slices → AreLaid slices (laid columns slices rows)
  AreLaid-parts slices h = record {
    each = laid_pieces slices h rows (omega arith);
    apart = laid_apart slices h rows (omega arith);
    work = λ c r inside row. laid_work c r rows inside row slices;
    few = laid_few slices h rows;
  }
