-- Row after row gets a column, while columns come into view.
use Rattle.std.proofs.Common.{◌≡◌, ℕ, zero, ◌+◌, ◌*◌, ◌<◌, ◌≤◌, ℤ, ◌≤ℤ◌, List, [], length, replicate, Contains, sym, subst, arith}
use Rattle.msp_assign.specs.declared.column.Column.{Column}
use Rattle.msp_assign.specs.Search.{HasCharges, sizes, HasUnfallen, IsPlaced, IsOneMore}
use Rattle.msp_assign.specs.View.{seen, AreFirst, IsView, IsWidened, IsPlacement}
use Rattle.msp_assign.proofs.Views.{IsView-first, IsView-next, IsPlaced-next, HasUnfallen-next, longer-next, HasCharges-read, some_free}
use Rattle.msp_assign.proofs.Squares.{IsPlaced-start}

-- that costs rise along lines
abbrev pub Rises : ℕ → ℕ → (ℕ → ℕ → ℤ) → Type 0
Rises lines long cost = (r l j k : ℕ) → l < lines → j ≤ k → k < long → cost r (l * long + j) ≤ℤ cost r (l * long + k)

-- the rows so far have columns in view; there are no more of these than lines and rows
pub record IsPlacing (rows lines long : ℕ) (cost : ℕ → ℕ → ℤ) (columns : List Column) (falls used : List ℕ) : Type 0 where
  pub placed : IsPlaced (sizes (seen cost long columns)) (length columns) falls used
  pub view : IsView lines long columns used
  pub at_most : length used ≤ rows
  pub few : length columns ≤ lines + length used
  pub zero : HasUnfallen (length columns) falls

factor : (m n : ℕ) → 1 ≤ m * n → 1 ≤ n
factor m n h = grind arith

other_factor : (m n : ℕ) → 1 ≤ m * n → 1 ≤ m
other_factor m n h = grind arith

-- a table with rows has lines and places
pub some_places : (rows lines long columns : ℕ) → lines * long ≡ columns → 1 ≤ rows → rows ≤ columns → (1 ≤ lines) × (1 ≤ long)
some_places rows lines long columns e a b = let h : 1 ≤ lines * long = omega (arith, a, b, e) in (other_factor lines long h, factor lines long h)

pub IsPlacing-start : (rows lines lines2 long count : ℕ) (cost : ℕ → ℕ → ℤ) (columns : List Column) (k : ℕ) (falls used : List ℕ)
    → lines * long ≡ count → lines2 ≡ lines → k ≡ length columns → falls ≡ replicate k 0 → used ≡ [] → 1 ≤ rows → rows ≤ count
    → AreFirst lines2 columns → IsPlacing rows lines long cost columns falls used
IsPlacing-start rows lines lines2 long count cost columns k falls used whole el ek ef eu some enough first =
    let places = some_places rows lines long count whole some enough in
    let first2 = rw el at first in
    let placed = IsPlaced-start (sizes (seen cost long columns)) (length columns) falls k ek ef in
    let inside : 0 < length columns = omega (arith, places.0, first2.count) in
    subst (IsPlacing rows lines long cost columns falls) (sym eu) (record {
      placed = placed;
      view = IsView-first lines long columns first2 places.1;
      at_most = omega (arith, some);
      few = omega (arith, first2.count);
      zero = (0, inside, placed.unused 0 inside (λ m. omega (arith, m.1)));
    })

module _ (rows lines long count : ℕ) (cost : ℕ → ℕ → ℤ) (columns : List Column)
    (falls used : List ℕ) (whole : lines * long ≡ count) (costs : HasCharges rows count cost) (h : IsPlacing rows lines long cost columns falls used) where
  pub HasCharges-placing : (columns2 : List Column) → columns2 ≡ columns → HasCharges rows (length columns2) (seen cost long columns2)
  HasCharges-placing columns2 e = HasCharges-read rows count lines long cost columns columns2 whole e costs h.view.inside

  pub free-placing : (columns2 : List Column) → columns2 ≡ columns → length used < rows → rows ≤ count → (k : ℕ) × (k < length columns2) × ¬ Contains used k
  free-placing columns2 e more enough =
      subst (λ x. (k : ℕ) × (k < length x) × ¬ Contains used k) (sym e)
      (some_free lines long columns used h.view (factor lines long (omega (arith, whole, more, enough))) (omega (arith, whole, more, enough)) h.placed.inside)

  pub IsPlacing-next : Rises lines long cost → length used < rows
      → (columns2 : List Column) (lowered lowered2 after : List ℕ) (f long2 : ℕ) (wide : List Column) (wide_falls : List ℕ) → columns2 ≡ columns → lowered2 ≡ lowered → long2 ≡ long
      → IsPlaced (sizes (seen cost long columns2)) (length columns2) lowered after
      → length after ≡ length used + 1 → IsOneMore (length columns2) used lowered after f → IsWidened long2 columns lowered2 f wide wide_falls
      → IsPlacing rows lines long cost wide wide_falls after
  IsPlacing-next rise more columns2 lowered lowered2 after f long2 wide wide_falls ec el eg p longer o w =
      let placed = rw ec at p in
      let one = rw ec at o in
      let wider = rw (eg, el) at w in
      record {
        placed = IsPlaced-next lines long columns used lowered after f h.view one rows cost (subst (λ x. HasCharges rows x cost) (sym whole) costs)
            rise placed (omega (arith, longer, more)) wide wide_falls wider;
        view = IsView-next lines long columns used lowered after f h.view one wide wide_falls placed.inside wider;
        at_most = omega (arith, longer, more);
        few = omega (arith, longer, h.few, (longer-next long columns lowered f wide wide_falls wider).1);
        zero = HasUnfallen-next long columns used lowered after f one placed.size wide wide_falls wider;
      }

pub IsPlacement-end : (rows rows2 lines long : ℕ) (cost : ℕ → ℕ → ℤ) (columns : List Column) (falls used : List ℕ)
    → rows2 ≡ rows → (length used < rows2 → ⊥) → IsPlacing rows lines long cost columns falls used → IsPlacement rows lines long cost columns falls used
IsPlacement-end rows rows2 lines long cost columns falls used e all h =
    record { all = omega (arith, e, all, h.at_most); placed = h.placed; view = h.view; few = omega (arith, h.few, h.at_most); zero = h.zero }
