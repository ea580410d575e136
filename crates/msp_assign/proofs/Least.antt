-- Prices show that an assignment is least.
use Rattle.std.proofs.Common.{◌≡◌, ℕ, zero, suc, ◌+◌, ◌*◌, ◌/◌, ◌%◌, ◌<◌, ◌≤◌, inl, inr, ℤ, pos, neg_ℤ, ◌+ℤ◌, ◌≤ℤ◌, nat_abs, List, [], true, eqb, length, Contains, count_by}
use Rattle.std.proofs.Common.{sum_by, sym, ap, subst, subst₂, ◌∙◌, arith, refl}
use Rattle.std.proofs.Math.Nat.{div-add-mod, mod-lt}
use Rattle.std.proofs.lemmas.Int.{ints}
use Rattle.std.proofs.lemmas.List.{get_or_default}
use Rattle.std.proofs.lemmas.List.Elements.{All-get_or}
use Rattle.msp_class.specs.Sums.{total_below, int_total_below}
use Rattle.msp_class.proofs.Sums.{total_below-mono, int_total_below-same, int_total_below-mono, int_total_below-add, sum_by_counts}
use Rattle.msp_class.proofs.Sums.{sum_by-distinct_test, count-from_contains, sum_by-places}
use Rattle.msp_class.proofs.IntegerRing.{≤ℤ_of_same}
use Rattle.msp_assign.specs.Passing.{at}
use Rattle.msp_assign.specs.declared.assignment.Assignment.{Assignment}
use Rattle.msp_assign.specs.declared.column.Column.{Column}
use Rattle.msp_assign.specs.Prices.{IsAssigned, IsPriced, IsLeast, HasFreeColumn, column_of, price_at, cost_of, price_of}
use Rattle.msp_assign.specs.Search.{HasCharges, sizes, IsRowPrices}
use Rattle.msp_assign.specs.Given.{IsGiven}
use Rattle.msp_assign.specs.View.{no_column, column_at, number_at, seen, AreNumbers, AreColumnPrices, IsPlacement}
use Rattle.msp_assign.proofs.Lists.{Contains-at, at-Contains}
use Rattle.msp_assign.proofs.Bounds.{sizes-is}
use Rattle.msp_assign.proofs.Views.{number-inside, number-once, line-inside}
use Rattle.msp_assign.proofs.Placements.{Rises, some_places}

int_total_below-negative : (n : ℕ) (f : ℕ → ℕ) → int_total_below n (λ i. neg_ℤ (pos (f i))) ≡ neg_ℤ (pos (total_below n f))
int_total_below-negative zero f = refl
int_total_below-negative (suc n) f = omega (arith, ints, int_total_below-negative n f)

module _ (rows columns : ℕ) (cost : ℕ → ℕ → ℤ) (a : Assignment) (own : IsAssigned rows columns a.column) (h : IsPriced rows columns cost a) where
  -- how far a column's price is below 0
  fall : ℕ → ℕ
  fall c = nat_abs (price_at a.column_price c)

  fall_is : (c : ℕ) → c < columns → price_at a.column_price c ≡ neg_ℤ (pos (fall c))
  unfolding fall
  fall_is c l = omega (arith, ints, h.low c l)

  rows_price : ℤ
  rows_price = int_total_below rows (price_at a.row_price)

  -- the prices of an assignment's columns together
  prices_of : (other : List ℕ) → IsAssigned rows columns other → int_total_below rows (λ r. price_at a.column_price (column_of other r)) ≡ neg_ℤ (pos (sum_by fall other))
  prices_of other o =
      int_total_below-same rows (λ r. price_at a.column_price (column_of other r))
      (λ r. neg_ℤ (pos (fall (column_of other r)))) (λ r l. fall_is (column_of other r) (o.inside r 0 (omega (arith, o.all))))
      ∙ int_total_below-negative rows (λ r. fall (column_of other r))
      ∙ ap (λ n. neg_ℤ (pos n)) (ap (λ n. total_below n (λ r. fall (column_of other r))) (sym o.all) ∙ sym (sum_by-places fall other 0))

  both : (other : List ℕ) → IsAssigned rows columns other
      → int_total_below rows (λ r. price_at a.row_price r +ℤ price_at a.column_price (column_of other r)) ≡ rows_price +ℤ neg_ℤ (pos (sum_by fall other))
  unfolding rows_price
  both other o = int_total_below-add rows (price_at a.row_price) (λ r. price_at a.column_price (column_of other r)) ∙ ap (λ x. int_total_below rows (price_at a.row_price) +ℤ x) (prices_of other o)

  price_is : price_of rows columns a ≡ rows_price +ℤ neg_ℤ (pos (total_below columns fall))
  unfolding rows_price
  price_is = ap (λ x. int_total_below rows (price_at a.row_price) +ℤ x)
      (int_total_below-same columns (price_at a.column_price) (λ c. neg_ℤ (pos (fall c))) fall_is ∙ int_total_below-negative columns fall)

  -- columns of one's own are at most all columns
  at_most_all : (other : List ℕ) → IsAssigned rows columns other → sum_by fall other ≤ total_below columns fall
  at_most_all other o = sum_by-distinct_test fall (λ _. true) columns other o.inside o.apart (λ k d l. refl)

  -- and a column that no row has is not priced
  priced_once : (c n : ℕ) → c < columns → (n ≡ 0 → ¬ Contains a.column c) → fall c ≤ fall c * n
  unfolding fall
  priced_once c zero l u = let v = h.unused c l (u refl) in omega (arith, ap nat_abs v)
  priced_once c (suc n) l u = grind arith

  none_left : total_below columns fall ≤ sum_by fall a.column
  none_left = omega (arith, sum_by_counts fall columns a.column own.inside, total_below-mono columns fall (λ c. fall c * count_by (λ x. eqb x c) a.column) each)
    where
      each : (c : ℕ) → c < columns → fall c ≤ fall c * count_by (λ x. eqb x c) a.column
      each c l = priced_once c (count_by (λ x. eqb x c) a.column) l (λ e m. omega (arith, e, count-from_contains a.column c m))

  pub total_is : cost_of rows cost a.column ≡ price_of rows columns a
  total_is =
      int_total_below-same rows (λ r. cost r (column_of a.column r)) (λ r. price_at a.row_price r +ℤ price_at a.column_price (column_of a.column r)) (λ r l. sym (h.exact r l))
      ∙ both a.column own ∙ ap (λ n. rows_price +ℤ neg_ℤ (pos n))
      (let same : sum_by fall a.column ≡ total_below columns fall = omega (arith, at_most_all a.column own, none_left) in same) ∙ sym price_is

  pub IsLeast-from_prices : IsLeast rows columns cost a.column
  IsLeast-from_prices other o =
      let pays = int_total_below-mono rows (λ r. price_at a.row_price r +ℤ price_at a.column_price (column_of other r))
      (λ r. cost r (column_of other r)) (λ r l. h.at_most r (column_of other r) l (o.inside r 0 (omega (arith, o.all)))) in
      omega (arith, ints, total_is, price_is, at_most_all other o, both other o, pays)

-- ---- columns in view where each row pays least there
module _ (rows count lines long : ℕ) (cost : ℕ → ℕ → ℤ)
    (columns : List Column) (falls used : List ℕ) (a : Assignment) (whole : lines * long ≡ count) (some : 1 ≤ long) (costs : HasCharges rows count cost)
    (rise : Rises lines long cost) (h : IsPlacement rows lines long cost columns falls used) (numbers : AreNumbers long columns used a.column)
    (row_prices : IsRowPrices (sizes (seen cost long columns)) falls used a.row_price) (column_prices : AreColumnPrices count long columns falls a.column_price) where
  place_inside : (k : ℕ) → k < length columns → ((column_at columns k).line < lines) × ((column_at columns k).place < long)
  place_inside k l = All-get_or (λ c. (c.line < lines) × (c.place < long)) columns k no_column l h.view.inside

  number_inside : (k : ℕ) → k < length columns → number_at long columns k < count
  number_inside k l = let i = place_inside k l in omega (arith, number-inside lines long (column_at columns k) i.0 i.1, whole)

  own_inside : (r : ℕ) → r < rows → at used r < length columns
  own_inside r l = h.placed.inside r 0 (omega (arith, l, h.all))

  same_number : (j k : ℕ) → j < length columns → k < length columns → number_at long columns j ≡ number_at long columns k → j ≡ k
  same_number j k lj lk e = let s = number-once long (column_at columns j) (column_at columns k) (place_inside j lj).1 (place_inside k lk).1 e in h.view.once j k lj lk s.0 s.1

  -- the price of a column in view, and of one that is not
  price_seen : (k : ℕ) → k < length columns → price_at a.column_price (number_at long columns k) ≡ neg_ℤ (pos (at falls k))
  price_seen k l = elim (column_prices.each (number_at long columns k) (number_inside k l)) [
    | inl w ↦ w.3 ∙ ap (λ j. neg_ℤ (pos (at falls j))) (same_number w.0 k w.1 l w.2)
    | inr w ↦ absurd (w.0 k l refl)
  ]

  price_low : (c : ℕ) → c < count → price_at a.column_price c ≤ℤ pos 0
  price_low c l = elim (column_prices.each c l) [
    | inl w ↦ below (at falls w.0) _ w.3
    | inr w ↦ ≤ℤ_of_same w.1
  ]
    where
      below : (f : ℕ) (v : ℤ) → v ≡ neg_ℤ (pos f) → v ≤ℤ pos 0
      below f v e = omega (arith, ints)

  pub IsAssigned-placement : IsAssigned rows count a.column
  IsAssigned-placement = record {
    all = numbers.size ∙ h.all;
    inside = λ r d l.
        let lr : r < rows = omega (arith, l, numbers.size, h.all) in
        omega (arith, get_or_default a.column r d 0 l, numbers.each r (omega (arith, lr, h.all)), number_inside (at used r) (own_inside r lr));
    apart = λ q r d l m e.
        let lr : r < rows = omega (arith, m, numbers.size, h.all) in
        let lq : q < rows = omega (arith, l, lr) in
        let same : number_at long columns (at used q) ≡ number_at long columns (at used r) =
        sym (numbers.each q (omega (arith, lq, h.all))) ∙ sym (get_or_default a.column q d 0 (omega (arith, l, m))) ∙ e ∙ get_or_default a.column r d 0 m ∙ numbers.each r (omega (arith, lr, h.all))
        in
        h.placed.apart q r 0 l (omega (arith, lr, h.all)) (same_number (at used q) (at used r) (own_inside q lq) (own_inside r lr) same);
  }

  -- what the row pays, and how far its column has fallen
  row_price : (r : ℕ) → r < rows → price_at a.row_price r ≡ pos (sizes cost r (number_at long columns (at used r)) + at falls (at used r))
  row_price r l = row_prices.each r (omega (arith, l, h.all))

  at_seen : (r k : ℕ) → r < rows → k < length columns → sizes cost r (number_at long columns (at used r)) + at falls (at used r) ≤ sizes cost r (number_at long columns k) + at falls k
  at_seen r k l m = (h.placed.cheapest r (omega (arith, l, h.all))).cheapest k m

  size_is : (r k : ℕ) → r < rows → k < length columns → pos (sizes cost r (number_at long columns k)) ≡ cost r (number_at long columns k)
  size_is r k l m = sizes-is rows count cost costs r (number_at long columns k) l (number_inside k m)

  -- a column of the line that stands no later and has not fallen makes a later one serve with price 0
  at_most_behind : (r k c : ℕ) → r < rows → k < length columns
      → c < count → at falls k ≡ 0 → cost r (number_at long columns k) ≤ℤ cost r c → (price_at a.row_price r +ℤ price_at a.column_price c) ≤ℤ cost r c
  at_most_behind r k c l m b f d = by _ (at falls k) (sizes cost r (number_at long columns k)) _ _ _ _ (row_price r l) (at_seen r k l m) f (size_is r k l m) d (price_low c b)
    where
      by : (w z s : ℕ) (u v x y : ℤ) → u ≡ pos w → w ≤ s + z → z ≡ 0 → pos s ≡ x → x ≤ℤ y → v ≤ℤ pos 0 → (u +ℤ v) ≤ℤ y
      by w z s u v x y e g f is d n = omega (arith, ints)

  at_most_here : (r k : ℕ) → r < rows → k < length columns → (price_at a.row_price r +ℤ price_at a.column_price (number_at long columns k)) ≤ℤ cost r (number_at long columns k)
  at_most_here r k l m = by _ (at falls k) (sizes cost r (number_at long columns k)) _ _ _ (row_price r l) (price_seen k m) (size_is r k l m) (at_seen r k l m)
    where
      by : (w f s : ℕ) (u v k : ℤ) → u ≡ pos w → v ≡ neg_ℤ (pos f) → pos s ≡ k → w ≤ s + f → (u +ℤ v) ≤ℤ k
      by w f s u v k eu ev es l = omega (arith, ints)

  at_most : (r c : ℕ) → r < rows → c < count → (price_at a.row_price r +ℤ price_at a.column_price c) ≤ℤ cost r c
  at_most r c l m =
      let inside : c < lines * long = omega (arith, m, whole) in
      let w = h.view.ahead (c / long) (c % long) (line-inside lines long c inside) (mod-lt c some) in
      let parts : (c / long) * long + c % long ≡ c = omega (arith, div-add-mod c long) in
      let start : number_at long columns w.0 ≡ (c / long) * long + (column_at columns w.0).place = ap (λ x. x * long + (column_at columns w.0).place) w.2 in
      elim w.4 [
        | inl e ↦ subst (λ x. (price_at a.row_price r +ℤ price_at a.column_price x) ≤ℤ cost r x) (start ∙ ap (λ x. (c / long) * long + x) e ∙ parts) (at_most_here r w.0 l w.1)
        | inr n ↦ at_most_behind r w.0 c l w.1 m (h.placed.unused w.0 w.1 n)
            (subst₂ (λ x y. cost r x ≤ℤ cost r y) (sym start) parts (rise r (c / long) (column_at columns w.0).place (c % long) (line-inside lines long c inside) w.3 (mod-lt c some)))
      ]

  pub IsPriced-placement : IsPriced rows count cost a
  IsPriced-placement = record {
    row_prices = row_prices.size ∙ h.all;
    column_prices = column_prices.size;
    at_most = at_most;
    exact = λ r l.
        let own : column_of a.column r ≡ number_at long columns (at used r) = numbers.each r (omega (arith, l, h.all)) in
        subst (λ x. price_at a.row_price r +ℤ price_at a.column_price x ≡ cost r x) (sym own)
        (exact (sizes cost r (number_at long columns (at used r))) (at falls (at used r)) _ _ _ (row_price r l) (price_seen (at used r) (own_inside r l)) (size_is r (at used r) l (own_inside r l)));
    low = price_low;
    unused = λ c l n. elim (column_prices.each c l) [
      | inr w ↦ w.1
      | inl w ↦ w.3 ∙ ap (λ x. neg_ℤ (pos x)) (h.placed.unused w.0 w.1 (λ m. n (taken c w.0 m w.2)))
    ];
  }
    where
      exact : (s f : ℕ) (u v k : ℤ) → u ≡ pos (s + f) → v ≡ neg_ℤ (pos f) → pos s ≡ k → u +ℤ v ≡ k
      exact s f u v k eu ev es = omega (arith, ints)

      taken : (c k : ℕ) → Contains used k → number_at long columns k ≡ c → Contains a.column c
      taken c k m e =
          let w = at-Contains used k m in
          Contains-at a.column w.0 c (omega (arith, w.1, numbers.size)) (numbers.each w.0 w.1 ∙ ap (number_at long columns) w.2 ∙ e)

  pub HasFreeColumn-placement : HasFreeColumn count a
  HasFreeColumn-placement = (number_at long columns h.zero.0, number_inside h.zero.0 h.zero.1, price_seen h.zero.0 h.zero.1 ∙ ap (λ x. neg_ℤ (pos x)) h.zero.2)

-- as the code has it
pub IsGiven-read : (rows count lines lines2 long long2 : ℕ) (cost : ℕ → ℕ → ℤ) (columns columns2 : List Column) (falls falls2 used used2 : List ℕ) (a : Assignment)
    → lines * long ≡ count → 1 ≤ rows → rows ≤ count → HasCharges rows count cost → Rises lines long cost
    → lines2 ≡ lines → long2 ≡ long → columns2 ≡ columns → falls2 ≡ falls → used2 ≡ used → IsPlacement rows lines long cost columns falls used → AreNumbers long2 columns2 used2 a.column
    → IsRowPrices (sizes (seen cost long columns2)) falls2 used2 a.row_price → AreColumnPrices (lines2 * long2) long2 columns2 falls2 a.column_price → IsGiven rows count cost a
IsGiven-read rows count lines lines2 long long2 cost columns columns2 falls falls2 used used2 a whole one enough costs rise el eg ec ef eu h n r c =
    let some = (some_places rows lines long count whole one enough).1 in
    let n2 = rw (eg, ec, eu) at n in
    let r2 = rw (ec, ef, eu) at r in
    let c2 = rw (el, eg, ec, ef, whole) at c in
    record {
      assigned = IsAssigned-placement rows count lines long cost columns falls used a whole some costs rise h n2 r2 c2;
      priced = IsPriced-placement rows count lines long cost columns falls used a whole some costs rise h n2 r2 c2;
      zero = HasFreeColumn-placement rows count lines long cost columns falls used a whole some costs rise h n2 r2 c2;
    }
