-- Columns come into view along their lines.
use Rattle.std.proofs.Common.{◌≡◌, ◌≢◌, ℕ, ◌+◌, ◌*◌, ◌/◌, ◌%◌, ◌<◌, ◌≤◌, ◌⊎◌, inl, inr, refl, List, [], ◌∷◌, ◌++◌, length, map, ℤ, ◌≤ℤ◌, All, Contains}
use Rattle.std.proofs.Common.{sym, ap, subst, ◌∙◌, arith}
use Rattle.std.proofs.Math.Seq.{get_or-append_seam}
use Rattle.std.proofs.Math.Nat.{mul-le-mul_right, div-mul-le_self, div-add-mod, mod-lt}
use Rattle.std.proofs.lemmas.Int.{ints}
use Rattle.std.proofs.lemmas.List.{get_or_append_left, length-append, length-map, get_or-map}
use Rattle.std.proofs.lemmas.List.Elements.{All-append, All-cons, All-nil, All-from_get_or, All-get_or, Contains-append_left, Contains-push, Contains-push_cases}
use Rattle.std.proofs.lemmas.List.Sorted.{Contains-permutation, IsPermutation-sym}
use Rattle.msp_assign.specs.Passing.{at}
use Rattle.msp_class.proofs.Cases.{same_or_not, less_or_not}
use Rattle.msp_assign.specs.declared.column.Column.{Column}
use Rattle.msp_assign.specs.Search.{HasCharges, sizes, paid, HasUnfallen, IsPlaced, IsOneMore}
use Rattle.msp_assign.specs.View.{no_column, column_at, number_of, number_at, seen, AreInside, AreFirst, IsView, column_after, IsWidened}
use Rattle.msp_assign.proofs.Lists.{Contains-at, at-Contains}
use Rattle.msp_class.proofs.Quotients.{lesser_block, same_block}
use Rattle.msp_class.proofs.Sums.{missing}

-- ---- numbers of columns
pub number-inside : (lines long : ℕ) (c : Column) → c.line < lines → c.place < long → number_of long c < lines * long
number-inside lines long c a b = omega (arith, lesser_block long c.line lines c.place 0 b a)

pub line-inside : (lines long c : ℕ) → c < lines * long → c / long < lines
line-inside lines long c l = elim (less_or_not (c / long) lines) [
  | inl a ↦ a
  | inr a ↦ absurd (omega (arith, l, mul-le-mul_right long a, div-mul-le_self c long))
]

-- a number is that of one column alone
pub number-once : (long : ℕ) (c d : Column) → c.place < long → d.place < long → number_of long c ≡ number_of long d → (c.line ≡ d.line) × (c.place ≡ d.place)
number-once long c d a b e = same_block long c.line d.line c.place d.place a b e

-- ---- the first column of each line
module _ (lines long : ℕ) (columns : List Column) (h : AreFirst lines columns) (some : 1 ≤ long) where
  line_of : (k : ℕ) → k < length columns → ((column_at columns k).line ≡ k) × ((column_at columns k).place ≡ 0)
  line_of k l = h.each k (omega (arith, h.count))

  pub IsView-first : IsView lines long columns []
  IsView-first = record {
    inside = All-from_get_or (λ c. (c.line < lines) × (c.place < long)) columns no_column
        (λ k l. (omega (arith, (line_of k l).0, h.count), omega (arith, (line_of k l).1, some)));
    once = λ j k lj lk e p. sym (line_of j lj).0 ∙ e ∙ (line_of k lk).0;
    behind = λ j k lj lk e p. absurd (omega (arith, p, (line_of k lk).1));
    ahead = λ l k a b.
        let c = h.each l a in
        (l, omega (arith, h.count), c.0, omega (arith, c.1), inr (λ m. let w = at-Contains [] l m in omega (arith, w.1)));
  }

-- ---- the next column of a line
module _ (lines long : ℕ) (columns : List Column) (used falls after : List ℕ) (f : ℕ) (v : IsView lines long columns used) (o : IsOneMore (length columns) used falls after f) where
  kept : (c : ℕ) → Contains used c → Contains after c
  kept c m = Contains-permutation (used ++ f ∷ []) after c o.same (Contains-append_left used (f ∷ []) c m)

  taken : Contains after f
  taken = Contains-permutation (used ++ f ∷ []) after f o.same (Contains-push used f)

  unless : (c : ℕ) → Contains after c → Contains used c ⊎ (f ≡ c)
  unless c m = Contains-push_cases used f c (Contains-permutation after (used ++ f ∷ []) c (IsPermutation-sym (used ++ f ∷ []) after o.same) m)

  free_stays : (c : ℕ) → c ≢ f → ¬ Contains used c → ¬ Contains after c
  free_stays c n m k = elim (unless c k) [ inl x ↦ m x | inr x ↦ n (sym x) ]

  place_inside : (k : ℕ) → k < length columns → ((column_at columns k).line < lines) × ((column_at columns k).place < long)
  place_inside k l = All-get_or (λ c. (c.line < lines) × (c.place < long)) columns k no_column l v.inside

  -- a full line brings none
  IsView-full : long ≤ (column_after columns f).place → IsView lines long columns after
  IsView-full full = record {
    inside = v.inside;
    once = v.once;
    behind = λ j k lj lk e p. kept j (v.behind j k lj lk e p);
    ahead = λ l k a b. let w = v.ahead l k a b in (
      w.0,
      w.1,
      w.2,
      w.3,
      elim w.4 [
        | inl e ↦ inl e
        | inr n ↦ elim (same_or_not w.0 f) [
          | inl e ↦ inl (omega (arith, w.3, b, full, ap (λ x. (column_at columns x).place) e))
          | inr m ↦ inr (free_stays w.0 m n)
        ]
      ],
    );
  }

  -- the next one stands behind the taken one alone
  module _ (more : (column_after columns f).place < long) where
    abbrev wider : List Column
    wider = columns ++ column_after columns f ∷ []

    longer : length wider ≡ length columns + 1
    longer = length-append columns (column_after columns f ∷ [])

    abbrev IsOld : ℕ → Type 0
    IsOld k = (k < length columns) × ((column_at wider k).line ≡ (column_at columns k).line) × ((column_at wider k).place ≡ (column_at columns k).place)

    abbrev IsNew : ℕ → Type 0
    IsNew k = (k ≡ length columns) × ((column_at wider k).line ≡ (column_at columns f).line) × ((column_at wider k).place ≡ (column_at columns f).place + 1)

    old : (k : ℕ) → k < length columns → IsOld k
    old k l = let e : column_at wider k ≡ column_at columns k = get_or_append_left columns (column_after columns f ∷ []) no_column k l in
        (l, ap (λ (c : Column). c.line) e, ap (λ (c : Column). c.place) e)

    new : (k : ℕ) → k ≡ length columns → IsNew k
    new k e = let q : column_at wider k ≡ column_after columns f = ap (column_at wider) e ∙ get_or-append_seam columns (column_after columns f) [] no_column in
        (e, ap (λ (c : Column). c.line) q, ap (λ (c : Column). c.place) q)

    either : (k : ℕ) → k < length wider → IsOld k ⊎ IsNew k
    either k l = elim (same_or_not k (length columns)) [
      | inl e ↦ inr (new k e)
      | inr n ↦ inl (old k (omega (arith, longer)))
    ]

    -- no column in view stands after the taken one
    last : (k : ℕ) → k < length columns → (column_at columns k).line ≡ (column_at columns f).line → (column_at columns f).place < (column_at columns k).place → ⊥
    last k l e p = o.free_before (v.behind f k o.inside l (sym e) p)

    once : (j k : ℕ) → IsOld j ⊎ IsNew j → IsOld k ⊎ IsNew k → (column_at wider j).line ≡ (column_at wider k).line → (column_at wider j).place ≡ (column_at wider k).place → j ≡ k
    once j k (inl a) (inl b) e p = v.once j k a.0 b.0 (sym a.1 ∙ e ∙ b.1) (sym a.2 ∙ p ∙ b.2)
    once j k (inl a) (inr b) e p = absurd (last j a.0 (sym a.1 ∙ e ∙ b.1) (omega (arith, a.2, b.2, p)))
    once j k (inr a) (inl b) e p = absurd (last k b.0 (sym b.1 ∙ sym e ∙ a.1) (omega (arith, a.2, b.2, p)))
    once j k (inr a) (inr b) e p = a.0 ∙ sym b.0

    -- a column of the line of the taken one that stands no later is taken
    up_to : (j : ℕ) → j < length columns → (column_at columns j).line ≡ (column_at columns f).line → (column_at columns j).place < (column_at columns f).place + 1 → Contains after j
    up_to j l e p = elim (less_or_not (column_at columns j).place (column_at columns f).place) [
      | inl a ↦ kept j (v.behind j f l o.inside e a)
      | inr a ↦ subst (Contains after) (sym (v.once j f l o.inside e (omega (arith, a, p)))) taken
    ]

    behind : (j k : ℕ) → IsOld j ⊎ IsNew j → IsOld k ⊎ IsNew k → (column_at wider j).line ≡ (column_at wider k).line → (column_at wider j).place < (column_at wider k).place → Contains after j
    behind j k (inl a) (inl b) e p = kept j (v.behind j k a.0 b.0 (sym a.1 ∙ e ∙ b.1) (omega (arith, a.2, b.2, p)))
    behind j k (inl a) (inr b) e p = up_to j a.0 (sym a.1 ∙ e ∙ b.1) (omega (arith, a.2, b.2, p))
    behind j k (inr a) (inl b) e p = absurd (last k b.0 (sym b.1 ∙ sym e ∙ a.1) (omega (arith, a.2, b.2, p)))
    behind j k (inr a) (inr b) e p = absurd (omega (arith, a.2, b.2, p))

    -- what is ahead of a place of a line
    abbrev IsAhead : ℕ → ℕ → ℕ → Type 0
    IsAhead l k j = (j < length wider) × ((column_at wider j).line ≡ l) × ((column_at wider j).place ≤ k) × (((column_at wider j).place ≡ k) ⊎ ¬ Contains after j)

    old_ahead : (l k j : ℕ) → IsOld j → (column_at columns j).line ≡ l → (column_at columns j).place ≤ k → ((column_at columns j).place ≡ k) ⊎ ¬ Contains after j → IsAhead l k j
    old_ahead l k j a e p c = (omega (arith, a.0, longer), a.1 ∙ e, omega (arith, a.2, p), elim c [ inl x ↦ inl (a.2 ∙ x) | inr x ↦ inr x ])

    ahead : (inside : All (λ c. c < length columns) after) (l k : ℕ) → l < lines → k < long → (j : ℕ) × IsAhead l k j
    ahead inside l k a b =
        let w = v.ahead l k a b in
        elim w.4 [
          | inl e ↦ (w.0, old_ahead l k w.0 (old w.0 w.1) w.2 w.3 (inl e))
          | inr n ↦ elim (same_or_not w.0 f) [
            | inr m ↦ (w.0, old_ahead l k w.0 (old w.0 w.1) w.2 w.3 (inr (free_stays w.0 m n)))
            | inl e ↦ at_taken (subst (λ x. (column_at columns x).line ≡ l) e w.2) (subst (λ x. (column_at columns x).place ≤ k) e w.3)
          ]
        ]
      where
        fresh : ¬ Contains after (length columns)
        fresh m = let w = at-Contains after (length columns) m in omega (arith, w.2, inside w.0 0 w.1)

        at_taken : (column_at columns f).line ≡ l → (column_at columns f).place ≤ k → (j : ℕ) × IsAhead l k j
        at_taken e p = elim (less_or_not (column_at columns f).place k) [
          | inl q ↦ let a = new (length columns) refl in (length columns, (omega (arith, longer), a.1 ∙ e, omega (arith, a.2, q), inr fresh))
          | inr q ↦ (f, old_ahead l k f (old f o.inside) e p (inl (omega (arith, p, q))))
        ]

    IsView-wider : All (λ c. c < length columns) after → IsView lines long wider after
    IsView-wider inside = record {
      inside = All-append (λ c. (c.line < lines) × (c.place < long)) columns (column_after columns f ∷ []) v.inside
          (All-cons (λ c. (c.line < lines) × (c.place < long)) (column_after columns f) [] ((place_inside f o.inside).0, more) (All-nil (λ c. (c.line < lines) × (c.place < long))));
      once = λ j k lj lk. once j k (either j lj) (either k lk);
      behind = λ j k lj lk. behind j k (either j lj) (either k lk);
      ahead = λ l k a b. let w = ahead inside l k a b in (w.0, w.1.0, w.1.1, w.1.2, w.1.3);
    }

  pub IsView-next : (wide : List Column) (wide_falls : List ℕ) → All (λ c. c < length columns) after → IsWidened long columns falls f wide wide_falls → IsView lines long wide after
  IsView-next wide wide_falls inside (inl w) = subst (λ x. IsView lines long x after) (sym w.1) (IsView-wider w.0 inside)
  IsView-next wide wide_falls inside (inr w) = subst (λ x. IsView lines long x after) (sym w.1) (IsView-full w.0)

  -- each row pays at the next column no less than at the taken one, which has price 0
  module _ (rows : ℕ) (cost : ℕ → ℕ → ℤ) (costs : HasCharges rows (lines * long) cost)
      (rise : (r l j k : ℕ) → l < lines → j ≤ k → k < long → cost r (l * long + j) ≤ℤ cost r (l * long + k))
      (p : IsPlaced (sizes (seen cost long columns)) (length columns) falls after) (few : length after ≤ rows) (more : (column_after columns f).place < long) where
    abbrev wide : List Column
    wide = columns ++ column_after columns f ∷ []

    -- a column as it was
    number_old : (k : ℕ) → k < length columns → number_at long wide k ≡ number_at long columns k
    number_old k l = ap (number_of long) (get_or_append_left columns (column_after columns f ∷ []) no_column k l)

    number_new : number_at long wide (length columns) ≡ number_of long (column_after columns f)
    number_new = ap (number_of long) (get_or-append_seam columns (column_after columns f) [] no_column)

    fall_old : (k : ℕ) → k < length columns → at (falls ++ 0 ∷ []) k ≡ at falls k
    fall_old k l = get_or_append_left falls (0 ∷ []) 0 k (omega (arith, l, p.size))

    fall_new : at (falls ++ 0 ∷ []) (length columns) ≡ 0
    fall_new = ap (at (falls ++ 0 ∷ [])) (sym p.size) ∙ get_or-append_seam falls 0 [] 0

    paid_old : (r k : ℕ) → k < length columns → paid (sizes (seen cost long wide)) (falls ++ 0 ∷ []) r k ≡ paid (sizes (seen cost long columns)) falls r k
    paid_old r k l = omega (arith, ap (sizes cost r) (number_old k l), fall_old k l)

    dearer : (r : ℕ) → r < rows → sizes cost r (number_at long columns f) ≤ sizes cost r (number_of long (column_after columns f))
    dearer r l =
        let i = place_inside f o.inside in
        let some = costs r (number_at long columns f) l (number-inside lines long (column_at columns f) i.0 i.1) in
        let more = rise r (column_at columns f).line (column_at columns f).place ((column_at columns f).place + 1) i.0 (omega arith) more in
        omega (arith, ints, some.0, more)

    one_of : (c : ℕ) → c < length columns + 1 → (c < length columns) ⊎ (c ≡ length columns)
    one_of c l = elim (same_or_not c (length columns)) [ inl e ↦ inr e | inr n ↦ inl (omega arith) ]

    one_wider : length wide ≡ length columns + 1
    one_wider = length-append columns (column_after columns f ∷ [])

    own : (r : ℕ) → r < length after → at after r < length columns
    own r l = p.inside r 0 l

    cheapest : (r d : ℕ) → r < length after → (d < length columns) ⊎ (d ≡ length columns)
        → paid (sizes (seen cost long wide)) (falls ++ 0 ∷ []) r (at after r) ≤ paid (sizes (seen cost long wide)) (falls ++ 0 ∷ []) r d
    cheapest r d l (inl a) = omega (arith, paid_old r (at after r) (own r l), paid_old r d a, (p.cheapest r l).cheapest d a)
    cheapest r d l (inr e) = subst (λ x. paid (sizes (seen cost long wide)) (falls ++ 0 ∷ []) r (at after r) ≤ paid (sizes (seen cost long wide)) (falls ++ 0 ∷ []) r x) (sym e)
        (omega (arith, paid_old r (at after r) (own r l), ap (sizes cost r) number_new, fall_new, (p.cheapest r l).cheapest f o.inside, o.unfallen, dearer r (omega arith)))

    IsPlaced-wider : IsPlaced (sizes (seen cost long wide)) (length wide) (falls ++ 0 ∷ []) after
    IsPlaced-wider = record {
      size = omega (arith, length-append falls (0 ∷ []), p.size, one_wider);
      low = λ c l. elim (one_of c (omega (arith, l, one_wider))) [
        | inl a ↦ omega (arith, fall_old c a, p.low c a)
        | inr e ↦ omega (arith, ap (at (falls ++ 0 ∷ [])) e, fall_new)
      ];
      inside = λ r d l. omega (arith, p.inside r d l, one_wider);
      apart = p.apart;
      cheapest = λ r l. record { cheapest = λ d ld. cheapest r d l (one_of d (omega (arith, ld, one_wider))) };
      unused = λ c l n. elim (one_of c (omega (arith, l, one_wider))) [
        | inl a ↦ fall_old c a ∙ p.unused c a n
        | inr e ↦ ap (at (falls ++ 0 ∷ [])) e ∙ fall_new
      ];
    }

-- the prices of the columns in view after a row's step
pub IsPlaced-next : (lines long : ℕ) (columns : List Column) (used falls after : List ℕ) (f : ℕ)
    → IsView lines long columns used → IsOneMore (length columns) used falls after f → (rows : ℕ) (cost : ℕ → ℕ → ℤ) → HasCharges rows (lines * long) cost
    → ((r l j k : ℕ) → l < lines → j ≤ k → k < long → cost r (l * long + j) ≤ℤ cost r (l * long + k)) → IsPlaced (sizes (seen cost long columns)) (length columns) falls after → length after ≤ rows
    → (grown : List Column) (grown_falls : List ℕ) → IsWidened long columns falls f grown grown_falls → IsPlaced (sizes (seen cost long grown)) (length grown) grown_falls after
IsPlaced-next lines long columns used falls after f v o rows cost costs rise p few grown grown_falls (inl w) =
    rw (w.1, w.2) (IsPlaced-wider lines long columns used falls after f v o rows cost costs rise p few w.0)
IsPlaced-next lines long columns used falls after f v o rows cost costs rise p few grown grown_falls (inr w) = rw (w.1, w.2) p

-- the taken column has price 0
pub HasUnfallen-next : (long : ℕ) (columns : List Column) (used falls after : List ℕ) (f : ℕ) → IsOneMore (length columns) used falls after f → length falls ≡ length columns
    → (wide : List Column) (wide_falls : List ℕ) → IsWidened long columns falls f wide wide_falls → HasUnfallen (length wide) wide_falls
HasUnfallen-next long columns used falls after f o size wide wide_falls (inl w) = (
  f,
  omega (arith, ap length w.1, length-append columns (column_after columns f ∷ []), o.inside),
  ap (λ x. at x f) w.2 ∙ get_or_append_left falls (0 ∷ []) 0 f (omega (arith, size, o.inside)) ∙ o.unfallen,
)
HasUnfallen-next long columns used falls after f o size wide wide_falls (inr w) = (f, omega (arith, ap length w.1, o.inside), ap (λ x. at x f) w.2 ∙ o.unfallen)

pub longer-next : (long : ℕ) (columns : List Column) (falls : List ℕ) (f : ℕ) (wide : List Column) (wide_falls : List ℕ)
    → IsWidened long columns falls f wide wide_falls → (length columns ≤ length wide) × (length wide ≤ length columns + 1)
longer-next long columns falls f wide wide_falls (inl w) =
    (omega (arith, ap length w.1, length-append columns (column_after columns f ∷ [])), omega (arith, ap length w.1, length-append columns (column_after columns f ∷ [])))
longer-next long columns falls f wide wide_falls (inr w) = (omega (arith, ap length w.1), omega (arith, ap length w.1))

-- ---- the columns in view as a table
pub HasCharges-seen : (rows lines long : ℕ) (cost : ℕ → ℕ → ℤ) (columns : List Column)
    → HasCharges rows (lines * long) cost → AreInside lines long columns → HasCharges rows (length columns) (seen cost long columns)
HasCharges-seen rows lines long cost columns h inside r k lr lk =
    let i = All-get_or (λ c. (c.line < lines) × (c.place < long)) columns k no_column lk inside in
    h r (number_at long columns k) lr (number-inside lines long (column_at columns k) i.0 i.1)

pub HasCharges-read : (rows count lines long : ℕ) (cost : ℕ → ℕ → ℤ) (columns columns2 : List Column) → lines * long ≡ count
    → columns2 ≡ columns → HasCharges rows count cost → AreInside lines long columns → HasCharges rows (length columns2) (seen cost long columns2)
HasCharges-read rows count lines long cost columns columns2 whole e h inside =
    subst (λ x. HasCharges rows (length x) (seen cost long x)) (sym e) (HasCharges-seen rows lines long cost columns (subst (λ x. HasCharges rows x cost) (sym whole) h) inside)

-- while a row has no column, some column in view is free
module _ (lines long : ℕ) (columns : List Column)
    (used : List ℕ) (v : IsView lines long columns used) (some : 1 ≤ long) (few : length used < lines * long) (own : All (λ k. k < length columns) used) where
  abbrev numbers : List ℕ
  numbers = map (number_at long columns) used

  gap : (c : ℕ) × (c < lines * long) × ¬ Contains numbers c
  gap = missing (lines * long) numbers (omega (arith, few, length-map used (number_at long columns)))

  taken_number : (k : ℕ) → Contains used k → Contains numbers (number_at long columns k)
  taken_number k m = let w = at-Contains used k m in
      Contains-at (map (number_at long columns) used) w.0 (number_at long columns k) (omega (arith, w.1, length-map used (number_at long columns)))
      (get_or-map (number_at long columns) used w.0 0 0 w.1 ∙ ap (number_at long columns) w.2)

  pub some_free : (k : ℕ) × (k < length columns) × ¬ Contains used k
  some_free =
      let w = v.ahead (gap.0 / long) (gap.0 % long) (line-inside lines long gap.0 gap.1) (mod-lt gap.0 some) in (
        w.0,
        w.1,
        elim w.4 [
          | inr n ↦ n
          | inl e ↦ λ m. gap.2 (subst (Contains numbers) (same w.0 w.2 e) (taken_number w.0 m))
        ],
      )
    where
      same : (k : ℕ) → (column_at columns k).line ≡ gap.0 / long → (column_at columns k).place ≡ gap.0 % long → number_at long columns k ≡ gap.0
      same k e p = omega (arith, ap (λ x. x * long) e, p, div-add-mod gap.0 long)
