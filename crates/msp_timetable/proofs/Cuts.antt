-- A slice is taken off the square, row after row.
use Rattle.std.proofs.Common.{◌≡◌, ◌≢◌, ℕ, ◌+◌, ◌-◌, ◌*◌, ◌<◌, ◌≤◌, inl, inr, refl, List, true, false, ltb, length, set, cond, sym, ap, subst, ◌∙◌, arith}
use Rattle.std.proofs.lemmas.Bool.{eq-eqb, ne_eqb, lt-ltb, le-ltb}
use Rattle.std.proofs.lemmas.Bool.Decides.{nat_tests}
use Rattle.msp_assign.specs.Passing.{at}
use Rattle.msp_timetable.specs.declared.square.Square.{Square}
use Rattle.msp_timetable.specs.Square.{cell_at, stocks, used, used_at, given_share, padding_share, IsSquare, IsPermuted, IsTaken, IsCut}
use Rattle.msp_timetable.proofs.Places.{cell-same, cell-other, stocks-set}

-- one list of stocks: some rows have lost their shares, and the next one
module _ (n : ℕ) (column : List ℕ) (p : IsPermuted n column) (base now next : List ℕ) (share : ℕ → ℕ → ℕ) (k : ℕ) (lk : k < n) (size : length now ≡ n * n)
    (none : (c : ℕ) → c ≢ at column k → share k c ≡ 0)
    (h : (r c : ℕ) → r < n → c < n → cell_at n now r c + cond (ltb r k) (share r c) 0 ≡ cell_at n base r c) where
  -- the row is as it was
  pub row-now : (c : ℕ) → c < n → cell_at n now k c ≡ cell_at n base k c
  row-now c l = omega (arith, h k c lk l, ap (λ b. cond b (share k c) 0) (le-ltb k k (omega arith)))

  module _ (v : ℕ) (taken : v + share k (at column k) ≡ cell_at n base k (at column k)) (e : next ≡ set now (k * n + at column k) v) where
    lj : at column k < n
    lj = p.inside k lk

    pub rows-set : (r c : ℕ) → r < n → c < n → cell_at n next r c + cond (ltb r (k + 1)) (share r c) 0 ≡ cell_at n base r c
    rows-set r c lr lc = rw e
        (grind (arith, nat_tests, h r c lr lc, row-now c lc, none c, taken, cell-same n now k (at column k) v size lk lj, cell-other n now k (at column k) v size lk lj r c lc))

  module _ (e : next ≡ now) (nothing : share k (at column k) ≡ 0) where
    pub rows-kept : (r c : ℕ) → r < n → c < n → cell_at n next r c + cond (ltb r (k + 1)) (share r c) 0 ≡ cell_at n base r c
    rows-kept r c lr lc = rw e (grind (arith, nat_tests, h r c lr lc, row-now c lc, none c, nothing))

module _ (s : Square) (column : List ℕ) (d low : ℕ) where
  -- the rows before k have lost their shares
  pub record IsCutting (now : Square) (k : ℕ) : Type 0 where
    pub square : IsSquare now
    pub size : now.size ≡ s.size
    pub given : (r c : ℕ) → r < s.size → c < s.size → cell_at s.size now.given.items r c + cond (ltb r k) (given_share s column d r c) 0 ≡ cell_at s.size s.given.items r c
    pub padding : (r c : ℕ) → r < s.size → c < s.size → cell_at s.size now.padding.items r c + cond (ltb r k) (padding_share s column d r c) 0 ≡ cell_at s.size s.padding.items r c
    pub fewer : stocks now.given.items + stocks now.padding.items + cond (ltb low k) 1 0 ≤ stocks s.given.items + stocks s.padding.items

module _ (s : Square) (column : List ℕ) (p : IsPermuted s.size column) (d low : ℕ) where
  given_none : (k c : ℕ) → c ≢ at column k → given_share s column d k c ≡ 0
  given_none k c h = ap (λ b. cond b (cond (ltb 0 (cell_at s.size s.given.items k c)) d 0) 0) (ne_eqb (at column k) c (λ q. h (sym q)))

  padding_none : (k c : ℕ) → c ≢ at column k → padding_share s column d k c ≡ 0
  padding_none k c h = ap (λ b. cond b (cond (ltb 0 (cell_at s.size s.given.items k c)) 0 d) 0) (ne_eqb (at column k) c (λ q. h (sym q)))

  given_here : (k : ℕ) → given_share s column d k (at column k) ≡ cond (ltb 0 (cell_at s.size s.given.items k (at column k))) d 0
  given_here k = ap (λ b. cond b (cond (ltb 0 (cell_at s.size s.given.items k (at column k))) d 0) 0) (eq-eqb (at column k) (at column k) refl)

  padding_here : (k : ℕ) → padding_share s column d k (at column k) ≡ cond (ltb 0 (cell_at s.size s.given.items k (at column k))) 0 d
  padding_here k = ap (λ b. cond b (cond (ltb 0 (cell_at s.size s.given.items k (at column k))) 0 d) 0) (eq-eqb (at column k) (at column k) refl)

  module _ (now : Square) (k : ℕ) (lk : k < s.size) (h : IsCutting s column d low now k) where
    given_size : length now.given.items ≡ s.size * s.size
    given_size = subst (λ m. length now.given.items ≡ m * m) h.size h.square.given

    padding_size : length now.padding.items ≡ s.size * s.size
    padding_size = subst (λ m. length now.padding.items ≡ m * m) h.size h.square.padding

    now_given : cell_at s.size now.given.items k (at column k) ≡ cell_at s.size s.given.items k (at column k)
    now_given = row-now s.size column p s.given.items now.given.items now.given.items (given_share s column d) k lk given_size (given_none k) h.given (at column k) (p.inside k lk)

    now_padding : cell_at s.size now.padding.items k (at column k) ≡ cell_at s.size s.padding.items k (at column k)
    now_padding = row-now s.size column p s.padding.items now.padding.items now.padding.items (padding_share s column d) k lk padding_size (padding_none k) h.padding (at column k) (p.inside k lk)

    -- what the row has in use is as it was
    pub used-now : used (cell_at now.size now.given.items k (at column k)) (cell_at now.size now.padding.items k (at column k)) ≡ used_at s column k
    used-now = subst (λ m. used (cell_at m now.given.items k (at column k)) (cell_at m now.padding.items k (at column k)) ≡ used_at s column k) (sym h.size)
        (ap (λ x. used x (cell_at s.size now.padding.items k (at column k))) now_given ∙ ap (used (cell_at s.size s.given.items k (at column k))) now_padding)

    -- the count, where one of the two lists lost a share
    count-next : (xs ys : List ℕ) (c t : ℕ) → length xs ≡ s.size * s.size → 0 < cell_at s.size xs k (at column k) → (low ≡ k → cell_at s.size xs k (at column k) ≡ d)
        → ys ≡ set xs (k * s.size + at column k) (cell_at s.size xs k (at column k) - d)
        → stocks xs + c + cond (ltb low k) 1 0 ≤ t → stocks ys + c + cond (ltb low (k + 1)) 1 0 ≤ t
    count-next xs ys c t size some tight e h =
        rw e (grind (arith, nat_tests, stocks-set s.size xs k (at column k) (cell_at s.size xs k (at column k) - d) size lk (p.inside k lk), some, tight, h))

    module _ (next : Square) (positive : 0 < d) (enough : d ≤ used_at s column k) (tight : low ≡ k → used_at s column k ≡ d) (t : IsTaken now next k (at column k) d) where
      from_given : 0 < cell_at s.size now.given.items k (at column k) → next.given.items ≡ set now.given.items (k * s.size + at column k) (cell_at s.size now.given.items k (at column k) - d)
          → next.padding.items ≡ now.padding.items → IsCutting s column d low next (k + 1)
      from_given w e f =
          let yes : ltb 0 (cell_at s.size s.given.items k (at column k)) ≡ true = lt-ltb 0 (cell_at s.size s.given.items k (at column k)) (omega (arith, now_given)) in
          let is : used_at s column k ≡ cell_at s.size s.given.items k (at column k) =
          ap (λ v. cond v (cell_at s.size s.given.items k (at column k)) (cell_at s.size s.padding.items k (at column k))) yes in
          let here : given_share s column d k (at column k) ≡ d = given_here k ∙ ap (λ v. cond v d 0) yes in
          let v = cell_at s.size now.given.items k (at column k) - d in
          let more = count-next now.given.items next.given.items (stocks now.padding.items)
          (stocks s.given.items + stocks s.padding.items) given_size w (λ q. omega (arith, tight q, is, now_given)) e h.fewer in
          record {
            square = t.square;
            size = t.size ∙ h.size;
            given = rows-set s.size column p s.given.items now.given.items next.given.items
                (given_share s column d) k lk given_size (given_none k) h.given v (omega (arith, now_given, here, is, enough)) e;
            padding = rows-kept s.size column p s.padding.items now.padding.items next.padding.items
                (padding_share s column d) k lk padding_size (padding_none k) h.padding f (padding_here k ∙ ap (λ x. cond x 0 d) yes);
            fewer = omega (arith, more, ap stocks f);
          }

      from_padding : cell_at s.size now.given.items k (at column k) ≡ 0 → next.given.items ≡ now.given.items
          → next.padding.items ≡ set now.padding.items (k * s.size + at column k) (cell_at s.size now.padding.items k (at column k) - d) → IsCutting s column d low next (k + 1)
      from_padding w f e =
          let no : ltb 0 (cell_at s.size s.given.items k (at column k)) ≡ false = le-ltb 0 (cell_at s.size s.given.items k (at column k)) (omega (arith, now_given)) in
          let is : used_at s column k ≡ cell_at s.size s.padding.items k (at column k) =
          ap (λ v. cond v (cell_at s.size s.given.items k (at column k)) (cell_at s.size s.padding.items k (at column k))) no in
          let here : padding_share s column d k (at column k) ≡ d = padding_here k ∙ ap (λ v. cond v 0 d) no in
          let v = cell_at s.size now.padding.items k (at column k) - d in
          let more = count-next now.padding.items next.padding.items (stocks now.given.items)
          (stocks s.given.items + stocks s.padding.items) padding_size (omega (arith, now_padding, is, enough, positive))
          (λ q. omega (arith, tight q, is, now_padding)) e (omega (arith, h.fewer)) in
          record {
            square = t.square;
            size = t.size ∙ h.size;
            given = rows-kept s.size column p s.given.items now.given.items next.given.items (given_share s column d) k lk given_size (given_none k) h.given f (given_here k ∙ ap (λ x. cond x d 0) no);
            padding = rows-set s.size column p s.padding.items now.padding.items next.padding.items
                (padding_share s column d) k lk padding_size (padding_none k) h.padding v (omega (arith, now_padding, here, is, enough)) e;
            fewer = omega (arith, more, ap stocks f);
          }

      -- the next row
      pub IsCutting-next : IsCutting s column d low next (k + 1)
      IsCutting-next = elim t.change [
        | inl w ↦ from_given (subst (λ m. 0 < cell_at m now.given.items k (at column k)) h.size w.0)
            (subst (λ m. next.given.items ≡ set now.given.items (k * m + at column k) (cell_at m now.given.items k (at column k) - d)) h.size w.1) w.2
        | inr w ↦ from_padding (subst (λ m. cell_at m now.given.items k (at column k) ≡ 0) h.size w.0) w.1
            (subst (λ m. next.padding.items ≡ set now.padding.items (k * m + at column k) (cell_at m now.padding.items k (at column k) - d)) h.size w.2)
      ]

  pub IsCutting-start : IsSquare s → IsCutting s column d low s 0
  IsCutting-start q = record {
    square = q;
    size = refl;
    given = λ r c lr lc. omega (arith, ap (λ b. cond b (given_share s column d r c) 0) (le-ltb r 0 (omega arith)));
    padding = λ r c lr lc. omega (arith, ap (λ b. cond b (padding_share s column d r c) 0) (le-ltb r 0 (omega arith)));
    fewer = let z : 0 + cond (ltb low 0) 1 0 ≡ 0 + 0 = ap (λ m. 0 + cond m 1 0) (le-ltb low 0 (omega arith)) in omega (arith, z);
  }

  pub IsCut-end : (now : Square) → low < s.size → IsCutting s column d low now s.size → IsCut s now column d
  IsCut-end now l h = record {
    square = h.square;
    size = h.size;
    given = λ r c lr lc. omega (arith, h.given r c lr lc, ap (λ b. cond b (given_share s column d r c) 0) (lt-ltb r s.size lr));
    padding = λ r c lr lc. omega (arith, h.padding r c lr lc, ap (λ b. cond b (padding_share s column d r c) 0) (lt-ltb r s.size lr));
    fewer = let z : 0 + cond (ltb low s.size) 1 0 ≡ 0 + 1 = ap (λ m. 0 + cond m 1 0) (lt-ltb low s.size l) in omega (arith, h.fewer, z);
  }
