-- The prices of positions: their lines, and the prices that lines say.
use Rattle.std.proofs.Common.{◌≡◌, ℕ, zero, suc, ◌+◌, ◌-◌, ◌*◌, ◌/◌, ◌%◌, ◌^◌, ◌<◌, ◌≤◌, true, not, ◌==◌, nat_le, List, [], ◌∷◌, ◌++◌, length, replicate, None, Ok, ℤ, pos, negsuc, All}
use Rattle.std.proofs.Common.{bytes_eq, codes, refl, sym, ap, subst, ◌∙◌, append_assoc, append-nil, length-append, add-one, arith, eqb-true, ltb-true, leb-true, le-leb, decimal}
use Rattle.std.specs.Int.Signed.{◌≤ℤ◌}
use Rattle.std.specs.Prelude.{int_lt}
use Rattle.std.specs.Ordering.{int_eq}
use Rattle.std.specs.List.{AllByRecursion}
use Rattle.std.specs.Fmt.{signed_decimal}
use Rattle.std.proofs.lemmas.Int.{ints}
use Rattle.std.proofs.lemmas.List.{length-replicate, replicate_more}
use Rattle.std.proofs.lemmas.List.Elements.{All-head, All-tail, All-push, All-append, All-replicate}
use Rattle.std.proofs.Math.Nat.{mul-add-div_right, div-eq_of_lt, mul-add-mod_self_right, mod-eq_of_lt, mod-lt, div-lt_iff_lt-mul, div-add-mod, mul-le-mul_right, mul_comm}
use Rattle.msp_grammar.specs.declared.lines.fault.FileFault.TheVariants.{Count, Limit, Again}
use Rattle.msp_grammar.specs.declared.lines.fault.What.TheVariants as what
use Rattle.msp_cert.specs.declared.limits.TheConstants.{GREATEST_PRICE}
use Rattle.msp_cert_text.specs.declared.kinds.TheConstants.{MOST_LINES}
use Rattle.msp_grammar.specs.InstanceText.{where_wanted}
use Rattle.msp_cert_text.specs.CertificateText.{column_line, column_lines, IsColumnPrice, lines_text}
use Rattle.msp_cert_text.specs.Reading.{filled, position_at, column_price_at, price_at, column_added, columns_by, columns_step}
use Rattle.msp_grammar.specs.lines.Reading.{Place, line_at, fields_of, first_of, others_of, machine_at, ordinal_at, LineRead, more_read}
use Rattle.msp_grammar.proofs.reading.LineLaws.{bind_ok, provided_ok, reads, ok_is, bind_again, provided_again, IsField, fields_takes, end_text}
use Rattle.msp_grammar.proofs.reading.Lines.{GetsLines}
use Rattle.msp_grammar.proofs.reading.FieldLaws.{wide_field, signed_takes, signed_again, signed_field, ordinal_takes, ordinal_again}
use Rattle.msp_cert_text.proofs.KindLaws.{Adds, TakesOne, kind_takes, kind_more, may_again, end_on, line_on}
use Rattle.msp_text.proofs.NameLists.{same_bytes}

-- ---- so many prices

pub filled-again : (count : ℕ) (xs : List ℤ) → length xs < count → filled count (xs ++ pos 0 ∷ []) ≡ filled count xs
filled-again count xs h =
    let one : count - length (xs ++ pos 0 ∷ []) + 1 ≡ count - length xs = omega (arith, length-append xs (pos 0 ∷ [])) in
    let next : pos 0 ∷ replicate (count - length (xs ++ pos 0 ∷ [])) (pos 0) ≡ replicate (count - length xs) (pos 0) =
    ap (λ n. replicate n (pos 0)) (sym (add-one (count - length (xs ++ pos 0 ∷ []))) ∙ one) in
    append_assoc xs (pos 0 ∷ []) (replicate (count - length (xs ++ pos 0 ∷ [])) (pos 0)) ∙ ap (λ ys. xs ++ ys) next

pub filled-all : (count : ℕ) (xs : List ℤ) → count ≤ length xs → filled count xs ≡ xs
filled-all count xs h = let none : count - length xs ≡ 0 = omega arith in ap (λ n. xs ++ replicate n (pos 0)) none ∙ append-nil xs

pub filled_more : (count : ℕ) (xs ys all : List ℤ) → ys ≡ xs ++ pos 0 ∷ [] → length xs < count → filled count xs ≡ all → filled count ys ≡ all
filled_more count xs ys all e h f = ap (filled count) e ∙ filled-again count xs h ∙ f

pub ruleset fill_rules = (filled_more, filled-all)

pub length-filled : (count : ℕ) (xs : List ℤ) → length xs ≤ count → length (filled count xs) ≡ count
length-filled count xs h = omega (arith, length-append xs (replicate (count - length xs) (pos 0)), length-replicate (count - length xs) (pos 0))

-- ---- the lines of prices

column_lines-append : (n at : ℕ) (xs ys : List ℤ) → column_lines n at (xs ++ ys) ≡ column_lines n at xs ++ column_lines n (at + length xs) ys
column_lines-append n at [] ys = ap (λ k. column_lines n k ys) (omega arith)
column_lines-append n at (x ∷ xs) ys =
    let here = where_wanted (not (int_eq x (pos 0))) (column_line n at x ∷ []) in
    let place : suc at + length xs ≡ at + length (x ∷ xs) = omega arith in
    ap (λ lines. here ++ lines) (column_lines-append n (suc at) xs ys ∙ ap (λ k. column_lines n (suc at) xs ++ column_lines n k ys) place)
    ∙ sym (append_assoc here (column_lines n (suc at) xs) (column_lines n (at + length (x ∷ xs)) ys))

column_lines-zeros : (n at k : ℕ) → column_lines n at (replicate k (pos 0)) ≡ []
column_lines-zeros n at zero = refl
column_lines-zeros n at (suc k) = column_lines-zeros n (suc at) k

pub lines-filled : (n count : ℕ) (xs : List ℤ) → column_lines n 0 (filled count xs) ≡ column_lines n 0 xs
lines-filled n count xs =
    column_lines-append n 0 xs (replicate (count - length xs) (pos 0))
    ∙ ap (λ lines. column_lines n 0 xs ++ lines) (column_lines-zeros n (0 + length xs) (count - length xs)) ∙ append-nil (column_lines n 0 xs)

-- a price that is less than 0
abbrev IsBelow : ℤ → Type 0
IsBelow x = (m : ℕ) × (x ≡ negsuc m)

below : (x : ℤ) → int_lt x (pos 0) ≡ true → IsBelow x
below (pos n) h = let less : n < 0 = ltb-true n 0 h in absurd (omega arith)
below (negsuc m) h = (m, refl)

pub lines-price : (n k : ℕ) (xs : List ℤ) (x : ℤ) → length xs ≤ k → IsBelow x → column_lines n 0 (filled k xs ++ x ∷ []) ≡ column_lines n 0 xs ++ column_line n k x ∷ []
lines-price n k xs x h b =
    let place : 0 + length (filled k xs) ≡ k = omega (arith, length-filled k xs h) in
    let one : column_lines n k (x ∷ []) ≡ column_line n k x ∷ [] = ap (λ y. column_lines n k (y ∷ [])) b.1 ∙ ap (λ y. column_line n k y ∷ []) (sym b.1) in
    column_lines-append n 0 (filled k xs) (x ∷ []) ∙ ap (λ lines. lines ++ column_lines n (0 + length (filled k xs)) (x ∷ [])) (lines-filled n k xs)
    ∙ ap (λ j. column_lines n 0 xs ++ column_lines n j (x ∷ [])) place ∙ ap (λ lines. column_lines n 0 xs ++ lines) one

-- ---- positions

quotient : (n machine place : ℕ) → place < n → (machine * n + place) / n ≡ machine
quotient n machine place h =
    let some : 0 < n = omega arith in
    mul-add-div_right some machine place ∙ ap (λ k. machine + k) (div-eq_of_lt h) ∙ omega arith

remainder : (n machine place : ℕ) → place < n → (machine * n + place) % n ≡ place
remainder n machine place h = mul-add-mod_self_right machine n place ∙ mod-eq_of_lt h

some_jobs : (n machines k : ℕ) → k < machines * n → 0 < n
some_jobs zero machines k h = absurd (omega (arith, h))
some_jobs (suc n) machines k h = omega arith

position_is : (n k : ℕ) → k / n * n + k % n ≡ k
position_is n k = ap (λ m. m + k % n) (mul_comm (k / n) n) ∙ div-add-mod k n

before_all : (n machines machine place : ℕ) → machine < machines → place < n → machine * n + place < machines * n
before_all n machines machine place h k =
    let more : (machine + 1) * n ≤ machines * n = mul-le-mul_right n (omega arith) in
    let one : (machine + 1) * n ≡ machine * n + n = omega arith in
    omega arith

-- What the fields of a position say: its number, and its price.
record SaysColumn (n machines : ℕ) (fields : List (List ℕ)) (k : ℕ) (x : ℤ) : Type 0 where
  text : codes "column" ∷ fields ≡ column_line n k x
  inside : k < machines * n
  price : IsColumnPrice x
  below : IsBelow x

three_fields : (fields : List (List ℕ)) → (length fields == 3) ≡ true → fields ≡ first_of fields ∷ first_of (others_of fields) ∷ first_of (others_of (others_of fields)) ∷ []
three_fields (a ∷ b ∷ c ∷ []) h = refl
three_fields (a ∷ b ∷ c ∷ d ∷ fs) h = absurd (omega (arith, eqb-true _ _ h))
three_fields _ h = absurd cc

three_are : (a b c d e f : List ℕ) → a ≡ d → b ≡ e → c ≡ f → a ∷ b ∷ c ∷ [] ≡ d ∷ e ∷ f ∷ []
three_are a b c d e f p q r = cc

column_price_takes : (at : ℕ) (w : List ℕ) (x : ℤ) → column_price_at at w ≡ Ok x → (w ≡ signed_decimal x) × IsColumnPrice x × IsBelow x
unfolding column_price_at
column_price_takes at w x e =
    let p = bind_ok (price_at at w) _ x e in
    let a = provided_ok (int_lt p.0 (pos 0)) (Limit at what.Price) (Ok p.0) x p.2 in
    let t = signed_takes at what.Price GREATEST_PRICE w p.0 (omega arith) p.1 in
    let b = below p.0 a.0 in
    let low : p.0 ≤ℤ pos 0 = subst (λ (y : ℤ). y ≤ℤ pos 0) (sym b.1) (omega (arith, ints)) in
    subst (λ (y : ℤ). (w ≡ signed_decimal y) × IsColumnPrice y × IsBelow y) (ok_is p.0 x a.1) (t.0, (t.1, low), b)

-- one line more is counted
pub columns_count : (n machines before : ℕ) (xs ys : List ℤ) (p q : Place) → columns_step n machines before xs p ≡ Ok (more_read ys q) → length (column_lines n 0 ys) ≡ length (column_lines n 0 xs) + 1
unfolding columns_step column_added
columns_count n machines before xs ys p q e =
    let l = bind_ok (line_at p) _ (more_read ys q) e in
    let fields = others_of (fields_of l.0.0) in
    let added = kind_more (before + length (column_lines n 0 xs)) (bytes_eq (first_of (fields_of l.0.0)) (codes "column")) (column_added n machines) xs ys p.at (fields_of l.0.0) l.0.1 q l.2 in
    let three = provided_ok (length fields == 3) (Count p.at) _ ys added in
    let k = bind_ok (position_at n machines p.at fields) _ ys three.1 in
    let x = bind_ok (column_price_at p.at (first_of (others_of (others_of fields)))) _ ys k.2 in
    let price = column_price_takes p.at (first_of (others_of (others_of fields))) x.0 x.1 in
    let later = provided_ok (nat_le (length xs) k.0) (Again p.at) (Ok (filled k.0 xs ++ x.0 ∷ [])) ys x.2 in
    let lines = lines-price n k.0 xs x.0 (leb-true (length xs) k.0 later.0) price.2 in
    ap (λ (zs : List ℤ). length (column_lines n 0 zs)) (sym (ok_is (filled k.0 xs ++ x.0 ∷ []) ys later.1)) ∙ ap length lines ∙ length-append (column_lines n 0 xs) (column_line n k.0 x.0 ∷ [])

column_price_again : (at : ℕ) (x : ℤ) → IsColumnPrice x → IsBelow x → column_price_at at (signed_decimal x) ≡ Ok x
unfolding column_price_at
column_price_again at x h b =
    let less : int_lt x (pos 0) ≡ true = ap (λ y. int_lt y (pos 0)) b.1 in
    bind_again _ _ _ _ (signed_again at what.Price GREATEST_PRICE x (omega arith) h.0) (provided_again _ _ _ _ less refl)

zero_inside : (gap : ℕ) (more : List ℤ) → replicate (gap + 1) (pos 0) ++ more ≡ replicate gap (pos 0) ++ pos 0 ∷ more
zero_inside gap more = ap (λ ys. ys ++ more) (sym (replicate_more gap (pos 0))) ∙ append_assoc (replicate gap (pos 0)) (pos 0 ∷ []) more

filled_then : (k gap : ℕ) (xs : List ℤ) (x : ℤ) (more : List ℤ) → k ≡ length xs + gap → (filled k xs ++ x ∷ []) ++ more ≡ xs ++ (replicate gap (pos 0) ++ x ∷ more)
filled_then k gap xs x more e =
    let left : k - length xs ≡ gap = omega arith in
    ap (λ m. ((xs ++ replicate m (pos 0)) ++ x ∷ []) ++ more) left ∙ append_assoc (xs ++ replicate gap (pos 0)) (x ∷ []) more ∙ append_assoc xs (replicate gap (pos 0)) (x ∷ more)

module _ (n machines : ℕ) (narrow : n < 10 ^ 64) (small : machines < 10 ^ 64) where
  record SaysPosition (fields : List (List ℕ)) (k : ℕ) : Type 0 where
    machine : first_of fields ≡ decimal (k / n + 1)
    place : first_of (others_of fields) ≡ decimal (k % n + 1)
    inside : k < machines * n

  position_takes : (at : ℕ) (fields : List (List ℕ)) (k : ℕ) → position_at n machines at fields ≡ Ok k → SaysPosition fields k
  unfolding position_at
  position_takes at fields k e =
      let machine = bind_ok (machine_at at machines (first_of fields)) _ k e in
      let place = bind_ok (ordinal_at at what.Place n (first_of (others_of fields))) _ k machine.2 in
      let a = ordinal_takes at what.Machines machines (first_of fields) machine.0 small machine.1 in
      let b = ordinal_takes at what.Place n (first_of (others_of fields)) place.0 narrow place.1 in
      subst (SaysPosition fields) (ok_is (machine.0 * n + place.0) k place.2) (record {
        machine = a.0 ∙ ap (λ m. decimal (m + 1)) (sym (quotient n machine.0 place.0 b.1));
        place = b.0 ∙ ap (λ m. decimal (m + 1)) (sym (remainder n machine.0 place.0 b.1));
        inside = before_all n machines machine.0 place.0 a.1 b.1;
      })

  position_again : (at k : ℕ) (more : List (List ℕ)) → k < machines * n → position_at n machines at (decimal (k / n + 1) ∷ decimal (k % n + 1) ∷ more) ≡ Ok k
  unfolding position_at
  position_again at k more h =
      let some : 0 < n = some_jobs n machines k h in
      bind_again _ _ _ _ (ordinal_again at what.Machines machines (k / n) small ((div-lt_iff_lt-mul some).1 h)) (
      bind_again _ _ _ _ (ordinal_again at what.Place n (k % n) narrow (mod-lt k some)) (ap reads (position_is n k)))

  -- What the line of a position adds to the prices.
  record AddsColumn (xs : List ℤ) (fields : List (List ℕ)) (after : List ℤ) : Type 0 where
    number : ℕ
    price : ℤ
    says : SaysColumn n machines fields number price
    later : length xs ≤ number
    added : after ≡ filled number xs ++ price ∷ []

  column_takes : (at : ℕ) (xs : List ℤ) (fields : List (List ℕ)) (after : List ℤ) → column_added n machines at xs fields ≡ Ok after → AddsColumn xs fields after
  unfolding column_added
  column_takes at xs fields after e =
      let three = provided_ok (length fields == 3) (Count at) _ after e in
      let k = bind_ok (position_at n machines at fields) _ after three.1 in
      let x = bind_ok (column_price_at at (first_of (others_of (others_of fields)))) _ after k.2 in
      let later = provided_ok (nat_le (length xs) k.0) (Again at) (Ok (filled k.0 xs ++ x.0 ∷ [])) after x.2 in
      let position = position_takes at fields k.0 k.1 in
      let price = column_price_takes at (first_of (others_of (others_of fields))) x.0 x.1 in
      record {
        number = k.0;
        price = x.0;
        says = record {
          text = ap (λ (ws : List (List ℕ)). codes "column" ∷ ws) (three_fields fields three.0 ∙ three_are _ _ _ _ _ _ position.machine position.place price.0);
          inside = position.inside;
          price = price.1;
          below = price.2;
        };
        later = leb-true (length xs) k.0 later.0;
        added = sym (ok_is (filled k.0 xs ++ x.0 ∷ []) after later.1);
      }

  column_again : (at k : ℕ) (xs : List ℤ) (x : ℤ) → k < machines * n
      → length xs ≤ k → IsColumnPrice x → IsBelow x → column_added n machines at xs (others_of (column_line n k x)) ≡ Ok (filled k xs ++ x ∷ [])
  unfolding column_added
  column_again at k xs x h later price b =
      bind_again _ _ _ _ (position_again at k (signed_decimal x ∷ []) h) (
      bind_again _ _ _ _ (column_price_again at x price b) (
      provided_again (nat_le (length xs) k) (Again at) _ _ (le-leb (length xs) k later) refl))

  -- Prices of positions that a text can have.
  pub record AreColumns (before : ℕ) (xs : List ℤ) : Type 0 where
    pub inside : length xs ≤ machines * n
    pub prices : All IsColumnPrice xs
    pub few : before + length (column_lines n 0 xs) ≤ MOST_LINES

  zero_price : IsColumnPrice (pos 0)
  zero_price = ((omega (arith, ints), omega (arith, ints)), omega (arith, ints))

  pub all_filled : (count : ℕ) (xs : List ℤ) → All IsColumnPrice xs → All IsColumnPrice (filled count xs)
  all_filled count xs h = All-append IsColumnPrice xs (replicate (count - length xs) (pos 0)) h (All-replicate IsColumnPrice (count - length xs) (pos 0) zero_price)

  one_column : (before : ℕ) (xs : List ℤ) (fields : List (List ℕ)) (e : List ℤ) → AreColumns before xs
      → before + length (column_lines n 0 xs) < MOST_LINES → AddsColumn xs fields e → Adds (column_lines n 0) (AreColumns before) xs (codes "column" ∷ fields) e
  one_column before xs fields e fit room h =
      let lines : column_lines n 0 e ≡ column_lines n 0 xs ++ column_line n h.number h.price ∷ [] = ap (column_lines n 0) h.added ∙ lines-price n h.number xs h.price h.later h.says.below in
      let long : length e ≡ h.number + 1 = ap length h.added ∙ length-append (filled h.number xs) (h.price ∷ []) ∙ ap (λ m. m + 1) (length-filled h.number xs h.later) in
      let inside = h.says.inside in (
        lines ∙ ap (λ (line : List (List ℕ)). column_lines n 0 xs ++ line ∷ []) (sym h.says.text),
        record {
          inside = omega arith;
          prices = subst (All IsColumnPrice) (sym h.added) (All-push IsColumnPrice (filled h.number xs) h.price (all_filled h.number xs fit.prices) h.says.price);
          few = omega (arith, ap length lines, length-append (column_lines n 0 xs) (column_line n h.number h.price ∷ []));
        },
      )

  pub columns_takes : (before : ℕ) (xs : List ℤ) (p : Place) (next : LineRead (List ℤ))
      → AreColumns before xs → columns_step n machines before xs p ≡ Ok next → TakesOne (column_lines n 0) (AreColumns before) xs p next
  unfolding columns_step
  columns_takes before xs p next fit e =
      let l = bind_ok (line_at p) _ next e in
      let fields = fields_of l.0.0 in
      kind_takes (column_lines n 0) (AreColumns before) (before + length (column_lines n 0 xs))
      (bytes_eq (first_of fields) (codes "column")) (column_added n machines) xs p.at fields p l.0.1 next (fields_takes p l.0 l.1)
      (λ e word room added.
      let is : first_of fields ≡ codes "column" = same_bytes (first_of fields) (codes "column") word in
      subst (λ (w : List ℕ). Adds (column_lines n 0) (AreColumns before) xs (w ∷ others_of fields) e)
      (sym is) (one_column before xs (others_of fields) e fit room (column_takes p.at xs (others_of fields) e added)))
      l.2

  -- ---- what was written is read again

  column_fields : (k : ℕ) (x : ℤ) → k < machines * n → IsColumnPrice x → IsBelow x → AllByRecursion IsField (column_line n k x)
  column_fields k x h price b =
      let some : 0 < n = some_jobs n machines k h in
      let first : k / n < machines = (div-lt_iff_lt-mul some).1 h in
      let second : k % n < n = mod-lt k some in
      (record { no_space = refl; no_line_feed = refl }, (wide_field (k / n + 1) (omega arith), (wide_field (k % n + 1) (omega arith), (signed_field x (omega arith) price.0, tt))))

  -- Reading gives prices which, filled up, are these, and leaves the rest.
  record GetsColumns (before : ℕ) (xs : List ℤ) (lines : List (List (List ℕ))) (all : List ℤ) (rest : List ℕ) : Type 0 where
    prices : List ℤ
    filled_up : filled (machines * n) prices ≡ all
    gets : (at : ℕ) → GetsLines (columns_step n machines before) None xs (record { at = at; rest = (lines_text lines ++ end_text) ++ rest }) prices rest

  columns_from : (before : ℕ) (more xs : List ℤ) (gap : ℕ) (rest : List ℕ) → length xs + gap + length more ≡ machines * n → All IsColumnPrice more
      → before + length (column_lines n 0 xs) + length (column_lines n (length xs + gap) more) ≤ MOST_LINES
      → GetsColumns before xs (column_lines n (length xs + gap) more) (xs ++ (replicate gap (pos 0) ++ more)) rest
  unfolding columns_step
  columns_from before [] xs gap rest total prices room = record {
    prices = xs;
    filled_up =
        let left : machines * n - length xs ≡ gap = omega arith in
        ap (λ m. xs ++ replicate m (pos 0)) left ∙ ap (λ ys. xs ++ ys) (sym (append-nil (replicate gap (pos 0))));
    gets = λ at. end_on (columns_step n machines before) (columns_by n machines before) (λ d p. refl) xs at rest (λ q. refl);
  }
  columns_from before (pos zero ∷ more) xs gap rest total prices room =
      let place : suc (length xs + gap) ≡ length xs + (gap + 1) = omega arith in
      let lines : column_lines n (length xs + gap) (pos 0 ∷ more) ≡ column_lines n (length xs + (gap + 1)) more = ap (λ k. column_lines n k more) place in
      let g = columns_from before more xs (gap + 1) rest (omega arith) (All-tail IsColumnPrice (pos 0) more prices)
      (subst (λ (ls : List (List (List ℕ))). before + length (column_lines n 0 xs) + length ls ≤ MOST_LINES) lines room) in
      let all : xs ++ (replicate (gap + 1) (pos 0) ++ more) ≡ xs ++ (replicate gap (pos 0) ++ pos 0 ∷ more) = ap (λ ys. xs ++ ys) (zero_inside gap more) in
      subst (λ (ls : List (List (List ℕ))). GetsColumns before xs ls (xs ++ (replicate gap (pos 0) ++ pos 0 ∷ more)) rest)
      (sym lines) (subst (λ (ys : List ℤ). GetsColumns before xs (column_lines n (length xs + (gap + 1)) more) ys rest) all g)
  columns_from before (pos (suc m) ∷ more) xs gap rest total prices room = let price = All-head IsColumnPrice (pos (suc m)) more prices in absurd (omega (arith, ints, price.1))
  columns_from before (negsuc m ∷ more) xs gap rest total prices room =
      let k = length xs + gap in
      let x = negsuc m in
      let price = All-head IsColumnPrice x more prices in
      let later : length xs ≤ k = omega arith in
      let inside : k < machines * n = omega arith in
      let after = filled k xs ++ x ∷ [] in
      let lines = lines-price n k xs x later (m, refl) in
      let long : length after ≡ k + 1 = length-append (filled k xs) (x ∷ []) ∙ ap (λ j. j + 1) (length-filled k xs later) in
      let place : suc k ≡ length after + 0 = omega arith in
      let some : column_lines n (suc k) more ≡ column_lines n (length after + 0) more = ap (λ j. column_lines n j more) place in
      let g = columns_from before more after 0 rest (omega (arith, long))
      (All-tail IsColumnPrice x more prices) (subst (λ (ls : List (List (List ℕ))). before + length (column_lines n 0 after) + length ls ≤ MOST_LINES)
      some (omega (arith, ap length lines, length-append (column_lines n 0 xs) (column_line n k x ∷ [])))) in
      let all : after ++ more ≡ xs ++ (replicate gap (pos 0) ++ x ∷ more) = filled_then k gap xs x more refl in
      record {
        prices = g.prices;
        filled_up = g.filled_up ∙ all;
        gets = λ at. line_on (columns_step n machines before) (columns_by n machines before) (λ d p. refl)
            xs after g.prices (codes "column") (others_of (column_line n k x)) (column_lines n (suc k) more) at rest (column_fields k x inside price (m, refl))
            (λ q. may_again (before + length (column_lines n 0 xs)) (bytes_eq (codes "column") (codes "column"))
            (column_added n machines) xs after at (column_line n k x) q refl (omega (arith, room)) (column_again at k xs x inside later price (m, refl)))
            (λ next. subst (λ (ls : List (List (List ℕ))). GetsLines (columns_step n machines before) None after (record { at = next; rest = (lines_text ls ++ end_text) ++ rest }) g.prices rest)
            (sym some) (g.gets next));
      }

  pub columns_again : (before : ℕ) (column : List ℤ) (at : ℕ) (rest : List ℕ) → length column ≡ machines * n → All IsColumnPrice column → before + length (column_lines n 0 column) ≤ MOST_LINES
      → (prices : List ℤ) × (filled (machines * n) prices ≡ column)
      × GetsLines (columns_step n machines before) None [] (record { at = at; rest = (lines_text (column_lines n 0 column) ++ end_text) ++ rest }) prices rest
  columns_again before column at rest total prices room = let g = columns_from before column [] 0 rest (omega arith) prices (omega arith) in (g.prices, g.filled_up, g.gets at)
