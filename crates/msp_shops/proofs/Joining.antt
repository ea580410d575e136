-- Pieces that touch are joined: what is said of the pieces of slices still holds, and none goes on with another.
use Rattle.std.proofs.Common.{◌≡◌, ℕ, suc, ◌+◌, ◌<◌, ◌≤◌, ◌⊎◌, inl, inr, Bool, true, false, cond, ltb, List, [], ◌∷◌, ◌++◌, length, length-append, get_or, drop, map, All, AllPairs}
use Rattle.std.proofs.Common.{ℤ, pos, ◌+ℤ◌, ◌≤ℤ◌, ◌<ℤ◌, append_assoc, refl, sym, ap, ap₂, subst, subst₂, ◌∙◌, arith}
use Rattle.std.specs.Prelude.{◌==◌, ◌&&◌}
use Rattle.std.proofs.lemmas.Bool.{cond-true, cond-false, lt-ltb, le-ltb}
use Rattle.std.proofs.lemmas.Int.{ints}
use Rattle.std.proofs.lemmas.List.{append-nil, drop_more, drop_all}
use Rattle.std.proofs.lemmas.List.Elements.{All-nil, All-cons, All-append, All-head, All-tail}
use Rattle.std.proofs.lemmas.List.Kept.{AllPairs-cons}
use Rattle.msp_class.proofs.Sums.{AllPairs-head, AllPairs-tail}
use Rattle.msp_pieces.specs.declared.Piece.{Piece}
use Rattle.msp_pieces.specs.Piece.{length_of}
use Rattle.msp_pieces.specs.Feasible.{total as sum}
use Rattle.msp_pieces.proofs.feasible.Series.{AllPairs-append}
use Rattle.msp_timetable.specs.declared.matrix.Slice.{Slice}
use Rattle.msp_timetable.specs.Split.{column_of, total}
use Rattle.msp_shops.specs.Joined.{GoesOn, AreJoined}
use Rattle.msp_shops.specs.Sliced.{row_piece, row_part, row_parts, laid, one_of, Joins, as_they_are, joined, IsEndOf, HasBegun, anew, earlier, Follows, AreInRows}
use Rattle.msp_shops.proofs.SlicedPieces.{among, among-append, pairs_nil, pairs_one, IsLaidPiece, Parted, AreLaid}

-- ---- two neighbours as one
All-join : (P : Piece → Type 0) (o p q : Piece) (before after : List Piece) → (P p → P q → P o) → All P (before ++ p ∷ q ∷ after) → All P (before ++ o ∷ after)
All-join P o p q [] after f h =
    let rest = All-tail P p (q ∷ after) h in
    All-cons P o after (f (All-head P p (q ∷ after) h) (All-head P q after rest)) (All-tail P q after rest)
All-join P o p q (x ∷ before) after f h = All-cons P x (before ++ o ∷ after) (All-head P x (before ++ p ∷ q ∷ after) h) (All-join P o p q before after f (All-tail P x (before ++ p ∷ q ∷ after) h))

module _ (P : Piece → Type 0) (R : Piece → Piece → Type 0) (o p q : Piece) (left : (x : Piece) → P x → R x p → R x q → R x o) (right : (x : Piece) → P x → R p x → R q x → R o x) where
  pub AllPairs-join : (before after : List Piece) → All P (before ++ p ∷ q ∷ after) → AllPairs R (before ++ p ∷ q ∷ after) → AllPairs R (before ++ o ∷ after)
  AllPairs-join [] after all h =
      let rest = AllPairs-tail R p (q ∷ after) h in
      let others = All-tail P q after (All-tail P p (q ∷ after) all) in
      let first = All-tail (R p) q after (AllPairs-head R p (q ∷ after) h) in
      AllPairs-cons R o after (λ k d l. right (get_or after k d) (others k d l) (first k d l) (AllPairs-head R q after rest k d l)) (AllPairs-tail R q after rest)
  AllPairs-join (x ∷ before) after all h =
      let here = All-head P x (before ++ p ∷ q ∷ after) all in
      AllPairs-cons R x (before ++ o ∷ after) (All-join (R x) o p q before after (left x here) (AllPairs-head R x (before ++ p ∷ q ∷ after) h))
      (AllPairs-join before after (All-tail P x (before ++ p ∷ q ∷ after) all) (AllPairs-tail R x (before ++ p ∷ q ∷ after) h))

-- how long an operation has in one piece
taken : Bool → Piece → ℤ
taken b x = sum (map length_of (cond b (x ∷ []) []))

part_joined : (c r : ℕ) (p q : Piece) → GoesOn p q → among c r (p ∷ []) +ℤ among c r (q ∷ []) ≡ among c r (one_of p q ∷ [])
unfolding taken
part_joined c r p q g = ap (λ b. taken ((p.job == c) && (p.op == r)) p +ℤ taken b q) (ap₂ (λ j o. (j == c) && (o == r)) (sym g.job) (sym g.op)) ∙ by ((p.job == c) && (p.op == r))
  where
    by : (b : Bool) → taken b p +ℤ taken b q ≡ taken b (one_of p q)
    by true = omega (arith, ints, g.touch)
    by false = refl

among_joined : (c r : ℕ) (before after : List Piece) (p q : Piece) → GoesOn p q → among c r (before ++ p ∷ q ∷ after) ≡ among c r (before ++ one_of p q ∷ after)
among_joined c r before after p q g =
    among-append c r before (p ∷ q ∷ after)
    ∙ ap (λ x. among c r before +ℤ x) (among-append c r (p ∷ []) (q ∷ after) ∙ ap (λ x. among c r (p ∷ []) +ℤ x) (among-append c r (q ∷ []) after)
    ∙ added (among c r (p ∷ [])) (among c r (q ∷ [])) (among c r after) (among c r (one_of p q ∷ [])) (part_joined c r p q g) ∙ sym (among-append c r (one_of p q ∷ []) after))
    ∙ sym (among-append c r before (one_of p q ∷ after))
  where
    added : (a b c d : ℤ) → a +ℤ b ≡ d → a +ℤ (b +ℤ c) ≡ d +ℤ c
    added a b c d e = omega (arith, ints, e)

module _ (rows columns : ℕ) (slices : List Slice) where
  abbrev IsHere : Piece → Type 0
  IsHere = IsLaidPiece rows columns slices (pos 0) (pos 0 +ℤ total (λ s. s.length) slices)

  here_joined : (p q : Piece) → GoesOn p q → IsHere p → IsHere q → IsHere (one_of p q)
  here_joined p q g a b = record { row = a.row; machine = a.machine; job = a.job; from = a.from; lasts = omega (arith, ints, a.lasts, b.lasts, g.touch); to = b.to; uses = a.uses }

  left : (p q : Piece) → GoesOn p q → (x : Piece) → IsHere x → Parted rows columns x p → Parted rows columns x q → Parted rows columns x (one_of p q)
  left p q g x h (inr d) k = inr d
  left p q g x h (inl a) (inr d) = inr (λ z. d.0 (z ∙ g.machine), λ z. d.1 (z ∙ g.job))
  left p q g x h (inl (inl a)) (inl b) = inl (inl a)
  left p q g x h (inl (inr a)) (inl (inl b)) = absurd (omega (arith, ints, a, b, g.touch, h.lasts))
  left p q g x h (inl (inr a)) (inl (inr b)) = inl (inr b)

  right : (p q : Piece) → GoesOn p q → (x : Piece) → IsHere x → Parted rows columns p x → Parted rows columns q x → Parted rows columns (one_of p q) x
  right p q g x h (inr d) k = inr d
  right p q g x h (inl a) (inr d) = inr (λ z. d.0 (sym g.machine ∙ z), λ z. d.1 (sym g.job ∙ z))
  right p q g x h (inl (inr a)) (inl b) = inl (inr a)
  right p q g x h (inl (inl a)) (inl (inr b)) = absurd (omega (arith, ints, a, b, g.touch, h.lasts))
  right p q g x h (inl (inl a)) (inl (inl b)) = inl (inl b)

  one_joined : (before after : List Piece) (p q : Piece) → GoesOn p q → AreLaid rows columns slices (before ++ p ∷ q ∷ after) → AreLaid rows columns slices (before ++ one_of p q ∷ after)
  one_joined before after p q g h =
      record {
        each = All-join IsHere (one_of p q) p q before after (here_joined p q g) h.each;
        apart = AllPairs-join IsHere (Parted rows columns) (one_of p q) p q (left p q g) (right p q g) before after h.each h.apart;
        work = λ c r inside row. sym (among_joined c r before after p q g) ∙ h.work c r inside row;
        few = omega (arith, h.few, length-append before (p ∷ q ∷ after), length-append before (one_of p q ∷ after));
      }

  pub AreLaid-joined : {parts pieces : List Piece} → Joins parts pieces → AreLaid rows columns slices parts → AreLaid rows columns slices pieces
  AreLaid-joined as_they_are h = h
  AreLaid-joined (joined before after p q g more) h = one_joined before after p q g (AreLaid-joined more h)

-- ---- joined one after another
pub Joins-more : {parts pieces : List Piece} (after : List Piece) → Joins parts pieces → Joins (parts ++ after) (pieces ++ after)
Joins-more after as_they_are = as_they_are
Joins-more {parts} after (joined before behind p q g more) =
    let J : List Piece → Type 0 = Joins (parts ++ after) in
    subst J (sym (append_assoc before (one_of p q ∷ behind) after)) (joined before (behind ++ after) p q g (subst J (append_assoc before (p ∷ q ∷ behind) after) (Joins-more after more)))

pub Joins-both : {parts between pieces : List Piece} → Joins parts between → Joins between pieces → Joins parts pieces
Joins-both first as_they_are = first
Joins-both first (joined before behind p q g more) = joined before behind p q g (Joins-both first more)

pub Joins-empty : (pieces : List Piece) → pieces ≡ [] → Joins [] pieces
Joins-empty pieces e = subst (Joins []) (sym e) as_they_are

-- ---- pieces in rows
-- whether a piece runs, and where it stands
abbrev pub StandsBy : ℕ → ℤ → Piece → Type 0
StandsBy m t p = (p.from <ℤ p.to) × ((p.machine < m) ⊎ ((p.machine ≡ m) × (p.to ≤ℤ t)))

All-last : (P : Piece → Type 0) (p o : Piece) (front : List Piece) → (P p → P o) → All P (front ++ p ∷ []) → All P (front ++ o ∷ [])
All-last P p o [] f h = All-cons P o [] (f (All-head P p [] h)) (All-nil P)
All-last P p o (x ∷ front) f h = All-cons P x (front ++ o ∷ []) (All-head P x (front ++ p ∷ []) h) (All-last P p o front f (All-tail P x (front ++ p ∷ []) h))

AllPairs-last : (R : Piece → Piece → Type 0) (p o : Piece) (front : List Piece) → ((x : Piece) → R x p → R x o) → AllPairs R (front ++ p ∷ []) → AllPairs R (front ++ o ∷ [])
AllPairs-last R p o [] f h = pairs_one R o
AllPairs-last R p o (x ∷ front) f h =
    AllPairs-cons R x (front ++ o ∷ []) (All-last (R x) p o front (f x) (AllPairs-head R x (front ++ p ∷ []) h)) (AllPairs-last R p o front f (AllPairs-tail R x (front ++ p ∷ []) h))

-- a piece with which none goes on follows all
none_on : (m : ℕ) (t : ℤ) (q : Piece) → q.machine ≡ m → q.op ≡ m → q.from ≡ t → (xs : List Piece) → AllPairs Follows xs
    → All (StandsBy m t) xs → ((front : List Piece) (p : Piece) → xs ≡ front ++ p ∷ [] → ¬ IsEndOf q.job m t p) → All (λ x. Follows x q) xs
none_on m t q machine op «from» [] pairs all new = All-nil (λ x. Follows x q)
none_on m t q machine op «from» (x ∷ []) pairs all new = All-cons (λ x. Follows x q) x [] (by (All-head (StandsBy m t) x [] all).1) (All-nil (λ x. Follows x q))
  where
    by : ((x.machine < m) ⊎ ((x.machine ≡ m) × (x.to ≤ℤ t))) → Follows x q
    by (inl below) = inl (omega (arith, below, machine))
    by (inr (same, ends)) =
        inr (same ∙ sym machine, subst (λ y. x.to ≤ℤ y) (sym «from») ends, λ g. new [] x refl (record { of_job = g.job; of_op = g.op ∙ op; on_machine = same; ends = g.touch ∙ «from» }))
none_on m t q machine op «from» (x ∷ y ∷ xs) pairs all new = All-cons (λ x. Follows x q) x (y ∷ xs) (by (All-head (StandsBy m t) x (y ∷ xs) all).1)
    (none_on m t q machine op «from» (y ∷ xs) (AllPairs-tail Follows x (y ∷ xs) pairs) (All-tail (StandsBy m t) x (y ∷ xs) all) (λ front p e. new (x ∷ front) p (ap (λ l. x ∷ l) e)))
  where
    next : StandsBy m t y
    next = All-head (StandsBy m t) y xs (All-tail (StandsBy m t) x (y ∷ xs) all)

    apart : x.machine ≡ m → Follows x y → (y.machine < m) ⊎ ((y.machine ≡ m) × (y.to ≤ℤ t)) → GoesOn x q → ⊥
    apart same (inl below) (inl less) g = omega (arith, same, below, less)
    apart same (inl below) (inr (here, ends)) g = omega (arith, same, below, here)
    apart same (inr (e, l, w)) (inl less) g = omega (arith, same, e, less)
    apart same (inr (e, l, w)) (inr (here, ends)) g = omega (arith, ints, l, ends, next.0, g.touch, «from»)

    by : ((x.machine < m) ⊎ ((x.machine ≡ m) × (x.to ≤ℤ t))) → Follows x q
    by (inl below) = inl (omega (arith, below, machine))
    by (inr (same, ends)) = inr (same ∙ sym machine, subst (λ y. x.to ≤ℤ y) (sym «from») ends, apart same (AllPairs-head Follows x (y ∷ xs) pairs 0 y (omega arith)) next.1)

later : (m : ℕ) (t u : ℤ) → t ≤ℤ u → (xs : List Piece) → All (StandsBy m t) xs → All (StandsBy m u) xs
later m t u l xs h k d inside = let (lasts, stands) = h k d inside in (lasts, by (get_or xs k d) stands)
  where
    by : (p : Piece) → (p.machine < m) ⊎ ((p.machine ≡ m) × (p.to ≤ℤ t)) → (p.machine < m) ⊎ ((p.machine ≡ m) × (p.to ≤ℤ u))
    by p (inl below) = inl below
    by p (inr (same, ends)) = inr (same, omega (arith, ints, ends, l))

pub AreInRows-none : (m : ℕ) (t u : ℤ) (xs : List Piece) → t ≤ℤ u → AreInRows m t xs → AreInRows m u xs
AreInRows-none m t u xs l h = record { follow = h.follow; by = later m t u l xs h.by }

pub AreInRows-next : (m : ℕ) (t : ℤ) (xs : List Piece) → AreInRows m t xs → AreInRows (m + 1) (pos 0) xs
AreInRows-next m t xs h = record { follow = h.follow; by = λ k d inside. let (lasts, stands) = h.by k d inside in (lasts, inl (below (get_or xs k d) stands)) }
  where
    below : (p : Piece) → (p.machine < m) ⊎ ((p.machine ≡ m) × (p.to ≤ℤ t)) → p.machine < m + 1
    below p (inl l) = omega (arith, l)
    below p (inr (same, ends)) = omega (arith, same)

-- ---- as the code has it
pub AreInRows-empty : (m : ℕ) (t : ℤ) (xs : List Piece) → xs ≡ [] → AreInRows m t xs
AreInRows-empty m t xs e = subst (AreInRows m t) (sym e) (record { follow = pairs_nil Follows; by = All-nil (StandsBy m t) })

abbrev made : ℕ → ℕ → ℤ → ℤ → Piece
made job m begin end = record { job = job; op = m; machine = m; from = begin; to = end }

put_first : (job m : ℕ) (t begin u : ℤ) (old mid : List Piece) → t <ℤ u → HasBegun job m t begin old mid → AreInRows m t old → AreInRows m u (mid ++ made job m begin u ∷ [])
put_first job m t begin u old mid l (anew e f new) h =
    subst₂ (λ xs b. AreInRows m u (xs ++ made job m b u ∷ [])) (sym e) (sym f) (record {
      follow = AllPairs-append Follows old (q ∷ []) h.follow (pairs_one Follows q)
          (λ k d inside. All-cons (Follows (get_or old k d)) q [] (none_on m t q refl refl refl old h.follow h.by new k d inside) (All-nil (Follows (get_or old k d))));
      by = All-append (StandsBy m u) old (q ∷ []) (later m t u (omega (arith, ints, l)) old h.by) (All-cons (StandsBy m u) q [] (l, inr (refl, omega (arith, ints))) (All-nil (StandsBy m u)));
    })
  where
    q : Piece
    q = made job m t u
put_first job m t begin u old mid l (earlier p e ends f) h = record {
  follow = AllPairs-last Follows p o mid follows (subst (AllPairs Follows) e h.follow);
  by = All-last (StandsBy m u) p o mid stands (later m t u (omega (arith, ints, l)) (mid ++ p ∷ []) (subst (All (StandsBy m t)) e h.by));
}
  where
    o : Piece
    o = made job m begin u

    follows : (x : Piece) → Follows x p → Follows x o
    follows x (inl below) = inl (omega (arith, below, ends.on_machine))
    follows x (inr (same, to, apart)) = inr (
      same ∙ ends.on_machine,
      subst (λ y. x.to ≤ℤ y) (sym f) to,
      λ g. apart (record { job = g.job ∙ sym ends.of_job; op = g.op ∙ sym ends.of_op; machine = g.machine ∙ sym ends.on_machine; touch = g.touch ∙ f }),
    )

    stands : StandsBy m u p → StandsBy m u o
    stands (lasts, w) = (omega (arith, ints, lasts, f, ends.ends, l), inr (refl, omega (arith, ints)))

pub AreInRows-put : (job m : ℕ) (t begin from to : ℤ) (x : ℤ) (old mid new : List Piece) → pos 1 ≤ℤ x
    → HasBegun job m t begin old mid → from ≡ begin → to ≡ t +ℤ x → new ≡ mid ++ made job m from to ∷ [] → AreInRows m t old → AreInRows m (t +ℤ x) new
AreInRows-put job m t begin «from» to x old mid new lasts begun same ends pushed h =
    subst (AreInRows m (t +ℤ x)) (sym (pushed ∙ ap₂ (λ a b. mid ++ made job m a b ∷ []) same ends)) (put_first job m t begin (t +ℤ x) old mid (omega (arith, ints, lasts)) begun h)

joins_first : (job m : ℕ) (t begin u : ℤ) (old mid : List Piece) → HasBegun job m t begin old mid → Joins (old ++ made job m t u ∷ []) (mid ++ made job m begin u ∷ [])
joins_first job m t begin u old mid (anew e f new) = subst₂ (λ xs b. Joins (old ++ made job m t u ∷ []) (xs ++ made job m b u ∷ [])) (sym e) (sym f) as_they_are
joins_first job m t begin u old mid (earlier p e ends f) =
    let J : List Piece → List Piece → Type 0 = λ a b. Joins a b in
    let parts : old ++ made job m t u ∷ [] ≡ mid ++ p ∷ made job m t u ∷ [] = ap (λ xs. xs ++ made job m t u ∷ []) e ∙ append_assoc mid (p ∷ []) (made job m t u ∷ []) in
    let one : one_of p (made job m t u) ≡ made job m begin u = same p ends f in
    subst₂ J (sym parts) (ap (λ o. mid ++ o ∷ []) one) (joined mid [] p (made job m t u) (record { job = ends.of_job; op = ends.of_op; machine = ends.on_machine; touch = ends.ends }) as_they_are)
  where
    same : (p : Piece) → IsEndOf job m t p → begin ≡ p.from → one_of p (made job m t u) ≡ made job m begin u
    same p ends f = parts_same p.job job p.op m p.machine m p.from begin ends.of_job ends.of_op ends.on_machine (sym f)
      where
        piece : ℕ → ℕ → ℕ → ℤ → Piece
        piece a c e g = record { job = a; op = c; machine = e; from = g; to = u }

        parts_same : (a b c d e f : ℕ) (g h : ℤ) → a ≡ b → c ≡ d → e ≡ f → g ≡ h → piece a c e g ≡ piece b d f h
        parts_same a b c d e f g h i j k l = subst₂ (λ x y. piece a c e g ≡ piece x y f h) i j (subst₂ (λ x y. piece a c e g ≡ piece a c x y) k l refl)

pub column_is : (columns : List ℕ) (m : ℕ) (s : Slice) → columns ≡ s.column → get_or columns m 0 ≡ column_of s m
column_is columns m s e = ap (λ l. get_or l m 0) e

pub Joins-put : (columns job m : ℕ) (t begin from to : ℤ) (s : Slice) (old mid new : List Piece) → job ≡ column_of s m → job < columns
    → HasBegun job m t begin old mid → from ≡ begin → to ≡ t +ℤ s.length → new ≡ mid ++ made job m from to ∷ [] → Joins (old ++ row_part columns t s m) new
Joins-put columns job m t begin «from» to s old mid new column inside begun same ends pushed =
    let here = cond-true (ltb (column_of s m) columns) (row_piece t s m ∷ []) [] (lt-ltb (column_of s m) columns (omega (arith, column, inside))) in
    subst₂ Joins (ap (λ xs. old ++ xs) (sym (here ∙ ap (λ j. made j m t (t +ℤ s.length) ∷ []) (sym column))))
    (sym (pushed ∙ ap₂ (λ a b. mid ++ made job m a b ∷ []) same ends)) (joins_first job m t begin (t +ℤ s.length) old mid begun)

pub Joins-none : (columns job m : ℕ) (t : ℤ) (s : Slice) (old : List Piece) → job ≡ column_of s m → columns ≤ job → Joins (old ++ row_part columns t s m) old
Joins-none columns job m t s old column outside =
    let none = cond-false (ltb (column_of s m) columns) (row_piece t s m ∷ []) [] (le-ltb (column_of s m) columns (omega (arith, column, outside))) in
    subst (λ xs. Joins xs old) (sym (ap (λ xs. old ++ xs) none ∙ append-nil old)) as_they_are

pub Joins-slice : (columns m k : ℕ) (t : ℤ) (x d : Slice) (slices : List Slice) (parts old new : List Piece) → k < length slices → x ≡ get_or slices k d
    → Joins parts (old ++ row_parts columns t m (drop k slices)) → Joins (old ++ row_part columns t x m) new → Joins parts (new ++ row_parts columns (t +ℤ x.length) m (drop (k + 1) slices))
Joins-slice columns m k t x d slices parts old new l e so_far put =
    let here : drop k slices ≡ x ∷ drop (k + 1) slices = drop_more slices k d l ∙ ap (λ y. y ∷ drop (k + 1) slices) (sym e) in
    let rest : List Piece = row_parts columns (t +ℤ x.length) m (drop (k + 1) slices) in
    let whole : old ++ row_parts columns t m (drop k slices) ≡ (old ++ row_part columns t x m) ++ rest =
    ap (λ l. old ++ row_parts columns t m l) here ∙ sym (append_assoc old (row_part columns t x m) rest) in
    Joins-both (subst (Joins parts) whole so_far) (Joins-more rest put)

pub Joins-last : (columns m k : ℕ) (t : ℤ) (slices : List Slice) (parts new : List Piece) → length slices ≤ k → Joins parts (new ++ row_parts columns t m (drop k slices)) → Joins parts new
Joins-last columns m k t slices parts new l h = subst (Joins parts) (ap (λ xs. new ++ row_parts columns t m xs) (drop_all k slices l) ∙ append-nil new) h

-- the pieces of one machine more
pub Joins-row : (columns n : ℕ) (slices : List Slice) (old new : List Piece)
    → Joins (laid columns slices n) old → Joins (old ++ row_parts columns (pos 0) n slices) new → Joins (laid columns slices (n + 1)) new
Joins-row columns n slices old new before row =
    let more : suc n ≡ n + 1 = omega arith in
    subst (λ k. Joins (laid columns slices k) new) more (Joins-both (Joins-more (row_parts columns (pos 0) n slices) before) row)

pub AreJoined-from_rows : (m : ℕ) (t : ℤ) (xs : List Piece) → AreInRows m t xs → AreJoined xs
AreJoined-from_rows m t xs h a b d l inside = by (get_or xs a d) (get_or xs b d) (h.by a d (omega (arith, l, inside))).0 (h.by b d inside).0 (h.follow a b d l inside)
  where
    by : (p q : Piece) → p.from <ℤ p.to → q.from <ℤ q.to → Follows p q → (¬ GoesOn p q) × (¬ GoesOn q p)
    by p q f g (inl below) = (λ e. omega (arith, below, e.machine), λ e. omega (arith, below, e.machine))
    by p q f g (inr (same, to, apart)) = (apart, λ e. omega (arith, ints, f, g, to, e.touch))
