-- The pieces of one job among all pieces: what a search in sorted pieces finds, and what routes and work need of the others.
use Rattle.std.proofs.Common.{◌≡◌, ℕ, not, ◌+◌, ◌<◌, ◌≤◌, Bool, true, false, List, [], ◌∷◌, ◌++◌, length, get_or, take, drop, filter, map, All, Contains, Option, Some, None}
use Rattle.std.proofs.Common.{ℤ, pos, ◌*ℤ◌, ◌≤ℤ◌, refl, sym, ap, subst, ◌∙◌, arith}
use Rattle.std.specs.Prelude.{◌==◌, ◌&&◌, MatchBool, IfSome, IsTrue, ◌↔◌}
use Rattle.std.specs.List.{AllWithin}
use Rattle.std.proofs.lemmas.Bool.{eq-eqb, ne_eqb}
use Rattle.std.proofs.lemmas.Int.{ints}
use Rattle.std.specs.Int.{int_max}
use Rattle.std.proofs.lemmas.List.{take-append-drop, append-nil, length-take, length-drop, get_or-take, get_or-drop}
use Rattle.std.proofs.lemmas.List.Elements.{All-nil, All-more, All-take, All-filter, All-contains, filter-append, filter_agree, Contains-get_or}
use Rattle.std.proofs.lemmas.List.Filters.{length-filter_both}
use Rattle.msp_class.proofs.IntegerRing.{≤ℤ_trans, ≤ℤ-int_max_left, ≤ℤ-int_max_right, int_max-least}
use Rattle.msp_class.proofs.Sums.{Contains-filter}
use Rattle.msp_class.specs.Env.{kind_of}
use Rattle.msp_instance.specs.declared.Instance.{Instance}
use Rattle.msp_instance.proofs.ArcLemmas.{filter_none, filter_all}
use Rattle.msp_pieces.specs.declared.Piece.{Piece}
use Rattle.msp_pieces.specs.Feasible.{HasPlace, IsWholeWork, total, whole_work, work_of}
use Rattle.msp_schedule.specs.Begins.{IsEarlierEnd}
use Rattle.msp_schedule.specs.Breaks.{KeepsRoute, pieces_among, IsLeast}
use Rattle.msp_schedule.specs.Works.{AreMeasurable, GetsWorkAmong, LacksWorkAmong, IsWorked}
use Rattle.msp_pieces.specs.Within.{IsMoment}
use Rattle.msp_pieces.proofs.lists.Places.{filter-both}
use Rattle.msp_schedule.proofs.judging.ArcTimes.{fewer}

-- ---- what a filter keeps
module _ {X : Type 0} (p : X → Bool) where
  -- none before a, all of the next b, and none after
  pub filter_middle : (xs : List X) (a b : ℕ) → All (λ x. p x ≡ false) (take a xs)
      → All (λ x. p x ≡ true) (take b (drop a xs)) → All (λ x. p x ≡ false) (drop b (drop a xs)) → take b (drop a xs) ≡ filter p xs
  filter_middle xs a b before inside after = sym (
      ap (filter p) (sym (take-append-drop a xs))
      ∙ filter-append p (take a xs) (drop a xs)
      ∙ ap (λ l. l ++ filter p (drop a xs)) (filter_none p (take a xs) before)
      ∙ ap (filter p) (sym (take-append-drop b (drop a xs)))
      ∙ filter-append p (take b (drop a xs)) (drop b (drop a xs))
      ∙ ap (λ l. filter p (take b (drop a xs)) ++ l) (filter_none p (drop b (drop a xs)) after)
      ∙ append-nil _
      ∙ filter_all p (take b (drop a xs)) inside)

module _ {X : Type 0} where
  pub All-before : (P : X → Type 0) (xs : List X) (i : ℕ) → i ≤ length xs → AllWithin P xs 0 i → All P (take i xs)
  All-before P xs i h all k d l = let inside : k < i = omega (arith, length-take i xs) in subst P (sym (get_or-take i xs k d inside)) (all k d (omega arith) inside)

  pub All-after : (P : X → Type 0) (xs : List X) (i : ℕ) → i ≤ length xs → AllWithin P xs i (length xs) → All P (drop i xs)
  All-after P xs i h all k d l = subst P (sym (get_or-drop i xs k d)) (all (i + k) d (omega arith) (omega (arith, length-drop i xs, l, h)))

pub share_at : (xs rest : List Piece) (j a b : ℕ) → rest ≡ drop a xs → All (λ p. p.job < j) (take a xs) → All (λ p. j ≤ p.job) (drop a xs)
    → All (λ p. p.job < j + 1) (take b rest) → All (λ p. j + 1 ≤ p.job) (drop b rest) → take b rest ≡ filter (λ p. p.job == j) xs
share_at xs rest j a b e before from inside after = ap (take b) e ∙ filter_middle (λ p. p.job == j) xs a b
    (λ k d l. let t = before k d l in ne_eqb (get_or (take a xs) k d).job j (λ e. omega (arith, t, e)))
    (subst (λ r. All (λ p. (p.job == j) ≡ true) (take b r)) e here)
    (subst (λ r. All (λ p. (p.job == j) ≡ false) (drop b r)) e (λ k d l. let t = after k d l in ne_eqb (get_or (drop b rest) k d).job j (λ e. omega (arith, t, e))))
  where
    here : All (λ p. (p.job == j) ≡ true) (take b rest)
    here k d l =
        let low = All-take (λ p. j ≤ p.job) b rest (subst (All (λ p. j ≤ p.job)) (sym e) from) k d l in
        let high = inside k d l in
        eq-eqb _ _ (omega (arith, low, high))

-- ---- routes
module _ (xs : List Piece) (j : ℕ) where
  abbrev Share : List Piece
  Share = filter (λ p. p.job == j) xs

  pub route_of_share : (o : ℕ) → KeepsRoute xs j o → KeepsRoute Share j o
  route_of_share o h k d l = All-filter (λ p. p.job == j) (λ q. (get_or Share k d).job ≡ j → q.job ≡ j → (get_or Share k d).op < o → q.op ≡ o → (get_or Share k d).to ≤ℤ q.from) xs
      (All-filter (λ p. p.job == j) (λ p. All (λ q. p.job ≡ j → q.job ≡ j → p.op < o → q.op ≡ o → p.to ≤ℤ q.from) xs) xs h k d l)

  mine : (k : ℕ) (d : Piece) → k < length xs → (get_or xs k d).job ≡ j → Contains Share (get_or xs k d)
  mine k d l e = Contains-filter (λ p. p.job == j) xs (get_or xs k d) (Contains-get_or xs k d l) (eq-eqb _ _ e)

  pub route_by_share : (o : ℕ) → KeepsRoute Share j o → KeepsRoute xs j o
  route_by_share o h k d l m e n before after = All-contains (λ q. (get_or xs k d).job ≡ j → q.job ≡ j → (get_or xs k d).op < o → q.op ≡ o → (get_or xs k d).to ≤ℤ q.from) Share (get_or xs m e)
      (All-contains (λ p. All (λ q. p.job ≡ j → q.job ≡ j → p.op < o → q.op ≡ o → p.to ≤ℤ q.from) Share) Share (get_or xs k d) h (mine k d l before)) (mine m e n after) before after

  pub unrouted_by_share : (ops o : ℕ) → IsLeast ops (λ q. ¬ KeepsRoute Share j q) o → IsLeast ops (λ q. ¬ KeepsRoute xs j q) o
  unrouted_by_share ops o h = record { inside = h.inside; holds = λ r. h.holds (route_of_share o r); least = λ q l n. h.least q l (λ r. n (route_by_share q r)) }

  pub unrouted_none : (ys : List Piece) (ops : ℕ) → ys ≡ Share → ((o : ℕ) → o < ops → KeepsRoute ys j o) → (o : ℕ) → o < ops → KeepsRoute xs j o
  unrouted_none ys ops e h o l = route_by_share o (subst (λ zs. KeepsRoute zs j o) e (h o l))

  pub unrouted_some : (ys : List Piece) (ops : ℕ) (r : Option ℕ) → ys ≡ Share → IfSome r (λ o. IsLeast ops (λ q. ¬ KeepsRoute ys j q) o) → IfSome r (λ o. IsLeast ops (λ q. ¬ KeepsRoute xs j q) o)
  unrouted_some ys ops None e h = tt
  unrouted_some ys ops (Some o) e h = unrouted_by_share ops o (subst (λ zs. IsLeast ops (λ q. ¬ KeepsRoute zs j q) o) e h)

  -- ---- work
  among_share : (ys : List Piece) (o : ℕ) → pieces_among (filter (λ p. p.job == j) ys) j o ≡ pieces_among ys j o
  among_share ys o = filter-both (λ p. p.job == j) (λ p. (p.job == j) && (p.op == o)) ys ∙ filter_agree _ _ (λ p. twice (p.job == j) (p.op == o)) ys
    where
      twice : (a b : Bool) → (a && (a && b)) ≡ (a && b)
      twice true b = refl
      twice false b = refl

  pub work_by_share : (i : Instance) (u : ℤ) (o : ℕ) → IsWorked i u Share j o → IsWorked i u xs j o
  work_by_share i u o h op = subst (λ l. MatchBool i.class.cut (total (map (work_of (kind_of i.class.env) i) l) ≡ u *ℤ pos (whole_work (kind_of i.class.env) i j o))
      ((p : Piece) × (l ≡ p ∷ []) × IsWholeWork (kind_of i.class.env) i u p)) (among_share xs o) (h op)

  pub work_of_share : (i : Instance) (u : ℤ) (o : ℕ) → GetsWorkAmong i u xs j o → GetsWorkAmong i u Share j o
  work_of_share i u o h = subst (λ l. MatchBool i.class.cut (total (map (work_of (kind_of i.class.env) i) l) ≡ u *ℤ pos (whole_work (kind_of i.class.env) i j o))
      ((p : Piece) × (l ≡ p ∷ []) × IsWholeWork (kind_of i.class.env) i u p)) (sym (among_share xs o)) h

  pub unworked_by_share : (i : Instance) (u v : ℤ) (ops o : ℕ) → v ≡ u → IsLeast ops (λ q. LacksWorkAmong i v Share j q) o → IsLeast ops (λ q. LacksWorkAmong i u xs j q) o
  unworked_by_share i u v ops o e h = subst (λ x. IsLeast ops (λ q. LacksWorkAmong i x xs j q) o) e (record {
    inside = h.inside;
    holds = (h.holds.0, λ g. h.holds.1 (work_of_share i v o g));
    least = λ q l n. h.least q l (n.0, λ g. n.1 (work_by_share i v q (λ op. g) n.0));
  })

  pub unworked_none : (ys : List Piece) (i : Instance) (u v : ℤ) (ops : ℕ) → v ≡ u → ys ≡ Share → ((o : ℕ) → o < ops → IsWorked i v ys j o) → (o : ℕ) → o < ops → IsWorked i u xs j o
  unworked_none ys i u v ops ev e h o l = work_by_share i u o (subst (λ z. IsWorked i z Share j o) ev (subst (λ zs. IsWorked i v zs j o) e (h o l)))

  pub unworked_some : (ys : List Piece) (i : Instance) (u v : ℤ) (ops : ℕ) (r : Option ℕ)
      → v ≡ u → ys ≡ Share → IfSome r (λ o. IsLeast ops (λ q. LacksWorkAmong i v ys j q) o) → IfSome r (λ o. IsLeast ops (λ q. LacksWorkAmong i u xs j q) o)
  unworked_some ys i u v ops None ev e h = tt
  unworked_some ys i u v ops (Some o) ev e h = unworked_by_share i u v ops o ev (subst (λ zs. IsLeast ops (λ q. LacksWorkAmong i v zs j q) o) e h)

  pub shared : (P : Piece → Type 0) (ys : List Piece) → ys ≡ Share → All P xs → All P ys
  shared P ys e h = subst (All P) (sym e) (All-filter (λ p. p.job == j) P xs h)

  pub measured_share : (ys : List Piece) (i : Instance) → ys ≡ Share → AreMeasurable i xs → AreMeasurable i ys
  measured_share ys i e h = record {
    inner = h.inner;
    checked = h.checked;
    few = omega (arith, ap length e, length-filter_both (λ p. p.job == j) (λ p. not (p.job == j)) (λ _. refl) xs, h.few);
    place = shared (HasPlace i) ys e h.place;
    moments = shared (λ p. IsMoment p.from × IsMoment p.to) ys e h.moments;
  }

-- ---- the last end of earlier operations
abbrev EndsBy : List Piece → ℕ → ℕ → ℤ → Type 0
EndsBy xs j o x = All (λ p. p.job ≡ j → p.op < o → p.to ≤ℤ x) xs

pub greater_of : (a b x new : ℤ) → new ≡ int_max a b → a ≡ x → new ≡ int_max x b
greater_of a b x new e f = subst (λ y. new ≡ int_max y b) f e

pub earlier_none : (j o : ℕ) → IsEarlierEnd [] j o (pos 0)
earlier_none j o = record { natural = omega (arith, ints); bound = All-nil _; least = λ b h all. h }

-- a piece that counts, and one that does not
pub earlier_more : (xs : List Piece) (k j o : ℕ) (d p : Piece) (x : ℤ)
    → k < length xs → p ≡ get_or xs k d → (p.job ≡ j) × (p.op < o) → IsEarlierEnd (take k xs) j o x → IsEarlierEnd (take (k + 1) xs) j o (int_max p.to x)
earlier_more xs k j o d p x h is counts so_far = subst (λ q. (q.job ≡ j) × (q.op < o) → IsEarlierEnd (take (k + 1) xs) j o (int_max q.to x)) (sym is) next counts
  where
    next : ((get_or xs k d).job ≡ j) × ((get_or xs k d).op < o) → IsEarlierEnd (take (k + 1) xs) j o (int_max (get_or xs k d).to x)
    next c = record {
      natural = ≤ℤ_trans so_far.natural (≤ℤ-int_max_right (get_or xs k d).to x);
      bound = All-more (λ q. q.job ≡ j → q.op < o → q.to ≤ℤ int_max (get_or xs k d).to x)
          xs k d h (λ i f l s t. ≤ℤ_trans (so_far.bound i f l s t) (≤ℤ-int_max_right (get_or xs k d).to x)) (λ s t. ≤ℤ-int_max_left (get_or xs k d).to x);
      least = λ b n all. let f = fewer (λ q. q.job ≡ j → q.op < o → q.to ≤ℤ b) xs k d h all in int_max-least (f.1 c.0 c.1) (so_far.least b n f.0);
    }

pub earlier_same : (xs : List Piece) (k j o : ℕ) (d p : Piece) (x : ℤ)
    → k < length xs → p ≡ get_or xs k d → ¬ ((p.job ≡ j) × (p.op < o)) → IsEarlierEnd (take k xs) j o x → IsEarlierEnd (take (k + 1) xs) j o x
earlier_same xs k j o d p x h is not_later so_far = record {
  natural = so_far.natural;
  bound = All-more (λ q. q.job ≡ j → q.op < o → q.to ≤ℤ x) xs k d h so_far.bound (λ s t. absurd (not_later (ap (λ q. q.job) is ∙ s, subst (λ q. q.op < o) (sym is) t)));
  least = λ b n all. so_far.least b n (fewer (λ q. q.job ≡ j → q.op < o → q.to ≤ℤ b) xs k d h all).0;
}

-- a route is kept where the operation begins from there
pub route_from_end : (xs : List Piece) (j o : ℕ) (x y : ℤ) (result : Bool) → y ≡ x → All (λ p. IsMoment p.from × IsMoment p.to) xs
    → IsEarlierEnd xs j o x → IsTrue result ↔ All (λ q. q.job ≡ j → q.op ≡ o → y ≤ℤ q.from) xs → IsTrue result ↔ KeepsRoute xs j o
route_from_end xs j o x y result e moments end (to, from) = (
  λ h k d l m f n mine other less same. ≤ℤ_trans (end.bound k d l mine less) (subst (λ z. z ≤ℤ (get_or xs m f).from) e (to h m f n other same)),
  λ kept. from (λ m f n mine same. subst (λ z. z ≤ℤ (get_or xs m f).from) (sym e) (end.least (get_or xs m f).from (moments m f n).0.0 (λ k d l own less. kept k d l m f n own mine less same))),
)
