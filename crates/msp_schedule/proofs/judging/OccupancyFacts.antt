-- Occupancies of pieces in order: neighbours that do not meet leave no overlap, and the first two that meet are the first overlap.
use Rattle.std.proofs.Common.{◌≡◌, ◌≢◌, ℕ, ◌+◌, ◌<◌, ◌≤◌, inl, inr, Bool, false, List, [], ◌∷◌, ◌++◌, length, get_or, All, AllPairs, Contains, IsPermutation, Option, Some, None}
use Rattle.std.proofs.Common.{◌≤ℤ◌, ◌<ℤ◌, refl, sym, ap, subst, ◌∙◌, arith, below_more}
use Rattle.std.specs.Ordering.{int_cmp, nat_cmp, ordering_then, MatchOrdering, is_lt}
use Rattle.std.specs.declared.cmp.Ordering.{Ordering}
use Rattle.std.specs.declared.cmp.Ordering.TheVariants.{Less, Equal, Greater}
use Rattle.msp_pieces.proofs.lists.DateOrder.{less-no}
use Rattle.std.proofs.lemmas.Bool.{cases_lt}
use Rattle.std.proofs.lemmas.Cmp.{ranked, nat_cmp_total, int_cmp_total, on_total, then_total}
use Rattle.std.proofs.lemmas.Int.{ints}
use Rattle.std.proofs.lemmas.List.{get_or_default, length_push, get_or_push, get_or_append_left}
use Rattle.std.proofs.lemmas.List.Elements.{Contains-get_or}
use Rattle.std.specs.Cmp.{IsStrictWeakOrder}
use Rattle.std.specs.List.Sorted.{IsSortedBy}
use Rattle.std.specs.Prelude.{IfSome}
use Rattle.std.proofs.lemmas.List.Sorted.{ranks_by, sorted_far, All-permutation, Contains-permutation}
use Rattle.msp_class.proofs.IntegerRing.{≤ℤ_total, ≤ℤ_trans, ≤ℤ_of_same, <ℤ_weak}
use Rattle.msp_pieces.specs.declared.Piece.{Piece}
use Rattle.msp_schedule.specs.declared.occupancies.Occupancy.{Occupancy}
use Rattle.msp_schedule.specs.declared.overlaps.Lane.{Lane}
use Rattle.msp_pieces.specs.Piece.{IsApart, piece_at}
use Rattle.msp_schedule.specs.Breaks.{StandsAhead, Overlaps, IsFirstOverlap}
use Rattle.msp_schedule.specs.Lanes.{lane_of, Precedes}
use Rattle.msp_schedule.specs.Occupancies.{no_occupancy, occupancy_at, occupancy_of, AreOccupancies, IsNotAfter, IsClearBelow, IsFirstMeeting}
use Rattle.msp_schedule.proofs.judging.OverlapFacts.{apart_without_overlap, is_first}
use Rattle.msp_pieces.proofs.lists.Permuted.{AllPairs-permutation}

-- ---- one more occupancy
pub AreOccupancies-next : (lane : Lane) (ps : List Piece) (n : ℕ) (ms : List Occupancy) (m : Occupancy) → AreOccupancies lane ps n ms → m ≡ occupancy_of lane (piece_at ps n) n
    → AreOccupancies lane ps (n + 1) (ms ++ m ∷ [])
AreOccupancies-next lane ps n ms m h e = (
  omega (arith, length_push ms m, h.0),
  below_more (λ k. occupancy_at (ms ++ m ∷ []) k ≡ occupancy_of lane (piece_at ps k) k) n
      (λ k l. get_or_append_left ms (m ∷ []) no_occupancy k (omega (arith, l, h.0)) ∙ h.1 k l) (get_or_push ms m no_occupancy n h.0 ∙ e),
)

-- ---- occupancies in any order
-- a occupancy is that of its piece, each piece has its occupancy, and no two have one number
pub record HasOccupancies (lane : Lane) (ps : List Piece) (ms : List Occupancy) : Type 0 where
  pub each : All (λ m. (m.number < length ps) × (m ≡ occupancy_of lane (piece_at ps m.number) m.number)) ms
  pub all : (k : ℕ) → k < length ps → Contains ms (occupancy_of lane (piece_at ps k) k)
  pub distinct : AllPairs (λ a b. a.number ≢ b.number) ms

pub occupancies_by_number : (lane : Lane) (ps : List Piece) (ms : List Occupancy) → AreOccupancies lane ps (length ps) ms → HasOccupancies lane ps ms
occupancies_by_number lane ps ms (e, at) = record {
  each = λ k d l. let is = own k d l in (subst (λ m. m.number < length ps) (sym is) (omega (arith, l, e)), subst (λ m. m ≡ occupancy_of lane (piece_at ps m.number) m.number) (sym is) refl);
  all = λ k l. subst (Contains ms) (at k l) (Contains-get_or ms k no_occupancy (omega (arith, l, e)));
  distinct = λ k l d less inside same. let a = ap (λ m. m.number) (own k d (omega (arith, less, inside))) in let b = ap (λ m. m.number) (own l d inside) in omega (arith, less, a, b, same);
}
  where
    own : (k : ℕ) (d : Occupancy) → k < length ms → get_or ms k d ≡ occupancy_of lane (piece_at ps k) k
    own k d l = get_or_default ms k d no_occupancy l ∙ at k (omega (arith, l, e))

pub occupancies_permuted : (lane : Lane) (ps : List Piece) (ms ns : List Occupancy) → IsPermutation ms ns → HasOccupancies lane ps ms → HasOccupancies lane ps ns
occupancies_permuted lane ps ms ns h m = record {
  each = All-permutation (λ m. (m.number < length ps) × (m ≡ occupancy_of lane (piece_at ps m.number) m.number)) ms ns h m.each;
  all = λ k l. Contains-permutation ms ns (occupancy_of lane (piece_at ps k) k) h (m.all k l);
  distinct = AllPairs-permutation (λ a b. a.number ≢ b.number) (λ a b n e. n (sym e)) ms ns h m.distinct;
}

-- ---- occupancies in order
module _ (lane : Lane) (ps : List Piece) (ms : List Occupancy) (has : HasOccupancies lane ps ms) (sorted : AllPairs IsNotAfter ms) where
  -- the occupancy of a piece, and its place
  place : (k : ℕ) → k < length ps → (x : ℕ) × (x < length ms) × (occupancy_at ms x ≡ occupancy_of lane (piece_at ps k) k)
  place k l = let c = has.all k l in (c.0, c.1, get_or_default ms c.0 no_occupancy _ c.1 ∙ c.2)

  -- a occupancy that comes later does not come before
  in_order : (k l x y : ℕ) → x < length ms → y < length ms → occupancy_at ms x ≡ occupancy_of lane (piece_at ps k) k
      → occupancy_at ms y ≡ occupancy_of lane (piece_at ps l) l → Precedes (lane_of lane) ps k l → x < y
  in_order k l x y ix iy ex ey before = elim (cases_lt x y) [
    | inl less ↦ less
    | inr more ↦ elim (cases_lt y x) [
      | inl less ↦ absurd (backward before (weaker less))
      | inr back ↦ absurd (not_itself before (ap (λ m. m.number) (sym ex ∙ ap (occupancy_at ms) (omega (arith, more, back)) ∙ ey)))
    ]
  ]
    where
      weaker : y < x → IsNotAfter (occupancy_of lane (piece_at ps l) l) (occupancy_of lane (piece_at ps k) k)
      weaker less = subst (λ m. IsNotAfter m (occupancy_of lane (piece_at ps k) k)) ey (subst (λ m. IsNotAfter (occupancy_at ms y) m) ex (sorted y x no_occupancy less ix))

      number_less : y < x → l ≢ k
      number_less less e = has.distinct y x no_occupancy less ix (ap (λ m. m.number) ey ∙ e ∙ sym (ap (λ m. m.number) ex))

      not_itself : Precedes (lane_of lane) ps k l → k ≡ l → ⊥
      not_itself (inl a) e = let same = ap (λ i. lane_of lane (piece_at ps i)) e in omega (arith, a, same)
      not_itself (inr (s, inl a)) e = let same = ap (λ i. (piece_at ps i).from) e in omega (arith, ints, a, same)
      not_itself (inr (s, inr (f, a))) e = omega (arith, a, e)

      backward : Precedes (lane_of lane) ps k l → IsNotAfter (occupancy_of lane (piece_at ps l) l) (occupancy_of lane (piece_at ps k) k) → ⊥
      backward (inl a) (inl b) = omega (arith, a, b)
      backward (inl a) (inr (e, b)) = omega (arith, a, e)
      backward (inr (e, a)) (inl b) = omega (arith, e, b)
      backward (inr (e, inl a)) (inr (f, inl b)) = omega (arith, ints, a, b)
      backward (inr (e, inl a)) (inr (f, inr (g, b))) = omega (arith, ints, a, g)
      backward (inr (e, inr (s, a))) (inr (f, inl b)) = omega (arith, ints, s, b)
      backward (inr (e, inr (s, a))) (inr (f, inr (g, b))) = omega (arith, a, b)

  -- where neighbours do not meet, no two occupancies of one lane overlap
  apart_at : (a x y : ℕ) → IsClearBelow ms a → x < y → y < a → a ≤ length ms → (occupancy_at ms x).lane ≡ (occupancy_at ms y).lane → (occupancy_at ms x).to ≤ℤ (occupancy_at ms y).from
  apart_at a x y clear less below whole same = elim (cases_lt (x + 1) y) [
    | inl more ↦ further (sorted x (x + 1) no_occupancy (omega arith) (omega (arith, more, below, whole))) (sorted (x + 1) y no_occupancy more (omega (arith, below, whole)))
    | inr last ↦ subst (λ z. (occupancy_at ms x).lane ≡ (occupancy_at ms z).lane → (occupancy_at ms x).to ≤ℤ (occupancy_at ms z).from) (omega (arith, less, last)) near same
  ]
    where
      near : (occupancy_at ms x).lane ≡ (occupancy_at ms (x + 1)).lane → (occupancy_at ms x).to ≤ℤ (occupancy_at ms (x + 1)).from
      near e = elim (≤ℤ_total (occupancy_at ms x).to (occupancy_at ms (x + 1)).from) [ inl h ↦ h | inr early ↦ absurd (clear x (omega (arith, less, below)) (e, early)) ]

      lane_between : IsNotAfter (occupancy_at ms x) (occupancy_at ms (x + 1)) → (occupancy_at ms x).lane ≤ (occupancy_at ms (x + 1)).lane
      lane_between (inl h) = omega (arith, h)
      lane_between (inr (e, h)) = omega (arith, e)

      further : IsNotAfter (occupancy_at ms x) (occupancy_at ms (x + 1)) → IsNotAfter (occupancy_at ms (x + 1)) (occupancy_at ms y) → (occupancy_at ms x).to ≤ℤ (occupancy_at ms y).from
      further first (inl h) = absurd (omega (arith, lane_between first, h, same))
      further first (inr (e, inl h)) = ≤ℤ_trans (near (same ∙ sym e)) (<ℤ_weak h)
      further first (inr (e, inr (f, h))) = ≤ℤ_trans (near (same ∙ sym e)) (≤ℤ_of_same f)

  -- an overlap has its second occupancy beyond each place up to which neighbours do not meet
  beyond : (a k l y : ℕ) → IsClearBelow ms a → a ≤ length ms → y < length ms → occupancy_at ms y ≡ occupancy_of lane (piece_at ps l) l → Overlaps (lane_of lane) ps k l → a ≤ y
  beyond a k l y clear whole iy ey o = elim (cases_lt y a) [
    | inl below ↦ absurd (meets below)
    | inr h ↦ h
  ]
    where
      meets : y < a → ⊥
      meets below =
          let (x, ix, ex) = place k o.one in
          let less = in_order k l x y ix iy ex ey (inr (o.same, o.ahead)) in
          let apart = apart_at a x y clear less below whole (ap (λ m. m.lane) ex ∙ o.same ∙ sym (ap (λ m. m.lane) ey)) in
          omega (arith, ints, ap (λ m. m.to) ex, ap (λ m. m.from) ey, apart, o.early)

  pub clear_is_apart : IsClearBelow ms (length ms) → AllPairs (λ p q. lane_of lane p ≡ lane_of lane q → IsApart p q) ps
  clear_is_apart clear = apart_without_overlap (lane_of lane)
      ps (λ k l inside o. let (y, iy, ey) = place l inside in let h = beyond (length ms) k l y clear (omega arith) iy ey o in omega (arith, h, iy))

  pub meeting_is_first : (a b : ℕ) → IsFirstMeeting ms a b → IsFirstOverlap (lane_of lane) ps a b
  meeting_is_first a b (k, inside, ea, eb, meets, clear) = is_first (lane_of lane) ps a b (
    overlap,
    λ m l below o before.
        let (y, iy, ey) = place l below in
        let h = beyond (k + 1) m l y clear (omega (arith, inside)) iy ey o in
        let less = in_order l b y (k + 1) iy inside ey second before in
        omega (arith, h, less),
  )
    where
      one : occupancy_at ms k ≡ occupancy_of lane (piece_at ps a) a
      one = (has.each k no_occupancy (omega (arith, inside))).1 ∙ ap (λ i. occupancy_of lane (piece_at ps i) i) ea

      second : occupancy_at ms (k + 1) ≡ occupancy_of lane (piece_at ps b) b
      second = (has.each (k + 1) no_occupancy inside).1 ∙ ap (λ i. occupancy_of lane (piece_at ps i) i) eb

      ahead : IsNotAfter (occupancy_of lane (piece_at ps a) a) (occupancy_of lane (piece_at ps b) b) → lane_of lane (piece_at ps a) ≡ lane_of lane (piece_at ps b) → StandsAhead ps a b
      ahead (inl h) e = absurd (omega (arith, h, e))
      ahead (inr (s, inl h)) e = inl h
      ahead (inr (s, inr (f, h))) e =
          let n : a ≢ b = λ same. has.distinct k (k + 1) no_occupancy (omega arith) inside (ea ∙ same ∙ sym eb) in
          inr (f, omega (arith, h, n))

      same : lane_of lane (piece_at ps a) ≡ lane_of lane (piece_at ps b)
      same = sym (ap (λ m. m.lane) one) ∙ meets.0 ∙ ap (λ m. m.lane) second

      order : IsNotAfter (occupancy_of lane (piece_at ps a) a) (occupancy_of lane (piece_at ps b) b)
      order = subst (λ m. IsNotAfter m (occupancy_of lane (piece_at ps b) b)) one (subst (IsNotAfter (occupancy_at ms k)) second (sorted k (k + 1) no_occupancy (omega arith) inside))

      early : (piece_at ps b).from <ℤ (piece_at ps a).to
      early = subst (λ m. m.from <ℤ (piece_at ps a).to) second (subst (λ m. (occupancy_at ms (k + 1)).from <ℤ m.to) one meets.1)

      overlap : Overlaps (lane_of lane) ps a b
      overlap = record {
        one = subst (λ i. i < length ps) ea (has.each k no_occupancy (omega (arith, inside))).0;
        other = subst (λ i. i < length ps) eb (has.each (k + 1) no_occupancy inside).0;
        same = same;
        ahead = ahead order same;
        early = early;
      }

-- ---- the order that is sorted by
abbrev pub occupancy_less : Occupancy → Occupancy → Bool
occupancy_less a b = is_lt (ordering_then (nat_cmp a.lane b.lane) (ordering_then (int_cmp a.from b.from) (nat_cmp a.number b.number)))

pub occupancy_less-order : IsStrictWeakOrder occupancy_less
occupancy_less-order = ranks_by (then_total (on_total (λ (m : Occupancy). m.lane) nat_cmp_total)
    (then_total (on_total (λ (m : Occupancy). m.from) int_cmp_total) (on_total (λ (m : Occupancy). m.number) nat_cmp_total))) (λ m. m)

no_less : (a b : Occupancy) (lanes : Ordering) → MatchOrdering lanes (a.lane < b.lane) (a.lane ≡ b.lane) (b.lane < a.lane)
    → is_lt (ordering_then lanes (ordering_then (int_cmp a.from b.from) (nat_cmp a.number b.number))) ≡ false → IsNotAfter b a
no_less a b Less h e = absurd (cc)
no_less a b Equal h e = inr (sym h, less-no a.from b.from a.number b.number e)
no_less a b Greater h e = inl h

pub occupancies_sorted : (ms : List Occupancy) → IsSortedBy occupancy_less ms → AllPairs IsNotAfter ms
occupancies_sorted ms h i j d l k =
    no_less (get_or ms j d) (get_or ms i d) _ (ranked (get_or ms j d).lane (get_or ms i d).lane _ refl)
    (sorted_far occupancy_less occupancy_less-order ms h i j d (omega arith) k)

-- ---- the sweep
pub swept_none : (lane : Lane) (ps : List Piece) (ms ns xs : List Occupancy) → AreOccupancies lane ps (length ps) ms
    → IsPermutation ms ns → AllPairs IsNotAfter ns → xs ≡ ns → IsClearBelow xs (length xs) → AllPairs (λ p q. lane_of lane p ≡ lane_of lane q → IsApart p q) ps
swept_none lane ps ms ns xs are h sorted e clear =
    clear_is_apart lane ps ns (occupancies_permuted lane ps ms ns h (occupancies_by_number lane ps ms are)) sorted (subst (λ l. IsClearBelow l (length l)) e clear)

pub swept_some : (lane : Lane) (ps : List Piece) (ms ns xs : List Occupancy) (r : Option (ℕ × ℕ)) → AreOccupancies lane ps (length ps) ms → IsPermutation ms ns
    → AllPairs IsNotAfter ns → xs ≡ ns → IfSome r (λ pair. IsFirstMeeting xs pair.0 pair.1) → IfSome r (λ pair. IsFirstOverlap (lane_of lane) ps pair.0 pair.1)
swept_some lane ps ms ns xs None are h sorted e m = tt
swept_some lane ps ms ns xs (Some (a, b)) are h sorted e m =
    meeting_is_first lane ps ns (occupancies_permuted lane ps ms ns h (occupancies_by_number lane ps ms are)) sorted a b (subst (λ l. IsFirstMeeting l a b) e m)
