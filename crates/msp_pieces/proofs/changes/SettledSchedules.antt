-- Dividing a schedule by its greatest common divisor, and putting its pieces in order.
use Rattle.std.proofs.Common.{◌≡◌, ◌≢◌, ℕ, slice_set, negsuc, ◌+◌, ◌*◌, ◌<◌, ◌≤◌, Bool, List, [], ◌∷◌, ◌++◌, length, get_or, take, map, All, AllPairs}
use Rattle.std.proofs.Common.{IsPermutation, inl, inr, ℤ, pos, ◌*ℤ◌, ◌≤ℤ◌, ◌<ℤ◌, unsigned_abs, refl, sym, ap, ap₂, subst, ◌∙◌, arith, subst₂}
use Rattle.std.specs.Int.{IsGcd}
use Rattle.std.specs.Cmp.{IsStrictWeakOrder}
use Rattle.std.specs.List.Sorted.{IsSortedBy}
use Rattle.std.proofs.Math.Nat.{div-mul_cancel, mul-div_cancel', dvd_of_mul-dvd-mul_right, mul-dvd-mul_right, pos_of_dvd_of_pos, one-mul, div-le_self, eq-one_of_dvd-one}
use Prim.Native.Nat.{◌∣◌}
use Rattle.std.proofs.lemmas.Int.{ints}
use Rattle.std.proofs.lemmas.Nat.Gcd.{dvd_trans, dvd_refl}
use Rattle.std.proofs.lemmas.List.{length-map, get_or-map, get_or-set_other, take_more, take_more_set, take_all}
use Rattle.std.proofs.lemmas.List.Elements.{All-head, All-tail, All-nil, All-push, All-map}
use Rattle.std.proofs.lemmas.List.Sorted.{All-permutation, length_permutation, IsPermutation-sym}
use Rattle.msp_class.proofs.IntegerRing.{pos-le, *ℤ-zero, *ℤ_assoc, *ℤ_comm, ≤ℤ_trans, *ℤ-cancel_lt}
use Rattle.msp_instance.specs.declared.Instance.{Instance}
use Rattle.msp_pieces.specs.declared.Piece.{Piece}
use Rattle.msp_pieces.specs.declared.Schedule.{Schedule}
use Rattle.msp_pieces.specs.Cost.{cost_of}
use Rattle.msp_pieces.specs.Divisor.{IsCommonDivisor, part_of, divided}
use Rattle.msp_pieces.specs.Feasible.{Feasible}
use Rattle.msp_pieces.specs.Settled.{IsReportedFirst, IsSettled, IsSettledFrom}
use Rattle.msp_pieces.specs.Within.{IsMoment, Within}
use Rattle.msp_pieces.proofs.lists.DateOrder.{date_less, date_less-order, date_sorted}
use Rattle.msp_pieces.proofs.costs.Charges.{SameCharges-from_jobs, cost-same_ends}
use Rattle.msp_pieces.proofs.lists.Permuted.{Feasible-permutation, last_end-permutation}
use Rattle.msp_pieces.proofs.changes.Shrunk.{All-from_map, grown, grown_schedule, Feasible-shrunk, cost-grown}
use Rattle.msp_pieces.proofs.lists.Parts.{All-front, All-back}

-- ---- common divisors
pub IsCommonDivisor-none : (unit : ℤ) (g : ℕ) → g ≡ unsigned_abs unit → IsCommonDivisor unit [] g
IsCommonDivisor-none unit g e = record {
  all = (subst (λ x. g ∣ x) e (dvd_refl g), All-nil (λ p. (g ∣ unsigned_abs p.from) × (g ∣ unsigned_abs p.to)));
  greatest = λ d h. subst (λ x. d ∣ x) (sym e) h.0;
}

pub IsCommonDivisor-more : (unit : ℤ) (ps : List Piece) (p : Piece) (g m h : ℕ)
    → IsGcd (unsigned_abs p.from) g m → IsGcd (unsigned_abs p.to) m h → IsCommonDivisor unit ps g → IsCommonDivisor unit (ps ++ p ∷ []) h
IsCommonDivisor-more unit ps p g m h from to c = record {
  all = (
    dvd_trans h into c.all.0,
    All-push (λ q. (h ∣ unsigned_abs q.from) × (h ∣ unsigned_abs q.to)) ps p (λ k d l. let a = c.all.1 k d l in (dvd_trans h into a.0, dvd_trans h into a.1)) (dvd_trans h to.1 from.0, to.0),
  );
  greatest = λ d a. let T : Piece → Type 0 = λ q. (d ∣ unsigned_abs q.from) × (d ∣ unsigned_abs q.to) in
      let last = All-head T p [] (All-back T ps (p ∷ []) a.1) in
      to.2 d last.1 (from.2 d last.0 (c.greatest d (a.0, All-front T ps (p ∷ []) a.1)));
}
  where
    into : h ∣ g
    into = dvd_trans h to.1 from.1

pub IsCommonDivisor-step : (unit : ℤ) (ps : List Piece) (i : ℕ) (d : Piece) (g h : ℕ) → i < length ps
    → ((qs : List Piece) → IsCommonDivisor unit qs g → IsCommonDivisor unit (qs ++ get_or ps i d ∷ []) h) → IsCommonDivisor unit (take i ps) g → IsCommonDivisor unit (take (i + 1) ps) h
IsCommonDivisor-step unit ps i d g h l more c = subst (λ qs. IsCommonDivisor unit qs h) (sym (take_more ps i d l)) (more (take i ps) c)

-- ---- each piece in its place
-- the first ones are as wanted, and the others as they were
pub record Halfway (xs ys zs : List Piece) (i : ℕ) : Type 0 where
  pub done : take i zs ≡ take i ys
  pub left : (k : ℕ) (d : Piece) → i ≤ k → get_or zs k d ≡ get_or xs k d

pub Halfway-start : (xs ys : List Piece) → Halfway xs ys xs 0
Halfway-start xs ys = record { done = refl; left = λ k d h. refl }

pub Halfway-step : (f : Piece → Piece) (xs zs : List Piece) (i : ℕ) (y d : Piece)
    → i < length zs → length zs ≡ length xs → y ≡ f (get_or zs i d) → Halfway xs (map f xs) zs i → Halfway xs (map f xs) (slice_set zs i y) (i + 1)
Halfway-step f xs zs i y d l e is h = record {
  done = take_more_set zs i y l ∙ ap₂ (λ qs q. qs ++ q ∷ []) h.done value ∙ sym (take_more (map f xs) i (f d) (omega (arith, length-map xs f)));
  left = λ k e m. let n : k ≢ i = omega arith in get_or-set_other zs i k y e n ∙ h.left k e (omega arith);
}
  where
    value : y ≡ get_or (map f xs) i (f d)
    value = is ∙ ap f (h.left i d (omega arith)) ∙ sym (get_or-map f xs i d (f d) (omega arith))

pub Halfway-all : (xs ys zs : List Piece) (i : ℕ) → length zs ≤ i → length ys ≤ i → Halfway xs ys zs i → zs ≡ ys
Halfway-all xs ys zs i l m h = sym (take_all i zs l) ∙ h.done ∙ take_all i ys m

-- ---- the order
abbrev pub piece_less : Piece → Piece → Bool
piece_less = date_less (λ p. p.from) (λ p. p.machine)

pub piece_less-order : IsStrictWeakOrder piece_less
piece_less-order = date_less-order (λ p. p.from) (λ p. p.machine)

pub pieces_sorted : (ps : List Piece) → IsSortedBy piece_less ps → AllPairs IsReportedFirst ps
pieces_sorted = date_sorted (λ p. p.from) (λ p. p.machine)

-- ---- the whole
part-grown : (g : ℕ) (x : ℤ) → pos 0 ≤ℤ x → g ∣ unsigned_abs x → pos g *ℤ part_of g x ≡ x
part-grown g (pos n) h d = ap pos (mul-div_cancel' g d)
part-grown g (negsuc n) h d = absurd (omega (arith, ints))

part-below : (g : ℕ) (x : ℤ) → pos 0 ≤ℤ x → part_of g x ≤ℤ x
part-below g (pos n) h = pos-le (div-le_self n g)
part-below g (negsuc n) h = absurd (omega (arith, ints))

abbrev pub Spans : List Piece → Type 0
Spans ps = All (λ p. (pos 0 ≤ℤ p.from) × (p.from <ℤ p.to)) ps

later : (x y : ℤ) → pos 0 ≤ℤ x → x <ℤ y → pos 0 ≤ℤ y
later x y h k = omega (arith, ints)

after : (x : ℤ) → pos 1 ≤ℤ x → pos 0 ≤ℤ x
after x h = omega (arith, ints)

pub divisor_positive : (unit : ℤ) (ps : List Piece) (g : ℕ) → pos 1 ≤ℤ unit → IsCommonDivisor unit ps g → 0 < g
divisor_positive (pos n) ps g h c = pos_of_dvd_of_pos c.all.0 (omega (arith, ints))
divisor_positive (negsuc n) ps g h c = absurd (omega (arith, ints))

-- what the calls make of a schedule
pub record IsSettling (s t : Schedule) (g : ℕ) : Type 0 where
  pub some_unit : pos 1 ≤ℤ s.unit
  pub spans : Spans s.pieces
  pub common : IsCommonDivisor s.unit s.pieces g
  pub unit_is : t.unit ≡ part_of g s.unit
  pub moved : IsPermutation (map (divided g) s.pieces) t.pieces
  pub sorted : AllPairs IsReportedFirst t.pieces

abbrev make_schedule : ℤ → List Piece → Schedule
make_schedule u ps = record { unit = u; pieces = ps }

module _ (s t : Schedule) (g : ℕ) (h : IsSettling s t g) where
  abbrev middle : Schedule
  middle = record { unit = part_of g s.unit; pieces = map (divided g) s.pieces }

  some : 0 < g
  some = divisor_positive s.unit s.pieces g h.some_unit h.common

  unit_grown : pos g *ℤ part_of g s.unit ≡ s.unit
  unit_grown = part-grown g s.unit (after s.unit h.some_unit) h.common.all.0

  pieces_grown : (ps : List Piece) → Spans ps → All (λ p. (g ∣ unsigned_abs p.from) × (g ∣ unsigned_abs p.to)) ps → map (grown g) (map (divided g) ps) ≡ ps
  pieces_grown [] a b = refl
  pieces_grown (p ∷ ps) a b =
      let n = All-head (λ q. (pos 0 ≤ℤ q.from) × (q.from <ℤ q.to)) p ps a in
      let d = All-head (λ q. (g ∣ unsigned_abs q.from) × (g ∣ unsigned_abs q.to)) p ps b in
      ap₂ (λ q qs. q ∷ qs) (ap₂ (λ x y. record p { from = x; to = y }) (part-grown g p.from n.0 d.0) (part-grown g p.to (later p.from p.to n.0 n.1) d.1))
      (pieces_grown ps (All-tail (λ q. (pos 0 ≤ℤ q.from) × (q.from <ℤ q.to)) p ps a) (All-tail (λ q. (g ∣ unsigned_abs q.from) × (g ∣ unsigned_abs q.to)) p ps b))

  is_grown : grown_schedule g middle ≡ s
  is_grown = ap₂ (λ u ps. make_schedule u ps) unit_grown (pieces_grown s.pieces h.spans h.common.all.1)

  pub settled_feasible : (i : Instance) → Feasible i s → Feasible i t
  settled_feasible i f =
      Feasible-permutation i middle t (sym h.unit_is) h.moved (Feasible-shrunk g some i middle (subst (Feasible i) (sym is_grown) f))

  pub settled_cost : (i : Instance) → Feasible i s → cost_of i t *ℤ s.unit ≡ cost_of i s *ℤ t.unit
  settled_cost i f =
      let same = cost-same_ends i i t middle (SameCharges-from_jobs i i refl refl (λ k l. (refl, refl, refl)))
      h.unit_is (settled_feasible i f).unit (λ k l. sym (last_end-permutation middle.pieces t.pieces h.moved k)) in
      ap₂ (λ x y. x *ℤ y) same (sym unit_grown)
      ∙ sym (*ℤ_assoc (cost_of i middle) (pos g) middle.unit) ∙ ap (λ x. x *ℤ middle.unit) (*ℤ_comm (cost_of i middle) (pos g))
      ∙ ap₂ (λ x y. x *ℤ y) (sym (cost-grown g some i middle) ∙ ap (cost_of i) is_grown) (sym h.unit_is)

  unit_from : pos 1 ≤ℤ t.unit
  unit_from =
      let above = *ℤ-cancel_lt g {a = pos 0} {b = part_of g s.unit}
      (subst₂ (λ y z. y <ℤ z) (sym (*ℤ-zero (pos g))) (sym unit_grown) (omega (arith, ints, h.some_unit))) in
      subst (λ u. pos 1 ≤ℤ u) (sym h.unit_is) (omega (arith, ints, above))

  moment_within : (x : ℤ) → pos 0 ≤ℤ x → IsMoment x → IsMoment (part_of g x)
  moment_within x n m = (pos-le (omega arith), ≤ℤ_trans (part-below g x n) m.1)

  pub settled_within : (i : Instance) → Within i s → Within i t
  settled_within i w =
      let below : t.unit ≤ℤ s.unit = subst (λ u. u ≤ℤ s.unit) (sym h.unit_is) (part-below g s.unit (after s.unit h.some_unit)) in
      record {
        unit = (unit_from, ≤ℤ_trans below w.unit.1);
        few = omega (arith, w.few, length_permutation (map (divided g) s.pieces) t.pieces h.moved, length-map s.pieces (divided g));
        moments = All-permutation (λ p. IsMoment p.from × IsMoment p.to) (map (divided g) s.pieces) t.pieces h.moved (All-map (λ p. IsMoment p.from × IsMoment p.to)
            (divided g) s.pieces (λ k d l. let a = h.spans k d l in let m = w.moments k d l in (moment_within _ a.0 m.0, moment_within _ (later _ _ a.0 a.1) m.1)));
        scaled = λ e. elim (w.scaled e) [ inl c ↦ inl c | inr b ↦ inr (≤ℤ_trans below b) ];
      }

  times_divides : (d : ℕ) (x : ℤ) → pos 0 ≤ℤ x → g ∣ unsigned_abs x → d ∣ unsigned_abs (part_of g x) → (d * g) ∣ unsigned_abs x
  times_divides d (pos n) a b c = subst (λ y. (d * g) ∣ y) (div-mul_cancel g b) (mul-dvd-mul_right _ c g)
  times_divides d (negsuc n) a b c = absurd (omega (arith, ints))

  settled_lowest : (d : ℕ) → d ∣ unsigned_abs t.unit → All (λ p. (d ∣ unsigned_abs p.from) × (d ∣ unsigned_abs p.to)) t.pieces → d ≡ 1
  settled_lowest d u a = eq-one_of_dvd-one (dvd_of_mul-dvd-mul_right d some
      (subst (λ x. (d * g) ∣ x) (sym (one-mul g)) (h.common.greatest (d * g) (times_divides d s.unit (after s.unit h.some_unit) h.common.all.0 (subst (λ x. d ∣ unsigned_abs x) h.unit_is u), each))))
    where
      before : All (λ p. (d ∣ unsigned_abs p.from) × (d ∣ unsigned_abs p.to)) (map (divided g) s.pieces)
      before = All-permutation (λ p. (d ∣ unsigned_abs p.from) × (d ∣ unsigned_abs p.to)) t.pieces (map (divided g) s.pieces) (IsPermutation-sym (map (divided g) s.pieces) t.pieces h.moved) a

      each : All (λ p. ((d * g) ∣ unsigned_abs p.from) × ((d * g) ∣ unsigned_abs p.to)) s.pieces
      each k e l =
          let n = h.spans k e l in
          let c = h.common.all.1 k e l in
          let b = All-from_map (λ p. (d ∣ unsigned_abs p.from) × (d ∣ unsigned_abs p.to)) (divided g) s.pieces before k e l in
          (times_divides d _ n.0 c.0 b.0, times_divides d _ (later _ _ n.0 n.1) c.1 b.1)

  pub settled : IsSettled t
  settled = record { lowest = settled_lowest; order = h.sorted }

  pub settled_from : IsSettledFrom s t
  settled_from = record { divisor = g; greatest = h.common; unit = h.unit_is; pieces = h.moved }
