-- A task is laid by the place of the first machine on which it ends by its deadline.
use Rattle.std.proofs.Common.{◌≡◌, ℕ, zero, suc, ◌+◌, ◌-◌, ◌<◌, ◌≤◌, ◌⊎◌, inl, inr, true, false, ltb, List, [], ◌∷◌, ◌++◌, length, get_or, set, All, refl, sym, ap, ap₂}
use Rattle.std.proofs.Common.{subst, ◌∙◌, arith, zero-add}
use Rattle.std.specs.Prelude.{remove}
use Rattle.std.specs.List.Sorted.{IsPartitionedBy, IsPartitionPoint}
use Rattle.std.proofs.lemmas.Bool.{cases_lt, ltb-true, ltb-false, lt-ltb}
use Rattle.std.proofs.lemmas.List.FromFn.{map-range_with_len_more}
use Rattle.std.proofs.lemmas.List.{get_or_default, get_or-set_other, get_or_read}
use Rattle.msp_pieces.specs.declared.Piece.{Piece}
use Rattle.msp_stairs.specs.declared.climb.Stair.{Stair}
use Rattle.msp_stairs.specs.declared.climb.Task.{Task}
use Rattle.msp_stairs.specs.Steps.{no_stair, ends_of, Falls, parts, level, HasTooHigh, IsBetween, raised, to_front, IsWhole, IsCut, IsLaid}
use Rattle.std.specs.List.{prefix_len}
use Rattle.std.proofs.lemmas.List.Sums.{prefix_len-le-length, prefix_len_passes, prefix_len_stops}

-- ---- the ends
Falls-all : (t : ℕ) (xs : List Stair) → Falls t (ends_of xs) → (k : ℕ) (d : Stair) → k < length xs → (get_or xs k d).end ≤ t
Falls-all t [] h k d l = absurd (omega (arith, l))
Falls-all t (x ∷ xs) h zero d l = h.0
Falls-all t (x ∷ xs) h (suc k) d l = let b = Falls-all x.end xs h.1 k d (omega (arith, l)) in omega (arith, b, h.0)

-- ---- two places of a list, one after the other, of which the first comes to the front
record IsSplit (xs : List Stair) (p q : ℕ) : Type 0 where
  pub ahead : List Stair
  pub behind : List Stair
  pub stood : xs ≡ ahead ++ get_or xs p no_stair ∷ get_or xs q no_stair ∷ behind
  pub first : (u v : Stair) → get_or (set (set xs p u) q v) p no_stair ≡ u
  pub rest : (u v : Stair) → remove (set (set xs p u) q v) p ≡ ahead ++ v ∷ behind

split_at : (xs : List Stair) (p : ℕ) → suc p < length xs → IsSplit xs p (suc p)
split_at [] p l = absurd (omega (arith, l))
split_at (x ∷ []) p l = absurd (omega (arith, l))
split_at (x ∷ y ∷ ys) zero l = record { ahead = []; behind = ys; stood = refl; first = λ u v. refl; rest = λ u v. refl }
split_at (x ∷ y ∷ ys) (suc p) l =
    let s = split_at (y ∷ ys) p (omega (arith, l)) in
    record { ahead = x ∷ s.ahead; behind = s.behind; stood = ap (λ zs. x ∷ zs) s.stood; first = λ u v. s.first u v; rest = λ u v. ap (λ zs. x ∷ zs) (s.rest u v) }

pub cut_made : (t : Task) (old one two new : List Stair) (before begun after : List Piece) (p q end : ℕ) → q ≡ suc p → HasTooHigh t old q
    → q < length old → end + t.due ≡ (get_or old q no_stair).end + (get_or old p no_stair).end + t.time
    → one ≡ raised p t.due old → begun ≡ before ++ parts t.job (get_or old p no_stair).machine (get_or old p no_stair).end t.due
    → two ≡ raised q end one → after ≡ begun ++ parts t.job (get_or one q no_stair).machine (get_or one q no_stair).end end
    → new ≡ to_front p two → IsCut t old before new after
cut_made t old one two new before begun after p q end next h l is e1 b1 e2 b2 e3 = record {
  ahead = s.ahead;
  high = get_or old p no_stair;
  low = get_or old q no_stair;
  behind = s.behind;
  end = end;
  is = is;
  beyond = h.high p (omega (arith, next));
  fits = h.low l;
  stood = s.stood;
  stand = e3 ∙ ap (to_front p) both ∙ ap₂ (λ x xs. x ∷ xs) (s.first top bottom) (s.rest top bottom);
  laid = b2 ∙ ap₂ (λ ps x. ps ++ parts t.job x.machine x.end end) b1 same;
}
  where
    s : IsSplit old p q
    s = subst (IsSplit old p) (sym next) (split_at old p (omega (arith, next, l)))

    top : Stair
    top = record { machine = (get_or old p no_stair).machine; end = t.due }

    bottom : Stair
    bottom = record { machine = (get_or old q no_stair).machine; end = end }

    same : get_or one q no_stair ≡ get_or old q no_stair
    same = ap (λ xs. get_or xs q no_stair) e1 ∙ get_or-set_other old p q top no_stair (λ e. omega (arith, e, next))

    both : two ≡ set (set old p top) q bottom
    both = e2 ∙ ap₂ (λ xs x. set xs q (record { machine = x.machine; end = end })) e1 same

-- the same as the code has it
pub between : (t : Task) (old : List Stair) (place : ℕ) (high low : Stair) → HasTooHigh t old place
    → Falls t.due (ends_of old) → 0 < place → place < length old → high ≡ get_or old (place - 1) high → low ≡ get_or old place low → IsBetween t high low
between t old place high low h falls some l e f = (
  subst (λ s. s.end ≤ t.due) (sym e) (Falls-all t.due old falls (place - 1) high (omega (arith, some, l))),
  subst (λ s. t.due < s.end + t.time) (sym (get_or_read old (place - 1) high (omega arith) e no_stair)) (h.high (place - 1) (omega (arith, some))),
  subst (λ s. s.end + t.time ≤ t.due) (sym (get_or_read old place low l f no_stair)) (h.low l),
)

pub whole_made : (t : Task) (old new : List Stair) (before after : List Piece) (end : ℕ) → HasTooHigh t old 0 → 0 < length old → end ≡ (get_or old 0 no_stair).end + t.time
    → new ≡ raised 0 end old → after ≡ before ++ parts t.job (get_or old 0 no_stair).machine (get_or old 0 no_stair).end end → IsWhole t old before new after
whole_made t [] new before after end h l is e b = absurd (omega (arith, l))
whole_made t (s ∷ ss) new before after end h l is e b = record { first = s; others = ss; end = end; is = is; fits = omega (arith, is, h.low l); stood = refl; stand = e; laid = b }

pub late_made : (t : Task) (old : List Stair) (place : ℕ) → HasTooHigh t old place → place ≡ length old → All (λ s. t.due < s.end + t.time) old
late_made t old place h e k d l = subst (λ s. t.due < s.end + t.time) (get_or_default old k no_stair d l) (h.high k (omega (arith, l, e)))

-- ---- there is such a place, and so each task is laid or fits on no machine
place_of : (t : Task) (xs : List Stair) → (place : ℕ) × HasTooHigh t xs place
place_of t xs =
    let over = λ (s : Stair). ltb t.due (s.end + t.time) in (
      prefix_len over xs,
      record {
        inside = prefix_len-le-length over xs;
        high = λ k l. ltb-true t.due ((get_or xs k no_stair).end + t.time) (prefix_len_passes over xs k no_stair l);
        low = λ l. ltb-false t.due ((get_or xs (prefix_len over xs) no_stair).end + t.time) (prefix_len_stops over xs no_stair l);
      },
    )

pub laying : (t : Task) (old : List Stair) (before : List Piece)
    → 0 < length old → ((new : List Stair) × (after : List Piece) × IsLaid t old before true new after) ⊎ All (λ s. t.due < s.end + t.time) old
laying t old before some = let (place, h) = place_of t old in by place h (cases_lt place (length old))
  where
    by : (place : ℕ) → HasTooHigh t old place → (place < length old) ⊎ (length old ≤ place)
        → ((new : List Stair) × (after : List Piece) × IsLaid t old before true new after) ⊎ All (λ s. t.due < s.end + t.time) old
    by place h (inr late) = inr (late_made t old place h (omega (arith, late, h.inside)))
    by zero h (inl l) = inl (_, _, inl (whole_made t old _ before _ ((get_or old 0 no_stair).end + t.time) h l refl refl refl))
    by (suc p) h (inl l) =
        let high = get_or old p no_stair in
        let low = get_or old (suc p) no_stair in
        let over = h.high p (omega arith) in
        inl (_, _, inr (cut_made t old _ _ _ before _ _ p (suc p) ((low.end + high.end + t.time) - t.due) refl h l (omega (arith, over)) refl refl refl refl refl))

-- ---- the place that a search finds
Falls-pairs : (t : ℕ) (xs : List Stair) → Falls t (ends_of xs) → (i j : ℕ) (d : Stair) → i ≤ j → j < length xs → (get_or xs j d).end ≤ (get_or xs i d).end
Falls-pairs t [] h i j d l b = absurd (omega (arith, b))
Falls-pairs t (x ∷ xs) h zero zero d l b = omega arith
Falls-pairs t (x ∷ xs) h zero (suc j) d l b = Falls-all x.end xs h.1 j d (omega (arith, b))
Falls-pairs t (x ∷ xs) h (suc i) zero d l b = absurd (omega (arith, l))
Falls-pairs t (x ∷ xs) h (suc i) (suc j) d l b = Falls-pairs x.end xs h.1 i j d (omega (arith, l)) (omega (arith, b))

pub parted : (t : Task) (top : ℕ) (xs : List Stair) → Falls top (ends_of xs) → IsPartitionedBy (λ s. ltb t.due (s.end + t.time)) xs
parted t top xs h i j d l b e =
    let less = Falls-pairs top xs h i j d l b in
    let over = ltb-true t.due ((get_or xs j d).end + t.time) e in
    lt-ltb t.due ((get_or xs i d).end + t.time) (omega (arith, less, over))

pub place_found : (t : Task) (xs : List Stair) (place : ℕ)
    → place ≤ length xs → IsPartitionPoint (λ s. ltb t.due (s.end + t.time) ≡ true) (λ s. ltb t.due (s.end + t.time) ≡ false) xs place → HasTooHigh t xs place
place_found t xs place l (above, below) = record {
  inside = l;
  high = λ k b. ltb-true t.due ((get_or xs k no_stair).end + t.time) (above k no_stair (omega arith) b);
  low = λ b. ltb-false t.due ((get_or xs place no_stair).end + t.time) (below place no_stair (omega arith) b);
}

-- ---- the loops
pub level_next : (old new : List Stair) (k : ℕ) → new ≡ old ++ record { machine = k; end = 0 } ∷ [] → old ≡ level k → new ≡ level (k + 1)
level_next old new k e h = e ∙ ap (λ ss. ss ++ record { machine = k; end = 0 } ∷ []) h ∙ sym (map-range_with_len_more (λ k. record { machine = k; end = 0 }) 0 k k (zero-add k))
