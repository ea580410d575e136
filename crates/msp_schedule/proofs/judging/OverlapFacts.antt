-- Pieces that overlap, and the order in which they are looked at.
use Rattle.std.proofs.Common.{◌≡◌, ℕ, ◌+◌, ◌<◌, ◌≤◌, ◌⊎◌, inl, inr, List, length, Option, Some, None, ℤ, ◌≤ℤ◌, ◌<ℤ◌, AllPairs, sym, ◌∙◌, subst, subst₂, arith}
use Rattle.std.proofs.lemmas.Int.{ints}
use Rattle.std.proofs.lemmas.Bool.{cases_lt}
use Rattle.std.proofs.lemmas.List.{get_or_default}
use Rattle.msp_class.proofs.IntegerRing.{≤ℤ_total, ≤ℤ_antisym}
use Rattle.msp_pieces.specs.declared.Piece.{Piece}
use Rattle.msp_pieces.specs.Piece.{IsApart, piece_at, no_piece}
use Rattle.msp_schedule.specs.Breaks.{Overlaps, IsFirstOverlap}
use Rattle.msp_schedule.specs.Lanes.{Precedes, IsFirstOverlapBelow}

-- moments and numbers in order
ahead_trans : (a b c : ℤ) (k l m : ℕ) → (a <ℤ b) ⊎ ((a ≡ b) × (k < l)) → (b <ℤ c) ⊎ ((b ≡ c) × (l < m)) → (a <ℤ c) ⊎ ((a ≡ c) × (k < m))
ahead_trans a b c k l m (inl h) (inl g) = inl (omega (arith, ints, h, g))
ahead_trans a b c k l m (inl h) (inr (e, g)) = inl (subst (λ x. a <ℤ x) e h)
ahead_trans a b c k l m (inr (e, h)) (inl g) = inl (subst (λ x. x <ℤ c) (sym e) g)
ahead_trans a b c k l m (inr (e, h)) (inr (f, g)) = inr (e ∙ f, omega (arith, h, g))

ahead_not_self : (a : ℤ) (k : ℕ) → ¬ ((a <ℤ a) ⊎ ((a ≡ a) × (k < k)))
ahead_not_self a k (inl h) = omega (arith, ints, h)
ahead_not_self a k (inr (e, h)) = omega (arith, h)

module _ (lane : Piece → ℕ) (xs : List Piece) where
  pub Precedes-trans : (k l m : ℕ) → Precedes lane xs k l → Precedes lane xs l m → Precedes lane xs k m
  Precedes-trans k l m (inl h) (inl g) = inl (omega (arith, h, g))
  Precedes-trans k l m (inl h) (inr (e, g)) = inl (omega (arith, h, e))
  Precedes-trans k l m (inr (e, h)) (inl g) = inl (omega (arith, e, g))
  Precedes-trans k l m (inr (e, h)) (inr (f, g)) = inr (e ∙ f, ahead_trans _ _ _ k l m h g)

  pub Precedes-not_self : (k : ℕ) → ¬ Precedes lane xs k k
  Precedes-not_self k (inl h) = omega (arith, h)
  Precedes-not_self k (inr (e, h)) = ahead_not_self _ k h

  at_most : (l b : ℕ) → l < b + 1 → (l < b) ⊎ (l ≡ b)
  at_most l b h = elim (cases_lt l b) [ inl x ↦ inl x | inr y ↦ inr (omega (arith, h, y)) ]

  -- no overlap among all pieces, and the first of them
  pub apart_without_overlap : ((k l : ℕ) → l < length xs → ¬ Overlaps lane xs k l) → AllPairs (λ p q. lane p ≡ lane q → IsApart p q) xs
  apart_without_overlap none k l d less inside =
      subst₂ (λ p q. lane p ≡ lane q → IsApart p q) (get_or_default xs k no_piece d (omega (arith, less, inside))) (get_or_default xs l no_piece d inside) (apart k l less inside)
    where
      apart : (k l : ℕ) → k < l → l < length xs → lane (piece_at xs k) ≡ lane (piece_at xs l) → IsApart (piece_at xs k) (piece_at xs l)
      apart k l less inside e = elim (≤ℤ_total (piece_at xs k).to (piece_at xs l).from) [
        | inl h ↦ inl h
        | inr early ↦ elim (≤ℤ_total (piece_at xs l).to (piece_at xs k).from) [
          | inl h ↦ inr h
          | inr late ↦ elim (≤ℤ_total (piece_at xs k).from (piece_at xs l).from) [
            | inl order ↦ absurd
                (none k l inside (record { one = omega (arith, less, inside); other = inside; same = e; ahead = in_order (piece_at xs k).from (piece_at xs l).from order; early = early }))
            | inr order ↦ absurd (none l k (omega (arith, less, inside)) (record { one = inside; other = omega (arith, less, inside); same = sym e; ahead = inl order; early = late }))
          ]
        ]
      ]
        where
          in_order : (a b : ℤ) → a ≤ℤ b → (a <ℤ b) ⊎ ((a ≡ b) × (k < l))
          in_order a b h = elim (≤ℤ_total b a) [ inl back ↦ inr (≤ℤ_antisym h back, less) | inr x ↦ inl x ]

  pub is_first : (a b : ℕ) → IsFirstOverlapBelow lane xs (length xs) (Some (a, b)) → IsFirstOverlap lane xs a b
  is_first a b (h, rest) = record {
    overlap = h;
    least = λ k l o. elim (cases_lt (lane (piece_at xs l)) (lane (piece_at xs b))) [ inl less ↦ absurd (rest k l o.other o (inl less)) | inr x ↦ x ];
    earliest = λ k l o e p. rest k l o.other o (inr (e, p));
  }

  -- the same for what is known so far
  pub known_stays : (best : Option (ℕ × ℕ)) (b m n : ℕ) → best ≡ Some (m, n) → IsFirstOverlapBelow lane xs b best → ¬ Precedes lane xs b n → IsFirstOverlapBelow lane xs (b + 1) best
  known_stays best b m n e h later = subst (IsFirstOverlapBelow lane xs (b + 1)) (sym e) (
    known.0,
    λ k l below o. elim (at_most l b below) [
      | inl less ↦ known.1 k l less o
      | inr same ↦ subst (λ x. ¬ Precedes lane xs x n) (sym same) later
    ],
  )
    where
      known : IsFirstOverlapBelow lane xs b (Some (m, n))
      known = subst (IsFirstOverlapBelow lane xs b) e h

  -- an overlap whose second piece comes before the one known
  pub new_is_better : (best : Option (ℕ × ℕ)) (a b m n : ℕ) → best ≡ Some (m, n)
      → IsFirstOverlapBelow lane xs b best → Overlaps lane xs a b → Precedes lane xs b n → IsFirstOverlapBelow lane xs (b + 1) (Some (a, b))
  new_is_better best a b m n e h o before = (
    o,
    λ k l below other. elim (at_most l b below) [
      | inl less ↦ λ p. (subst (IsFirstOverlapBelow lane xs b) e h).1 k l less other (Precedes-trans l b n p before)
      | inr same ↦ λ p. Precedes-not_self b (subst (λ x. Precedes lane xs x b) same p)
    ],
  )

  -- the first overlap of all
  pub new_is_first : (best : Option (ℕ × ℕ)) (a b : ℕ) → best ≡ None → IsFirstOverlapBelow lane xs b best → Overlaps lane xs a b → IsFirstOverlapBelow lane xs (b + 1) (Some (a, b))
  new_is_first best a b e h o = (
    o,
    λ k l below other. elim (at_most l b below) [
      | inl less ↦ absurd (subst (IsFirstOverlapBelow lane xs b) e h k l less other)
      | inr same ↦ λ p. Precedes-not_self b (subst (λ x. Precedes lane xs x b) same p)
    ],
  )

  pub nothing_new : (best : Option (ℕ × ℕ)) (b : ℕ) → ((k : ℕ) → ¬ Overlaps lane xs k b) → IsFirstOverlapBelow lane xs b best → IsFirstOverlapBelow lane xs (b + 1) best
  nothing_new None b none h = λ k l below o. elim (at_most l b below) [ inl less ↦ h k l less o | inr same ↦ none k (subst (Overlaps lane xs k) same o) ]
  nothing_new (Some (m, n)) b none (o, rest) = (o, λ k l below p. elim (at_most l b below) [ inl less ↦ rest k l less p | inr same ↦ absurd (none k (subst (Overlaps lane xs k) same p)) ])

  pub none_overlap : (best : Option (ℕ × ℕ)) (n : ℕ) → length xs ≤ n → best ≡ None → IsFirstOverlapBelow lane xs n best → AllPairs (λ p q. lane p ≡ lane q → IsApart p q) xs
  none_overlap best n whole e h = apart_without_overlap (λ k l below. subst (IsFirstOverlapBelow lane xs n) e h k l (omega (arith, whole, below)))
