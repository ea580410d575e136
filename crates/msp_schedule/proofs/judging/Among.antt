-- The pieces of an operation among more and more pieces.
use Rattle.std.proofs.Common.{◌≡◌, ℕ, ◌+◌, ◌*◌, ◌<◌, inl, inr, Bool, true, false, cond, List, [], ◌∷◌, ◌++◌, length, get_or, take, drop, map, filter, ℤ, pos, ◌+ℤ◌, Option, Some}
use Rattle.std.proofs.Common.{None, IsSome, refl, sym, ap, ap₂, ◌∙◌, arith}
use Rattle.std.specs.Prelude.{◌==◌, ◌&&◌}
use Rattle.std.proofs.lemmas.Bool.{cases_Bool}
use Rattle.std.proofs.lemmas.Int.{ints}
use Rattle.msp_class.proofs.IntegerRing.{+ℤ_idr}
use Rattle.msp_instance.specs.Conditions.{LiesWithin}
use Rattle.std.proofs.lemmas.List.{append-nil, map-append, take_more, take-append-drop}
use Rattle.std.proofs.lemmas.List.Sums.{fold-append}
use Rattle.std.proofs.lemmas.List.Elements.{filter-append}
use Rattle.msp_pieces.specs.declared.Piece.{Piece}
use Rattle.msp_pieces.specs.Feasible.{total}
use Rattle.msp_schedule.specs.Breaks.{pieces_among}

abbrev pub is_among : ℕ → ℕ → Piece → Bool
is_among j o p = (p.job == j) && (p.op == o)

pub among-more : (xs : List Piece) (k j o : ℕ) (d : Piece)
    → k < length xs → pieces_among (take (k + 1) xs) j o ≡ pieces_among (take k xs) j o ++ cond (is_among j o (get_or xs k d)) (get_or xs k d ∷ []) []
among-more xs k j o d h = ap (filter (is_among j o)) (take_more xs k d h) ∙ filter-append (is_among j o) (take k xs) (get_or xs k d ∷ [])

pub among-rest : (xs : List Piece) (k j o : ℕ) → pieces_among xs j o ≡ pieces_among (take k xs) j o ++ pieces_among (drop k xs) j o
among-rest xs k j o = ap (filter (is_among j o)) (sym (take-append-drop k xs)) ∙ filter-append (is_among j o) (take k xs) (drop k xs)

-- the list of what is there
abbrev pub listed : Option Piece → List Piece
listed None = []
listed (Some p) = p ∷ []

pub listed-same : (xs : List Piece) (k j o : ℕ) (p d : Piece) (l : List Piece)
    → k < length xs → p ≡ get_or xs k d → is_among j o p ≡ false → pieces_among (take k xs) j o ≡ l → pieces_among (take (k + 1) xs) j o ≡ l
listed-same xs k j o p d l h is miss so_far = among-more xs k j o d h ∙ ap (λ q. pieces_among (take k xs) j o ++ cond (is_among j o q) (q ∷ []) []) (sym is)
    ∙ ap (λ b. pieces_among (take k xs) j o ++ cond b (p ∷ []) []) miss ∙ append-nil (pieces_among (take k xs) j o) ∙ so_far

-- two pieces of the operation are not one
pub never_one : (xs : List Piece) (k j o : ℕ) (p q d r : Piece) → k < length xs → p ≡ get_or xs k d → is_among j o p ≡ true → pieces_among (take k xs) j o ≡ q ∷ [] → ¬ (pieces_among xs j o ≡ r ∷ [])
never_one xs k j o p q d r h is hit so_far one = absurd (omega (arith, ap length one, ap length two))
  where
    two : pieces_among xs j o ≡ q ∷ p ∷ pieces_among (drop (k + 1) xs) j o
    two = among-rest xs (k + 1) j o ∙ ap (λ l. l ++ pieces_among (drop (k + 1) xs) j o) (among-more xs k j o d h
        ∙ ap (λ l. l ++ cond (is_among j o (get_or xs k d)) (get_or xs k d ∷ []) []) so_far ∙ ap (λ y. q ∷ cond (is_among j o y) (y ∷ []) []) (sym is) ∙ ap (λ b. q ∷ cond b (p ∷ []) []) hit)

-- the total of what the pieces add
pub total-more : (w : Piece → ℤ) (xs : List Piece) (k j o : ℕ) (p d : Piece) → k < length xs
    → p ≡ get_or xs k d → is_among j o p ≡ true → total (map w (pieces_among (take (k + 1) xs) j o)) ≡ total (map w (pieces_among (take k xs) j o)) +ℤ w p
total-more w xs k j o p d h is hit =
    ap (λ l. total (map w l))
    (among-more xs k j o d h ∙ ap (λ q. pieces_among (take k xs) j o ++ cond (is_among j o q) (q ∷ []) []) (sym is) ∙ ap (λ b. pieces_among (take k xs) j o ++ cond b (p ∷ []) []) hit)
    ∙ ap total (map-append w (pieces_among (take k xs) j o) (p ∷ []))
    ∙ fold-append ◌+ℤ◌ (pos 0) (map w (pieces_among (take k xs) j o)) (w p ∷ [])

pub never_one-some : (xs : List Piece) (k j o : ℕ) (p d r : Piece) (sole : Option Piece)
    → k < length xs → p ≡ get_or xs k d → is_among j o p ≡ true → IsSome sole → pieces_among (take k xs) j o ≡ listed sole → ¬ (pieces_among xs j o ≡ r ∷ [])
never_one-some xs k j o p d r None h is hit some so_far = absurd (cc)
never_one-some xs k j o p d r (Some q) h is hit some so_far = never_one xs k j o p q d r h is hit so_far

pub total-next : (w : Piece → ℤ) (xs : List Piece) (k j o : ℕ) (p d : Piece) → k < length xs → p ≡ get_or xs k d
    → total (map w (pieces_among (take (k + 1) xs) j o)) ≡ total (map w (pieces_among (take k xs) j o)) +ℤ cond (is_among j o p) (w p) (pos 0)
total-next w xs k j o p d h is = elim (cases_Bool (is_among j o p)) [
  | inl hit ↦ total-more w xs k j o p d h is hit ∙ ap (λ b. total (map w (pieces_among (take k xs) j o)) +ℤ cond b (w p) (pos 0)) (sym hit)
  | inr miss ↦ ap (λ l. total (map w l)) (listed-same xs k j o p d (pieces_among (take k xs) j o) h is miss refl)
      ∙ sym (+ℤ_idr _) ∙ ap (λ b. total (map w (pieces_among (take k xs) j o)) +ℤ cond b (w p) (pos 0)) (sym miss)
]

-- the sum so far, and how large it may be
pub SumsTo-next : (w : Piece → ℤ) (xs : List Piece) (k j o B : ℕ) (p d : Piece) (sum x new : ℤ)
    → k < length xs → p ≡ get_or xs k d → x ≡ cond (is_among j o p) (w p) (pos 0) → LiesWithin B x → new ≡ sum +ℤ x →
    (sum ≡ total (map w (pieces_among (take k xs) j o))) × LiesWithin (k * B) sum → (new ≡ total (map w (pieces_among (take (k + 1) xs) j o))) × LiesWithin ((k + 1) * B) new
SumsTo-next w xs k j o B p d sum x new h is value size e (so_far, small) =
    (e ∙ ap₂ ◌+ℤ◌ so_far value ∙ sym (total-next w xs k j o p d h is), (omega (arith, ints, small, size, e), omega (arith, ints, small, size, e)))
