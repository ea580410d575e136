-- The pieces of the jobs in their slots, one after another.
use Rattle.std.proofs.Common.{◌≡◌, ℕ, ◌+◌, ◌-◌, inl, inr, List, [], ◌∷◌, ◌++◌, get_or, refl, sym, ap, subst, ◌∙◌, arith}
use Rattle.std.proofs.lemmas.Bool.{cases_lt}
use Rattle.std.proofs.lemmas.List.{length-append, get_or_append_left, get_or_push}
use Rattle.msp_pieces.specs.declared.Piece.{Piece}
use Rattle.msp_slots.specs.declared.earliest.Slot.{Slot}
use Rattle.msp_slots.specs.Earliest.{piece_in}
use Rattle.msp_total.specs.SlotSteps.{AreLaid}

pub AreLaid-none : (slots : List Slot) (column : List ℕ) → AreLaid slots column 0 []
AreLaid-none slots column = record { all = refl; each = λ j d l. absurd (omega (arith, l)) }

pub AreLaid-next : (slots : List Slot) (column : List ℕ) (count : ℕ) (pieces pushed : List Piece) (piece : Piece) → AreLaid slots column count pieces
    → pushed ≡ pieces ++ piece ∷ [] → piece ≡ piece_in slots count (get_or column count 0) → AreLaid slots column (count + 1) pushed
AreLaid-next slots column count pieces pushed piece h e is = subst (AreLaid slots column (count + 1)) (sym e) (record {
  all = length-append pieces (piece ∷ []) ∙ ap (λ n. n + 1) h.all;
  each = λ j d l. elim (cases_lt j count) [
    | inl less ↦ get_or_append_left pieces (piece ∷ []) d j (omega (arith, less, h.all)) ∙ h.each j d less
    | inr more ↦
        let s : count ≡ j = omega (arith, l, more) in
        subst (λ k. get_or (pieces ++ piece ∷ []) k d ≡ piece_in slots k (get_or column k 0))
        s (get_or_push pieces piece d count h.all ∙ is)
  ];
})
