-- The seats of pieces, and the slots that they make.
use Rattle.std.proofs.Common.{◌*◌, ◌≡◌, ◌≢◌, ℕ, ◌+◌, ◌<◌, ◌≤◌, ◌⊎◌, inl, inr, List, [], ◌∷◌, ◌++◌, length, get_or, set, take, replicate, slice_index, All, AllPairs, Contains, sym}
use Rattle.std.proofs.Common.{ap, subst, ◌∙◌, arith}
use Rattle.std.proofs.lemmas.Bool.{cases_eq}
use Rattle.std.proofs.lemmas.List.{length-set, length-take, get_or-set_same, get_or-set_other, get_or_default, get_or-take, take_more, take_all, length-replicate, get_or-replicate}
use Rattle.std.proofs.lemmas.List.Elements.{All-more, Contains-append_left, Contains-push}
use Rattle.msp_class.specs.declared.sizes.TheConstants.{MOST_JOBS}
use Rattle.msp_pieces.specs.declared.Piece.{Piece}
use Rattle.msp_lexical.specs.Slots.{place_of, IsSeated, IsSeating}

pub IsSeating-none : (n : ℕ) → IsSeating n [] (replicate (2 * MOST_JOBS) n)
IsSeating-none n = record { whole = length-replicate (2 * MOST_JOBS) n; seated = λ k d l. absurd (omega (arith, l)); others = λ k l. inl (get_or-replicate (2 * MOST_JOBS) k n 0 l) }

pub IsSeating-next : (n : ℕ) (pieces : List Piece) (k : ℕ) (p : Piece) (place job : ℕ) (seats : List ℕ) → k < length pieces
    → p ≡ get_or pieces k p → place ≡ place_of p → job ≡ p.job → place_of p < 2 * MOST_JOBS → AllPairs (λ p q. place_of p ≢ place_of q) pieces
    → IsSeating n (take k pieces) seats → IsSeating n (take (k + 1) pieces) (set seats place job)
IsSeating-next n pieces k p place job seats l is place_is job_is small apart h = record {
  whole = length-set seats place job ∙ h.whole;
  seated = All-more (λ q. slice_index (set seats place job) (place_of q) ≡ q.job) pieces k p l older (subst (λ q. slice_index (set seats place job) (place_of q) ≡ q.job) is newest);
  others = others;
}
  where
    newest : slice_index (set seats place job) (place_of p) ≡ p.job
    newest = ap (slice_index (set seats place job)) (sym place_is) ∙ get_or-set_same seats place job 0 (omega (arith, small, place_is, h.whole)) ∙ job_is

    older : All (λ q. slice_index (set seats place job) (place_of q) ≡ q.job) (take k pieces)
    older m d b =
        let early : m < k = omega (arith, b, length-take k pieces, l) in
        let same = get_or-take k pieces m d early in
        let differ : place_of (get_or (take k pieces) m d) ≢ place = λ e. apart m k d early l (ap place_of (sym same) ∙ e ∙ place_is ∙ ap place_of (at d)) in
        get_or-set_other seats place (place_of (get_or (take k pieces) m d)) job 0 differ ∙ h.seated m d b
      where
        at : (d : Piece) → p ≡ get_or pieces k d
        at d = is ∙ get_or_default pieces k p d l

    all : take (k + 1) pieces ≡ take k pieces ++ p ∷ []
    all = take_more pieces k p l ∙ ap (λ q. take k pieces ++ q ∷ []) (sym is)

    others : (m : ℕ) → m < 2 * MOST_JOBS
        → (slice_index (set seats place job) m ≡ n) ⊎ ((q : Piece) × Contains (take (k + 1) pieces) q × (place_of q ≡ m) × (q.job ≡ slice_index (set seats place job) m))
    others m b = elim (cases_eq m place) [
      | inl same ↦ inr
          (p, subst (λ ps. Contains ps p) (sym all) (Contains-push (take k pieces) p), sym place_is ∙ sym same, sym newest ∙ ap (slice_index (set seats place job)) (sym place_is ∙ sym same))
      | inr differ ↦
          let kept = get_or-set_other seats place m job 0 differ in
          elim (h.others m b) [
            | inl none ↦ inl (kept ∙ none)
            | inr found ↦ let (q, c, e, f) = found in inr (q, subst (λ ps. Contains ps q) (sym all) (Contains-append_left (take k pieces) (p ∷ []) q c), e, f ∙ sym kept)
          ]
    ]

pub IsSeating-all : (n : ℕ) (pieces : List Piece) (k : ℕ) (seats : List ℕ) → length pieces ≤ k → IsSeating n (take k pieces) seats → IsSeating n pieces seats
IsSeating-all n pieces k seats l h = subst (λ ps. IsSeating n ps seats) (take_all k pieces l) h

pub seat_small : (n : ℕ) (p : Piece) → n ≤ MOST_JOBS → IsSeated n p → place_of p < 2 * MOST_JOBS
seat_small n p few h = omega (arith, h.machine, h.early, few)
