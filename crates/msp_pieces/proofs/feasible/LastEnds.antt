-- The end of a job: no piece of it ends later, and where it has a piece, one ends then.
use Rattle.std.proofs.Common.{◌≡◌, ℕ, ◌<◌, List, length, get_or, map, filter, All, Contains, inl, inr, ℤ, pos, ◌≤ℤ◌, refl, sym, ap, subst, ◌∙◌, arith}
use Rattle.std.specs.Prelude.{◌==◌}
use Rattle.std.proofs.lemmas.Bool.{eqb-true, eq-eqb}
use Rattle.std.proofs.lemmas.List.{length-map, get_or-map}
use Rattle.std.proofs.lemmas.Int.{ints, fold-int_max_bounds, fold-int_max_reached}
use Rattle.std.proofs.lemmas.List.Elements.{All-filter, All-contains, All-map, filter_passes, Contains-get_or}
use Rattle.msp_class.proofs.Sums.{Contains-filter, Contains-from_filter}
use Rattle.msp_pieces.specs.declared.Piece.{Piece}
use Rattle.msp_pieces.specs.Cost.{last_end}
use Rattle.msp_pieces.proofs.changes.Moves.{Contains-map}
use Rattle.msp_pieces.proofs.feasible.Frames.{Frame, Fits, HasWork, Lasts, piece_of}

abbrev pub of_job : List Piece → ℕ → List Piece
of_job ps j = filter (λ p. p.job == j) ps

abbrev pub ends_of : List Piece → ℕ → List ℤ
ends_of ps j = map (λ p. p.to) (of_job ps j)

pub last_end-natural : (ps : List Piece) (j : ℕ) → pos 0 ≤ℤ last_end ps j
last_end-natural ps j = (fold-int_max_bounds (pos 0) (ends_of ps j) (last_end ps j) refl).0

Contains-from_map : {X Y : Type 0} (f : X → Y) (xs : List X) (y : Y) (d : X) → Contains (map f xs) y → (x : X) × Contains xs x × (f x ≡ y)
Contains-from_map f xs y d (k, l, e) = let inside : k < length xs = omega (arith, length-map xs f) in (get_or xs k d, Contains-get_or xs k d inside, sym (get_or-map f xs k d y inside) ∙ e)

pub last_end-contains : (ps : List Piece) (p : Piece) → Contains ps p → p.to ≤ℤ last_end ps p.job
last_end-contains ps p c =
    let mine : Contains (of_job ps p.job) p = Contains-filter (λ q. q.job == p.job) ps p c (eq-eqb p.job p.job refl) in
    All-contains (λ x. x ≤ℤ last_end ps p.job) (ends_of ps p.job) p.to (fold-int_max_bounds (pos 0) (ends_of ps p.job) (last_end ps p.job) refl).1 (Contains-map (λ q. q.to) (of_job ps p.job) p mine)

pub last_end-bound : (ps : List Piece) → All (λ p. p.to ≤ℤ last_end ps p.job) ps
last_end-bound ps k d l = last_end-contains ps (get_or ps k d) (Contains-get_or ps k d l)

-- the least bound
pub last_end-least : (ps : List Piece) (j : ℕ) (b : ℤ) → pos 0 ≤ℤ b → All (λ p. p.job ≡ j → p.to ≤ℤ b) ps → last_end ps j ≤ℤ b
last_end-least ps j b h all = elim (fold-int_max_reached (pos 0) (ends_of ps j) (last_end ps j) refl) [
  | inl e ↦ subst (λ x. x ≤ℤ b) (sym e) h
  | inr c ↦ All-contains (λ x. x ≤ℤ b) (ends_of ps j) (last_end ps j) (All-map (λ x. x ≤ℤ b) (λ p. p.to) (of_job ps j) mine) c
]
  where
    mine : All (λ p. p.to ≤ℤ b) (of_job ps j)
    mine k d l = All-filter (λ p. p.job == j) (λ p. p.job ≡ j → p.to ≤ℤ b) ps all k d l (eqb-true _ _ (filter_passes (λ p. p.job == j) ps k d l))

-- it is reached
pub last_end-reached : (f : Frame) (unit : ℤ) (ps : List Piece) → Fits f unit ps → HasWork f → (j : ℕ) → j < f.jobs → (p : Piece) × Contains ps p × (p.job ≡ j) × (p.to ≡ last_end ps j)
last_end-reached f unit ps fits works j l =
    let (p, c, e) = piece_of f unit ps fits works j l in
    elim (fold-int_max_reached (pos 0) (ends_of ps j) (last_end ps j) refl) [
      | inl z ↦
          let lasts = All-contains Lasts ps p fits.span c in
          absurd (omega (arith, ints, lasts.0, lasts.1, last_end-contains ps p c, ap (last_end ps) e ∙ z))
      | inr m ↦ let (q, a, t) = Contains-from_map (λ q. q.to) (of_job ps j) (last_end ps j) p m in let (b, k) = Contains-from_filter (λ q. q.job == j) ps q a in (q, b, eqb-true _ _ k, t)
    ]
