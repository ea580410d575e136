-- The pieces of an operation: one where it takes time, else none; and those of a job more.
use Rattle.std.proofs.Common.{ℕ, ◌<◌, ◌≤◌, List, [], ◌∷◌, ◌++◌, length, get_or, All, AllPairs, Contains, refl, arith, pos_of_ne-zero}
use Rattle.std.specs.Prelude.{◌==◌}
use Rattle.std.proofs.lemmas.Bool.{cond_both, eqb-true, eqb-false}
use Rattle.std.proofs.lemmas.List.Elements.{All-nil, All-cons, All-append}
use Rattle.msp_pieces.specs.declared.Piece.{Piece}
use Rattle.msp_pieces.proofs.feasible.Series.{AllPairs-append}
use Rattle.msp_shops.specs.declared.pass.Stage.{Stage}
use Rattle.msp_shops.specs.Pass.{whole_piece, part}

pub All-part : (P : Piece → Type 0) (job : ℕ) (stage : Stage) (begin time : ℕ) → (0 < time → P (whole_piece job stage begin time)) → All P (part job stage begin time)
All-part P job stage begin time h = cond_both (time == 0) [] (whole_piece job stage begin time ∷ []) (All P)
    (λ _. All-nil P) (λ e. All-cons P (whole_piece job stage begin time) [] (h (pos_of_ne-zero (eqb-false time 0 e))) (All-nil P))

pub Contains-part : (job : ℕ) (stage : Stage) (begin time : ℕ) → 0 < time → Contains (part job stage begin time) (whole_piece job stage begin time)
Contains-part job stage begin time some = cond_both (time == 0) [] (whole_piece job stage begin time ∷ [])
    (λ ps. Contains ps (whole_piece job stage begin time)) (λ e. absurd (omega (arith, some, eqb-true time 0 e))) (λ _. (0, omega arith, refl))

pub length-part : (job : ℕ) (stage : Stage) (begin time : ℕ) → length (part job stage begin time) ≤ 1
length-part job stage begin time = cond_both (time == 0) [] (whole_piece job stage begin time ∷ []) (λ ps. length ps ≤ 1) (λ _. omega arith) (λ _. omega arith)

pub AllPairs-part : (R : Piece → Piece → Type 0) (job : ℕ) (stage : Stage) (begin time : ℕ) → AllPairs R (part job stage begin time)
AllPairs-part R job stage begin time a b d h k = absurd (omega (arith, length-part job stage begin time))

-- ---- the pieces so far, and those of two operations of a job
module _ (ps : List Piece) (job : ℕ) (first second : Stage) (at begin x y : ℕ) where
  abbrev pub more : List Piece
  more = (ps ++ part job first at x) ++ part job second begin y

  pub All-more : (P : Piece → Type 0) → All P ps → (0 < x → P (whole_piece job first at x)) → (0 < y → P (whole_piece job second begin y)) → All P more
  All-more P old a b = All-append P (ps ++ part job first at x) (part job second begin y) (All-append P ps (part job first at x) old (All-part P job first at x a)) (All-part P job second begin y b)

  pub AllPairs-more : (R : Piece → Piece → Type 0) → AllPairs R ps → All (λ p. R p (whole_piece job first at x)) ps → All (λ p. R p (whole_piece job second begin y)) ps
      → R (whole_piece job first at x) (whole_piece job second begin y) → AllPairs R more
  AllPairs-more R old a b c =
      AllPairs-append R (ps ++ part job first at x) (part job second begin y)
      (AllPairs-append R ps (part job first at x) old (AllPairs-part R job first at x) (λ k d l. All-part (R (get_or ps k d)) job first at x (λ s. a k d l)))
      (AllPairs-part R job second begin y)
      (All-append (λ p. All (R p) (part job second begin y)) ps (part job first at x)
      (λ k d l. All-part (R (get_or ps k d)) job second begin y (λ s. b k d l))
      (All-part (λ p. All (R p) (part job second begin y)) job first at x (λ s. All-part (R (whole_piece job first at x)) job second begin y (λ t. c))))
