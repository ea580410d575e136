-- The jobs of pieces, each of which has one.
use Rattle.std.proofs.Common.{◌≢◌, ℕ, ◌<◌, List, length, get_or, map, All, AllPairs, sym, ◌∙◌, arith}
use Rattle.std.proofs.lemmas.List.{length-map, get_or-map}
use Rattle.std.proofs.lemmas.List.Elements.{All-map, All-contains, Contains-get_or}
use Rattle.msp_class.proofs.Sums.{OnceBelow, OnceBelow-contains, OnceBelow-distinct}
use Rattle.msp_pieces.specs.declared.Piece.{Piece}
use Rattle.msp_pieces.proofs.changes.Moves.{Contains-map}

module _ {n : ℕ} (pieces : List Piece) (once : OnceBelow n (map (λ p. p.job) pieces)) where
  pub job_inside : All (λ p. p.job < n) pieces
  job_inside k d l = All-contains (λ j. j < n) (map (λ p. p.job) pieces) (get_or pieces k d).job once.within (Contains-map (λ p. p.job) pieces (get_or pieces k d) (Contains-get_or pieces k d l))

  -- what holds of the jobs of all pieces holds of all jobs
  pub each_job : (P : ℕ → Type 0) → All (λ p. P p.job) pieces → (j : ℕ) → j < n → P j
  each_job P h j l = All-contains P (map (λ p. p.job) pieces) j (All-map P (λ p. p.job) pieces h) (OnceBelow-contains once j l)

  pub jobs_apart : AllPairs (λ p q. p.job ≢ q.job) pieces
  jobs_apart a b d l k e = OnceBelow-distinct once a b 0 l (omega (arith, k, length-map pieces (λ p. p.job)))
      (get_or-map (λ p. p.job) pieces a d 0 (omega (arith, k, l)) ∙ e ∙ sym (get_or-map (λ p. p.job) pieces b d 0 k))
