-- Each job has a piece: there are no fewer pieces than jobs, and a moment by which all pieces end is one by which all jobs do.
use Rattle.std.proofs.Common.{◌≡◌, ℕ, ◌<◌, ◌≤◌, List, length, sum_by, All, Contains, cond, eqb, ℤ, ◌≤ℤ◌, subst, arith}
use Rattle.std.proofs.lemmas.Bool.{eq-eqb}
use Rattle.std.proofs.lemmas.List.Elements.{All-contains}
use Rattle.msp_class.specs.Env.{kind_of}
use Rattle.msp_class.proofs.Sums.{total_below-mono, total_below-constant, sum_by-constant, sum_by-contains, sum_by-by_key, cond-yes}
use Rattle.msp_instance.specs.declared.Instance.{Instance}
use Rattle.msp_instance.specs.Conditions.{Inner, inner_limits}
use Rattle.msp_pieces.specs.declared.Piece.{Piece}
use Rattle.msp_pieces.specs.declared.Schedule.{Schedule}
use Rattle.msp_pieces.specs.Feasible.{Feasible}
use Rattle.msp_pieces.specs.Cost.{end_of}
use Rattle.msp_pieces.proofs.feasible.Frames.{frame_of, Fits, HasWork, IsShaped-from_conditions, HasWork-from_conditions, Fits-from_feasible, piece_of}
use Rattle.msp_pieces.proofs.feasible.LastEnds.{last_end-reached}
use Rattle.msp_route.specs.Bounds.{EndsBy}

-- numbers below n, each of which is that of some item
no_fewer : (n : ℕ) (ps : List Piece) → All (λ p. p.job < n) ps → ((k : ℕ) → k < n → (p : Piece) × Contains ps p × (p.job ≡ k)) → n ≤ length ps
no_fewer n ps all each =
    omega (arith, sum_by-constant 1 ps, sum_by-by_key (λ p. p.job) (λ _. 1) n ps all, total_below-constant n 1, total_below-mono n (λ _. 1) (λ k. sum_by (λ p. cond (eqb p.job k) 1 0) ps) one)
  where
    one : (k : ℕ) → k < n → 1 ≤ sum_by (λ p. cond (eqb p.job k) 1 0) ps
    one k l = let (p, c, e) = each k l in omega (arith, sum_by-contains (λ p. cond (eqb p.job k) 1 0) ps p c, cond-yes 1 (eq-eqb p.job k e))

module _ (j : Instance) (inner : Inner j) (t : Schedule) (f : Feasible j t) where
  works : HasWork (frame_of j)
  works = HasWork-from_conditions (inner_limits (kind_of j.class.env)) j inner.conditions

  fits : Fits (frame_of j) t.unit t.pieces
  fits = Fits-from_feasible j t (IsShaped-from_conditions (inner_limits (kind_of j.class.env)) j inner.conditions) f

  pub jobs_in_pieces : length j.jobs ≤ length t.pieces
  jobs_in_pieces = no_fewer (length j.jobs) t.pieces (λ k d l. (f.place k d l).job) (piece_of (frame_of j) t.unit t.pieces fits works)

  pub end_by : (moment : ℤ) → EndsBy moment t → (k : ℕ) → k < length j.jobs → end_of t k ≤ℤ moment
  end_by moment h k l = let (p, c, e, s) = last_end-reached (frame_of j) t.unit t.pieces fits works k l in subst (λ z. z ≤ℤ moment) s (All-contains (λ p. p.to ≤ℤ moment) t.pieces p h c)
