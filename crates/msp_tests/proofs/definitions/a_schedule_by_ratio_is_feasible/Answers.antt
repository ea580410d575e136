use Rattle.std.proofs.Common.{◌≡◌, ℕ, zero, suc, ◌<◌, [], ◌∷◌, refl, sym, inl, lit<, arith, All, AllPairs, subst, pos, ◌≤ℤ◌, ◌<ℤ◌, ◌*ℤ◌}
use Rattle.std.proofs.lemmas.Int.{ints}
use Rattle.std.proofs.lemmas.List.Elements.{All-nil, All-cons}
use Rattle.std.proofs.lemmas.List.Kept.{AllPairs-cons}
use Rattle.msp_instance.specs.Instance.{job_at}
use Rattle.msp_pieces.specs.declared.Piece.{Piece}
use Rattle.msp_pieces.specs.Piece.{IsApart}
use Rattle.msp_pieces.specs.Feasible.{HasPlace, GetsWork}
use Rattle.msp_tests.specs.Examples.{piece, weighted, by_ratio}
use Rattle.msp_tests.proofs.definitions.a_schedule_by_ratio_is_feasible.Goals as goal

one : (P : Piece → Type 0) (x : Piece) → P x → All P (x ∷ [])
one P x p = All-cons P x [] p (All-nil P)

two : (P : Piece → Type 0) (x y : Piece) → P x → P y → All P (x ∷ y ∷ [])
two P x y p q = All-cons P x (y ∷ []) p (one P y q)

all : (P : Piece → Type 0) → P (piece 1 0 0 1) → P (piece 2 0 1 3) → P (piece 0 0 3 6) → All P by_ratio.pieces
all P p q r = All-cons P (piece 1 0 0 1) (piece 2 0 1 3 ∷ piece 0 0 3 6 ∷ []) p (two P (piece 2 0 1 3) (piece 0 0 3 6) q r)

pairs : (R : Piece → Piece → Type 0) → R (piece 1 0 0 1) (piece 2 0 1 3) → R (piece 1 0 0 1) (piece 0 0 3 6) → R (piece 2 0 1 3) (piece 0 0 3 6) → AllPairs R by_ratio.pieces
pairs R a b c =
    AllPairs-cons R (piece 1 0 0 1) (piece 2 0 1 3 ∷ piece 0 0 3 6 ∷ []) (two (R (piece 1 0 0 1)) (piece 2 0 1 3) (piece 0 0 3 6) a b)
    (AllPairs-cons R (piece 2 0 1 3) (piece 0 0 3 6 ∷ []) (one (R (piece 2 0 1 3)) (piece 0 0 3 6) c)
    (λ i j d lt below. absurd (omega (arith, below))))

work : (j o : ℕ) → j < 3 → o ≡ 0 → GetsWork weighted by_ratio j o
work zero o h e = subst (GetsWork weighted by_ratio 0) (sym e) (piece 0 0 3 6, refl, refl)
work (suc zero) o h e = subst (GetsWork weighted by_ratio 1) (sym e) (piece 1 0 0 1, refl, refl)
work (suc (suc zero)) o h e = subst (GetsWork weighted by_ratio 2) (sym e) (piece 2 0 1 3, refl, refl)
work (suc (suc (suc j))) o h e = absurd (omega arith)

pub returns-clause-feasible : goal.returns-clause-feasible
returns-clause-feasible c = record {
  unit = omega (arith, ints);
  span = all (λ q. (pos 0 ≤ℤ q.from) × (q.from <ℤ q.to)) (omega (arith, ints), omega (arith, ints)) (omega (arith, ints), omega (arith, ints)) (omega (arith, ints), omega (arith, ints));
  place = all (HasPlace weighted) (record { job = lit< tt; operation = refl; machine = lit< tt })
      (record { job = lit< tt; operation = refl; machine = lit< tt }) (record { job = lit< tt; operation = refl; machine = lit< tt });
  machine = pairs (λ p q. p.machine ≡ q.machine → IsApart p q) (λ _. inl (omega (arith, ints))) (λ _. inl (omega (arith, ints))) (λ _. inl (omega (arith, ints)));
  job = pairs (λ p q. p.job ≡ q.job → IsApart p q) (λ _. inl (omega (arith, ints))) (λ _. inl (omega (arith, ints))) (λ _. inl (omega (arith, ints)));
  release = all (λ q. (pos 1 *ℤ pos (job_at weighted q.job).release) ≤ℤ q.from) (omega (arith, ints)) (omega (arith, ints)) (omega (arith, ints));
  arc = λ k d h. absurd (omega (arith, h));
  route = tt;
  work = work;
}
