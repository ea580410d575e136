-- Works fit into places, turn after turn.
use Rattle.std.proofs.Common.{◌≡◌, ℕ, zero, suc, ◌+◌, ◌<◌, ◌≤◌, ◌⊎◌, inl, inr, sym, subst, arith}
use Rattle.msp_class.specs.Sums.{total_below}
use Rattle.msp_class.proofs.Cases.{less_or_not, same_or_not}
use Rattle.msp_class.proofs.Sums.{total_below-mono, total_below-same}
use Rattle.msp_uniform.specs.Prefixes.{DoFit, IsMerged}

-- the works after the first
abbrev pub rest : (ℕ → ℕ) → ℕ → ℕ
rest works i = works (suc i)

pub total_below-first : (k : ℕ) (f : ℕ → ℕ) → total_below (suc k) f ≡ f 0 + total_below k (rest f)
total_below-first zero f = omega arith
total_below-first (suc k) f = omega (arith, total_below-first k f)

module _ (h r : ℕ) (holds works holds' : ℕ → ℕ) (m : IsMerged h r holds (works 0) holds') where
  below : (k : ℕ) → k ≤ r → total_below k holds' ≡ total_below k holds
  below k l = total_below-same k holds' holds (λ i b. m.before i (omega arith))

  at_place : total_below (suc r) holds' + works 0 ≡ total_below (suc (suc r)) holds
  at_place = omega (arith, below r (omega arith), m.merged)

  above : (n : ℕ) → r ≤ n → suc n < h → total_below (suc n) holds' + works 0 ≡ total_below (suc (suc n)) holds
  above zero l b = let is : r ≡ 0 = omega arith in subst (λ x. total_below (suc x) holds' + works 0 ≡ total_below (suc (suc x)) holds) is at_place
  above (suc n) l b = elim (same_or_not r (suc n)) [
    | inl e ↦ subst (λ x. total_below (suc x) holds' + works 0 ≡ total_below (suc (suc x)) holds) e at_place
    | inr c ↦ omega (arith, above n (omega (arith, l, c)) (omega arith), m.behind (suc n) (omega (arith, l, c)) b)
  ]

-- a work takes two places as far as it can
module _ (h r n : ℕ) (holds works holds' : ℕ → ℕ) (inside : suc r < h) (fit : DoFit h holds (suc n) works) (m : IsMerged h r holds (works 0) holds') where
  -- each of the works left is at most each place up to r
  pub DoFit-merged : ((k i : ℕ) → k ≤ r → i < k → rest works i ≤ holds i) → (g : ℕ) → h ≡ suc (suc g) → DoFit (suc g) holds' n (rest works)
  DoFit-merged s g e = record {
    firsts = λ k l. by k (less_or_not r k) l;
    all = omega (
      arith,
      subst (λ x. total_below (suc g) holds' + works 0 ≡ total_below x holds) (sym e) (above h r holds works holds' m g (omega (arith, e, inside)) (omega (arith, e))),
      fit.all,
      total_below-first n works,
    );
  }
    where
      by : (k : ℕ) → (r < k) ⊎ (k ≤ r) → k ≤ suc g → total_below k (rest works) ≤ total_below k holds'
      by k (inr b) l = omega (arith, total_below-mono k (rest works) holds (λ i c. s k i b c), below h r holds works holds' m k b)
      by (suc k) (inl b) l =
          let all = above h r holds works holds' m k (omega arith) (omega (arith, e)) in
          omega (arith, all, total_below-first (suc k) works, fit.firsts (suc (suc k)) (omega (arith, e)))
      by zero (inl b) l = absurd (omega arith)

-- the longest work is at most the first place
pub DoFit-longest : (h n : ℕ) (holds works : ℕ → ℕ) → DoFit (suc h) holds n works → works 0 ≤ holds 0
DoFit-longest h n holds works fit = omega (arith, fit.firsts 1 (omega arith))
