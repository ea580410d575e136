-- The greatest of works over speeds, one after another.
use Rattle.std.proofs.Common.{◌≡◌, ℕ, ◌+◌, ◌*◌, ◌<◌, ◌≤◌, inl, inr, List, length, take, All, sum_by, sym, subst, subst₂, arith}
use Rattle.std.proofs.Math.Nat.{mul-le-mul_right, le_of_mul-le-mul_right}
use Rattle.std.proofs.lemmas.List.Sums.{sum_by_more, get_or-le-sum_by}
use Rattle.msp_class.specs.declared.sizes.TheConstants.{GREATEST}
use Rattle.msp_uniform.specs.Segments.{at}
use Rattle.msp_uniform.specs.Quotients.{IsGreater, IsGreatestUpTo}
use Rattle.msp_class.proofs.Cases.{less_or_not}

-- a quotient that is at most another is at most one that is greater
through : (a b w v w' v' : ℕ) → 1 ≤ v → a * v ≤ w * b → w * v' ≤ w' * v → a * v' ≤ w' * b
through a b w v w' v' some p q = le_of_mul-le-mul_right {k = v} (omega (arith, mul-le-mul_right v' p, mul-le-mul_right b q)) some

module _ (ts sp jobs machines : List ℕ) where
  abbrev time : ℕ → ℕ
  time = at ts

  abbrev speed : ℕ → ℕ
  speed = at sp

  fast : All (λ m. m < length sp) machines → All (λ s. (1 ≤ s) × (s ≤ GREATEST)) sp → All (λ m. 1 ≤ speed m) machines
  fast a b k d l = (b _ 0 (a k d l)).0

  pub IsGreatestUpTo-first : (w v : ℕ) → 1 ≤ length machines → All (λ m. m < length sp) machines
      → All (λ s. (1 ≤ s) × (s ≤ GREATEST)) sp → w ≡ sum_by time jobs → v ≡ sum_by speed machines → IsGreatestUpTo 0 time speed jobs machines w v
  IsGreatestUpTo-first w v some a b e f = record {
    some = omega (arith, f, fast a b 0 0 some, get_or-le-sum_by speed machines 0 0 some);
    total = subst₂ (λ x y. sum_by time jobs * y ≤ x * sum_by speed machines) (sym e) (sym f) (omega arith);
    firsts = λ k l. let none : 0 ≡ k = omega (arith, l) in
        subst (λ j. sum_by time (take j jobs) * v ≤ w * sum_by speed (take j machines)) none (omega arith);
    reached = inl (e, f);
  }

  module _ (k w v work rate w' v' : ℕ) (g : IsGreatestUpTo k time speed jobs machines w v) (inside : k < length machines) (within : k < length jobs) (a : All (λ m. m < length sp) machines)
      (b : All (λ s. (1 ≤ s) × (s ≤ GREATEST)) sp) (work_is : work ≡ sum_by time (take (k + 1) jobs)) (rate_is : rate ≡ sum_by speed (take (k + 1) machines)) where
    up_to : (i x y : ℕ) → ((j : ℕ) → j ≤ k → sum_by time (take j jobs) * y ≤ x * sum_by speed (take j machines))
        → work * y ≤ x * rate → i ≤ k + 1 → sum_by time (take i jobs) * y ≤ x * sum_by speed (take i machines)
    up_to i x y f l m = elim (less_or_not i (k + 1)) [
      | inl c ↦ f i (omega (arith, c))
      | inr c ↦ subst (λ j. sum_by time (take j jobs) * y ≤ x * sum_by speed (take j machines))
          (omega (arith, m, c)) (subst₂ (λ p q. p * y ≤ x * q) work_is rate_is l)
    ]

    pub IsGreatestUpTo-next : IsGreater w v work rate w' v' → IsGreatestUpTo (k + 1) time speed jobs machines w' v'
    IsGreatestUpTo-next (inl (e, f, l)) = subst₂ (IsGreatestUpTo (k + 1) time speed jobs machines) (sym e) (sym f) (record {
      some = g.some;
      total = g.total;
      firsts = λ i m. up_to i w v g.firsts l m;
      reached = elim g.reached [ inl r ↦ inl r | inr (i, p, q, r, s) ↦ inr (i, p, omega (arith, q), r, s) ];
    })
    IsGreatestUpTo-next (inr (e, f, l)) = subst₂ (IsGreatestUpTo (k + 1) time speed jobs machines) (sym e) (sym f) (record {
      some = omega (arith, rate_is, sum_by_more speed machines k 0 inside, fast a b k 0 inside);
      total = through _ _ w v work rate g.some g.total l;
      firsts = λ i m. up_to i work rate (λ j n. through _ _ w v work rate g.some (g.firsts j n) l) (omega arith) m;
      reached = inr (k + 1, omega arith, omega arith, work_is, rate_is);
    })
