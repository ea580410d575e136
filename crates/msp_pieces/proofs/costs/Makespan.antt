-- The greatest end as a cost: the cost of a schedule where the criterion is the greatest completion time.
use Rattle.std.proofs.Common.{◌≡◌, ℕ, ◌*◌, ◌<◌, ◌≤◌, length, ℤ, pos, nat_abs, ◌*ℤ◌, ◌≤ℤ◌, All, sym, ap, subst, arith}
use Rattle.std.proofs.lemmas.Int.{ints}
use Rattle.msp_class.specs.declared.class.Crit.TheVariants.{Cmax}
use Rattle.msp_class.specs.Crit.{is_greatest}
use Rattle.msp_class.proofs.IntegerRing.{natural, pos-le, ≤ℤ_trans}
use Rattle.msp_instance.specs.declared.Instance.{Instance}
use Rattle.msp_instance.specs.Instance.{job_at}
use Rattle.msp_pieces.specs.declared.Schedule.{Schedule}
use Rattle.msp_pieces.specs.Cost.{end_of, cost_of, job_cost}
use Rattle.msp_pieces.proofs.feasible.LastEnds.{last_end-least, last_end-natural}
use Rattle.msp_pieces.proofs.costs.Charges.{cost_of-bound, cost_of-least}

module _ (i : Instance) (crit : i.class.crit ≡ Cmax) (s : Schedule) where
  pub ends_by_cost : (j : ℕ) → j < length i.jobs → end_of s j ≤ℤ cost_of i s
  ends_by_cost j l = subst (λ x. job_cost x s.unit (job_at i j) (end_of s j) ≤ℤ cost_of i s) crit (cost_of-bound i s (ap is_greatest crit) j l)

  module _ (some : 1 ≤ length i.jobs) where
    pub cost_natural : cost_of i s ≡ pos (nat_abs (cost_of i s))
    cost_natural = natural (cost_of i s) (≤ℤ_trans (last_end-natural s.pieces 0) (ends_by_cost 0 (omega (arith, some))))

    pub ends_by_whole_cost : (j : ℕ) → j < length i.jobs → end_of s j ≤ℤ pos (nat_abs (cost_of i s))
    ends_by_whole_cost j l = subst (λ x. end_of s j ≤ℤ x) cost_natural (ends_by_cost j l)

    -- a moment by which all pieces have ended
    pub cost_by_ends : (b : ℤ) → pos 0 ≤ℤ b → All (λ p. p.to ≤ℤ b) s.pieces → cost_of i s ≤ℤ b
    cost_by_ends b h ends = cost_of-least i s b (ap is_greatest crit) (omega (arith, some))
        (λ k l. subst (λ x. job_cost x s.unit (job_at i k) (end_of s k) ≤ℤ b) (sym crit) (last_end-least s.pieces k b h (λ n d m _. ends n d m)))

    -- a bound over a number
    pub cost_above : (m b : ℕ) → pos 1 ≤ℤ s.unit → nat_abs s.unit * b ≤ m * nat_abs (cost_of i s) → (pos b *ℤ s.unit) ≤ℤ (cost_of i s *ℤ pos m)
    cost_above m b u l = by (cost_of i s) s.unit _ _ cost_natural (natural s.unit (omega (arith, ints, u))) l
      where
        by : (x u : ℤ) (c n : ℕ) → x ≡ pos c → u ≡ pos n → n * b ≤ m * c → (pos b *ℤ u) ≤ℤ (x *ℤ pos m)
        by x u c n e g l =
            let turned : b * n ≤ c * m = omega arith in
            subst (λ y. (pos b *ℤ y) ≤ℤ (x *ℤ pos m)) (sym g) (subst (λ y. (pos b *ℤ pos n) ≤ℤ (y *ℤ pos m)) (sym e) (pos-le turned))
