-- A schedule in which no job costs more than the value of a block is best, and its cost is that value.
use Rattle.std.proofs.Common.{◌≡◌, ℕ, ◌<◌, true, List, length, ℤ, pos, ◌*ℤ◌, ◌≤ℤ◌, ap, ◌∙◌, sym, subst, arith}
use Rattle.std.proofs.lemmas.Int.{ints}
use Rattle.msp_class.specs.declared.class.Env.TheVariants.{One}
use Rattle.msp_class.specs.Crit.{is_greatest}
use Rattle.msp_class.proofs.IntegerRing.{≤ℤ_of_same, ≤ℤ_trans, ≤ℤ_antisym, *ℤ-one, *ℤ_comm, *ℤ-mono_nonneg}
use Rattle.msp_instance.specs.declared.Instance.{Instance}
use Rattle.msp_instance.specs.Instance.{job_at}
use Rattle.msp_instance.specs.Conditions.{Inner}
use Rattle.msp_pieces.specs.declared.Schedule.{Schedule}
use Rattle.msp_pieces.specs.Blocks.{cost_at}
use Rattle.msp_pieces.specs.Cost.{Best, end_of, job_cost, cost_of}
use Rattle.msp_pieces.specs.Feasible.{Feasible}
use Rattle.msp_pieces.proofs.bounds.Certified.{law_of_blocks}
use Rattle.msp_pieces.proofs.costs.Charges.{job_cost-mono, cost_of-least}
use Rattle.msp_blocks.specs.Blocks.{IsBestCost}
use Rattle.msp_blocks.specs.Filling.{IsBound}

module _ (i : Instance) (env : i.class.env ≡ One) (greatest : is_greatest i.class.crit ≡ true) (inner : Inner i) (heads jobs : List ℕ) (cost : ℤ) (b : IsBound i heads jobs cost) where
  owed : (t : Schedule) → Feasible i t → (t.unit *ℤ cost) ≤ℤ cost_of i t
  owed t f = law_of_blocks _ i t heads jobs cost env greatest inner.conditions f b.block b.value

  module _ (s : Schedule) (single : s.unit ≡ pos 1) (feasible : Feasible i s)
      (some : 0 < length i.jobs) (each : (k : ℕ) → k < length i.jobs → (moment : ℕ) × (end_of s k ≤ℤ pos moment) × (cost_at i k moment ≤ℤ cost)) where
    no_more : cost_of i s ≤ℤ cost
    no_more = cost_of-least i s cost greatest some (λ k l.
        let (moment, early, costs) = each k l in
        subst (λ u. job_cost i.class.crit u (job_at i k) (end_of s k) ≤ℤ cost)
        (sym single) (≤ℤ_trans (job_cost-mono i.class.crit (pos 1) (job_at i k) (end_of s k) (pos moment) (omega (arith, ints)) early) costs))

    scaled : (t : Schedule) → Feasible i t → (cost_of i s *ℤ t.unit) ≤ℤ (t.unit *ℤ cost)
    scaled t f = ≤ℤ_trans (≤ℤ_of_same (*ℤ_comm (cost_of i s) t.unit)) (*ℤ-mono_nonneg t.unit (omega (arith, ints, f.unit)) no_more)

    whole : (t : Schedule) → cost_of i t ≡ cost_of i t *ℤ s.unit
    whole t = sym (ap (λ u. cost_of i t *ℤ u) single ∙ *ℤ-one (cost_of i t))

    pub best_by_block : Best i s
    best_by_block = record { feasible = feasible; least = λ t f. ≤ℤ_trans (scaled t f) (≤ℤ_trans (owed t f) (≤ℤ_of_same (whole t))) }

    -- each best schedule costs the value over its unit
    pub value_is_best : IsBestCost i cost
    value_is_best t best =
        ≤ℤ_antisym (≤ℤ_trans (≤ℤ_of_same (whole t)) (≤ℤ_trans (best.least s feasible) (scaled t best.feasible))) (owed t best.feasible)
