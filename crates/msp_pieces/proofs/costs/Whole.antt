-- The cost of a schedule from the ends of its jobs, at the numbers as the code passes them.
use Rattle.std.proofs.Common.{◌≡◌, ℕ, ◌<◌, ◌≤◌, List, length, ℤ, pos, ◌*ℤ◌, All, slice_index_or, sym, ap, ◌∙◌, subst, arith}
use Rattle.msp_class.specs.declared.sizes.TheConstants.{MOST_JOBS}
use Rattle.msp_instance.specs.declared.Instance.{Instance}
use Rattle.msp_instance.specs.declared.Job.{Job}
use Rattle.msp_pieces.specs.declared.Piece.{Piece}
use Rattle.msp_pieces.specs.declared.Schedule.{Schedule}
use Rattle.msp_pieces.specs.Cost.{last_end, end_of, job_costs, combined, cost_of}
use Rattle.msp_pieces.specs.Within.{HasSmallCost}
use Rattle.msp_pieces.proofs.costs.Costs.{job_costs-same}

pub passed_small : (u unit : ℤ) (xs jobs : List Job) → u ≡ unit → xs ≡ jobs → All (HasSmallCost unit) jobs → All (HasSmallCost u) xs
passed_small u unit xs jobs e f h =
    subst (λ (l : List Job). All (HasSmallCost u) l) (sym f) (subst (λ (v : ℤ). All (HasSmallCost v) jobs) (sym e) h)

pub cost_is : (i : Instance) (s : Schedule) (num u : ℤ) (pieces : List Piece) (jobs : List Job) (ends : List ℤ) → length i.jobs ≤ MOST_JOBS → u ≡ s.unit → pieces ≡ s.pieces → jobs ≡ i.jobs →
    ((j : ℕ) → j < MOST_JOBS → slice_index_or ends j (pos 0) ≡ last_end pieces j) →
    num ≡ combined i.class.crit (job_costs i.class.crit u (λ k. slice_index_or ends k (pos 0)) 0 jobs) → num ≡ cost_of i s
cost_is i s num u pieces jobs ends few eu ep ej h e =
    e ∙ ap (λ v. combined i.class.crit (job_costs i.class.crit v (λ k. slice_index_or ends k (pos 0)) 0 jobs)) eu
    ∙ ap (λ l. combined i.class.crit (job_costs i.class.crit s.unit (λ k. slice_index_or ends k (pos 0)) 0 l)) ej
    ∙ ap (combined i.class.crit) (job_costs-same i.class.crit s.unit (λ k. slice_index_or ends k (pos 0)) (end_of s) 0 i.jobs (λ k l. h k (omega arith) ∙ ap (λ ps. last_end ps k) ep))

-- the fraction in lowest terms is the cost over the unit
pub over_unit : (num n unit u rn rd cost : ℤ) → n ≡ num → u ≡ unit → num ≡ cost → n *ℤ rd ≡ rn *ℤ u → rn *ℤ unit ≡ cost *ℤ rd
over_unit num n unit u rn rd cost en eu ec e = ap (λ v. rn *ℤ v) (sym eu) ∙ sym e ∙ ap (λ v. v *ℤ rd) (en ∙ ec)
