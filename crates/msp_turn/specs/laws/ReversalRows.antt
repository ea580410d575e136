-- The rows that read schedules from their end: the instances at both ends are each other's reverse.
use Rattle.std.proofs.Common.{◌≡◌, ℕ, ◌<◌, true, false, [], ◌∷◌, length, ℤ, pos, ◌+ℤ◌, ◌*ℤ◌, Some, unwrap_or, refl, sym, ap, subst, ◌∙◌}
use Rattle.std.proofs.lemmas.Bool.{eqb-true, and_parts}
use Rattle.msp_class.specs.declared.class.Class.{Class}
use Rattle.msp_class.specs.declared.class.Order.{Order}
use Rattle.msp_class.specs.declared.class.Order.TheVariants.{Intree, Outtree}
use Rattle.msp_class.specs.declared.class.Crit.{Crit}
use Rattle.msp_class.specs.declared.class.Crit.TheVariants.{Cmax}
use Rattle.msp_class.specs.Env.{kind_of, is_mirror}
use Rattle.msp_class.specs.Order.{turned}
use Rattle.msp_class.specs.Crit.{is_greatest}
use Rattle.msp_class.proofs.RankLemmas.{flag_number-injective, order_number-injective, crit_number-injective}
use Rattle.msp_class.proofs.IntegerRing.{zero-*ℤ, *ℤ-zero}
use Rattle.msp_instance.specs.declared.Job.{Job}
use Rattle.msp_instance.specs.declared.Instance.{Instance}
use Rattle.msp_instance.specs.Instance.{job_at}
use Rattle.msp_instance.specs.Conditions.{Inner, inner_limits}
use Rattle.msp_pieces.specs.Cost.{job_cost}
use Rattle.msp_pieces.proofs.feasible.Frames.{no_heads}
use Rattle.msp_pieces.proofs.changes.Mirror.{turned_arcs as arcs_turned, turned_back}
use Rattle.msp_table.specs.Parts.{OrderIs, has_all}
use Rattle.msp_table.specs.Rows.{goes_of, table, turns_dates, mirror_no_r_cmax}
use Rattle.msp_route.specs.Law.{Applies, IsLower}
use Rattle.msp_route.proofs.Applied.{parts_and_condition}
use Rattle.msp_route.proofs.InnerChanges.{IsJobOf-recast}
use Rattle.msp_turn.specs.Turned.{turned_arcs}
use Rattle.msp_turn.specs.laws.TurnedArcs.{turned_with, Inner-turned}
use Rattle.msp_turn.specs.Reversal.{led_turned}
use Rattle.msp_turn.specs.laws.ReversalLaw.{IsReverse}

-- the row leads to the reverse of the instance, at costs that are greater by the addend; only row 47 has release dates above
pub record IsReversal (row : ℕ) (addend : ℤ) (i j : Instance) : Type 0 where
  pub none : turns_dates row ≡ false → (k : ℕ) → k < length i.jobs → (job_at i k).release ≡ 0
  pub lower : IsLower row i j
  pub reverse : IsReverse addend (pos 0) i j

-- ---- charges
-- the greatest end charges the end
pub cmax_charge : (crit : Crit) (a : Job) (r : ℕ) → crit ≡ Cmax → r ≡ 0 → (unit x : ℤ) → (job_cost crit unit a x +ℤ (pos 0 *ℤ unit)) ≡ (x +ℤ (unit *ℤ pos r))
cmax_charge crit a r e z unit x =
    ap (λ c. job_cost c unit a x +ℤ (pos 0 *ℤ unit)) e ∙ ap (λ y. x +ℤ y) (zero-*ℤ unit ∙ sym (*ℤ-zero unit) ∙ ap (λ n. unit *ℤ pos n) (sym z))

-- ---- intrees and outtrees
record IsTurnedTree (from : Order) (c : Class) : Type 0 where
  order : c.order ≡ from
  mirror : is_mirror c.env ≡ true
  heads : c.heads ≡ false
  crit : c.crit ≡ Cmax

reversal_of_trees : (row : ℕ) (from to : Order) (i : Instance) → turned from ≡ to
    → IsTurnedTree from i.class → goes_of row i.class ≡ Some (record i.class { order = to }) → Inner i → IsReversal row (pos 0) i (led_turned row i)
reversal_of_trees row from to i e t g inner =
    subst (λ o. IsReversal row (pos 0) i (record i { class = unwrap_or o i.class; arcs = turned_arcs i.arcs })) (sym g) (record {
      none = λ t. none;
      lower = record { inner = subst (λ o. Inner (record i { class = record i.class { order = o }; arcs = turned_arcs i.arcs })) (ap turned t.order ∙ e) turned_inner; class = g };
      reverse = record {
        needs = record { kind = refl; cut = refl; machines = refl; speeds = refl; count = refl; needs = λ k l. refl };
        mirror = t.mirror;
        arcs = arcs_turned i.arcs;
        arcs_back = turned_back i.arcs;
        greatest = ap is_greatest t.crit;
        greatest_below = ap is_greatest t.crit;
        charge = λ k l. cmax_charge i.class.crit (job_at i k) (job_at i k).release t.crit (none k l);
        charge_below = λ k l. cmax_charge i.class.crit (job_at i k) (job_at i k).release t.crit (none k l);
      };
    })
  where
    none : (k : ℕ) → k < length i.jobs → (job_at i k).release ≡ 0
    none k l = no_heads (inner_limits (kind_of i.class.env)) i t.heads inner.conditions k l

    turned_inner : Inner (turned_with i i.class.heads i.class.crit i.jobs)
    turned_inner = Inner-turned i i.class.heads i.class.crit i.jobs refl
        (λ k d l. let h = inner.conditions.jobs k d l in IsJobOf-recast h.needs refl refl h.needs.times h.times h.release h.due h.weight h.curve) inner.dues inner

reversal_at : (row : ℕ) (from to : Order) → turned from ≡ to → (i : Instance) → (has_all i.class (OrderIs from ∷ []) ≡ true) × (mirror_no_r_cmax i.class ≡ true)
    × (goes_of row i.class ≡ Some (record i.class { order = to })) → Inner i → IsReversal row (pos 0) i (led_turned row i)
reversal_at row from to e i (left, given, g) inner =
    let (mirror, more) = and_parts _ _ given in
    let (heads, crit) = and_parts _ _ more in
    reversal_of_trees row from to i e (record {
      order = order_number-injective _ from (eqb-true _ _ (and_parts _ _ left).0);
      mirror = mirror;
      heads = flag_number-injective _ false (eqb-true _ _ heads);
      crit = crit_number-injective _ Cmax (eqb-true _ _ (and_parts _ _ crit).0);
    }) g inner

pub reversal_45 : (i : Instance) → Inner i → Applies 45 i → IsReversal 45 (pos 0) i (led_turned 45 i)
unfolding goes_of table
reversal_45 i inner h = reversal_at 45 Intree Outtree refl i (parts_and_condition _ _ _ h) inner

pub reversal_46 : (i : Instance) → Inner i → Applies 46 i → IsReversal 46 (pos 0) i (led_turned 46 i)
unfolding goes_of table
reversal_46 i inner h = reversal_at 46 Outtree Intree refl i (parts_and_condition _ _ _ h) inner
