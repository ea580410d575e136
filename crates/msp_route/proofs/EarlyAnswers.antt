-- Where release dates became due dates, the cost of a best schedule is within the moments of an answer.
use Rattle.std.proofs.Common.{◌≡◌, ℕ, Bool, true, false, ◌&&◌, [], ◌∷◌, Some, None, inr, pos, ◌≤ℤ◌, if◌then◌else◌, refl, sym, ap, subst, ◌∙◌}
use Rattle.std.proofs.lemmas.Bool.{eqb-true}
use Rattle.msp_class.specs.declared.class.Class.{Class}
use Rattle.msp_class.specs.declared.class.Crit.TheVariants.{Cmax, Lmax}
use Rattle.msp_class.specs.declared.environments.EnvKind.{EnvKind}
use Rattle.msp_class.specs.declared.environments.EnvKind.TheVariants.{Identical}
use Rattle.msp_class.specs.Env.{kind_of, is_mirror}
use Rattle.msp_class.specs.Order.{turned}
use Rattle.msp_instance.specs.declared.Instance.{Instance}
use Rattle.msp_pieces.specs.declared.Schedule.{Schedule}
use Rattle.msp_pieces.specs.Cost.{Best, cost_of}
use Rattle.msp_pieces.proofs.feasible.InSeries.{unit_limit, best_ends_early}
use Rattle.msp_table.specs.Parts.{HeadsIs, CritIs, has_all}
use Rattle.msp_table.specs.Rows.{table, goes_of, turns_dates}
use Rattle.msp_route.specs.declared.bounds.TheConstants.{GREATEST_ANSWER_MOMENT}
use Rattle.msp_route.specs.Law.{IsLower}
use Rattle.msp_route.specs.Bounds.{answer_unit}

-- the class to which row 47 leads
record IsTurnedDates (c : Class) : Type 0 where
  mirror : is_mirror c.env ≡ true
  heads : c.heads ≡ false
  crit : c.crit ≡ Lmax

row_47_leads : (a c : Class) → goes_of 47 a ≡ Some c → IsTurnedDates c
unfolding goes_of table
row_47_leads a c e = by (has_all a (HeadsIs true ∷ CritIs Cmax ∷ [])) (is_mirror a.env) refl e
  where
    by : (x y : Bool) → is_mirror a.env ≡ y → (if x && y then Some (record a { order = turned a.order; heads = false; crit = Lmax }) else None) ≡ Some c → IsTurnedDates c
    by true true m e = let same : record a { order = turned a.order; heads = false; crit = Lmax } ≡ c = cc in subst IsTurnedDates same (record { mirror = m; heads = refl; crit = refl })
    by true false m e = absurd (cc)
    by false y m e = absurd (cc)

unit_is : (k : EnvKind) → answer_unit k ≡ pos (unit_limit k)
unit_is Identical = refl
unit_is _ = refl

pub turned_cost : (row : ℕ) (upper lower : Instance) (t : Schedule) → turns_dates row ≡ true
    → IsLower row upper lower → Best lower t → t.unit ≤ℤ answer_unit (kind_of lower.class.env) → cost_of lower t ≤ℤ GREATEST_ANSWER_MOMENT
turned_cost row upper lower t e low best small =
    let leads = row_47_leads upper.class lower.class (ap (λ k. goes_of k upper.class) (sym (eqb-true row 47 e)) ∙ low.class) in
    best_ends_early lower t low.inner leads.mirror leads.heads (inr leads.crit) best (subst (λ u. t.unit ≤ℤ u) (unit_is (kind_of lower.class.env)) small)
