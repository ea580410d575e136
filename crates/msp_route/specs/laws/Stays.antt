-- Rows over which schedules stay as they are: both halves of the law, and costs by the table of rates.
use Rattle.std.proofs.Common.{◌≡◌, ℕ, Bool, true, false, pos, ◌+ℤ◌, ◌*ℤ◌, refl, sym, ap, ◌∙◌, arith}
use Rattle.std.specs.Prelude.{◌==◌, ◌&&◌, nat_le}
use Rattle.std.proofs.lemmas.Bool.{and_parts, ne_eqb, leb-true, false≢true}
use Rattle.msp_class.proofs.IntegerRing.{≤ℤ_of_same, zero-*ℤ, +ℤ_idr}
use Rattle.msp_instance.specs.declared.Instance.{Instance}
use Rattle.msp_instance.specs.Conditions.{Inner}
use Rattle.msp_pieces.specs.declared.Schedule.{Schedule}
use Rattle.msp_pieces.specs.Feasible.{Feasible}
use Rattle.msp_pieces.specs.Cost.{cost_of}
use Rattle.msp_table.specs.declared.row.TheConstants.{ROWS}
use Rattle.msp_table.specs.Rows.{carries}
use Rattle.msp_route.specs.Law.{Applies, IsPositive, IsForth, IsBack, cost_above, cost_below}
use Rattle.msp_route.specs.Bounds.{keeps_schedule}
use Rattle.msp_route.specs.Changes.{same_costs}
use Rattle.msp_route.specs.Rates.{rate_of}
use Rattle.msp_route.specs.Stays.{SchedulesStay, CarriesSame}

pub IsPositive-same : IsPositive same_costs
IsPositive-same = record { factor = omega arith; scale = omega arith }

-- a row that a test passes is none that it fails
pub other_row : (test : ℕ → Bool) (row n : ℕ) → test n ≡ false → test row ≡ true → (row == n) ≡ false
other_row test row n fails passes = ne_eqb row n (λ e. false≢true (sym (ap test e ∙ fails) ∙ passes))

-- where the schedule is kept, the row is none that changes it
pub kept_row : (row n : ℕ) → keeps_schedule row ≡ true → keeps_schedule n ≡ false → (row == n) ≡ false
kept_row row n h e = other_row keeps_schedule row n e h

-- and costs stay
pub rate-kept : (row : ℕ) (i : Instance) → keeps_schedule row ≡ true → same_costs ≡ rate_of row i
rate-kept row i h = sym (rw (kept_row row 26 h refl, kept_row row 27 h refl, kept_row row 48 h refl, kept_row row 54 h refl) refl)

module _ {row : ℕ} {i j : Instance} (h : SchedulesStay row i j) where
  translated : (s : Schedule) → Feasible i s → cost_above same_costs i s ≡ cost_below same_costs j s
  translated s f = ap (λ z. (pos 1 *ℤ cost_of i s) +ℤ z) (zero-*ℤ s.unit) ∙ +ℤ_idr (pos 1 *ℤ cost_of i s) ∙ ap (λ z. pos 1 *ℤ z) (h.cost s f)

  pub IsForth-stays : (s : Schedule) → IsForth same_costs i j s s
  IsForth-stays s f = ((h.feasible s).0 f, ≤ℤ_of_same (ap (λ z. z *ℤ s.unit) (sym (translated s f))))

  pub IsBack-stays : (s : Schedule) → IsBack same_costs i j s s
  IsBack-stays s f = let g = (h.feasible s).1 f in (g, ≤ℤ_of_same (ap (λ z. z *ℤ s.unit) (translated s g)))

-- the number is that of a row that carries schedules and keeps them
abbrev pub is_keeping : ℕ → Bool
is_keeping row = nat_le 1 row && (nat_le row ROWS && (carries row && keeps_schedule row))

pub carries_same : {row : ℕ} {lower : Instance → Instance} → is_keeping row ≡ true → ((i : Instance) → Inner i → Applies row i → SchedulesStay row i (lower i)) → CarriesSame row lower
carries_same {row} keeping stay =
    let (some, rest) = and_parts (nat_le 1 row) _ keeping in
    let (few, numbers) = and_parts (nat_le row ROWS) _ rest in
    let (carried, kept) = and_parts (carries row) (keeps_schedule row) numbers in
    record { listed = (leb-true 1 row some, leb-true row ROWS few); carried = carried; kept = kept; stay = stay }
