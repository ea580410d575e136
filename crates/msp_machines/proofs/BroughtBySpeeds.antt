-- What is brought back from unrelated machines to uniform ones.
use Rattle.std.proofs.Common.{◌≡◌, ℕ, ◌≤◌, List, length, All, false, ℤ, pos, negsuc, ◌*ℤ◌, ◌≤ℤ◌, ◌<ℤ◌, sym, ap, subst, ◌∙◌, arith}
use Rattle.std.proofs.lemmas.Bool.{false≢true}
use Rattle.std.proofs.lemmas.Int.{ints}
use Rattle.std.proofs.lemmas.Nat.{mul-le}
use Rattle.std.proofs.lemmas.List.Sorted.{IsPermutation-refl}
use Rattle.std.specs.List.Sorted.{IsPermutation}
use Rattle.msp_class.proofs.IntegerRing.{pos-le, le-pos}
use Rattle.msp_class.specs.declared.sizes.TheConstants.{GREATEST_MULTIPLE, GREATEST_SPEED, MOST_MACHINES}
use Rattle.msp_class.specs.declared.environments.EnvKind.TheVariants.{Uniform}
use Rattle.msp_class.specs.Env.{kind_of}
use Rattle.msp_instance.specs.declared.Instance.{Instance}
use Rattle.msp_instance.specs.Conditions.{HasSpeeds, Inner}
use Rattle.msp_pieces.specs.declared.limits.TheConstants.{GREATEST_CARRIED_UNIT}
use Rattle.msp_pieces.specs.declared.Schedule.{Schedule}
use Rattle.msp_pieces.specs.declared.Solution.{Solution}
use Rattle.msp_pieces.specs.Feasible.{Feasible}
use Rattle.msp_pieces.specs.Cost.{IsSolution}
use Rattle.msp_pieces.specs.Within.{Within, IsUnit, IsMoment}
use Rattle.msp_table.specs.Rows.{keeps_size}
use Rattle.msp_route.specs.declared.bounds.TheConstants.{GREATEST_BACK_MOMENT}
use Rattle.msp_route.specs.Law.{IsBack, IsReordered}
use Rattle.msp_route.specs.Bounds.{IsBounded, KeepsBounds, greatest_unit, keeps_schedule, trades_dates}
use Rattle.msp_route.proofs.Kept.{raises, KeepsBounds-unraised}
use Rattle.msp_route.specs.Rates.{least_common_multiple, speed_rate}
use Rattle.msp_machines.specs.Unrelated.{shrunk_schedule}
use Rattle.msp_machines.specs.laws.Stretched.{IsLedBySpeeds}

-- the speeds and the schedule, as the code reads them
module _ (i : Instance) (inner : Inner i) (from : kind_of i.class.env ≡ Uniform) (speeds : List ℕ) (are : speeds ≡ i.speeds) where
  has_speeds : HasSpeeds Uniform i.machines speeds
  has_speeds = subst (HasSpeeds Uniform i.machines) (sym are) (subst (λ k. HasSpeeds k i.machines i.speeds) from inner.conditions.speeds)

  pub speeds_within : All (λ s. (1 ≤ s) × (s ≤ GREATEST_SPEED)) speeds
  speeds_within = has_speeds.1

  pub speeds_few : length speeds ≤ MOST_MACHINES
  speeds_few = omega (arith, has_speeds.0, inner.conditions.machines.1)

pub shrunk_is : (i : Instance) (t s : Schedule) (n : ℕ) (speeds : List ℕ)
    → s ≡ shrunk_schedule n t → n ≡ least_common_multiple speeds → speeds ≡ i.speeds → s ≡ shrunk_schedule (least_common_multiple i.speeds) t
shrunk_is i t s n speeds e f g = e ∙ ap (λ k. shrunk_schedule k t) (f ∙ ap least_common_multiple g)

unit_fits : (u : ℤ) (n : ℕ) → pos 1 ≤ℤ u → u ≤ℤ GREATEST_CARRIED_UNIT → 1 ≤ n → n ≤ GREATEST_MULTIPLE → IsUnit (u *ℤ pos n)
unit_fits (negsuc u) n h k some small = absurd (omega (arith, ints))
unit_fits (pos u) n h k some small = (pos-le (mul-le 1 1 u n (le-pos h) some), pos-le (omega (arith, mul-le u n 4096 GREATEST_MULTIPLE (le-pos k) small)))

moment : (x y : ℤ) → pos 0 ≤ℤ x → x <ℤ y → y ≤ℤ GREATEST_BACK_MOMENT → IsMoment x × IsMoment y
moment x y p q r = ((p, omega (arith, ints)), (omega (arith, ints), omega (arith, ints)))

-- the row multiplies the unit, and changes neither moments nor dates
pub record MultipliesUnit (row : ℕ) : Type 0 where
  pub changes : keeps_schedule row ≡ false
  pub grows : keeps_size row ≡ false
  pub moments : raises row ≡ false
  pub dates : trades_dates row ≡ false

module _ {row : ℕ} {i j : Instance} (h : IsLedBySpeeds row i j) (t : Schedule) (f : Feasible j t) (b : IsBounded j t) where
  abbrev after : Schedule
  after = shrunk_schedule (least_common_multiple i.speeds) t

  pub unit_small : (pos 1 ≤ℤ t.unit) × (t.unit ≤ℤ GREATEST_CARRIED_UNIT)
  unit_small = (f.unit, subst (λ k. t.unit ≤ℤ greatest_unit k) h.to b.sized.unit)

  unit_is : IsUnit (t.unit *ℤ pos (least_common_multiple i.speeds))
  unit_is = unit_fits t.unit (least_common_multiple i.speeds) unit_small.0 unit_small.1 h.some h.small

  pub Within-after : Within i after
  Within-after = record {
    unit = unit_is;
    few = b.sized.few;
    moments = λ k d l. let s = f.span k d l in moment _ _ s.0 s.1 (b.ends k d l);
    scaled = λ e. absurd (cc (sym h.from ∙ e));
  }

  pub feasible_after : Feasible i after
  feasible_after = (h.back t f).0

  KeepsBounds-after : MultipliesUnit row → KeepsBounds row i j t after
  KeepsBounds-after m = KeepsBounds-unraised row i j t after m.moments m.dates (λ kept. absurd (false≢true (sym m.changes ∙ kept))) (λ kept. absurd (false≢true (sym m.grows ∙ kept))) (omega arith)
      (record { few = b.sized.few; unit = subst (λ k. (t.unit *ℤ pos (least_common_multiple i.speeds)) ≤ℤ greatest_unit k) (sym h.from) unit_is.1 })
      (λ moment e. e)

  -- what is brought back
  abbrev IsBroughtBack : Solution → Type 0
  IsBroughtBack s = record {
    solution : IsSolution i s;
    law : IsBack (speed_rate i) i j t s.schedule;
    same : IsReordered after s.schedule;
    bounds : KeepsBounds row i j t s.schedule;
  }

  pub brought_back : MultipliesUnit row → (s : Solution) → s.schedule ≡ after → IsSolution i s → IsBroughtBack s
  brought_back m s e solution = record {
    solution = solution;
    law = subst (IsBack (speed_rate i) i j t) (sym e) (h.back t);
    same = record { unit = ap (λ x. x.unit) e; pieces = subst (λ x. IsPermutation t.pieces x.pieces) (sym e) (IsPermutation-refl t.pieces) };
    bounds = subst (KeepsBounds row i j t) (sym e) (KeepsBounds-after m);
  }
