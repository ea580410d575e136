-- What the number of a row says of what comes back over it.
use Rattle.std.proofs.Common.{◌≡◌, ℕ, ◌≤◌, Bool, true, false, length, Some, IsSome, ℤ, refl, sym, ap, subst, ◌∙◌, arith}
use Rattle.std.specs.Prelude.{◌==◌, ◌||◌, not}
use Rattle.std.proofs.lemmas.Bool.{eqb-true, false≢true}
use Rattle.msp_class.specs.declared.class.Class.{Class}
use Rattle.msp_class.specs.declared.class.Env.TheVariants.{Q2, Q}
use Rattle.msp_class.specs.declared.environments.EnvKind.TheVariants.{Uniform}
use Rattle.msp_class.specs.Env.{kind_of}
use Rattle.msp_class.proofs.EnvNumbers.{env_number-injective}
use Rattle.msp_instance.specs.declared.Instance.{Instance}
use Rattle.msp_pieces.specs.declared.Schedule.{Schedule}
use Rattle.msp_table.specs.Rows.{table, goes_of, keeps_size}
use Rattle.msp_route.specs.Bounds.{EndsBy, IsSized, KeepsBounds, keeps_schedule, trades_dates, moment_after}
use Rattle.msp_route.specs.laws.Stays.{other_row, kept_row}
use Rattle.msp_route.proofs.Applied.{part_and_condition}

-- ---- moments
-- the rows that may raise the greatest moment
abbrev pub raises : ℕ → Bool
raises row = row == 47 || row == 51 || row == 52 || row == 54

-- no other row does
pub unraised : (row : ℕ) (moment : ℤ) → raises row ≡ false → moment_after row moment ≡ moment
unraised row moment h = rw (none 47 refl, none 51 refl, none 52 refl, none 54 refl) refl
  where
    none : (n : ℕ) → not (raises n) ≡ false → (row == n) ≡ false
    none n e = other_row (λ k. not (raises k)) row n e (ap not h)

-- ---- what stays
kept_raises : (row : ℕ) → keeps_schedule row ≡ true → raises row ≡ false
kept_raises row h = rw (kept_row row 47 h refl, kept_row row 51 h refl, kept_row row 52 h refl, kept_row row 54 h refl) refl

kept_dates : (row : ℕ) → keeps_schedule row ≡ true → trades_dates row ≡ false
kept_dates row h = rw (kept_row row 47 h refl, kept_row row 48 h refl) refl

-- what a row owes that raises no moment and trades no dates
pub KeepsBounds-unraised : (row : ℕ) (i j : Instance) (before after : Schedule)
    → raises row ≡ false → trades_dates row ≡ false → (keeps_schedule row ≡ true → after ≡ before) → (keeps_size row ≡ true → after.unit ≡ before.unit)
    → length after.pieces ≤ length before.pieces → IsSized i after → ((moment : ℤ) → EndsBy moment before → EndsBy moment after) → KeepsBounds row i j before after
KeepsBounds-unraised row i j before after low plain same unit few sized ends = record {
  same = same;
  few = few;
  unit = unit;
  sized = sized;
  ends = λ moment e. subst (λ m. EndsBy m after) (sym (unraised row moment low)) (ends moment e);
  dates = λ trades. absurd (false≢true (sym plain ∙ trades));
}

-- what a row owes that keeps the schedule
pub KeepsBounds-kept : (row : ℕ) (i j : Instance) (s : Schedule) → keeps_schedule row ≡ true → IsSized i s → KeepsBounds row i j s s
KeepsBounds-kept row i j s kept sized = KeepsBounds-unraised row i j s s (kept_raises row kept) (kept_dates row kept) (λ k. refl) (λ k. refl) (omega arith) sized (λ moment e. e)

-- ---- the rows that multiply the unit lead from uniform machines
from_26 : (a c : Class) → goes_of 26 a ≡ Some c → kind_of a.env ≡ Uniform
unfolding goes_of table
from_26 a c e = ap kind_of (env_number-injective a.env Q (eqb-true _ _ (part_and_condition _ _ _ (subst IsSome (sym e) refl)).0))

from_27 : (a c : Class) → goes_of 27 a ≡ Some c → kind_of a.env ≡ Uniform
unfolding goes_of table
from_27 a c e = ap kind_of (env_number-injective a.env Q2 (eqb-true _ _ (part_and_condition _ _ _ (subst IsSome (sym e) refl)).0))

pub from_uniform : (row : ℕ) (a c : Class) → goes_of row a ≡ Some c → keeps_size row ≡ false → kind_of a.env ≡ Uniform
from_uniform row a c goes h = by (row == 26) (row == 27) refl refl h
  where
    by : (x y : Bool) → (row == 26) ≡ x → (row == 27) ≡ y → not (x || y) ≡ false → kind_of a.env ≡ Uniform
    by true y e f h = from_26 a c (ap (λ k. goes_of k a) (sym (eqb-true row 26 e)) ∙ goes)
    by false true e f h = from_27 a c (ap (λ k. goes_of k a) (sym (eqb-true row 27 f)) ∙ goes)
    by false false e f h = absurd (cc)
