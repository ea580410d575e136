-- A reduction and a solver behind it keep what a solver owes.
use Rattle.std.proofs.Common.{if◌then◌else◌, ◌≡◌, ℕ, Bool, true, false, ℤ, ◌+ℤ◌, ◌≤ℤ◌, Result, Ok, Err, refl, sym, ap, ◌∙◌, subst, arith, inl, inr}
use Rattle.std.specs.Prelude.{IfOk, ◌==◌, ◌||◌}
use Rattle.std.proofs.lemmas.Int.{ints}
use Rattle.msp_class.proofs.IntegerRing.{≤ℤ_refl, ≤ℤ_trans}
use Rattle.msp_class.specs.declared.NoMemory.{NoMemory}
use Rattle.msp_class.specs.declared.environments.EnvKind.{EnvKind}
use Rattle.msp_class.specs.declared.environments.EnvKind.TheVariants.{OpenShop}
use Rattle.msp_class.specs.Env.{kind_of}
use Rattle.msp_instance.specs.declared.Instance.{Instance}
use Rattle.msp_pieces.specs.declared.Schedule.{Schedule}
use Rattle.msp_pieces.specs.declared.Solution.{Solution}
use Rattle.msp_pieces.specs.Cost.{cost_of, Best, IsSolution, IsBest}
use Rattle.msp_table.specs.Rows.{turns_dates, keeps_size}
use Rattle.msp_table.proofs.KindLemmas.{open_shops-stay}
use Rattle.msp_route.specs.Law.{Rate, IsPositive, IsLower, IsForth, IsBack}
use Rattle.msp_route.specs.Bounds.{EndsBy, IsBounded, KeepsBounds, IsAnswer, greatest_unit, answer_unit, moment_after}
use Rattle.msp_route.specs.declared.bounds.TheConstants.{GREATEST_ANSWER_MOMENT, GREATEST_RAISE, GREATEST_LINED_UP, GREATEST_CLOSED_UP, GREATEST_OPEN_UNIT}
use Rattle.msp_route.proofs.Kept.{from_uniform}
use Rattle.msp_route.proofs.BestBack.{Best-from_back}
use Rattle.std.proofs.lemmas.Bool.{cases_Bool}

-- the unit of an answer is one that a way back takes
unit-wider : (k : EnvKind) → answer_unit k ≤ℤ greatest_unit k
unit-wider OpenShop = omega (arith, ints)
unit-wider _ = ≤ℤ_refl _

EndsBy-later : (a b : ℤ) (s : Schedule) → a ≤ℤ b → EndsBy a s → EndsBy b s
EndsBy-later a b s h ends = λ k d l. ≤ℤ_trans (ends k d l) h

-- what a solver answers may be brought back
pub IsBounded-from_answer : (i : Instance) (s : Schedule) → IsAnswer i s → IsBounded i s
IsBounded-from_answer i s h = record {
  sized = record { few = h.few; unit = ≤ℤ_trans h.unit (unit-wider (kind_of i.class.env)) };
  ends = EndsBy-later _ _ s (omega (arith, ints)) h.ends;
}

-- the greatest moment of an answer is one after the row too, where that makes no due dates of release dates
later-row : (row : ℕ) → (row == 47) ≡ false → moment_after row GREATEST_ANSWER_MOMENT ≤ℤ GREATEST_ANSWER_MOMENT
later-row row e = by (row == 47) (row == 51 || row == 52) (row == 54) e
  where
    by : (a b c : Bool) → a ≡ false
        → (if a then GREATEST_ANSWER_MOMENT +ℤ GREATEST_RAISE else if b then GREATEST_LINED_UP else if c then GREATEST_CLOSED_UP else GREATEST_ANSWER_MOMENT) ≤ℤ GREATEST_ANSWER_MOMENT
    by true b c e = absurd (cc)
    by false false false e = ≤ℤ_refl GREATEST_ANSWER_MOMENT
    by false _ _ e = omega (arith, ints)

ends-composed : (row : ℕ) (upper lower : Instance) (t s : Schedule) → KeepsBounds row upper lower t s
    → EndsBy GREATEST_ANSWER_MOMENT t → (turns_dates row ≡ true → cost_of lower t ≤ℤ GREATEST_ANSWER_MOMENT) → EndsBy GREATEST_ANSWER_MOMENT s
ends-composed row upper lower t s keeps ends low = elim (cases_Bool (row == 47)) [
  | inl e ↦ EndsBy-later _ _ s (low e) (λ k d l. (keeps.dates (ap (λ x. x || (row == 48)) e) k d l).1)
  | inr e ↦ EndsBy-later _ _ s (later-row row e) (keeps.ends GREATEST_ANSWER_MOMENT ends)
]

-- in open shops the unit stays
unit-composed : (k l : EnvKind) (before after : ℤ) → (k ≡ OpenShop → l ≡ OpenShop) → (k ≡ OpenShop → after ≡ before) → after ≤ℤ greatest_unit k → before ≤ℤ answer_unit l → after ≤ℤ answer_unit k
unit-composed OpenShop l before after stays same h a =
    subst (λ x. x ≤ℤ GREATEST_OPEN_UNIT) (sym (same refl)) (subst (λ x. before ≤ℤ answer_unit x) (stays refl) a)
unit-composed _ l before after stays same h a = h

open_unit : (row : ℕ) (upper lower : Instance) (t s : Schedule) → IsLower row upper lower → KeepsBounds row upper lower t s → kind_of upper.class.env ≡ OpenShop → s.unit ≡ t.unit
open_unit row upper lower t s led keeps open_shop = elim (cases_Bool (keeps_size row)) [
  | inl e ↦ keeps.unit e
  | inr e ↦ absurd (cc (sym open_shop ∙ from_uniform row upper.class lower.class led.class e))
]

IsAnswer-composed : (row : ℕ) (upper lower : Instance) (t s : Schedule) → IsLower row upper lower
    → IsAnswer lower t → KeepsBounds row upper lower t s → (turns_dates row ≡ true → cost_of lower t ≤ℤ GREATEST_ANSWER_MOMENT) → IsAnswer upper s
IsAnswer-composed row upper lower t s led answer keeps low = record {
  few = keeps.sized.few;
  unit = unit-composed (kind_of upper.class.env) (kind_of lower.class.env)
      t.unit s.unit (open_shops-stay row upper.class lower.class led.class) (open_unit row upper lower t s led keeps) keeps.sized.unit answer.unit;
  ends = ends-composed row upper lower t s keeps answer.ends low;
}

-- what comes back from a best solution
pub IfOk-best : (rate : Rate) (upper lower : Instance) (forth : Schedule → Schedule) (t : Schedule) (result : Result Solution NoMemory) → IsPositive rate
    → ((u : Schedule) → IsForth rate upper lower u (forth u)) → Best lower t
    → IfOk result (λ s. IsSolution upper s) → IfOk result (λ s. IsBack rate upper lower t s.schedule) → IfOk result (λ s. IsBest upper s)
IfOk-best rate upper lower forth t (Ok s) positive forth_is best solution law = record {
  best = Best-from_back rate upper lower forth t s.schedule positive forth_is law best;
  cost = solution.cost;
}
IfOk-best rate upper lower forth t (Err e) positive forth_is best solution law = tt

pub IfOk-answer : (row : ℕ) (upper lower : Instance) (t : Schedule) (result : Result Solution NoMemory)
    → IsLower row upper lower → IsAnswer lower t → (turns_dates row ≡ true → cost_of lower t ≤ℤ GREATEST_ANSWER_MOMENT)
    → IfOk result (λ s. KeepsBounds row upper lower t s.schedule) → IfOk result (λ s. IsAnswer upper s.schedule)
IfOk-answer row upper lower t (Ok s) led answer low keeps = IsAnswer-composed row upper lower t s.schedule led answer keeps low
IfOk-answer row upper lower t (Err e) led answer low keeps = tt
