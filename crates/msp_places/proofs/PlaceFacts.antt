-- What an instance of jobs of one time on uniform machines has.
use Rattle.std.proofs.Common.{◌≡◌, ℕ, ◌*◌, ◌/◌, ◌<◌, ◌≤◌, List, length, get_or, map, ap₂, subst, ◌∙◌, arith, le-mul_of_pos_right}
use Rattle.std.proofs.lemmas.Nat.{mul-le}
use Rattle.std.proofs.lemmas.List.{get_or_default}
use Rattle.msp_class.specs.declared.sizes.TheConstants.{GREATEST_MULTIPLE, GREATEST_EQUAL_TIME}
use Rattle.msp_class.specs.declared.class.Class.{Class}
use Rattle.msp_class.specs.declared.class.Crit.{Crit}
use Rattle.msp_class.specs.declared.class.Times.TheVariants.{Equal}
use Rattle.msp_class.specs.declared.environments.EnvKind.TheVariants.{Uniform}
use Rattle.msp_class.specs.Env.{kind_of}
use Rattle.msp_instance.specs.declared.Instance.{Instance}
use Rattle.msp_instance.specs.Instance.{no_need, no_job, job_at, common_time}
use Rattle.msp_instance.specs.Conditions.{Inner, Limits, MeetsConditions, HasSpeeds, greatest_time}
use Rattle.msp_instance.specs.Multiples.{IsLeastOfAll}
use Rattle.msp_pieces.proofs.feasible.OfClass.{IsOfClass, IsOfClass-from}
use Rattle.msp_places.specs.Classes.{places_most_class}
use Rattle.msp_places.specs.Places.{lengths_of, TakeCommonTime}
use Rattle.msp_places.proofs.OwnPlaces.{lengths-count, long-speed, long-some, first_time}
use Rattle.msp_places.proofs.Turns.{AreShort}
use Rattle.msp_places.specs.Bounds.{greatest_length}

-- ---- jobs of one time on uniform machines
-- the common time is in range
pub common_time_range : (l : Limits) (i : Instance) → kind_of i.class.env ≡ Uniform → i.class.times ≡ Equal → MeetsConditions l i
    → (1 ≤ common_time i) × (common_time i ≤ GREATEST_EQUAL_TIME)
common_time_range l i kind equal c = subst (λ t. (1 ≤ common_time i) × (common_time i ≤ greatest_time l t)) equal (first_time l i kind c)

module _ (i : Instance) (speeds : HasSpeeds Uniform i.machines i.speeds) (time : (1 ≤ common_time i) × (common_time i ≤ GREATEST_EQUAL_TIME)) (unit : ℕ)
    (common : IsLeastOfAll i.speeds unit) (few : unit ≤ GREATEST_MULTIPLE) where
  pub lengths_short : AreShort (lengths_of i unit)
  lengths_short m d l = subst (λ x. (1 ≤ x) × (x ≤ greatest_length)) (get_or_default (lengths_of i unit) m 0 d l) (
    long-some i unit speeds common m inside time.0,
    omega (
      arith,
      long-speed i unit speeds common m inside,
      le-mul_of_pos_right (get_or (lengths_of i unit) m 0) (speeds.1 m 0 (omega (arith, inside, speeds.0))).0,
      mul-le unit (common_time i) GREATEST_MULTIPLE GREATEST_EQUAL_TIME few time.1,
    ),
  )
    where
      inside : m < i.machines
      inside = omega (arith, l, lengths-count i unit speeds common)

-- the lengths, as the code makes them
pub lengths_read : (i : Instance) (unit time : ℕ) (speeds lengths slice : List ℕ) → speeds ≡ i.speeds → time ≡ common_time i
    → lengths ≡ map (λ s. time * (unit / s)) speeds → slice ≡ lengths → slice ≡ lengths_of i unit
lengths_read i unit time speeds lengths slice e f g h = h ∙ g ∙ ap₂ (λ t l. map (λ s. t * (unit / s)) l) f e

-- the classes that are solved differ in the criterion
abbrev pub class_by : Crit → Class
class_by crit = record places_most_class { crit = crit }

abbrev pub IsPlacesInstance : Crit → Instance → Type 0
IsPlacesInstance crit i = IsOfClass i (class_by crit)

pub IsPlacesInstance-from : (crit : Crit) (i : Instance) → i.class ≡ class_by crit → Inner i → IsPlacesInstance crit i
IsPlacesInstance-from crit i e inner = IsOfClass-from i (class_by crit) e inner

module _ (crit : Crit) (i : Instance) (h : IsPlacesInstance crit i) where
  pub one_need : (j : ℕ) → j < length i.jobs → 0 < length (job_at i j).needs
  one_need j l = omega (arith, (h.jobs j no_job l).needs.shape.0)

  pub takes_common_time : TakeCommonTime i
  takes_common_time j l = (h.jobs j no_job l).times 0 no_need (one_need j l)

  pub no_release : (j : ℕ) → j < length i.jobs → (job_at i j).release ≡ 0
  no_release j l = (h.jobs j no_job l).release

  pub common_time_within : (1 ≤ common_time i) × (common_time i ≤ GREATEST_EQUAL_TIME)
  common_time_within = (h.jobs 0 no_job (omega (arith, h.some))).needs.times 0 no_need (one_need 0 (omega (arith, h.some)))
