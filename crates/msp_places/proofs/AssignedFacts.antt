-- What jobs cost in the earliest places by their due dates: costs that `assign` takes, and what it gives.
use Rattle.std.proofs.Common.{◌≡◌, ℕ, ◌+◌, ◌*◌, ◌<◌, ◌≤◌, ◌⊎◌, inl, inr, Bool, true, false, List, length, ℤ, pos, ◌-ℤ◌, ◌*ℤ◌, ◌≤ℤ◌, All, sym, ap, ap₂, subst, subst₂, ◌∙◌, arith}
use Rattle.std.specs.Prelude.{int_lt, if◌then◌else◌}
use Rattle.std.specs.Int.{int_max}
use Rattle.std.proofs.lemmas.Int.{ints, clamps}
use Rattle.msp_class.specs.declared.sizes.TheConstants.{GREATEST, GREATEST_MULTIPLE}
use Rattle.msp_class.specs.declared.class.Class.{Class}
use Rattle.msp_class.specs.declared.class.Crit.{Crit}
use Rattle.msp_class.specs.declared.class.Crit.TheVariants.{SumWT, SumWU}
use Rattle.msp_class.specs.Crit.{is_greatest, uses_due}
use Rattle.msp_class.specs.declared.environments.EnvKind.TheVariants.{Uniform}
use Rattle.msp_class.proofs.IntegerRing.{≤ℤ_trans, zero-le-pos, *ℤ-mono, *ℤ-nonneg, pos-le}
use Rattle.msp_instance.specs.declared.Job.{Job}
use Rattle.msp_instance.specs.declared.Instance.{Instance}
use Rattle.msp_instance.specs.Instance.{no_job, job_at}
use Rattle.msp_instance.specs.Conditions.{LiesWithin, Inner, inner_limits}
use Rattle.msp_instance.specs.Multiples.{IsLeastOfAll}
use Rattle.msp_pieces.specs.declared.Piece.{Piece}
use Rattle.msp_pieces.specs.Cost.{job_cost, tardiness, late}
use Rattle.msp_pieces.specs.Within.{HasSmallCost}
use Rattle.msp_pieces.proofs.costs.Small.{product_within, due_within, small_costs}
use Rattle.msp_assign.specs.Prices.{HasCosts, IsAssigned, IsLeast, greatest_cost}
use Rattle.msp_places.specs.declared.place.Place.{Place}
use Rattle.msp_places.specs.Classes.{places_late_class, places_count_class}
use Rattle.msp_places.specs.Places.{lengths_of, no_place, place_at, AreEarliestPlaces}
use Rattle.msp_places.specs.Assigned.{place_cost, in_columns, AreLeastAssigned}
use Rattle.msp_places.proofs.PlaceFacts.{IsPlacesInstance, IsPlacesInstance-from, common_time_within, lengths_short}
use Rattle.msp_places.proofs.PlacedJobs.{placed_schedule, placed_is_within, ends_bounded}
use Rattle.msp_places.specs.Bounds.{greatest_end}

-- by the weighted tardiness, or by the weight of late jobs
abbrev pub HasDueClass : Instance → Type 0
HasDueClass i = (i.class ≡ places_late_class) ⊎ (i.class ≡ places_count_class)

pub record IsByDues (i : Instance) : Type 0 where
  pub crit : Crit
  pub is : IsPlacesInstance crit i
  pub sums : is_greatest i.class.crit ≡ false
  pub either : (i.class.crit ≡ SumWT) ⊎ (i.class.crit ≡ SumWU)

pub IsByDues-from : (i : Instance) → HasDueClass i → Inner i → IsByDues i
IsByDues-from i (inl e) inner = record { crit = SumWT; is = IsPlacesInstance-from SumWT i e inner; sums = ap (λ (c : Class). is_greatest c.crit) e; either = inl (ap (λ (c : Class). c.crit) e) }
IsByDues-from i (inr e) inner = record { crit = SumWU; is = IsPlacesInstance-from SumWU i e inner; sums = ap (λ (c : Class). is_greatest c.crit) e; either = inr (ap (λ (c : Class). c.crit) e) }

-- ---- one job
-- the greatest size of a due date, over the unit
abbrev greatest_date : ℕ
greatest_date = GREATEST_MULTIPLE * (2 * GREATEST)

abbrev IsCost : ℤ → Type 0
IsCost x = (pos 0 ≤ℤ x) × (x ≤ℤ pos greatest_cost)

abbrev IsPast : ℤ → Type 0
IsPast x = (pos 0 ≤ℤ x) × (x ≤ℤ pos (greatest_end + greatest_date))

tardy : (end : ℕ) (due : ℤ) → end ≤ greatest_end → LiesWithin greatest_date due → IsPast (int_max (pos 0) (pos end -ℤ due))
tardy end due l h = (omega (arith, ints, clamps), omega (arith, ints, clamps, l, h.0))

counted : (b : Bool) (unit : ℕ) → unit ≤ GREATEST_MULTIPLE → IsPast (if b then pos unit else pos 0)
counted true unit l = (zero-le-pos unit, pos-le (omega (arith, l)))
counted false unit l = (omega (arith, ints), omega (arith, ints))

weighed : (w : ℕ) (x : ℤ) → w ≤ GREATEST → IsPast x → IsCost (pos w *ℤ x)
weighed w x l h = (*ℤ-nonneg (zero-le-pos w) h.0, ≤ℤ_trans (*ℤ-mono w h.1) (pos-le (omega (arith, l))))

cost_bounded : (crit : Crit) → (crit ≡ SumWT) ⊎ (crit ≡ SumWU) → (unit end : ℕ) (j : Job)
    → unit ≤ GREATEST_MULTIPLE → end ≤ greatest_end → LiesWithin (2 * GREATEST) j.due → j.weight ≤ GREATEST → IsCost (job_cost crit (pos unit) j (pos end))
cost_bounded crit either unit end j few soon due light = elim either [
  | inl e ↦ subst (λ c. IsCost (job_cost c (pos unit) j (pos end))) (sym e) (weighed j.weight (tardiness (pos unit) j (pos end)) light (tardy end (pos unit *ℤ j.due) soon scaled))
  | inr e ↦ subst (λ c. IsCost (job_cost c (pos unit) j (pos end))) (sym e) (weighed j.weight (late (pos unit) j (pos end)) light (counted (int_lt (pos unit *ℤ j.due) (pos end)) unit few))
]
  where
    scaled : LiesWithin greatest_date (pos unit *ℤ j.due)
    scaled = product_within unit j.due GREATEST_MULTIPLE (2 * GREATEST) greatest_date few due (omega arith)

-- ---- the table
module _ (i : Instance) (d : IsByDues i) (inner : Inner i)
    (unit : ℕ) (common : IsLeastOfAll i.speeds unit) (few : unit ≤ GREATEST_MULTIPLE) (places : List Place) (earliest : AreEarliestPlaces i unit places) where
  abbrev n : ℕ
  n = length i.jobs

  pub small : All (HasSmallCost (pos unit)) i.jobs
  small = small_costs i (placed_schedule unit n places (λ j. j) (λ j. j)) inner
      (placed_is_within d.crit i d.is unit common few places earliest (λ j. j) (λ j. j) (record { jobs = λ a l. l; once = λ a b l k e. e; numbers = λ a l. l; own = λ a b l k e. e }))

  end_soon : (k : ℕ) → k < n → (place_at places k).end ≤ greatest_end
  end_soon k l = ends_bounded (lengths_of i unit)
      (lengths_short i d.is.speeds (common_time_within d.crit i d.is) unit common few) n places d.is.few earliest k no_place (omega (arith, l, earliest.count))

  due_small : (j : ℕ) → j < n → LiesWithin (2 * GREATEST) (job_at i j).due
  due_small j l = due_within (inner_limits Uniform) (uses_due d.crit) (job_at i j).due (d.is.jobs j no_job l).due

  costs : HasCosts n n (place_cost i unit places)
  costs j k l m = cost_bounded i.class.crit d.either unit (place_at places k).end (job_at i j) few (end_soon k m) (due_small j l) (small j no_job l).weight

  -- as the code passes the places
  module _ (listed : List Place) (same : listed ≡ places) where
    pub listed_many : length listed ≡ n
    listed_many = ap length same ∙ earliest.count

    pub has_costs : HasCosts n (length listed) (place_cost i unit listed)
    has_costs = subst₂ (λ m p. HasCosts n m (place_cost i unit p)) (sym listed_many) (sym same) costs

    module _ (column : List ℕ) (assigned : IsAssigned n (length listed) column) where
      pub least_assigned : (pieces : List Piece) → IsLeast n (length listed) (place_cost i unit listed) column → pieces ≡ in_columns (length column) listed column → AreLeastAssigned i unit pieces
      least_assigned pieces least all = record {
        places = places;
        column = column;
        earliest = earliest;
        assigned = subst (λ m. IsAssigned n m column) listed_many assigned;
        least = subst₂ (λ m p. IsLeast n m (place_cost i unit p) column) listed_many same least;
        are = all ∙ ap₂ (λ m p. in_columns m p column) assigned.all same;
      }
