-- Jobs in the earliest places at least cost: a best schedule by the weighted tardiness and by the weight of late jobs.
use Rattle.std.proofs.Common.{◌≡◌, ℕ, ◌<◌, ◌≤◌, List, length, ℤ, pos, ◌*ℤ◌, ◌≤ℤ◌, refl, sym, ap, subst, ◌∙◌, arith}
use Rattle.msp_class.specs.declared.sizes.TheConstants.{GREATEST_MULTIPLE}
use Rattle.msp_class.specs.Env.{kind_of}
use Rattle.msp_class.specs.Sums.{int_total_below}
use Rattle.msp_class.proofs.IntegerRing.{≤ℤ_trans, ≤ℤ_of_same}
use Rattle.msp_class.proofs.Sums.{int_total_below-same}
use Rattle.msp_instance.specs.declared.Instance.{Instance}
use Rattle.msp_instance.specs.Instance.{job_at}
use Rattle.msp_instance.specs.Conditions.{Inner, inner_limits}
use Rattle.msp_instance.specs.Multiples.{IsLeastOfAll}
use Rattle.msp_pieces.specs.declared.Piece.{Piece}
use Rattle.msp_pieces.specs.declared.Schedule.{Schedule}
use Rattle.msp_pieces.specs.Feasible.{Feasible}
use Rattle.msp_pieces.specs.Cost.{end_of, job_cost, cost_of}
use Rattle.msp_pieces.proofs.costs.Charged.{sum_when, best_by_moments}
use Rattle.msp_pieces.proofs.costs.Charges.{charge_of, cost_of-sum}
use Rattle.msp_route.specs.Bounds.{IsBestAnswer}
use Rattle.msp_assign.specs.Prices.{column_of}
use Rattle.msp_assign.proofs.Choices.{column-inside, column-once, choice_no_less}
use Rattle.msp_places.specs.declared.place.Place.{Place}
use Rattle.msp_places.specs.Places.{place_at}
use Rattle.msp_places.specs.Placed.{AreApart}
use Rattle.msp_places.specs.Assigned.{place_cost, AreLeastAssigned}
use Rattle.msp_places.proofs.OwnPlaces.{law_of_earliest_places}
use Rattle.msp_places.proofs.PlaceFacts.{takes_common_time}
use Rattle.msp_places.proofs.PlacedJobs.{placed_schedule, placed_is_feasible, placed_is_answer, placed_end}
use Rattle.msp_places.proofs.AssignedFacts.{HasDueClass, IsByDues, IsByDues-from}

module _ (i : Instance) (d : IsByDues i) (inner : Inner i) (unit : ℕ) (common : IsLeastOfAll i.speeds unit) (few : unit ≤ GREATEST_MULTIPLE)
    (pieces : List Piece) (l : AreLeastAssigned i unit pieces) where
  abbrev n : ℕ
  n = length i.jobs

  abbrev places : List Place
  places = l.places

  abbrev col : ℕ → ℕ
  col = column_of l.column

  abbrev cost : ℕ → ℕ → ℤ
  cost = place_cost i unit places

  abbrev value : ℤ
  value = int_total_below n (λ j. cost j (col j))

  -- ---- the schedule
  own : AreApart n (λ j. j) col
  own = record {
    jobs = λ a k. k;
    once = λ a b k m e. e;
    numbers = column-inside n n l.column l.assigned;
    own = column-once n n l.column l.assigned;
  }

  abbrev s : Schedule
  s = placed_schedule unit n places (λ j. j) col

  cost_is : cost_of i s ≡ value
  cost_is = cost_of-sum i s d.sums ∙ int_total_below-same n (charge_of i s) (λ j. cost j (col j))
      (λ j k. ap (job_cost i.class.crit (pos unit) (job_at i j)) (placed_end d.crit i d.is unit common few places l.earliest (λ j. j) col own j k))

  -- ---- no schedule costs less, since its jobs have places of their own and end no earlier
  each : (t : Schedule) → Feasible i t → (moment : ℕ → ℤ) × (cost_of i s ≤ℤ sum_when i unit moment) × ((j : ℕ) → j < n → (t.unit *ℤ moment j) ≤ℤ (pos unit *ℤ end_of t j))
  each t f =
      let (number, h) = law_of_earliest_places (inner_limits (kind_of i.class.env)) i t unit places d.is.kind d.is.cut inner.conditions (takes_common_time d.crit i d.is) f common l.earliest in (
        (λ j. pos (place_at places (number j)).end),
        ≤ℤ_trans (≤ℤ_of_same cost_is) (choice_no_less n n number h.inside h.own cost (λ j. cost j (number j)) l.column l.least (λ j k. refl)),
        h.ends,
      )

  assigned_answer : IsBestAnswer i (record { unit = pos unit; pieces = pieces })
  assigned_answer = subst (λ ps. IsBestAnswer i (record { unit = pos unit; pieces = ps })) (sym l.are) (record {
    best = best_by_moments i s unit d.sums refl (omega (arith, common.some)) (placed_is_feasible d.crit i d.is unit common few places l.earliest (λ j. j) col own) each;
    answer = placed_is_answer d.crit i d.is unit common few places l.earliest (λ j. j) col own;
  })

pub IsBestAnswer-assigned : (i : Instance) → HasDueClass i → Inner i → (unit : ℕ) (u : ℤ) (pieces : List Piece)
    → IsLeastOfAll i.speeds unit → unit ≤ GREATEST_MULTIPLE → u ≡ pos unit → AreLeastAssigned i unit pieces → IsBestAnswer i (record { unit = u; pieces = pieces })
IsBestAnswer-assigned i class inner unit u pieces common few e l =
    subst (λ x. IsBestAnswer i (record { unit = x; pieces = pieces })) (sym e) (assigned_answer i (IsByDues-from i class inner) inner unit common few pieces l)
