-- What is reached keeps, turn after turn.
use Rattle.std.proofs.Common.{◌≡◌, ℕ, zero, suc, ◌*◌, ◌-◌, ◌<◌, ◌≤◌, false, List, ◌∷◌, length, All, sym, ap, subst, subst₂, ◌∙◌, arith}
use Rattle.std.proofs.lemmas.List.{length-append}
use Rattle.std.proofs.lemmas.List.Elements.{All-head, length_all_zip}
use Rattle.msp_class.specs.declared.sizes.TheConstants.{GREATEST, GREATEST_SPEED}
use Rattle.msp_uniform.specs.declared.unit.TheConstants.{GREATEST_PRODUCT}
use Rattle.msp_uniform.specs.declared.segments.Segment.{Segment}
use Rattle.msp_uniform.specs.declared.task.Task.{Task}
use Rattle.msp_uniform.specs.Segments.{at, IsSegment, IsPartOf, rate_at, amount, IsDifference, HasPlaces, greatest_length}
use Rattle.msp_uniform.specs.Plans.{IsTurned, IsTask, IsReached}
use Rattle.std.proofs.Math.Nat.{one-le-mul}
use Rattle.msp_uniform.proofs.LaidFacts.{few_parts}
use Rattle.msp_uniform.proofs.PlanFacts.{IsPlan-turned, first_enough}
use Rattle.msp_uniform.proofs.TurnNeeds.{difference_some, has_places}
use Rattle.msp_uniform.proofs.Affordable.{unit_small, IsAffordable-turn, end_finer}

-- what a turn asks for, and what it leaves: the code reads the speeds, the segments and the work
pub record IsTurning (t : Task) (sp : List ℕ) (ys : List Segment) (j unit h work : ℕ) (xs : List Segment) : Type 0 where
  pub some : 2 ≤ h
  pub each : (n : ℕ) × All (IsSegment (length sp) n (at sp) h) ys
  pub short : (d : ℕ) → IsDifference sp d → amount (λ _. 1) ys * d ≤ greatest_length
  pub first : work ≤ amount (rate_at (at sp) 0) ys
  pub last : amount (rate_at (at sp) (h - 1)) ys < work
  pub turned : (d : ℕ) (zs : List Segment) → IsTurned sp h j work ys d zs
      → (unit * d ≤ GREATEST_PRODUCT) × ((left : List ℕ) → IsReached t (j ∷ left) unit h xs → IsReached t left (unit * d) (h - 1) zs)

module _ (t : Task) (k : IsTask t) where
  pub speeds_small : All (λ s. s ≤ GREATEST_SPEED) t.speeds.items
  speeds_small i d l = (k.speeds i d l).1

  pub time_small : (j : ℕ) → j < length t.times.items → at t.times.items j ≤ GREATEST
  time_small j l = (k.times j 0 l).1

  module _ (left : List ℕ) (unit h : ℕ) (xs : List Segment) (r : IsReached t left unit h xs) where
    pub reached_unit : unit ≤ GREATEST_PRODUCT
    reached_unit = unit_small t.speeds.items t.multiple unit r.end h r.affordable

    pub reached_short : amount (λ _. 1) xs ≤ greatest_length
    reached_short = omega (arith, r.plan.whole, r.affordable.end_small, reached_unit)

    pub reached_places : All (HasPlaces (length t.speeds.items) false (h - 1)) xs
    reached_places = has_places t.speeds.items h (length t.times.items) xs r.plan.each (h - 1) (omega (arith, r.places))

  module _ (j : ℕ) (left : List ℕ) (unit h : ℕ) (xs : List Segment) (r : IsReached t (j ∷ left) unit h xs) where
    pub next_inside : j < length t.times.items
    next_inside = All-head (λ i. i < length t.times.items) j left r.plan.inside

  -- ---- a turn
  module _ (j : ℕ) (unit : ℕ) where
    IsReached-turned : (left : List ℕ) (g d : ℕ) (xs zs : List Segment) → IsReached t (j ∷ left) unit (suc (suc g)) xs
        → IsTurned t.speeds.items (suc (suc g)) j (unit * at t.times.items j) xs d zs → IsReached t left (unit * d) (suc (suc g) - 1) zs
    IsReached-turned left g d xs zs q w = let e : suc g ≡ suc (suc g) - 1 = omega arith in subst (λ n. IsReached t left (unit * d) n zs) e (record {
      end = q.end * d;
      plan = IsPlan-turned t.speeds.items (length t.times.items) (at t.times.items) j left unit q.end g d xs zs q.plan w;
      affordable = IsAffordable-turn t.speeds.items t.multiple unit q.end g d (difference_some t.speeds.items d w.factor) w.factor q.affordable;
      least = omega (arith, ap (λ n. n * d) q.least);
      some = one-le-mul q.some (difference_some t.speeds.items d w.factor);
      places = omega arith;
      few = omega (arith, q.few, ap length w.whole, length-append w.firsts w.seconds, few_parts _ _ w.laid.few, length_all_zip (λ x y. IsPartOf (x.length * d) x y) xs w.fine w.scaled);
      fewer = omega (arith, q.fewer);
    })

    turning : (left : List ℕ) (h : ℕ) (xs : List Segment) → IsReached t (j ∷ left) unit h xs → amount (rate_at (at t.speeds.items) (h - 1)) xs < unit * at t.times.items j
        → IsTurning t t.speeds.items xs j unit h (unit * at t.times.items j) xs
    turning left zero xs q l = absurd (omega (arith, q.places))
    turning left (suc zero) xs q l = absurd (omega (arith, l, first_enough t.speeds.items (length t.times.items) (at t.times.items) j left unit q.end 0 xs q.plan))
    turning left (suc (suc g)) xs q l = record {
      some = omega arith;
      each = (length t.times.items, q.plan.each);
      short = λ d is. omega (arith, ap (λ n. n * d) q.plan.whole, end_finer t.speeds.items t.multiple unit q.end g d (difference_some t.speeds.items d is) is q.affordable);
      first = first_enough t.speeds.items (length t.times.items) (at t.times.items) j left unit q.end (suc g) xs q.plan;
      last = l;
      turned = λ d zs w. let n = IsReached-turned left g d xs zs q w in (
        unit_small t.speeds.items t.multiple (unit * d) n.end (suc (suc g) - 1) n.affordable,
        λ js r. IsReached-turned js g d xs zs r w,
      );
    }

    -- as slices are read
    pub turning_as : (left : List ℕ) (h : ℕ) (xs : List Segment) → IsReached t (j ∷ left) unit h xs → amount (rate_at (at t.speeds.items) (h - 1)) xs < unit * at t.times.items j
        → (sp : List ℕ) (ys : List Segment) (work : ℕ) → sp ≡ t.speeds.items → ys ≡ xs → work ≡ unit * at t.times.items j → IsTurning t sp ys j unit h work xs
    turning_as left h xs r l sp ys work a b e = subst₂ (λ s y. IsTurning t s y j unit h work xs)
        (sym a) (sym b) (subst (λ w. IsTurning t t.speeds.items xs j unit h w xs) (sym e) (turning left h xs r l))

-- ---- as slices are read
pub work_is : (t : Task) (unit j work : ℕ) (ts : List ℕ) → ts ≡ t.times.items → work ≡ unit * at ts j → work ≡ unit * at t.times.items j
work_is t unit j work ts a e = e ∙ ap (λ l. unit * at l j) a

pub rest_is : (t : Task) (p rest : ℕ) (xs : List Segment) (sp : List ℕ) (ys : List Segment)
    → sp ≡ t.speeds.items → ys ≡ xs → rest ≡ amount (rate_at (at sp) p) ys → rest ≡ amount (rate_at (at t.speeds.items) p) xs
rest_is t p rest xs sp ys a b e = e ∙ ap (λ l. amount (rate_at (at l) p) ys) a ∙ ap (λ l. amount (rate_at (at t.speeds.items) p) l) b

pub read_long : (t : Task) (unit p j work rest : ℕ) (xs : List Segment) (ts sp : List ℕ) (ys : List Segment) → ts ≡ t.times.items → sp ≡ t.speeds.items → ys ≡ xs
    → work ≡ unit * at ts j → rest ≡ amount (rate_at (at sp) p) ys → rest < work → amount (rate_at (at t.speeds.items) p) xs < unit * at t.times.items j
read_long t unit p j work rest xs ts sp ys a b d e f l = omega (arith, work_is t unit j work ts a e, rest_is t p rest xs sp ys b d f, l)

pub read_short : (t : Task) (unit p j work rest : ℕ) (xs : List Segment) (ts sp : List ℕ) (ys : List Segment) → ts ≡ t.times.items → sp ≡ t.speeds.items
    → ys ≡ xs → work ≡ unit * at ts j → rest ≡ amount (rate_at (at sp) p) ys → work ≤ rest → unit * at t.times.items j ≤ amount (rate_at (at t.speeds.items) p) xs
read_short t unit p j work rest xs ts sp ys a b d e f l = omega (arith, work_is t unit j work ts a e, rest_is t p rest xs sp ys b d f, l)
