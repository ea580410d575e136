-- The tape, from its start to its end: what each step asks for, and what it keeps.
use Rattle.std.proofs.Common.{◌≡◌, ℕ, zero, suc, ◌+◌, ◌*◌, ◌-◌, ◌<◌, ◌≤◌, inl, inr, Bool, true, false, List, [], ◌∷◌, ◌++◌, length, get_or, drop, drop-cons, All}
use Rattle.std.proofs.Common.{refl, sym, ap, subst, ◌∙◌, add-one, arith}
use Rattle.std.specs.Int.{◌∣◌}
use Rattle.std.proofs.Math.Nat.{le_trans, one-le-mul, mul-le-mul_left, dvd-mul_left, dvd-mul_right_of_dvd}
use Rattle.std.proofs.lemmas.List.{length-append, drop_all}
use Rattle.std.proofs.lemmas.List.Elements.{All-nil, All-append, All-head, All-weaker, length_all_zip}
use Rattle.msp_class.proofs.Sums.{sum_by-append, sum_by-cons}
use Rattle.msp_uniform.specs.declared.unit.TheConstants.{GREATEST_PRODUCT}
use Rattle.msp_uniform.specs.declared.segments.Segment.{Segment}
use Rattle.msp_uniform.specs.declared.task.Task.{Task}
use Rattle.msp_uniform.specs.Runs.{IsSliceOf}
use Rattle.msp_uniform.specs.Segments.{at, IsSegment, IsPartOf, IsAbsent, rate_at, amount, AreScaled, AreLaid, CanGain, HasPlaces, greatest_length}
use Rattle.msp_uniform.specs.Plans.{IsTask, IsReached, IsNextPlan, IsTaped, IsFilled, AreShort, CanBeLaid, IsLaidHere, greatest_work}
use Rattle.msp_uniform.proofs.Affordable.{finest_small, end_small}
use Rattle.msp_uniform.proofs.ScaledFacts.{length-short}
use Rattle.msp_uniform.proofs.LaidFacts.{few_parts}
use Rattle.msp_uniform.proofs.LaidAt.{IsLaidAt, laid_at}
use Rattle.msp_uniform.proofs.TapeFacts.{IsTape-next}
use Rattle.msp_uniform.proofs.TapeWhole.{last_can_gain, IsWholeTape-next}
use Rattle.msp_uniform.proofs.TapeStart.{longest_first, IsTape-start, scaled_plan, IsWholeTape-start, short_scaled}
use Rattle.msp_uniform.proofs.TurnNeeds.{has_places}

-- segments in which a place has nothing to do are none
pub none_left : (rate : Segment → ℕ) (xs : List Segment) → All (λ x. 1 ≤ x.length * rate x) xs → amount rate xs ≡ 0 → xs ≡ []
none_left rate [] h e = refl
none_left rate (x ∷ xs) h e = absurd (omega (arith, e, sum_by-cons (λ y. y.length * rate y) x xs, All-head (λ y. 1 ≤ y.length * rate y) x xs h))

slice_of : (m n h : ℕ) (speed : ℕ → ℕ) (x : Segment) → IsSegment m n speed h x → IsSliceOf m n x.length x.body.value.jobs
slice_of m n h speed x s = record { lasts = s.lasts; all = s.all; inside = s.jobs; once = s.once }

module _ (t : Task) (k : IsTask t) where
  abbrev speeds : List ℕ
  speeds = t.speeds.items

  abbrev m : ℕ
  m = length t.speeds.items

  abbrev n : ℕ
  n = length t.times.items

  pub divides : All (λ s. (1 ≤ s) × (s ∣ t.multiple)) t.speeds.items
  divides i d l = ((k.speeds i d l).0, k.common i d l)

  -- ---- the start
  module _ (left : List ℕ) (unit h : ℕ) (xs : List Segment) (r : IsReached t left unit h xs) where
    pub start_unit : unit * t.multiple ≤ GREATEST_PRODUCT
    start_unit = finest_small speeds t.multiple unit r.end h r.affordable

    pub start_short : All (λ x. x.length * t.multiple ≤ greatest_length) xs
    start_short i d l =
        let p : (get_or xs i d).length ≤ r.end = omega (arith, length-short xs i d l, r.plan.whole) in
        omega (arith, mul-le-mul_left t.multiple p, end_small speeds t.multiple unit r.end h r.affordable, start_unit)

  pub IsTaped-start : (left : List ℕ) (unit h : ℕ) (xs : List Segment) → IsReached t left unit h xs → AreShort t left unit h xs
      → (ys : List Segment) → AreScaled t.multiple xs ys → IsTaped t left (unit * t.multiple) (h - 1) [] ys
  IsTaped-start left unit zero xs q s ys scaled = absurd (omega (arith, q.places))
  IsTaped-start left unit (suc g) xs q s ys scaled =
      let less : suc g - 1 ≡ g = omega arith in
      let shorter = subst (λ a. All (λ j. unit * at t.times.items j ≤ amount (rate_at (at speeds) a) xs) left) less s in
      subst (λ a. IsTaped t left (unit * t.multiple) a [] ys) (sym less) (record {
        end = q.end * t.multiple;
        tape = IsTape-start speeds n (at t.times.items) left (unit * t.multiple) (q.end * t.multiple)
            g ys (scaled_plan speeds n (at t.times.items) left unit q.end g xs t.multiple q.affordable.some divides ys scaled q.plan)
            (short_scaled speeds n (at t.times.items) left unit q.end g xs t.multiple q.affordable.some divides ys scaled q.plan shorter);
        whole = IsWholeTape-start speeds n (at t.times.items) left unit q.end g xs t.multiple q.affordable.some divides ys scaled q.plan;
        fine = dvd-mul_left t.multiple unit;
        within = record {
          some = one-le-mul q.some q.affordable.some;
          small = finest_small speeds t.multiple unit q.end (suc g) q.affordable;
          short = end_small speeds t.multiple unit q.end (suc g) q.affordable;
          least = omega (arith, ap (λ a. a * t.multiple) q.least);
        };
        few = omega (arith, length_all_zip (λ x y. IsPartOf (x.length * t.multiple) x y) xs ys scaled, q.few, q.fewer, k.few_jobs, k.few_machines);
      })

  -- ---- the last place
  module _ (left : List ℕ) (unit h : ℕ) (early late : List Segment) (r : IsTaped t left unit h early late) where
    end_short : r.end ≤ GREATEST_PRODUCT * greatest_work
    end_short = omega (arith, r.within.short, r.within.small)

    pub late_short : amount (λ _. 1) late ≤ greatest_length
    late_short = omega (arith, r.tape.whole, end_short)

    each_late : All (IsSegment m n (at speeds) (suc h)) late
    each_late = subst (λ a. All (IsSegment m n (at speeds) a) late) (add-one h) r.tape.each_late

    pub late_places : (p : ℕ) → p ≤ h → All (HasPlaces m false p) late
    late_places p l = has_places speeds (suc h) n late each_late p (omega (arith, l))

  -- ---- a step
  module _ (j : ℕ) (left : List ℕ) (unit h : ℕ) (early late : List Segment) (r : IsTaped t (j ∷ left) unit h early late) where
    abbrev work : ℕ
    work = unit * at t.times.items j

    pub tape_inside : j < n
    tape_inside = All-head (λ i. i < n) j left r.tape.inside

    pub each_of : All (IsSegment m n (at speeds) (suc h)) late
    each_of = each_late (j ∷ left) unit h early late r

    pub fine : t.multiple ∣ work
    fine = dvd-mul_right_of_dvd t.multiple r.fine (at t.times.items j)

    pub be_laid : (place gain : ℕ) (xs : List Segment) → All (IsSegment m n (at speeds) (suc place)) xs
        → amount (λ _. 1) xs ≤ r.end → CanGain (rate_at (at speeds) place) gain xs → CanBeLaid speeds place gain xs
    be_laid place gain xs each l g = record {
      machines = λ i d b. (each i d b).all;
      places = has_places speeds (suc place) n xs each place (omega arith);
      short = λ i d b. le_trans (length-short xs i d b) (le_trans l (le_trans (end_short (j ∷ left) unit h early late r) (omega arith)));
      gains = g;
    }

    pub laid_late : (gain : ℕ) (fs ss : List Segment) → AreLaid false (at speeds) j h gain 0 late fs ss → IsLaidAt m n (at speeds) h j gain late fs ss
    laid_late gain fs ss = laid_at m n (at speeds) h j gain late fs ss tape_inside each_of (All-head (λ i. All (IsAbsent m i) late) j left r.tape.absent_late)

    -- the last place can do it
    pub can_here : work ≤ amount (rate_at (at speeds) h) late → CanBeLaid speeds h work late
    can_here l = be_laid h work late each_of (omega (arith, r.tape.whole)) (last_can_gain speeds n t.multiple divides h late each_of r.whole.before work r.whole.divided fine r.whole.here l)

    pub IsTaped-here : (early' late' : List Segment) → IsLaidHere (at speeds) j h work early late early' late' → IsTaped t left unit h early' late'
    IsTaped-here early' late' w = subst (λ e. IsTaped t left unit h e late') (sym w.early_is) (record {
      end = r.end;
      tape = IsTape-next speeds n (at t.times.items) j left unit r.end h early late w.firsts late' r.tape (laid_late work w.firsts late' w.laid);
      whole = IsWholeTape-next speeds n t.multiple divides h j work early late w.firsts late' each_of (laid_late work w.firsts late' w.laid) r.whole fine;
      fine = r.fine;
      within = r.within;
      few = omega (arith, length-append early w.firsts, r.few, few_parts _ _ w.laid.few);
    })

  -- ---- the end
  pub IsFilled-end : (unit h : ℕ) (early late : List Segment) → IsTaped t [] unit h early late → IsFilled t unit (early ++ late)
  IsFilled-end unit h early late r = record {
    end = r.end;
    slices = All-append (λ x. IsSliceOf m n x.length x.body.value.jobs) early late
        (All-weaker _ _ (slice_of m n h (at speeds)) early r.tape.each_early) (All-weaker _ _ (slice_of m n (h + 1) (at speeds)) late r.tape.each_late);
    whole = joined (λ _. 1) ∙ r.tape.whole;
    done = λ j l. elim (r.tape.done j l) [
      | inl c ↦ absurd (omega (arith, c))
      | inr e ↦ joined _ ∙ e
    ];
    within = r.within;
    few = omega (arith, length-append early late, r.few);
  }
    where
      joined : (rate : Segment → ℕ) → amount rate (early ++ late) ≡ amount rate early + amount rate late
      joined rate = sum_by-append (λ y. y.length * rate y) early late

-- ---- loops over jobs
pub taped_next : (t : Task) (jobs : List ℕ) (k d unit h : ℕ) (early late : List Segment)
    → k < length jobs → IsTaped t (drop k jobs) unit h early late → (left : List ℕ) × IsTaped t (get_or jobs k d ∷ left) unit h early late
taped_next t jobs k d unit h early late l r = (drop (suc k) jobs, subst (λ js. IsTaped t js unit h early late) (drop-cons jobs k d l) r)

pub reached_next : (t : Task) (jobs : List ℕ) (k d unit h : ℕ) (xs : List Segment)
    → k < length jobs → IsReached t (drop k jobs) unit h xs → (left : List ℕ) × IsReached t (get_or jobs k d ∷ left) unit h xs
reached_next t jobs k d unit h xs l r = (drop (suc k) jobs, subst (λ js. IsReached t js unit h xs) (drop-cons jobs k d l) r)

pub IsTaped-loop : (t : Task) (jobs : List ℕ) (k d unit h : ℕ) (early late : List Segment) (h' : ℕ) (early' late' : List Segment)
    → k < length jobs → ((left : List ℕ) → IsTaped t (get_or jobs k d ∷ left) unit h early late → IsTaped t left unit h' early' late')
    → IsTaped t (drop k jobs) unit h early late → IsTaped t (drop (k + 1) jobs) unit h' early' late'
IsTaped-loop t jobs k d unit h early late h' early' late' l f r =
    subst (λ a. IsTaped t (drop a jobs) unit h' early' late') (sym (add-one k)) (f (drop (suc k) jobs) (subst (λ js. IsTaped t js unit h early late) (drop-cons jobs k d l) r))

pub IsTaped-done : (t : Task) (k : IsTask t) (jobs : List ℕ) (i unit h : ℕ) (early late : List Segment) → length jobs ≤ i → IsTaped t (drop i jobs) unit h early late → IsFilled t unit (early ++ late)
IsTaped-done t k jobs i unit h early late l r = IsFilled-end t k unit h early late (subst (λ js. IsTaped t js unit h early late) (drop_all i jobs l) r)

pub IsReached-loop : (t : Task) (jobs : List ℕ) (k d : ℕ) (turned : Bool) (unit h : ℕ) (xs : List Segment) (unit' h' : ℕ) (xs' : List Segment) → k < length jobs
    → turned ≡ true → IsNextPlan t (get_or jobs k d) turned unit h xs unit' h' xs' → IsReached t (drop k jobs) unit h xs → IsReached t (drop (k + 1) jobs) unit' h' xs'
IsReached-loop t jobs k d turned unit h xs unit' h' xs' l e n r = subst (λ a. IsReached t (drop a jobs) unit' h' xs') (sym (add-one k))
    (subst (λ v. IsNextPlan t (get_or jobs k d) v unit h xs unit' h' xs') e n (drop (suc k) jobs) (subst (λ js. IsReached t js unit h xs) (drop-cons jobs k d l) r))

module _ (t : Task) (jobs : List ℕ) (k d : ℕ) (turned : Bool) (unit h : ℕ) (xs : List Segment) (unit' h' : ℕ) (xs' : List Segment) (l : k < length jobs)
    (e : turned ≡ false) (n : IsNextPlan t (get_or jobs k d) turned unit h xs unit' h' xs') (r : IsReached t (drop k jobs) unit h xs) where
  stays : (unit' ≡ unit) × (h' ≡ h) × (xs' ≡ xs) × (unit * at t.times.items (get_or jobs k d) ≤ amount (rate_at (at t.speeds.items) (h - 1)) xs)
  stays = subst (λ v. IsNextPlan t (get_or jobs k d) v unit h xs unit' h' xs') e n

  same : (P : ℕ → ℕ → List Segment → Type 0) → P unit h xs → P unit' h' xs'
  same P p = subst (λ u. P u h' xs') (sym stays.0) (subst (λ a. P unit a xs') (sym stays.1) (subst (λ ys. P unit h ys) (sym stays.2) p))

  pub IsReached-stop : IsReached t (drop k jobs) unit' h' xs'
  IsReached-stop = same (IsReached t (drop k jobs)) r

  pub AreShort-stop : AreShort t (drop k jobs) unit' h' xs'
  AreShort-stop = same (AreShort t (drop k jobs)) (by h r stays.3)
    where
      by : (h : ℕ) → IsReached t (drop k jobs) unit h xs → unit * at t.times.items (get_or jobs k d) ≤ amount (rate_at (at t.speeds.items) (h - 1)) xs → AreShort t (drop k jobs) unit h xs
      by zero q s = absurd (omega (arith, q.places))
      by (suc g) q s = longest_first t.speeds.items (length t.times.items) (at t.times.items) (drop k jobs) unit q.end g xs (get_or jobs k d) (drop (suc k) jobs) _ (drop-cons jobs k d l) q.plan s

-- no job is left
pub IsReached-all : (t : Task) (jobs : List ℕ) (k unit h : ℕ) (xs : List Segment) → length jobs ≤ k → IsReached t (drop k jobs) unit h xs → IsReached t (drop (length jobs) jobs) unit h xs
IsReached-all t jobs k unit h xs l = subst (λ js. IsReached t js unit h xs) (drop_all k jobs l ∙ sym (drop_all (length jobs) jobs (omega arith)))

pub AreShort-all : (t : Task) (jobs : List ℕ) (unit h : ℕ) (xs : List Segment) → AreShort t (drop (length jobs) jobs) unit h xs
AreShort-all t jobs unit h xs = subst (λ js. AreShort t js unit h xs) (sym (drop_all (length jobs) jobs (omega arith)))
    (All-nil (λ j. unit * at t.times.items j ≤ amount (rate_at (at t.speeds.items) (h - 1)) xs))
