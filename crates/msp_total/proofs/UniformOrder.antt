-- The jobs that took their turns take multipliers in the order of their times, ties by number.
use Rattle.std.proofs.Common.{◌≡◌, ◌≢◌, ℕ, ◌+◌, ◌*◌, ◌<◌, ◌≤◌, cond, eqb, ◌⊎◌, inl, inr, List, [], ◌∷◌, length, get_or, map, pos, ◌≤ℤ◌, All, AllPairs, mul-lt-mul_of_pos_right, le_of_mul-le-mul_right, lt_of_mul-lt-mul_right, lt_trans}
use Rattle.std.proofs.Common.{refl, sym, ap, subst, subst₂, ◌∙◌, arith}
use Rattle.std.proofs.lemmas.List.{length-map, get_or-map}
use Rattle.std.proofs.lemmas.List.Elements.{All-nil, All-cons}
use Rattle.std.proofs.lemmas.List.Kept.{AllPairs-cons}
use Rattle.std.proofs.Math.Nat.{mul-le-mul_right, one-le-mul}
use Rattle.msp_class.specs.declared.sizes.TheConstants.{GREATEST_MULTIPLE}
use Rattle.msp_class.proofs.IntegerRing.{pos-le, ≤ℤ_trans}
use Rattle.msp_class.proofs.Sums.{total_below-same, OnceBelow-distinct}
use Rattle.msp_instance.specs.declared.Instance.{Instance}
use Rattle.msp_instance.specs.Instance.{need_at}
use Rattle.msp_pieces.specs.declared.Piece.{Piece}
use Rattle.msp_pieces.specs.Piece.{no_piece}
use Rattle.msp_route.specs.declared.keyed.Keyed.{Keyed}
use Rattle.msp_total.specs.declared.lay.Place.{Place}
use Rattle.msp_instance.specs.Multiples.{IsLeastOfAll}
use Rattle.msp_total.specs.Multipliers.{ComesFirst, machine_of, speed_of, seats, TakesLeast, IsByMultipliers}
use Rattle.msp_total.specs.Places.{no_place, place_at, time_on, laid}
use Rattle.msp_total.specs.Turns.{no_timed, timed_at, number_at, machine_at, IsByTime, IsTurn, AreTurns}
use Rattle.msp_total.proofs.LaidJobs.{time_on-cons, time_on-own, piece_before, laid-length, laid-jobs}
use Rattle.msp_total.proofs.LaidSchedule.{schedule_of}
use Rattle.msp_total.proofs.UniformFacts.{IsUniformInstance, speeds_some}
use Rattle.msp_total.proofs.UniformBest.{steps_by, steps-length, step-speed, once, same-jobs}

-- ---- the pieces of laid jobs
laid-machines : (ps : List Place) → map (λ q. q.machine) (laid ps) ≡ map (λ p. p.machine) ps
laid-machines [] = refl
laid-machines (p ∷ ps) = ap (λ l. p.machine ∷ l) (laid-machines ps)

laid-machine : (ps : List Place) (r : ℕ) → r < length ps → machine_of (laid ps) r ≡ machine_at ps r
laid-machine ps r l =
    sym (get_or-map (λ (q : Piece). q.machine) (laid ps) r no_piece 0 (omega (arith, l, laid-length ps)))
    ∙ ap (λ xs. get_or xs r 0) (laid-machines ps)
    ∙ get_or-map (λ (p : Place). p.machine) ps r no_place 0 l

laid-ends : (m : ℕ) (ps : List Place) → All (λ q. q.machine ≡ m → q.to ≤ℤ pos (time_on m ps)) (laid ps)
laid-ends m [] = All-nil (λ (q : Piece). q.machine ≡ m → q.to ≤ℤ pos (time_on m []))
laid-ends m (p ∷ ps) =
    All-cons (λ q. q.machine ≡ m → q.to ≤ℤ pos (time_on m (p ∷ ps))) (piece_before p ps) (laid ps)
    (λ e. pos-le (omega (arith, ap (λ y. time_on y (p ∷ ps)) e)))
    (λ k d l e. ≤ℤ_trans (laid-ends m ps k d l e) (pos-le (omega (arith, time_on-cons m p ps))))

laid-backwards : (ps : List Place) → AllPairs (λ p q. p.machine ≡ q.machine → q.to ≤ℤ p.from) (laid ps)
laid-backwards [] = λ i j d a b. absurd (omega arith)
laid-backwards (p ∷ ps) =
    AllPairs-cons (λ (a b : Piece). a.machine ≡ b.machine → b.to ≤ℤ a.from) (piece_before p ps) (laid ps)
    (λ k d l e. ≤ℤ_trans (laid-ends p.machine ps k d l (sym e)) (pos-le (omega (arith, time_on-own p ps))))
    (laid-backwards ps)

-- ---- multipliers, over the unit and as fractions
crossed : (x y s t v w u : ℕ) → x * t ≤ y * s → s * v ≡ u → t * w ≡ u → 1 ≤ u → x * v ≤ y * w
crossed x y s t v w u h e f some =
    le_of_mul-le-mul_right {k = u} (omega (arith, mul-le-mul_right (v * w) h, ap (λ z. x * v * z) f, ap (λ z. y * w * z) e)) some

crossed_less : (x y s t v w u : ℕ) → x * t < y * s → s * v ≡ u → t * w ≡ u → 1 ≤ v → 1 ≤ w → x * v < y * w
crossed_less x y s t v w u h e f sv sw =
    lt_of_mul-lt-mul_right u (omega (arith, mul-lt-mul_of_pos_right h (one-le-mul sv sw), ap (λ z. x * v * z) f, ap (λ z. y * w * z) e))

module _ (i : Instance) (h : IsUniformInstance i) (unit : ℕ) (common : IsLeastOfAll i.speeds unit) (few : unit ≤ GREATEST_MULTIPLE)
    (jobs : List Keyed) (sorted : IsByTime i jobs) (places : List Place) (turns : AreTurns (steps_by i unit) jobs places) where
  abbrev time_of_job : ℕ → ℕ
  time_of_job j = (need_at i j 0).time

  abbrev GoesFirst : ℕ → ℕ → Type 0
  GoesFirst a b = (time_of_job b < time_of_job a) ⊎ ((time_of_job b ≡ time_of_job a) × (a < b))

  -- ---- the order of the jobs
  by_number : (a b : ℕ) → a < b → b < length jobs → GoesFirst (timed_at jobs a).job (timed_at jobs b).job
  by_number a b l k = strict _ _ _ _ (sorted.falling a b no_timed l k) (sorted.times a no_timed (omega (arith, l, k))) (sorted.times b no_timed k) differ
    where
      at : (r : ℕ) → r < length jobs → get_or (map (λ (t : Keyed). t.job) jobs) r 0 ≡ (timed_at jobs r).job
      at r m = get_or-map (λ (t : Keyed). t.job) jobs r no_timed 0 m

      differ : (timed_at jobs a).job ≢ (timed_at jobs b).job
      differ e = OnceBelow-distinct (once i h unit common few jobs sorted places turns)
          a b 0 l (omega (arith, k, length-map jobs (λ (t : Keyed). t.job))) (at a (omega (arith, l, k)) ∙ e ∙ sym (at b k))

      strict : (p q x y : ℕ) → (q < p) ⊎ ((q ≡ p) × (x ≤ y)) → p ≡ time_of_job x → q ≡ time_of_job y → x ≢ y → GoesFirst x y
      strict p q x y (inl less) e f n = inl (omega (arith, less, e, f))
      strict p q x y (inr same) e f n = inr (omega (arith, same.0, e, f), omega (arith, same.1, n))

  in_order : AllPairs (ComesFirst i) (laid places)
  in_order a b d l k = subst₂ GoesFirst (sym (job_is a (omega (arith, l, k)))) (sym (job_is b k)) (by_number a b l (omega (arith, k, laid-length places, turns.count)))
    where
      job_is : (r : ℕ) → r < length (laid places) → (get_or (laid places) r d).job ≡ (timed_at jobs r).job
      job_is r m =
          sym (get_or-map (λ (q : Piece). q.job) (laid places) r d 0 m)
          ∙ ap (λ xs. get_or xs r 0) (laid-jobs places ∙ same-jobs i h unit common few jobs sorted places turns)
          ∙ get_or-map (λ (t : Keyed). t.job) jobs r no_timed 0 (omega (arith, m, laid-length places, turns.count))

  -- ---- the machine of each
  abbrev machine : ℕ → ℕ
  machine r = machine_at places r

  speed_some : (m : ℕ) → m < i.machines → 1 ≤ speed_of i m
  speed_some m l = speeds_some i h m 0 (omega (arith, l, h.speeds.0))

  takes_least : (r : ℕ) → r < length places → TakesLeast i machine r
  takes_least r l =
      let steps : length (steps_by i unit) ≡ i.machines = steps-length i h unit common in
      let turn : IsTurn (steps_by i unit) machine r (timed_at jobs r) (place_at places r) = turns.each r l in
      let inside : machine r < i.machines = omega (arith, turn.inside, steps) in
      record {
        least = λ m k. crossed _ _ (number_at (steps_by i unit) m) (number_at (steps_by i unit) (machine r))
            _ _ unit (turn.least m (omega (arith, k, steps))) (step-speed i h unit common m k) (step-speed i h unit common (machine r) inside) common.some;
        first = λ m k. let on : m < i.machines = lt_trans k inside in crossed_less _ _ (number_at (steps_by i unit) m) (number_at (steps_by i unit) (machine r)) _ _
            unit (turn.first m k) (step-speed i h unit common m on) (step-speed i h unit common (machine r) inside) (speed_some m on) (speed_some (machine r) inside);
      }

  as_laid : (r : ℕ) → r < length places → TakesLeast i (machine_of (laid places)) r
  as_laid r l = record {
    least = λ m k. subst (λ y. (seats (machine_of (laid places)) r y + 1) * speed_of i m ≤ (seats (machine_of (laid places)) r m + 1) * speed_of i y) (sym (laid-machine places r l))
        (subst₂ (λ a b. (a + 1) * speed_of i m ≤ (b + 1) * speed_of i (machine r)) (sym (same (machine r))) (sym (same m)) (given.least m k));
    first = λ m k. subst (λ y. (seats (machine_of (laid places)) r y + 1) * speed_of i m < (seats (machine_of (laid places)) r m + 1) * speed_of i y) (sym (laid-machine places r l))
        (subst₂ (λ a b. (a + 1) * speed_of i m < (b + 1) * speed_of i (machine r)) (sym (same (machine r))) (sym (same m)) (given.first m (subst (λ y. m < y) (laid-machine places r l) k)));
  }
    where
      same : (m : ℕ) → seats (machine_of (laid places)) r m ≡ seats machine r m
      same m = total_below-same r _ _ (λ a k. ap (λ x. cond (eqb x m) 1 0) (laid-machine places a (omega (arith, k, l))))

      given : TakesLeast i machine r
      given = takes_least r l

  pub is_by_multipliers : IsByMultipliers i (schedule_of unit places)
  is_by_multipliers = record { order = in_order; backwards = laid-backwards places; least = λ r l. as_laid r (omega (arith, l, laid-length places)) }
