-- The jobs that took their turns, as a schedule on uniform machines: it is feasible and best, and lies within the bounds.
use Rattle.std.proofs.Common.{mul_assoc, mul_comm, ◌≡◌, ℕ, ◌+◌, ◌*◌, ◌-◌, ◌/◌, ◌<◌, ◌≤◌, inl, inr, List, length, map, ℤ, pos, nat_abs, ◌*ℤ◌, ◌≤ℤ◌, All, le_trans}
use Rattle.std.proofs.Common.{slice_index_or, refl, sym, ap, ap₂, subst, ◌∙◌, arith}
use Rattle.std.proofs.lemmas.Int.{ints}
use Rattle.std.proofs.lemmas.Nat.{mul-le}
use Rattle.std.proofs.Math.Nat.{div-mul_cancel, mul-le-mul_left}
use Rattle.std.proofs.lemmas.List.{length-map, get_or-map, get_or_default}
use Rattle.std.proofs.lemmas.List.Elements.{All-contains}
use Rattle.msp_class.specs.declared.sizes.TheConstants.{GREATEST, GREATEST_MULTIPLE}
use Rattle.msp_class.specs.Env.{kind_of}
use Rattle.msp_class.proofs.IntegerRing.{natural, pos-le, pos-same, ≤ℤ_trans, *ℤ-mono_nonneg}
use Rattle.msp_class.specs.Sums.{total_below}
use Rattle.msp_class.proofs.Sums.{total_below-same, total_below-scale, OnceBelow, OnceBelow-from_permutation}
use Rattle.msp_instance.specs.declared.Instance.{Instance}
use Rattle.msp_instance.specs.Instance.{no_job, need_at}
use Rattle.msp_pieces.specs.declared.Schedule.{Schedule}
use Rattle.msp_pieces.specs.Piece.{length_of, start, finish, IsTimed}
use Rattle.msp_pieces.specs.Feasible.{Feasible, HasOperation, MayRun, IsWholeWork}
use Rattle.msp_pieces.specs.Cost.{cost_of, Best}
use Rattle.msp_pieces.specs.Intervals.{IsApart}
use Rattle.msp_pieces.proofs.lists.Positions.{position_of, position_of-some, position_of-few, position_of-once, sum_of_ends}
use Rattle.msp_pieces.proofs.feasible.SolePieces.{only_piece, IsOnly, is_only, only_timed, only_placed, only_apart, sum_of_only_ends}
use Rattle.msp_route.specs.Bounds.{answer_unit}
use Rattle.msp_pieces.proofs.feasible.OneEach.{IsUncut-uniform}
use Rattle.msp_route.specs.declared.keyed.Keyed.{Keyed}
use Rattle.msp_total.specs.declared.lay.Place.{Place}
use Rattle.msp_instance.specs.Multiples.{IsLeastOfAll}
use Rattle.msp_total.specs.Places.{no_place}
use Rattle.msp_total.specs.Turns.{no_timed, timed_at, IsByTime, multiplier, number_at, machine_at, AreTurns}
use Rattle.msp_total.specs.Multipliers.{seats}
use Rattle.msp_total.proofs.Greedy.{taken, least_in_all}
use Rattle.msp_total.proofs.LaidJobs.{piece_before, piece_long, length_at}
use Rattle.msp_total.proofs.LaidSchedule.{IsPlain, AreFitting, schedule_of, laid_is_feasible, laid_costs}
use Rattle.msp_total.proofs.UniformFacts.{IsUniformInstance, times}
use Rattle.msp_class.proofs.Cases.{same_or_not}
use Rattle.msp_slots.proofs.LeastCosts.{best_at}
use Rattle.msp_total.proofs.ListedJobs.{listed_count, listed_inside, listed_once, listed_total, listed_places}

pub IsPlain-from_uniform : (i : Instance) → IsUniformInstance i → IsPlain i
IsPlain-from_uniform i h = record {
  uncut = IsUncut-uniform i h.kind h.cut h.few;
  crit = h.crit;
  arcs = h.arcs;
  release = λ j l. (h.jobs j no_job l).release;
}

-- ---- the steps of the machines
abbrev pub steps_by : Instance → ℕ → List ℕ
steps_by i unit = map (λ s. unit / s) i.speeds

module _ (i : Instance) (h : IsUniformInstance i) (unit : ℕ) (common : IsLeastOfAll i.speeds unit) where
  abbrev step : ℕ → ℕ
  step m = number_at (steps_by i unit) m

  abbrev speed : ℕ → ℕ
  speed m = slice_index_or i.speeds m 0

  pub steps-length : length (steps_by i unit) ≡ i.machines
  steps-length = length-map i.speeds (λ s. unit / s) ∙ h.speeds.0

  pub step-speed : (m : ℕ) → m < i.machines → step m * speed m ≡ unit
  step-speed m l =
      let inside : m < length i.speeds = omega (arith, l, h.speeds.0) in
      ap (λ x. x * speed m) (get_or-map (λ s. unit / s) i.speeds m 0 0 inside) ∙ div-mul_cancel (speed m) (common.common m 0 inside)

  step-some : (m : ℕ) → m < i.machines → 1 ≤ step m
  step-some m l = by (step m) (speed m) unit (step-speed m l) common.some
    where
      by : (a b u : ℕ) → a * b ≡ u → 1 ≤ u → 1 ≤ a
      by a b u e k = grind arith

  pub step-most : (m : ℕ) → m < i.machines → step m ≤ unit
  step-most m l = by (step m) (speed m) unit (step-speed m l) (h.speeds.1 m 0 (omega (arith, l, h.speeds.0))).0
    where
      by : (a b u : ℕ) → a * b ≡ u → 1 ≤ b → a ≤ u
      by a b u e k = grind arith

  -- ---- the jobs in turn
  module _ (few : unit ≤ GREATEST_MULTIPLE) (jobs : List Keyed) (sorted : IsByTime i jobs) (places : List Place) (turns : AreTurns (steps_by i unit) jobs places) where
    abbrev n : ℕ
    n = length i.jobs

    abbrev time_of : ℕ → ℕ
    time_of j = (need_at i j 0).time

    abbrev time : ℕ → ℕ
    time r = (timed_at jobs r).key

    abbrev job : ℕ → ℕ
    job r = (timed_at jobs r).job

    abbrev machine : ℕ → ℕ
    machine r = machine_at places r

    pub once : OnceBelow n (map (λ t. t.job) jobs)
    once = OnceBelow-from_permutation sorted.all

    pub jobs-count : length jobs ≡ n
    jobs-count = listed_count (λ (t : Keyed). t.job) no_timed jobs once

    count : length places ≡ n
    count = turns.count ∙ jobs-count

    job-inside : (r : ℕ) → r < n → job r < n
    job-inside = listed_inside (λ (t : Keyed). t.job) no_timed jobs once

    time-is : (r : ℕ) → r < n → time r ≡ time_of (job r)
    time-is r l = sorted.times r no_timed (omega (arith, l, jobs-count))

    falls : (a b : ℕ) → a ≤ b → b < n → time b ≤ time a
    falls a b l m = elim (same_or_not a b) [
      | inl e ↦ omega (arith, ap time e)
      | inr ne ↦ elim (sorted.falling a b no_timed (omega (arith, l, ne)) (omega (arith, m, jobs-count))) [ inl k ↦ omega (arith, k) | inr k ↦ omega (arith, k.0) ]
    ]

    pub machine-inside : (r : ℕ) → r < n → machine r < i.machines
    machine-inside r l = omega (arith, (turns.each r (omega (arith, l, count))).inside, steps-length)

    greedy : (r m : ℕ) → r < n → m < i.machines → taken n i.machines step machine r ≤ multiplier step m (seats machine r m)
    greedy r m l k = (turns.each r (omega (arith, l, count))).least m (omega (arith, k, steps-length))

    length-is : (r : ℕ) → r < n → length_at places r ≡ time r * step (machine r)
    length-is r l = (turns.each r (omega (arith, l, count))).length_is

    -- the sum of completion times, over the unit
    abbrev pub value : ℕ
    value = total_below n (λ r. time r * taken n i.machines step machine r)

    -- ---- feasible
    pub same-jobs : map (λ p. p.job) places ≡ map (λ t. t.job) jobs
    same-jobs = listed_places (λ (t : Keyed). t.job) no_timed jobs once places turns.count (λ r l. (turns.each r l).job)

    record IsMeant (p : Place) : Type 0 where
      machine_inside : p.machine < i.machines
      lasts : 0 < p.length
      short : p.length ≤ GREATEST * GREATEST_MULTIPLE
      work : p.length * speed p.machine ≡ unit * time_of p.job

    meant : All IsMeant places
    meant r d l =
        let below : r < n = omega (arith, l, count) in
        let on : machine r < i.machines = machine-inside r below in
        let inside : job r < n = job-inside r below in
        let at : time r ≡ time_of (job r) = time-is r below in
        let long : length_at places r ≡ time r * step (machine r) = length-is r below in
        subst IsMeant (get_or_default places r no_place d l) (record {
          machine_inside = on;
          lasts = omega (arith, long, mul-le 1 1 (time r) (step (machine r)) (omega (arith, at, (times i h (job r) inside).0)) (step-some (machine r) on));
          short = omega (arith, long, mul-le (time r) (step (machine r)) GREATEST GREATEST_MULTIPLE (omega (arith, at, (times i h (job r) inside).1)) (le_trans (step-most (machine r) on) few));
          work = ap (λ x. x * speed (machine r)) long ∙ omega arith
              ∙ ap (λ x. x * time r) (step-speed (machine r) on) ∙ ap (λ x. unit * x) (at ∙ ap time_of (sym (turns.each r l).job));
        })

    pub fitting : AreFitting i unit places
    fitting = record {
      some = common.some;
      few = few;
      bounded = subst (λ k. pos unit ≤ℤ answer_unit k) (sym h.kind) (omega (arith, ints, few));
      jobs = subst (OnceBelow n) (sym same-jobs) once;
      inside = λ k d l. (meant k d l).machine_inside;
      lasts = λ k d l. (meant k d l).lasts;
      short = λ k d l. (meant k d l).short;
      work = λ p rest c. subst (λ k. IsWholeWork k i (pos unit) (piece_before p rest))
          (sym h.kind) (ap (λ x. x *ℤ pos (speed p.machine)) (piece_long p rest) ∙ ap pos (All-contains IsMeant places p meant c).work);
    }

    abbrev s : Schedule
    s = schedule_of unit places

    upper : cost_of i s ≤ℤ pos value
    upper = subst (λ x. cost_of i s ≤ℤ pos x) (ap (λ k. total_below k (λ r. length_at places r * (seats machine r (machine r) + 1))) count
        ∙ total_below-same n _ _ (λ r l. ap (λ x. x * (seats machine r (machine r) + 1)) (length-is r l) ∙ omega arith))
        (laid_costs i (IsPlain-from_uniform i h) unit places fitting)

    -- ---- no feasible schedule costs less
    module _ (t : Schedule) (f : Feasible i t) where
      abbrev other : ℕ
      other = nat_abs t.unit

      abbrev on : ℕ → ℕ
      on j = (only_piece t j).machine

      abbrev begin : ℕ → ℕ
      begin j = start (only_piece t j)

      abbrev end : ℕ → ℕ
      end j = finish (only_piece t j)

      abbrev place : ℕ → ℕ
      place j = position_of n on end j

      works : (j : ℕ) → j < n → HasOperation (kind_of i.class.env) i j 0
      works j l = subst (λ k. HasOperation k i j 0) (sym h.kind) refl

      lasts : (j : ℕ) → j < n → begin j < end j
      lasts j l = (only_timed i t h.cut works f j l).lasts

      apart : (a b : ℕ) → a < n → b < n → (a ≡ b → ⊥) → on a ≡ on b → IsApart begin end a b
      apart a b l m ne same = only_apart i t h.cut works f a b l m ne same

      on-inside : (j : ℕ) → j < n → on j < i.machines
      on-inside j l = subst (λ k. MayRun k i (only_piece t j).job (only_piece t j).op (on j)) h.kind (only_placed i t h.cut works f j l).machine

      -- the unit times a job's length is its step times its time
      size : (j : ℕ) → j < n → unit * (end j - begin j) ≡ step (on j) * (other * time_of j)
      size j l =
          let only : IsOnly i t h.cut works f j (only_piece t j) = is_only i t h.cut works f j l in
          let at : IsTimed (only_piece t j) = only_timed i t h.cut works f j l in
          let long : length_of (only_piece t j) ≡ pos (end j - begin j) = omega (arith, ints, at.to, at.from, at.lasts) in
          let need_is : need_at i (only_piece t j).job (only_piece t j).op ≡ need_at i j 0 = ap₂ (need_at i) only.job only.op in
          let work : (end j - begin j) * speed (on j) ≡ other * time_of j = pos-same (
          sym (ap (λ x. x *ℤ pos (speed (on j))) long)
          ∙ subst (λ k. IsWholeWork k i t.unit (only_piece t j)) h.kind only.work
          ∙ ap (λ x. t.unit *ℤ pos x.time) need_is ∙ ap (λ u. u *ℤ pos (time_of j)) (natural t.unit (omega (arith, ints, f.unit)))) in
          ap (λ y. y * (end j - begin j)) (sym (step-speed (on j) (on-inside j l)))
          ∙ mul_assoc (step (on j)) (speed (on j)) (end j - begin j) ∙ ap (λ y. step (on j) * y) (mul_comm (speed (on j)) (end j - begin j) ∙ work)

      abbrev weighed : ℕ → ℕ
      weighed j = time_of j * multiplier step (on j) (place j - 1)

      ends_take : other * total_below n weighed ≤ unit * total_below n end
      ends_take = subst (λ x. x ≤ unit * total_below n end)
          (sym (total_below-scale n unit (λ j. (end j - begin j) * place j)) ∙ total_below-same n _ (λ j. other * weighed j)
          (λ j l. turned unit (end j - begin j) (place j) (step (on j)) other (time_of j) (size j l) (position_of-some n on end j l)) ∙ total_below-scale n other weighed)
          (mul-le-mul_left unit (sum_of_ends n on end begin lasts apart))
        where
          turned : (u x k s d t : ℕ) → u * x ≡ s * (d * t) → 1 ≤ k → u * (x * k) ≡ d * (t * ((k - 1 + 1) * s))
          turned u x k s d t e some =
              let back : k - 1 + 1 ≡ k = omega arith in
              let grouped : u * (x * k) ≡ u * x * k = omega arith in
              grouped ∙ ap (λ y. y * k) e ∙ ap (λ y. s * (d * t) * y) (sym back) ∙ moved s d t (k - 1 + 1)
            where
              moved : (a b c e : ℕ) → a * (b * c) * e ≡ b * (c * (e * a))
              moved a b c e = omega arith

      reordered : total_below n weighed ≡ total_below n (λ r. time r * multiplier step (on (job r)) (place (job r) - 1))
      reordered = listed_total (λ (t : Keyed). t.job) no_timed jobs once weighed ∙ total_below-same n _ _ (λ r l. ap (λ x. x * multiplier step (on (job r)) (place (job r) - 1)) (sym (time-is r l)))

      least : value ≤ total_below n weighed
      least = subst (λ x. value ≤ x) (sym reordered)
          (least_in_all n i.machines step machine machine-inside greedy time (λ r. on (job r)) (λ r. place (job r) - 1) falls
          (λ a l. let j = job-inside a l in (on-inside (job a) j, omega (arith, position_of-some n on end (job a) j, position_of-few n on end (job a))))
          (λ a b l m same e. let ja = job-inside a l in let jb = job-inside b m in
          listed_once (λ (t : Keyed). t.job) no_timed jobs once a b l m (position_of-once n on end begin lasts apart (job a)
          (job b) ja jb same (omega (arith, position_of-some n on end (job a) ja, position_of-some n on end (job b) jb, e)))))

      lower : (t.unit *ℤ pos value) ≤ℤ (pos unit *ℤ cost_of i t)
      lower =
          subst (λ u. (u *ℤ pos value) ≤ℤ (pos unit *ℤ cost_of i t)) (sym (natural t.unit (omega (arith, ints, f.unit))))
          (≤ℤ_trans (pos-le (mul-le-mul_left other least))
          (≤ℤ_trans (pos-le ends_take) (*ℤ-mono_nonneg (pos unit) (pos-le (omega arith)) (sum_of_only_ends i t h.cut works f h.crit))))

    pub best : Best i s
    best = best_at i s (pos value) (laid_is_feasible i (IsPlain-from_uniform i h) unit places fitting) upper lower
