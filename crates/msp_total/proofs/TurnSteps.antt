-- Steps of the loops over jobs that take their turns.
use Rattle.std.proofs.Common.{◌≡◌, ℕ, ◌+◌, ◌*◌, ◌-◌, ◌<◌, ◌≤◌, ◌⊎◌, inl, inr, Bool, true, false, cond, eqb, List, [], ◌∷◌, ◌++◌, length, get_or, take, map, set, All, AllPairs, add-one}
use Rattle.std.proofs.Common.{IsPermutation, refl, sym, ap, subst, subst₂, ◌∙◌, arith}
use Rattle.std.specs.Prelude.{slice_index_or}
use Rattle.std.specs.List.{range_with_len}
use Rattle.std.proofs.lemmas.Bool.{eqb-true, eqb-false}
use Rattle.std.proofs.lemmas.Grind.{get_or-set_at}
use Rattle.std.proofs.lemmas.List.{get_or_push, get_or-set_other, get_or_default, get_or_append_left, length-append, length-take, length-set, get_or-take}
use Rattle.std.proofs.lemmas.List.Sorted.{IsPermutation-map, All-permutation}
use Rattle.std.proofs.Math.Nat.{mul-le-mul_right}
use Rattle.msp_class.specs.declared.sizes.TheConstants.{MOST_JOBS, GREATEST_MULTIPLE}
use Rattle.msp_class.proofs.Sums.{cond-yes, cond-no, cond-le, total_below-same, total_below-bound}
use Rattle.msp_class.proofs.Cases.{same_or_not}
use Rattle.msp_instance.specs.declared.Instance.{Instance}
use Rattle.msp_instance.specs.declared.Job.{Job}
use Rattle.msp_instance.specs.declared.Need.{Need}
use Rattle.msp_instance.specs.Instance.{no_need, no_job, need_at}
use Rattle.msp_route.specs.declared.keyed.Keyed.{Keyed}
use Rattle.msp_route.proofs.KeyedJobs.{keys-next}
use Rattle.msp_total.specs.declared.lay.Place.{Place}
use Rattle.msp_total.specs.Places.{no_place, place_at}
use Rattle.msp_total.specs.Turns.{no_timed, timed_at, IsByTime, multiplier, number_at, machine_at, IsFirstLeast, IsTurn, AreTurns, AreNext}
use Rattle.msp_total.specs.Multipliers.{seats}

-- ---- the jobs with their times
-- a time, as the code reads it
pub time_read : (i : Instance) (jobs : List Job) (k : ℕ) (j : Job) (needs : List Need) (t : ℕ)
    → jobs ≡ i.jobs → k < length jobs → needs ≡ (get_or jobs k j).needs → t ≡ (slice_index_or needs 0 no_need).time → t ≡ (need_at i k 0).time
time_read i jobs k j needs t e l n v = v ∙ ap (λ x. (slice_index_or x 0 no_need).time) (n ∙ ap (λ (x : Job). x.needs) (get_or_default jobs k j no_job l ∙ ap (λ xs. get_or xs k no_job) e))

abbrev pub HasTime : Instance → Keyed → Type 0
HasTime i t = t.key ≡ (need_at i t.job 0).time

pub times-next : (i : Instance) (new old : List Keyed) (x : Keyed) → new ≡ old ++ x ∷ [] → HasTime i x → All (HasTime i) old → All (HasTime i) new
times-next i = keys-next (λ j. (need_at i j 0).time)

pub by_time : (i : Instance) (all sorted : List Keyed) → map (λ t. t.job) all ≡ range_with_len 0 (length i.jobs)
    → All (HasTime i) all → IsPermutation all sorted → AllPairs (λ a b. (b.key < a.key) ⊎ ((b.key ≡ a.key) × (a.job ≤ b.job))) sorted → IsByTime i sorted
by_time i all sorted e times p down = record {
  all = subst (λ l. IsPermutation l (map (λ t. t.job) sorted)) e (IsPermutation-map (λ t. t.job) all sorted p);
  times = All-permutation (HasTime i) all sorted p times;
  falling = down;
}

-- ---- the least of the numbers below a bound
pub record IsLeastBelow (xs : List ℕ) (bound k : ℕ) : Type 0 where
  pub inside : k < bound
  pub least : (m : ℕ) → m < bound → number_at xs k ≤ number_at xs m
  pub first : (m : ℕ) → m < k → number_at xs k < number_at xs m

-- how often a condition counts
abbrev one_if : Bool → ℕ
one_if b = cond b 1 0

-- ---- one turn more
module _ (steps : List ℕ) (jobs : List Keyed) (places : List Place) (p : Place) where
  abbrev k : ℕ
  k = length places

  abbrev more : List Place
  more = places ++ p ∷ []

  count_more : length more ≡ k + 1
  count_more = length-append places (p ∷ []) ∙ omega arith

  before : (r : ℕ) → r < k → place_at more r ≡ place_at places r
  before r l = get_or_append_left places (p ∷ []) no_place r l

  at_end : place_at more k ≡ p
  at_end = get_or_push places p no_place k refl

  seats-before : (r m : ℕ) → r ≤ k → seats (machine_at more) r m ≡ seats (machine_at places) r m
  seats-before r m l = total_below-same r _ _ (λ a h. ap (λ (q : Place). cond (eqb q.machine m) 1 0) (before a (omega arith)))

  turn-before : (r : ℕ) (t : Keyed) (q : Place) → r ≤ k → IsTurn steps (machine_at places) r t q → IsTurn steps (machine_at more) r t q
  turn-before r t q l h = record {
    job = h.job;
    length_is = h.length_is;
    inside = h.inside;
    least = λ m b. omega (arith, h.least m b, same q.machine, same m);
    first = λ m b. omega (arith, h.first m b, same q.machine, same m);
  }
    where
      same : (m : ℕ) → multiplier (number_at steps) m (seats (machine_at more) r m) ≡ multiplier (number_at steps) m (seats (machine_at places) r m)
      same m = ap (multiplier (number_at steps) m) (seats-before r m l)

  pub turns-next : (next : List ℕ) (t : Keyed) → k < length jobs → t ≡ get_or jobs k no_timed → IsFirstLeast next p.machine → p.job ≡ t.job
      → p.length ≡ t.key * number_at steps p.machine → AreNext steps places next → AreTurns steps (take k jobs) places → AreTurns steps (take (k + 1) jobs) more
  turns-next next t l is least job long (size, values) so_far = record {
    count = omega (arith, count_more, length-take (k + 1) jobs);
    each = λ r h. let l : r < k + 1 = omega (arith, h, count_more) in elim (same_or_not r k) [
      | inl same ↦ subst (λ x. IsTurn steps (machine_at more) x (timed_at (take (k + 1) jobs) x) (place_at more x)) (sym same)
          (subst₂ (λ x q. IsTurn steps (machine_at more) k x q) (is ∙ sym (read k (omega arith))) (sym at_end) (turn-before k t p (omega arith) new_turn))
      | inr ne ↦ let less : r < k = omega (arith, l, ne) in
          subst₂ (λ x q. IsTurn steps (machine_at more) r x q) (get_or-take k jobs r no_timed less ∙ sym (read r l))
          (sym (before r less)) (turn-before r (timed_at (take k jobs) r) (place_at places r) (omega (arith, less)) (so_far.each r less))
    ];
  }
    where
      new_turn : IsTurn steps (machine_at places) k t p
      new_turn = record {
        job = job;
        length_is = long;
        inside = omega (arith, least.inside, size);
        least = λ m b. subst₂ (λ x y. x ≤ y) (values p.machine (omega (arith, least.inside, size))) (values m b) (least.least m (omega (arith, size)));
        first = λ m b. subst₂ (λ x y. x < y) (values p.machine (omega (arith, least.inside, size))) (values m (omega (arith, b, least.inside, size))) (least.first m b);
      }

      read : (r : ℕ) → r < k + 1 → timed_at (take (k + 1) jobs) r ≡ get_or jobs r no_timed
      read r h = get_or-take (k + 1) jobs r no_timed h

  pub next-next : (next : List ℕ) → p.machine < length steps → AreNext steps places next → AreNext steps more (set next p.machine (number_at next p.machine + number_at steps p.machine))
  next-next next inside (size, values) = (length-set next p.machine _ ∙ size, λ m l. by m l (eqb p.machine m) refl)
    where
      parts : (m : ℕ) → seats (machine_at more) (length more) m ≡ seats (machine_at places) k m + cond (eqb p.machine m) 1 0
      parts m = ap (λ x. seats (machine_at more) x m) (count_more ∙ add-one k)
          ∙ omega (arith, seats-before k m (omega arith), ap (λ (q : Place). one_if (eqb q.machine m)) at_end)

      by : (m : ℕ) → m < length steps → (b : Bool) → eqb p.machine m ≡ b
          → number_at (set next p.machine (number_at next p.machine + number_at steps p.machine)) m ≡ multiplier (number_at steps) m (seats (machine_at more) (length more) m)
      by m l true e =
          let same = eqb-true p.machine m e in
          get_or-set_at next p.machine m _ 0 (sym same) (omega (arith, inside, size))
          ∙ ap (λ x. number_at next x + number_at steps x) same ∙ ap (λ x. x + number_at steps m) (values m l)
          ∙ omega (arith, ap (λ z. z * number_at steps m) (parts m ∙ ap (λ x. seats (machine_at places) k m + x) (cond-yes 1 e)))
      by m l false e =
          get_or-set_other next p.machine m _ 0 (λ q. eqb-false p.machine m e (sym q)) ∙ values m l
          ∙ sym (ap (multiplier (number_at steps) m) (parts m ∙ ap (λ x. seats (machine_at places) k m + x) (cond-no 1 e) ∙ omega arith))

-- at the start
pub turns-none : (steps : List ℕ) (jobs : List Keyed) → AreTurns steps (take 0 jobs) []
turns-none steps jobs = record { count = refl; each = λ r l. absurd (omega arith) }

pub next-none : (steps next : List ℕ) → next ≡ steps → AreNext steps [] next
next-none steps next e = (ap length e, λ m l. ap (λ x. number_at x m) e ∙ omega arith)

-- what a job counts is bounded
pub next-small : (steps : List ℕ) (places : List Place) (next : List ℕ)
    → All (λ s. s ≤ GREATEST_MULTIPLE) steps → length places < MOST_JOBS → AreNext steps places next → All (λ s. s ≤ MOST_JOBS * GREATEST_MULTIPLE) next
next-small steps places next small few (size, values) k d l =
    let inside : k < length steps = omega (arith, size) in
    omega (
      arith,
      get_or_default next k d 0 l,
      values k inside,
      most (seats (machine_at places) (length places) k) (number_at steps k)
          (omega (arith, total_below-bound (length places) 1 (λ a. cond (eqb (machine_at places a) k) 1 0) (λ a h. cond-le (eqb (machine_at places a) k) 1))) (small k 0 inside),
    )
  where
    most : (s x : ℕ) → s + 1 ≤ MOST_JOBS → x ≤ GREATEST_MULTIPLE → (s + 1) * x ≤ MOST_JOBS * GREATEST_MULTIPLE
    most s x h k = omega (arith, mul-le-mul_right x h, k)

-- as the code has it
pub record HasTurned (steps : List ℕ) (jobs : List Keyed) (k : ℕ) (places : List Place) (numbers : List ℕ) : Type 0 where
  pub count : length places ≡ k
  pub turns : AreTurns steps (take k jobs) places
  pub next : AreNext steps places numbers

pub turn_taken : (steps : List ℕ) (jobs : List Keyed) (places : List Place) (p : Place) (k : ℕ) (next : List ℕ) (new : List Place) (after : List ℕ) (t : Keyed)
    → new ≡ places ++ p ∷ [] → length places ≡ k → k < length jobs → t ≡ get_or jobs k no_timed
    → IsFirstLeast next p.machine → p.job ≡ t.job → p.length ≡ t.key * number_at steps p.machine → after ≡ set next p.machine (number_at next p.machine + number_at steps p.machine)
    → AreNext steps places next → AreTurns steps (take k jobs) places → HasTurned steps jobs (k + 1) new after
turn_taken steps jobs places p k next new after t e count l is least job long set_is values so_far =
    let at : t ≡ get_or jobs (length places) no_timed = is ∙ ap (λ n. get_or jobs n no_timed) (sym count) in
    let inside : p.machine < length steps = omega (arith, least.inside, values.0) in
    record {
      count = ap length e ∙ length-append places (p ∷ []) ∙ omega (arith, count);
      turns = subst₂ (λ n x. AreTurns steps (take (n + 1) jobs) x) count (sym e)
          (turns-next steps jobs places p next t (omega (arith, count, l)) at least job long values (subst (λ n. AreTurns steps (take n jobs) places) (sym count) so_far));
      next = subst₂ (AreNext steps) (sym e) (sym set_is) (next-next steps jobs places p next inside values);
    }
