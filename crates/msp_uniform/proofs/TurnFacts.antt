-- A job takes two places as far as it can: what the segments hold then.
use Rattle.std.proofs.Common.{◌≡◌, ◌≢◌, ℕ, suc, ◌+◌, ◌*◌, ◌-◌, ◌<◌, ◌≤◌, true, List, ◌++◌, All, refl, arith}
use Rattle.std.proofs.lemmas.List.Elements.{All-append}
use Rattle.msp_class.proofs.Sums.{sum_by-append}
use Rattle.msp_uniform.specs.declared.segments.Segment.{Segment}
use Rattle.msp_uniform.specs.Prefixes.{IsMerged}
use Rattle.msp_uniform.specs.Segments.{IsSegment, IsAbsent, rate_at, job_rate, amount, gained, gain_at, IsFirst, IsSecond, AreLaid}
use Rattle.msp_uniform.proofs.SegmentFacts.{IsSegment-taken, rate_below, rate_above, own_rate, other_rate, still_absent}
use Rattle.msp_uniform.proofs.LaidFacts.{All-firsts, All-seconds, amount-firsts, amount-seconds, gained-add}

module _ (m n : ℕ) (speed : ℕ → ℕ) (g r job gap : ℕ) (xs fs ss : List Segment) (inside : suc r < suc (suc g)) (new : job < n)
    (each : All (IsSegment m n speed (suc (suc g))) xs) (absent : All (IsAbsent m job) xs) (laid : AreLaid true speed job r gap 0 xs fs ss) where
  abbrev Before : Segment → Type 0
  Before x = IsSegment m n speed (suc (suc g)) x × IsAbsent m job x

  before : All Before xs
  before k d l = (each k d l, absent k d l)

  in_first : r < suc (suc g)
  in_first = omega arith

  -- what is said of the segments
  pub segments_are : All (IsSegment m n speed (suc g)) (fs ++ ss)
  segments_are = All-append (IsSegment m n speed (suc g)) fs ss (All-firsts Before (IsSegment m n speed (suc g)) lasts first laid.laid before)
      (All-seconds Before (IsSegment m n speed (suc g)) lasts second laid.laid before)
    where
      first : (x y : Segment) → Before x → IsFirst job r x y → 1 ≤ y.length → IsSegment m n speed (suc g) y
      first x y b t l = IsSegment-taken m n speed (suc g) r job y.length x y b.0 t in_first new b.1 l

      second : (x y : Segment) → Before x → IsSecond true job r x y → 1 ≤ y.length → IsSegment m n speed (suc g) y
      second x y b t l = IsSegment-taken m n speed (suc g) (suc r) job y.length x y b.0 t inside new b.1 l

      lasts : (x : Segment) → Before x → 1 ≤ x.length
      lasts x b = b.0.lasts

  abbrev Both : ℕ → Segment → Type 0
  Both j x = Before x × IsAbsent m j x

  pub absent_still : (j : ℕ) → j ≢ job → All (IsAbsent m j) xs → All (IsAbsent m j) (fs ++ ss)
  absent_still j d a = All-append (IsAbsent m j) fs ss (All-firsts (Both j) (IsAbsent m j) lasts first laid.laid both) (All-seconds (Both j) (IsAbsent m j) lasts second laid.laid both)
    where
      both : All (Both j) xs
      both k e l = (before k e l, a k e l)

      first : (x y : Segment) → Both j x → IsFirst job r x y → 1 ≤ y.length → IsAbsent m j y
      first x y b t l = still_absent m n speed (suc g) r job y.length x y b.0.0 t in_first new b.0.1 j d b.1

      second : (x y : Segment) → Both j x → IsSecond true job r x y → 1 ≤ y.length → IsAbsent m j y
      second x y b t l = still_absent m n speed (suc g) (suc r) job y.length x y b.0.0 t inside new b.0.1 j d b.1

      lasts : (x : Segment) → Both j x → 1 ≤ x.length
      lasts x b = b.0.0.lasts

  -- amounts
  amounts : (f one two : Segment → ℕ) → ((x y : Segment) → Before x → IsFirst job r x y → f y ≡ one x)
      → ((x y : Segment) → Before x → IsSecond true job r x y → f y ≡ two x) → amount f (fs ++ ss) + gained two laid.parts xs ≡ gained one laid.parts xs + amount two xs
  amounts f one two p q = omega (arith, sum_by-append (λ y. y.length * f y) fs ss, amount-firsts Before f one p laid.laid before, amount-seconds Before f two q laid.laid before)

  same_amount : (f one : Segment → ℕ) → ((x y : Segment) → Before x → IsFirst job r x y → f y ≡ one x)
      → ((x y : Segment) → Before x → IsSecond true job r x y → f y ≡ one x) → amount f (fs ++ ss) ≡ amount one xs
  same_amount f one p q = omega (arith, amounts f one one p q)

  pub whole_time : amount (λ _. 1) (fs ++ ss) ≡ amount (λ _. 1) xs
  whole_time = same_amount (λ _. 1) (λ _. 1) (λ x y b t. refl) (λ x y b t. refl)

  pub others_work : (j : ℕ) → j < n → j ≢ job → amount (job_rate m speed j) (fs ++ ss) ≡ amount (job_rate m speed j) xs
  others_work j l d = same_amount (job_rate m speed j) (job_rate m speed j)
      (λ x y b t. other_rate m n speed (suc g) r job y.length x y b.0 t in_first new b.1 j l d)
      (λ x y b t. other_rate m n speed (suc g) (suc r) job y.length x y b.0 t inside new b.1 j l d)

  gains : gained (rate_at speed r) laid.parts xs ≡ gained (rate_at speed (suc r)) laid.parts xs + gap
  gains =
      let parts = gained-add (rate_at speed r) (rate_at speed (suc r)) (gain_at true speed r) laid.parts xs
      (λ k d l. omega (arith, (each k d l).falls r (suc r) (omega arith) inside)) in omega (arith, parts, laid.gains)

  pub own_work : amount (job_rate m speed job) (fs ++ ss) ≡ amount (rate_at speed (suc r)) xs + gap
  own_work = omega (
    arith,
    gains,
    amounts (job_rate m speed job) (rate_at speed r) (rate_at speed (suc r))
        (λ x y b t. own_rate m n speed (suc g) r job y.length x y b.0 t in_first new b.1)
        (λ x y b t. own_rate m n speed (suc g) (suc r) job y.length x y b.0 t inside new b.1),
  )

  pub places_merged : (work : ℕ) → work ≡ amount (rate_at speed (suc r)) xs + gap → IsMerged (suc (suc g)) r (λ k. amount (rate_at speed k) xs) work (λ k. amount (rate_at speed k) (fs ++ ss))
  places_merged work e = record {
    before = λ k l. same_amount (rate_at speed k) (rate_at speed k)
        (λ x y b t. rate_below m n speed (suc g) r job y.length x y b.0 t in_first new b.1 k l)
        (λ x y b t. rate_below m n speed (suc g) (suc r) job y.length x y b.0 t inside new b.1 k (omega arith));
    merged = omega (
      arith,
      e,
      gains,
      amounts (rate_at speed r) (rate_at speed (suc r)) (rate_at speed r)
          (λ x y b t. rate_above m n speed (suc g) r job y.length x y b.0 t in_first new b.1 r (omega arith))
          (λ x y b t. rate_below m n speed (suc g) (suc r) job y.length x y b.0 t inside new b.1 r (omega arith)),
    );
    behind = λ k l b. same_amount (rate_at speed k) (rate_at speed (suc k))
        (λ x y c t. rate_above m n speed (suc g) r job y.length x y c.0 t in_first new c.1 k (omega arith))
        (λ x y c t. rate_above m n speed (suc g) (suc r) job y.length x y c.0 t inside new c.1 k l);
  }
