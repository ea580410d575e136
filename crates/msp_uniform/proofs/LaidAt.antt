-- What is said of segments in which a job has taken one place.
use Rattle.std.proofs.Common.{◌≡◌, ◌≢◌, ℕ, suc, ◌+◌, ◌<◌, ◌≤◌, false, List, ◌++◌, All, refl, sym, subst, ◌∙◌, arith}
use Rattle.msp_uniform.specs.declared.segments.Segment.{Segment}
use Rattle.msp_uniform.specs.Segments.{IsSegment, IsAbsent, rate_at, job_rate, amount, gained, AreWhole, IsFirst, AreLaid}
use Rattle.msp_uniform.proofs.SegmentFacts.{IsSegment-taken, rate_below, own_rate, other_rate, still_absent}
use Rattle.msp_uniform.proofs.LaidFacts.{gained-mono, All-firsts, All-seconds, amount-firsts, amount-seconds}
use Rattle.msp_uniform.proofs.OrderFacts.{AreWhole-seconds, AreWhole-laid}
use Rattle.msp_uniform.proofs.ScaledFacts.{IsRead, IsRead-place, IsRead-job, IsSegment-part, job_kept}

pub record IsLaidAt (m n : ℕ) (speed : ℕ → ℕ) (h job work : ℕ) (xs fs ss : List Segment) : Type 0 where
  pub firsts : All (IsSegment m n speed h) fs
  pub seconds : All (IsSegment m n speed (suc h)) ss
  pub works : amount (job_rate m speed job) fs ≡ work
  -- the place holds so much less, and the others hold what they held
  pub rest : amount (rate_at speed h) ss + work ≡ amount (rate_at speed h) xs
  pub places : (k : ℕ) → k < h → amount (rate_at speed k) fs + amount (rate_at speed k) ss ≡ amount (rate_at speed k) xs
  pub others : (j : ℕ) → j < n → j ≢ job → amount (job_rate m speed j) fs + amount (job_rate m speed j) ss ≡ amount (job_rate m speed j) xs
  pub time : amount (λ _. 1) fs + amount (λ _. 1) ss ≡ amount (λ _. 1) xs
  pub absent_firsts : (k : ℕ) → k ≢ job → All (IsAbsent m k) xs → All (IsAbsent m k) fs
  pub absent_seconds : (k : ℕ) → All (IsAbsent m k) xs → All (IsAbsent m k) ss
  -- the place before it is no slower
  pub faster : (g : ℕ) → h ≡ g + 1 → work ≤ amount (rate_at speed g) fs
  -- where it is never idle, works still end at whole moments
  pub whole_seconds : All (λ x. 1 ≤ rate_at speed h x) xs → (d : ℕ) → AreWhole (rate_at speed h) d xs → AreWhole (rate_at speed h) (d + work) ss
  pub whole_places : All (λ x. 1 ≤ rate_at speed h x) xs → (k : ℕ) → k < h → (d : ℕ) → AreWhole (rate_at speed k) d xs → AreWhole (rate_at speed k) d (fs ++ ss)

module _ (m n : ℕ) (speed : ℕ → ℕ) (h job work : ℕ) (xs fs ss : List Segment)
    (new : job < n) (each : All (IsSegment m n speed (suc h)) xs) (absent : All (IsAbsent m job) xs) (laid : AreLaid false speed job h work 0 xs fs ss) where
  abbrev Before : Segment → Type 0
  Before x = IsSegment m n speed (suc h) x × IsAbsent m job x

  before : All Before xs
  before k d l = (each k d l, absent k d l)

  here : h < suc h
  here = omega arith

  below : (k : ℕ) → k < h → (x y : Segment) → Before x → IsFirst job h x y → rate_at speed k y ≡ rate_at speed k x
  below k l x y b t = rate_below m n speed h h job y.length x y b.0 t here new b.1 k l

  -- what first parts gain at a rate, and what both parts hold at a rate that they keep
  firsts_do : (rate one : Segment → ℕ) → ((x y : Segment) → Before x → IsFirst job h x y → rate y ≡ one x) → amount rate fs ≡ gained one laid.parts xs
  firsts_do rate one same = amount-firsts Before rate one same laid.laid before

  seconds_do : (rate : Segment → ℕ) → IsRead rate → amount rate ss + gained rate laid.parts xs ≡ amount rate xs
  seconds_do rate read = amount-seconds Before rate rate (λ x y b t. read y.length x y t) laid.laid before

  both : (rate : Segment → ℕ) → IsRead rate → ((x y : Segment) → Before x → IsFirst job h x y → rate y ≡ rate x) → amount rate fs + amount rate ss ≡ amount rate xs
  both rate read same = omega (arith, firsts_do rate rate same, seconds_do rate read)

  pub laid_at : IsLaidAt m n speed h job work xs fs ss
  laid_at = record {
    firsts = All-firsts Before (IsSegment m n speed h) (λ x b. b.0.lasts) (λ x y b t l. IsSegment-taken m n speed h h job y.length x y b.0 t here new b.1 l) laid.laid before;
    seconds = All-seconds Before (IsSegment m n speed (suc h)) (λ x b. b.0.lasts) (λ x y b t l. IsSegment-part m n speed (suc h) y.length x y t l b.0) laid.laid before;
    works = omega (arith, firsts_do (job_rate m speed job) (rate_at speed h) (λ x y b t. own_rate m n speed h h job y.length x y b.0 t here new b.1), laid.gains);
    rest = omega (arith, seconds_do (rate_at speed h) (IsRead-place speed h), laid.gains);
    places = λ k l. both (rate_at speed k) (IsRead-place speed k) (below k l);
    others = λ j l d. both (job_rate m speed j) (IsRead-job m speed j) (λ x y b t. other_rate m n speed h h job y.length x y b.0 t here new b.1 j l d);
    time = both (λ _. 1) (λ k x y t. refl) (λ x y b t. refl);
    absent_firsts = λ k d a. All-firsts (λ x. Before x × IsAbsent m k x) (IsAbsent m k) (λ x b. b.0.0.lasts)
        (λ x y b t l. still_absent m n speed h h job y.length x y b.0.0 t here new b.0.1 k d b.1) laid.laid (λ q e b. (before q e b, a q e b));
    absent_seconds = λ k a. All-seconds (λ x. Before x × IsAbsent m k x) (IsAbsent m k)
        (λ x b. b.0.0.lasts) (λ x y b t s i c e. b.1 i c (sym (job_kept m n speed h _ x y t i) ∙ e)) laid.laid (λ q e b. (before q e b, a q e b));
    faster = λ g is. omega (
      arith,
      firsts_do (rate_at speed g) (rate_at speed g) (below g (omega (arith, is))),
      gained-mono (rate_at speed h) (rate_at speed g) laid.parts xs (λ k d l. (each k d l).falls g h (omega (arith, is)) (omega arith)),
      laid.gains,
    );
    whole_seconds = λ some d w. subst (λ k. AreWhole (rate_at speed h) k ss) (omega (arith, laid.gains))
        (AreWhole-seconds Before (λ x b. b.0.lasts) (rate_at speed h) (λ x y b t. IsRead-place speed h y.length x y t) d laid.laid before (laid.order some).order w);
    whole_places = λ some k l d w. AreWhole-laid Before (λ x b. b.0.lasts) (rate_at speed k) (λ x y b t. IsRead-place speed k y.length x y t)
        (below k l) d laid.laid before (laid.order some).order w;
  }
