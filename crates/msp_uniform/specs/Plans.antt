-- What is planned when some jobs are left. No public contract cites this file.
use Rattle.std.specs.Int.{◌∣◌}
use Rattle.std.specs.Prelude.{◌≡◌, ◌≢◌, ℕ, ◌+◌, ◌*◌, ◌-◌, ◌^◌, ◌<◌, ◌≤◌, ◌⊎◌, List, ◌++◌, true, length, map, All, AllPairs, Contains, MatchBool, Bool, suc, false, [], ◌∷◌, replicate, sum_by}
use Rattle.msp_class.specs.Sums.{total_below}
use Rattle.msp_class.specs.declared.sizes.TheConstants.{MOST_JOBS, MOST_MACHINES, GREATEST, GREATEST_SPEED}
use Rattle.msp_uniform.specs.declared.unit.TheConstants.{GREATEST_PRODUCT}
use Rattle.msp_uniform.specs.declared.segments.Segment.{Segment}
use Rattle.msp_uniform.specs.declared.task.Task.{Task}
use Rattle.msp_uniform.specs.Uniform.{gap, IsByFalling}
use Rattle.msp_uniform.specs.Quotients.{IsGreatest}
use Rattle.msp_uniform.specs.Prefixes.{DoFit}
use Rattle.msp_uniform.specs.Runs.{IsSliceOf}
use Rattle.msp_uniform.specs.Segments.{at, HasPlaces, CanGain, IsSegment, IsAbsent, rate_at, job_rate, amount, IsDifference, AreScaled, AreWhole, AreLaid, greatest_length}

-- The works of the jobs that are left, in order, and 0 after the last one.
abbrev pub works : (ℕ → ℕ) → ℕ → List ℕ → ℕ → ℕ
works time unit left k = unit * at (map time left) k

-- The jobs that are left have no machine, the others are done, and what is left fits into h places. The longest job is next.
pub record IsPlan (speeds : List ℕ) (n : ℕ) (time : ℕ → ℕ) (left : List ℕ) (unit end h : ℕ) (xs : List Segment) : Type 0 where
  pub each : All (IsSegment (length speeds) n (at speeds) h) xs
  pub whole : amount (λ _. 1) xs ≡ end
  pub absent : All (λ j. All (IsAbsent (length speeds) j) xs) left
  pub done : (j : ℕ) → j < n → Contains left j ⊎ (amount (job_rate (length speeds) (at speeds) j) xs ≡ unit * time j)
  pub fit : DoFit h (λ k. amount (rate_at (at speeds) k) xs) (length left) (works time unit left)
  pub falls : AllPairs (λ a b. time b ≤ time a) left
  pub apart : AllPairs (λ a b. a ≢ b) left
  pub inside : All (λ j. j < n) left

-- The most work of all jobs together.
abbrev pub greatest_work : ℕ
greatest_work = MOST_JOBS * GREATEST

-- The unit stays small though each place but one makes it finer by the gap of the speeds, and the end is at most the greatest work over it.
pub record IsAffordable (speeds : List ℕ) (finest unit end h : ℕ) : Type 0 where
  pub unit_small : unit * gap speeds ^ (h - 1) * finest ≤ GREATEST_PRODUCT
  pub end_small : end ≤ unit * greatest_work
  pub some : 1 ≤ finest

-- The job has taken a place as far as its work goes, and the next place for the rest, over a unit that is finer by the factor.
pub record IsTurned (speeds : List ℕ) (h job work : ℕ) (xs : List Segment) (d : ℕ) (zs : List Segment) : Type 0 where
  pub place : ℕ
  pub gain : ℕ
  pub fine : List Segment
  pub firsts : List Segment
  pub seconds : List Segment
  pub inside : place + 1 < h
  pub enough : work ≤ amount (rate_at (at speeds) place) xs
  pub gains : work ≡ amount (rate_at (at speeds) (place + 1)) xs + gain
  pub factor : IsDifference speeds d
  pub scaled : AreScaled d xs fine
  pub laid : AreLaid true (at speeds) job place (gain * d) 0 fine firsts seconds
  pub whole : zs ≡ firsts ++ seconds

-- Two lists of segments, in the second of which one more machine is free. What the jobs that are left need is free in all, and each needs
-- no more than the last free machines can do.
pub record IsTape (speeds : List ℕ) (n : ℕ) (time : ℕ → ℕ) (left : List ℕ) (unit end h : ℕ) (early late : List Segment) : Type 0 where
  pub each_early : All (IsSegment (length speeds) n (at speeds) h) early
  pub each_late : All (IsSegment (length speeds) n (at speeds) (h + 1)) late
  pub whole : amount (λ _. 1) early + amount (λ _. 1) late ≡ end
  pub absent_early : All (λ j. All (IsAbsent (length speeds) j) early) left
  pub absent_late : All (λ j. All (IsAbsent (length speeds) j) late) left
  pub done : (j : ℕ) → j < n → Contains left j ⊎ (amount (job_rate (length speeds) (at speeds) j) early + amount (job_rate (length speeds) (at speeds) j) late ≡ unit * time j)
  pub room : sum_by (λ j. unit * time j) left ≤ total_below h (λ k. amount (rate_at (at speeds) k) early) + total_below (h + 1) (λ k. amount (rate_at (at speeds) k) late)
  pub short : (g : ℕ) → h ≡ g + 1 → All (λ j. unit * time j ≤ amount (rate_at (at speeds) g) early + amount (rate_at (at speeds) h) late) left
  pub apart : AllPairs (λ a b. a ≢ b) left
  pub inside : All (λ j. j < n) left

-- The last place works on late segments after it has done a multiple of all speeds, and before each segment any place has done a multiple
-- of its speed there: so jobs whose works are multiples of all speeds end at whole moments.
pub record IsWholeTape (speeds : List ℕ) (multiple h : ℕ) (early late : List Segment) : Type 0 where
  pub before : ℕ
  pub divided : multiple ∣ before
  pub here : AreWhole (rate_at (at speeds) h) before late
  pub more : multiple ∣ amount (rate_at (at speeds) h) late
  pub below : (k : ℕ) → k < h → AreWhole (rate_at (at speeds) k) 0 (early ++ late)
  pub holds : (k : ℕ) → k < h → multiple ∣ amount (rate_at (at speeds) k) early + amount (rate_at (at speeds) k) late

-- ---- the steps
-- Times and speeds are within the limits, and the multiple is one of all speeds.
pub record IsTask (t : Task) : Type 0 where
  pub few_jobs : length t.times.items ≤ MOST_JOBS
  pub few_machines : length t.speeds.items ≤ MOST_MACHINES
  pub times : All (λ p. (1 ≤ p) × (p ≤ GREATEST)) t.times.items
  pub speeds : All (λ s. (1 ≤ s) × (s ≤ GREATEST_SPEED)) t.speeds.items
  pub common : All (λ s. s ∣ t.multiple) t.speeds.items

-- The ends over units are the least end.
abbrev pub IsLeast : Task → ℕ → ℕ → Type 0
IsLeast t unit end = end * t.speed ≡ t.work * unit

-- The jobs by falling time and the machines by falling speed, whose greatest quotient is the least end; and the unit stays small.
pub record IsAsked (t : Task) (jobs machines : List ℕ) : Type 0 where
  pub jobs_by : IsByFalling (length t.times.items) (at t.times.items) jobs
  pub machines_by : IsByFalling (length t.speeds.items) (at t.speeds.items) machines
  pub greatest : IsGreatest (at t.times.items) (at t.speeds.items) jobs machines t.work t.speed
  pub some_jobs : 1 ≤ length t.times.items
  pub some_machines : 1 ≤ length t.speeds.items
  pub small_unit : t.speed * gap t.speeds.items ^ (length t.speeds.items - 1) * t.multiple ≤ GREATEST_PRODUCT
  pub some : 1 ≤ t.multiple

-- One segment up to the least end, in which all machines are free.
pub record IsFirstPlan (t : Task) (machines : List ℕ) (unit h : ℕ) (xs : List Segment) : Type 0 where
  pub x : Segment
  pub only : xs ≡ x ∷ []
  pub unit_is : unit ≡ t.speed
  pub places : h ≡ length machines
  pub long : x.length ≡ t.work
  pub jobs : x.body.value.jobs ≡ replicate (length machines) (length t.times.items)
  pub free : x.body.value.free ≡ machines

-- Some jobs are laid, and these are left.
pub record IsReached (t : Task) (left : List ℕ) (unit h : ℕ) (xs : List Segment) : Type 0 where
  pub end : ℕ
  pub plan : IsPlan t.speeds.items (length t.times.items) (at t.times.items) left unit end h xs
  pub affordable : IsAffordable t.speeds.items t.multiple unit end h
  pub least : IsLeast t unit end
  pub some : 1 ≤ unit
  pub places : 1 ≤ h
  pub few : length xs + h ≤ length t.speeds.items + 1
  pub fewer : length left ≤ length t.times.items

-- The next job is laid, or it needs no more than the last place can do.
abbrev pub IsNextPlan : Task → ℕ → Bool → ℕ → ℕ → List Segment → ℕ → ℕ → List Segment → Type 0
IsNextPlan t job turned unit h xs unit' h' xs' = MatchBool turned
    ((left : List ℕ) → IsReached t (job ∷ left) unit h xs → IsReached t left unit' h' xs')
    ((unit' ≡ unit) × (h' ≡ h) × (xs' ≡ xs) × (unit * at t.times.items job ≤ amount (rate_at (at t.speeds.items) (h - 1)) xs))

-- Each place before the last can do so much on the tape, from its begin to its end.
pub record DoHold (speeds holds : List ℕ) (h : ℕ) (early late : List Segment) : Type 0 where
  pub many : h ≤ length holds
  pub each : (k : ℕ) → k < h → at holds k ≡ amount (rate_at (at speeds) k) early + amount (rate_at (at speeds) k) late

-- The jobs need no more than the last place can do.
abbrev pub AreShort : Task → List ℕ → ℕ → ℕ → List Segment → Type 0
AreShort t left unit h xs = All (λ j. unit * at t.times.items j ≤ amount (rate_at (at t.speeds.items) (h - 1)) xs) left

-- What is laid ends within the limits.
pub record IsWithin (t : Task) (unit end : ℕ) : Type 0 where
  pub some : 1 ≤ unit
  pub small : unit ≤ GREATEST_PRODUCT
  pub short : end ≤ unit * greatest_work
  pub least : IsLeast t unit end

-- Some jobs are on the tape, and these are left.
pub record IsTaped (t : Task) (left : List ℕ) (unit h : ℕ) (early late : List Segment) : Type 0 where
  pub end : ℕ
  pub tape : IsTape t.speeds.items (length t.times.items) (at t.times.items) left unit end h early late
  pub whole : IsWholeTape t.speeds.items t.multiple h early late
  pub fine : t.multiple ∣ unit
  pub within : IsWithin t unit end
  pub few : length early + length late + 2 * length left ≤ 2 * MOST_JOBS + MOST_MACHINES

-- All jobs are laid.
pub record IsFilled (t : Task) (unit : ℕ) (xs : List Segment) : Type 0 where
  pub end : ℕ
  pub slices : All (λ x. IsSliceOf (length t.speeds.items) (length t.times.items) x.length x.body.value.jobs) xs
  pub whole : amount (λ _. 1) xs ≡ end
  pub done : (j : ℕ) → j < length t.times.items → amount (job_rate (length t.speeds.items) (at t.speeds.items) j) xs ≡ unit * at t.times.items j
  pub within : IsWithin t unit end
  pub few : length xs ≤ 2 * MOST_JOBS + MOST_MACHINES

-- A place of the segments can be laid with a job that gains so much.
pub record CanBeLaid (speeds : List ℕ) (place gain : ℕ) (xs : List Segment) : Type 0 where
  pub machines : All (λ x. length x.body.value.jobs ≡ length speeds) xs
  pub places : All (HasPlaces (length speeds) false place) xs
  pub short : All (λ x. x.length ≤ greatest_length) xs
  pub gains : CanGain (rate_at (at speeds) place) gain xs

-- The job is laid on the last place.
pub record IsLaidHere (speed : ℕ → ℕ) (job place work : ℕ) (early late early' late' : List Segment) : Type 0 where
  pub firsts : List Segment
  pub laid : AreLaid false speed job place work 0 late firsts late'
  pub early_is : early' ≡ early ++ firsts

-- The job takes what is left of the last place, and more of the place before it.
pub record IsLaidOver (speed : ℕ → ℕ) (job place rest more : ℕ) (early late : List Segment) (place' : ℕ) (early' late' : List Segment) : Type 0 where
  pub firsts : List Segment
  pub none : List Segment
  pub seconds : List Segment
  pub laid : AreLaid false speed job place rest 0 late firsts none
  pub also : AreLaid false speed job place' more 0 early early' seconds
  pub late_is : late' ≡ seconds ++ firsts
  pub place_is : place ≡ suc place'

-- The next job is on the tape, and each place holds what it held.
pub record IsNextTape (t : Task) (holds : List ℕ) (job unit h : ℕ) (early late : List Segment) (h' rest : ℕ) (early' late' : List Segment) : Type 0 where
  pub held : DoHold t.speeds.items holds h' early' late'
  pub left : rest ≡ amount (rate_at (at t.speeds.items) h') late'
  pub taped : (jobs : List ℕ) → IsTaped t (job ∷ jobs) unit h early late → IsTaped t jobs unit h' early' late'
