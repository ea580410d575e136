-- Parts of the time, in each of which every machine has one job or is free. No public contract cites this file.
use Rattle.std.specs.Prelude.{◌≡◌, ◌≢◌, ℕ, suc, ◌+◌, ◌-◌, ◌*◌, ◌^◌, ◌<◌, ◌≤◌, ◌⊎◌, min, ◌==◌, ⊤, Bool, true, false, List, [], ◌∷◌, ◌++◌, length, map, take, drop, slice_index_or}
use Rattle.std.specs.Prelude.{slice_set, remove, All, sum_by, if◌then◌else◌}
use Rattle.std.specs.Int.{◌∣◌}
use Rattle.std.specs.List.{AllZip}
use Rattle.msp_class.specs.Sums.{total_below}
use Rattle.msp_uniform.specs.declared.segments.Segment.{Segment}

abbrev pub at : List ℕ → ℕ → ℕ
at xs k = slice_index_or xs k 0

-- The most that segments last together: at least GREATEST_PRODUCT * MOST_JOBS * GREATEST.
abbrev pub greatest_length : ℕ
greatest_length = 10 ^ 25

abbrev pub job_on : Segment → ℕ → ℕ
job_on x m = at x.body.value.jobs m

abbrev pub place_at : Segment → ℕ → ℕ
place_at x r = at x.body.value.free r

-- Of m machines h are free, the fastest first; the others have jobs below n, each a different one.
pub record IsSegment (m n : ℕ) (speed : ℕ → ℕ) (h : ℕ) (x : Segment) : Type 0 where
  pub lasts : 1 ≤ x.length
  pub all : length x.body.value.jobs ≡ m
  pub jobs : (i : ℕ) → i < m → job_on x i ≤ n
  pub once : (i j : ℕ) → i < j → j < m → job_on x i ≡ job_on x j → job_on x i ≡ n
  pub places : length x.body.value.free ≡ h
  pub machines : (r : ℕ) → r < h → place_at x r < m
  pub idle : (r : ℕ) → r < h → job_on x (place_at x r) ≡ n
  pub apart : (q r : ℕ) → q < r → r < h → place_at x q ≢ place_at x r
  pub falls : (q r : ℕ) → q ≤ r → r < h → speed (place_at x r) ≤ speed (place_at x q)

-- The job has no machine.
abbrev pub IsAbsent : ℕ → ℕ → Segment → Type 0
IsAbsent m job x = (i : ℕ) → i < m → job_on x i ≢ job

pub record IsPartOf (length : ℕ) (x y : Segment) : Type 0 where
  pub long : y.length ≡ length
  pub jobs : y.body.value.jobs ≡ x.body.value.jobs
  pub free : y.body.value.free ≡ x.body.value.free

-- The job has taken the machine at a place.
pub record IsTaken (job r length : ℕ) (x y : Segment) : Type 0 where
  pub long : y.length ≡ length
  pub jobs : y.body.value.jobs ≡ slice_set x.body.value.jobs (place_at x r) job
  pub free : y.body.value.free ≡ remove x.body.value.free r

-- Such a part stands behind the others.
abbrev pub HasTaken : ℕ → ℕ → ℕ → Segment → List Segment → List Segment → Type 0
HasTaken job r length x old new = (y : Segment) × IsTaken job r length x y × (new ≡ old ++ y ∷ [])

-- The speed of the machine at a place, and the speed at which the job is done.
abbrev pub rate_at : (ℕ → ℕ) → ℕ → Segment → ℕ
rate_at speed r x = speed (place_at x r)

abbrev pub job_rate : ℕ → (ℕ → ℕ) → ℕ → Segment → ℕ
job_rate m speed job x = total_below m (λ i. if job_on x i == job then speed i else 0)

-- What segments hold at a rate, all together.
abbrev pub amount : (Segment → ℕ) → List Segment → ℕ
amount rate xs = sum_by (λ x. x.length * rate x) xs

-- What the machines at each of the first places can do.
pub record AreWorks (speed : ℕ → ℕ) (places : ℕ) (xs : List Segment) (works : List ℕ) : Type 0 where
  pub many : length works ≡ places
  pub each : (k : ℕ) → k < places → at works k ≡ amount (rate_at speed k) xs

-- Segments that are cut in two parts, the first of which has become one thing, and the second another. Either part may be missing. The
-- numbers are the lengths of the first parts.
pub data IsLaid (First Second : Segment → Segment → Type 0) : List ℕ → List Segment → List Segment → List Segment → Type 0 where
  none : IsLaid First Second [] [] [] []
  first : {zs : List ℕ} {x a : Segment} {xs firsts seconds : List Segment}
      → First x a → a.length ≡ x.length → IsLaid First Second zs xs firsts seconds → IsLaid First Second (a.length ∷ zs) (x ∷ xs) (a ∷ firsts) seconds
  second : {zs : List ℕ} {x b : Segment} {xs firsts seconds : List Segment}
      → Second x b → b.length ≡ x.length → IsLaid First Second zs xs firsts seconds → IsLaid First Second (0 ∷ zs) (x ∷ xs) firsts (b ∷ seconds)
  both : {zs : List ℕ} {x a b : Segment} {xs firsts seconds : List Segment} → First x a → Second x b → 1 ≤ a.length → 1 ≤ b.length
      → a.length + b.length ≡ x.length → IsLaid First Second zs xs firsts seconds → IsLaid First Second (a.length ∷ zs) (x ∷ xs) (a ∷ firsts) (b ∷ seconds)

-- The sum of what the first parts gain at a rate.
abbrev pub gained : (Segment → ℕ) → List ℕ → List Segment → ℕ
gained rate [] xs = 0
gained rate (z ∷ zs) [] = 0
gained rate (z ∷ zs) (x ∷ xs) = z * rate x + gained rate zs xs

-- So much can be gained from the first segments on, and the last one of which only a part is needed is cut at a whole moment.
abbrev pub CanGain : (Segment → ℕ) → ℕ → List Segment → Type 0
CanGain rate left [] = left ≡ 0
CanGain rate left (x ∷ xs) = ((x.length * rate x ≤ left) × CanGain rate (left - x.length * rate x) xs) ⊎ ((left < x.length * rate x) × (rate x ∣ left))

-- The first part of a segment runs the job at a place. The second part runs it at the next place, or stays free.
abbrev pub IsFirst : ℕ → ℕ → Segment → Segment → Type 0
IsFirst job r x y = IsTaken job r y.length x y

abbrev pub IsSecond : Bool → ℕ → ℕ → Segment → Segment → Type 0
IsSecond true job r x y = IsTaken job (suc r) y.length x y
IsSecond false job r x y = IsPartOf y.length x y

-- How much more of the job is done in the first part.
abbrev pub gain_at : Bool → (ℕ → ℕ) → ℕ → Segment → ℕ
gain_at true speed r x = rate_at speed r x - rate_at speed (suc r) x
gain_at false speed r x = rate_at speed r x

-- No segment is cut but one, the last of which something is needed.
abbrev pub AreFew : ℕ → ℕ → ℕ → Type 0
AreFew parts segments left = (parts ≤ segments) ⊎ ((left ≡ 0) × (parts ≤ segments + 1))

-- The parts are whole up to one, after which there are none.
abbrev pub InOrder : List ℕ → List Segment → Type 0
InOrder [] xs = ⊤
InOrder (z ∷ zs) [] = ⊤
InOrder (z ∷ zs) (x ∷ xs) = ((z ≡ x.length) × InOrder zs xs) ⊎ All (λ y. y ≡ 0) zs

-- The first parts are in order, and whole while something is left to gain.
pub record AreOrdered (left : ℕ) (parts : List ℕ) (xs : List Segment) : Type 0 where
  pub order : InOrder parts xs
  pub whole : 1 ≤ left → parts ≡ map (λ x. x.length) xs

-- What is done before a segment is a multiple of the rate in it.
abbrev pub AreWhole : (Segment → ℕ) → ℕ → List Segment → Type 0
AreWhole rate before [] = ⊤
AreWhole rate before (x ∷ xs) = (rate x ∣ before) × AreWhole rate (before + x.length * rate x) xs

-- The segments are laid so far that so much is left to gain.
pub record AreLaid (swap : Bool) (speed : ℕ → ℕ) (job r whole left : ℕ) (xs firsts seconds : List Segment) : Type 0 where
  pub parts : List ℕ
  pub laid : IsLaid (IsFirst job r) (IsSecond swap job r) parts xs firsts seconds
  pub gains : gained (gain_at swap speed r) parts xs + left ≡ whole
  -- where each segment gains something
  pub order : All (λ x. 1 ≤ gain_at swap speed r x) xs → AreOrdered left parts xs
  pub few : AreFew (length firsts + length seconds) (length xs) left

-- One segment is laid after others.
pub record IsOneLaid (swap : Bool) (speed : ℕ → ℕ) (job r whole left : ℕ) (x : Segment) (firsts seconds firsts' seconds' : List Segment) : Type 0 where
  pub firsts_new : List Segment
  pub seconds_new : List Segment
  pub firsts_are : firsts' ≡ firsts ++ firsts_new
  pub seconds_are : seconds' ≡ seconds ++ seconds_new
  pub part : ℕ
  pub laid : IsLaid (IsFirst job r) (IsSecond swap job r) (part ∷ []) (x ∷ []) firsts_new seconds_new
  pub gains : part * gain_at swap speed r x + left ≡ whole
  pub enough : x.length * gain_at swap speed r x ≤ whole → left ≡ whole - x.length * gain_at swap speed r x
  pub short : whole < x.length * gain_at swap speed r x → left ≡ 0
  pub few : (length firsts_new + length seconds_new ≤ 1) ⊎ ((1 ≤ whole) × (left ≡ 0) × (length firsts_new + length seconds_new ≤ 2))

-- The places at which a job is laid are there, and their machines are among the first m.
abbrev pub HasPlaces : ℕ → Bool → ℕ → Segment → Type 0
HasPlaces m true r x = (suc r < length x.body.value.free) × (place_at x r < m) × (place_at x (suc r) < m)
HasPlaces m false r x = (r < length x.body.value.free) × (place_at x r < m)

-- The first of late segments is laid: what is early grows by its first part, and its second part is late.
pub record IsFirstLaid (speed : ℕ → ℕ) (job r whole left : ℕ) (x : Segment) (early late early' late' : List Segment) : Type 0 where
  pub seconds : List Segment
  pub laid : IsOneLaid false speed job r whole left x early [] early' seconds
  pub late_is : late' ≡ seconds ++ late
  -- nothing is left to gain where there is a second part
  pub few : length seconds + min 1 left ≤ 1
  pub more : CanGain (rate_at speed r) left late

-- Some segments are laid, and the others hold what is left to gain.
pub record IsLaying (speed : ℕ → ℕ) (job r whole left : ℕ) (xs early early' late' : List Segment) : Type 0 where
  pub done : List Segment
  pub others : List Segment
  pub firsts : List Segment
  pub seconds : List Segment
  pub all : xs ≡ done ++ others
  pub laid : AreLaid false speed job r whole left done firsts seconds
  pub early_is : early' ≡ early ++ firsts
  pub late_is : late' ≡ seconds ++ others
  pub few : length seconds + min 1 left ≤ 1
  pub more : CanGain (rate_at speed r) left others

-- The segments before those ahead are laid, each part at its place, and those ahead hold what is left to gain.
pub record AreLaidUpTo (speed : ℕ → ℕ) (job r whole left : ℕ) (xs ahead firsts seconds : List Segment) : Type 0 where
  pub done : List Segment
  pub all : xs ≡ done ++ ahead
  pub laid : AreLaid true speed job r whole left done firsts seconds
  pub more : CanGain (gain_at true speed r) left ahead

-- The rate of the first segment at which enough is gained, and any where nothing is left to gain.
abbrev pub StopsAt : (Segment → ℕ) → ℕ → List Segment → ℕ → Type 0
StopsAt rate left [] d = left ≡ 0
StopsAt rate left (x ∷ xs) d = ((x.length * rate x ≤ left) × StopsAt rate (left - x.length * rate x) xs d) ⊎ ((left < x.length * rate x) × (d ≡ rate x))

-- The factor is 1, or a difference of two speeds that is at least 1.
abbrev pub IsDifference : List ℕ → ℕ → Type 0
IsDifference speeds d = (d ≡ 1) ⊎ ((1 ≤ d) × (a : ℕ) × (b : ℕ) × (a < length speeds) × (b < length speeds) × (d ≡ at speeds a - at speeds b))

-- The first k segments gain all but what is left, and the others stop there.
pub record IsSeeking (rate : Segment → ℕ) (whole left k : ℕ) (xs : List Segment) : Type 0 where
  pub stops : (d : ℕ) → StopsAt rate left (drop k xs) d → StopsAt rate whole xs d
  pub gains : whole ≡ left + amount rate (take k xs)

-- The segments are the others over a finer unit.
abbrev pub AreScaled : ℕ → List Segment → List Segment → Type 0
AreScaled d xs ys = AllZip (λ x y. IsPartOf (x.length * d) x y) xs ys

-- Those before the ones ahead are.
pub record AreScaledUpTo (d : ℕ) (xs ahead ys : List Segment) : Type 0 where
  pub done : List Segment
  pub all : xs ≡ done ++ ahead
  pub scaled : AreScaled d done ys
