-- Certificates: the evidence of a proof, the bound that it shows, and when a certificate is accepted.
use Rattle.std.specs.Prelude.{◌≡◌, ◌≢◌, ℕ, ◌+◌, ◌*◌, ◌<◌, ◌≤◌, ⊤, false, true, List, length, map, take, sum, sum_by, slice_index_or, ℤ, pos, ◌*ℤ◌, ◌≤ℤ◌, All, AllPairs, Any, IsPermutation}
use Rattle.std.specs.List.{range_with_len}
use Rattle.msp_class.specs.declared.class.Env.TheVariants.{One}
use Rattle.msp_class.specs.declared.class.Times.TheVariants.{Unit as UnitTimes}
use Rattle.msp_class.specs.declared.class.Crit.TheVariants.{Cmax, Fmax, SumC}
use Rattle.msp_class.specs.declared.environments.EnvKind.TheVariants.{Identical, Unrelated}
use Rattle.msp_class.specs.Env.{kind_of, is_shop}
use Rattle.msp_instance.specs.declared.Instance.{Instance}
use Rattle.msp_instance.specs.Conditions.{InClass, LiesWithin}
use Rattle.msp_pieces.specs.declared.Frac.{Frac}
use Rattle.msp_pieces.specs.declared.Schedule.{Schedule}
use Rattle.msp_pieces.specs.Feasible.{Feasible}
use Rattle.msp_pieces.specs.Cost.{cost_of}
use Rattle.msp_pieces.specs.Speeds.{HaveSpeeds, speed_of}
use Rattle.msp_pieces.specs.Levels.{StepsDown, level_bound}
use Rattle.msp_pieces.specs.Loads.{machine_load, job_length}
use Rattle.msp_pieces.specs.Segments.{AreSegments, segments_bound}
use Rattle.msp_pieces.specs.Blocks.{IsBlock, IsBlockValue, total_time}
use Rattle.msp_pieces.specs.Prices.{ArePrices, all_prices}
use Rattle.msp_cert.specs.declared.limits.TheConstants.{MOST_ENTRIES, GREATEST_HEAD, GREATEST_PRICE}
use Rattle.msp_cert.specs.declared.Proof.{Proof}
use Rattle.msp_cert.specs.declared.Proof.TheVariants.{Group, Machine, Line, Levels, Segments, Block, Prices}
use Rattle.msp_cert.specs.declared.Certificate.{Certificate}

-- The speeds of all machines, each 1 where they are identical.
abbrev pub speeds_of : Instance → List ℕ
speeds_of i = map (speed_of i) (range_with_len 0 i.machines)

-- The speed of so many machines together, the fastest ones, or of all where there are not so many: the speeds are listed from the greatest
-- to the least, and the first ones added up.
pub record IsSpeedOfFastest (i : Instance) (count speed : ℕ) : Type 0 where
  pub order : List ℕ
  pub all : IsPermutation (speeds_of i) order
  pub falls : AllPairs (λ x y. y ≤ x) order
  pub first : speed ≡ sum (take count order)

-- A group: at least one job, none twice, on one machine, identical or uniform machines.
pub record IsGroup (i : Instance) (jobs : List ℕ) : Type 0 where
  pub makespan : i.class.crit ≡ Cmax
  pub speeds : HaveSpeeds (kind_of i.class.env)
  pub some : 0 < length jobs
  pub inside : All (λ j. j < length i.jobs) jobs
  pub apart : AllPairs (λ j k. j ≢ k) jobs

-- The makespan of a shop is asked for.
pub record IsShop (i : Instance) : Type 0 where
  pub makespan : i.class.crit ≡ Cmax
  pub shop : is_shop i.class.env ≡ true

-- The makespan of jobs of one unit of time on identical machines, or one machine, is asked for, and no job may be cut.
pub record HasUnitJobs (i : Instance) : Type 0 where
  pub makespan : i.class.crit ≡ Cmax
  pub identical : kind_of i.class.env ≡ Identical
  pub uncut : i.class.cut ≡ false
  pub units : i.class.times ≡ UnitTimes

-- The number of a job in a list with one number for each job.
abbrev pub of_job : List ℕ → ℕ → ℕ
of_job numbers j = slice_index_or numbers j 0

-- Levels, one for each job, that step down along arcs, and some job of at least the level `tail`.
pub record AreSteps (i : Instance) (level : List ℕ) (tail : ℕ) : Type 0 where
  pub units : HasUnitJobs i
  pub each : length level ≡ length i.jobs
  pub steps : StepsDown i (of_job level)
  pub some : Any (λ l. tail ≤ l) level

-- Lists of jobs, of which each is done only after the one before it.
pub record AreLists (i : Instance) (lists : List (List ℕ)) : Type 0 where
  pub units : HasUnitJobs i
  pub segments : AreSegments i lists

-- A block on one machine, where the greatest cost of a job is asked for.
pub record IsBlockOf (i : Instance) (head jobs : List ℕ) : Type 0 where
  pub single : i.class.env ≡ One
  pub greatest : i.class.crit ≡ Fmax
  pub block : IsBlock i head jobs

-- The price of a job, and of the position on machine m that k jobs follow. Columns list the positions machine by machine.
abbrev pub row_price : List ℤ → ℕ → ℤ
row_price row j = slice_index_or row j (pos 0)

abbrev pub column_price : Instance → List ℤ → ℕ → ℕ → ℤ
column_price i column m k = slice_index_or column (m * length i.jobs + k) (pos 0)

-- A price for each job, and for each position on each unrelated machine, where the sum of completion times is asked for and no job may be
-- cut. No position has a price above 0, and the prices of a job and of a position are together at most what the job costs there.
pub record IsPriced (i : Instance) (row column : List ℤ) : Type 0 where
  pub sum : i.class.crit ≡ SumC
  pub unrelated : kind_of i.class.env ≡ Unrelated
  pub uncut : i.class.cut ≡ false
  pub rows : length row ≡ length i.jobs
  pub columns : length column ≡ length i.jobs * i.machines
  pub prices : ArePrices i (row_price row) (column_price i column)

-- The evidence of a proof holds for the instance.
abbrev pub HoldsFor : Instance → Proof → Type 0
HoldsFor i (Group jobs) = IsGroup i jobs
HoldsFor i (Machine machine) = IsShop i × (machine < i.machines)
HoldsFor i (Line job) = IsShop i × (job < length i.jobs)
HoldsFor i (Levels level tail) = AreSteps i level tail
HoldsFor i (Segments lists) = AreLists i lists
HoldsFor i (Block head jobs) = IsBlockOf i head jobs
HoldsFor i (Prices row column) = IsPriced i row column

-- The value of a proof whose evidence holds is the number over the denominator.
abbrev pub IsValue : Instance → Proof → ℤ → ℕ → Type 0
IsValue i (Group jobs) num den = (num ≡ pos (total_time i jobs)) × IsSpeedOfFastest i (length jobs) den
IsValue i (Machine machine) num den = (num ≡ pos (machine_load i machine)) × (den ≡ 1)
IsValue i (Line job) num den = (num ≡ pos (job_length i job)) × (den ≡ 1)
IsValue i (Levels level tail) num den = (num ≡ pos (level_bound i (of_job level) tail)) × (den ≡ 1)
IsValue i (Segments lists) num den = (num ≡ pos (segments_bound i lists)) × (den ≡ 1)
IsValue i (Block head jobs) num den = IsBlockValue i head jobs num × (den ≡ 1)
IsValue i (Prices row column) num den = (num ≡ all_prices i (row_price row) (column_price i column)) × (den ≡ 1)

-- A proof shows a bound for the instance: its evidence holds, and the bound is at most its value.
pub record IsShown (i : Instance) (bound : Frac) (proof : Proof) : Type 0 where
  pub holds : HoldsFor i proof
  pub num : ℤ
  pub den : ℕ
  pub value : IsValue i proof num den
  pub below : (bound.num *ℤ pos den) ≤ℤ (num *ℤ bound.den)

-- A certificate is accepted for the instance: its proof shows its bound.
abbrev pub IsAccepted : Instance → Certificate → Type 0
IsAccepted i c = IsShown i c.bound c.proof

-- So many entries a proof has: jobs, lists, levels with the tail, heads and prices.
abbrev pub entries : Proof → ℕ
entries (Group jobs) = length jobs
entries (Machine machine) = 1
entries (Line job) = 1
entries (Levels level tail) = length level + 1
entries (Segments lists) = length lists + sum_by length lists
entries (Block head jobs) = length head + length jobs
entries (Prices row column) = length row + length column

-- Heads are at most GREATEST_HEAD, and prices at most GREATEST_PRICE in size.
abbrev pub HasSmallNumbers : Proof → Type 0
HasSmallNumbers (Group jobs) = ⊤
HasSmallNumbers (Machine machine) = ⊤
HasSmallNumbers (Line job) = ⊤
HasSmallNumbers (Levels level tail) = ⊤
HasSmallNumbers (Segments lists) = ⊤
HasSmallNumbers (Block head jobs) = All (λ h. h ≤ GREATEST_HEAD) head
HasSmallNumbers (Prices row column) = All (LiesWithin GREATEST_PRICE) row × All (LiesWithin GREATEST_PRICE) column

-- The limits within which a proof is judged: at most MOST_ENTRIES entries, and small numbers.
pub record KeepsLimits (p : Proof) : Type 0 where
  pub few : entries p ≤ MOST_ENTRIES
  pub small : HasSmallNumbers p

-- The law of certificates, for an instance of its class.
pub record LawOfCertificates : Type 0 where
  -- where the evidence of a proof holds, its value is a fraction, and no feasible schedule over any unit costs less
  pub value : (i : Instance) (proof : Proof) (num : ℤ) (den : ℕ) (s : Schedule) → InClass i → HoldsFor i proof → IsValue i proof num den → Feasible i s
      → (1 ≤ den) × ((num *ℤ s.unit) ≤ℤ (cost_of i s *ℤ pos den))
  -- where a certificate is accepted, no feasible schedule over any unit costs less than its bound
  pub bound : (i : Instance) (c : Certificate) (s : Schedule) → InClass i → IsAccepted i c → Feasible i s → (c.bound.num *ℤ s.unit) ≤ℤ (cost_of i s *ℤ c.bound.den)
