-- The class that Horn's rule solves, and the order in which the rule puts the jobs.
use Rattle.std.specs.Prelude.{◌≡◌, ◌==◌, ℕ, ◌*◌, ◌<◌, ◌≤◌, ◌⊎◌, false, List, [], ◌∷◌, ◌++◌, length, map, slice_index_or, slice_set, Contains, sum_by, if◌then◌else◌}
use Rattle.std.specs.List.{range_with_len, remove}
use Rattle.msp_class.specs.declared.class.Class.{Class}
use Rattle.msp_class.specs.declared.class.Env.TheVariants.{One}
use Rattle.msp_class.specs.declared.class.Order.TheVariants.{Outtree}
use Rattle.msp_class.specs.declared.class.Times.TheVariants.{General}
use Rattle.msp_class.specs.declared.class.Crit.TheVariants.{SumWC}
use Rattle.msp_instance.specs.declared.Arc.{Arc}
use Rattle.msp_instance.specs.declared.Instance.{Instance}
use Rattle.msp_instance.specs.Instance.{job_at, need_at}

-- One machine, at most one predecessor for each job, neither preemption nor release dates, any times, and the sum of weighted completion
-- times: `1|outtree|sumwC`.
abbrev pub horn_class : Class
horn_class = record { env = One; cut = false; order = Outtree; heads = false; times = General; crit = SumWC }

-- Where the job's first arc into it comes from, and the start where there is none.
abbrev pub first_before : List Arc → ℕ → ℕ → ℕ
first_before [] start j = start
first_before (a ∷ arcs) start j = if a.after == j then a.before else first_before arcs start j

-- What is before the job: its predecessor, and else the start, which has the number after the last job's.
abbrev pub before : Instance → ℕ → ℕ
before i j = first_before i.arcs (length i.jobs) j

abbrev pub weight_at : Instance → ℕ → ℕ
weight_at i j = (job_at i j).weight

-- How long the jobs of a block take, and what they weigh.
abbrev pub time_of : Instance → List ℕ → ℕ
time_of i jobs = sum_by (λ j. (need_at i j 0).time) jobs

abbrev pub weight_of : Instance → List ℕ → ℕ
weight_of i jobs = sum_by (weight_at i) jobs

-- Block a is joined before block b: it has the greater weight for its time, or as great a one and the lesser first job.
abbrev pub IsJoinedBefore : Instance → List ℕ → List ℕ → Type 0
IsJoinedBefore i a b =
    (weight_of i b * time_of i a < weight_of i a * time_of i b)
    ⊎ ((weight_of i b * time_of i a ≡ weight_of i a * time_of i b) × (slice_index_or a 0 0 ≤ slice_index_or b 0 0))

-- The block at the place is joined before all others but the first one.
abbrev pub GoesNext : Instance → List (List ℕ) → ℕ → Type 0
GoesNext i blocks place = (k : ℕ) → 1 ≤ k → k < length blocks → IsJoinedBefore i (slice_index_or blocks place []) (slice_index_or blocks k [])

-- The block that goes next is joined behind the one that holds what is before its first job.
pub record IsJoining (i : Instance) (blocks new : List (List ℕ)) (place behind : ℕ) : Type 0 where
  pub later : 1 ≤ place
  pub inside : place < length blocks
  pub next : GoesNext i blocks place
  pub there : behind < length (remove blocks place)
  pub holds : Contains (slice_index_or (remove blocks place) behind []) (before i (slice_index_or (slice_index_or blocks place []) 0 0))
  pub is : new ≡ slice_set (remove blocks place) behind (slice_index_or (remove blocks place) behind [] ++ slice_index_or blocks place [])

abbrev pub Joins : Instance → List (List ℕ) → List (List ℕ) → Type 0
Joins i blocks new = (place : ℕ) × (behind : ℕ) × IsJoining i blocks new place behind

-- One block after another is joined.
pub data JoinTo (i : Instance) : List (List ℕ) → List (List ℕ) → Type 0 where
  nothing_joined : {blocks : List (List ℕ)} → JoinTo i blocks blocks
  one_more : {first blocks last : List (List ℕ)} → JoinTo i first blocks → Joins i blocks last → JoinTo i first last

-- The start as a block, and each job as one.
abbrev pub single_blocks : ℕ → List (List ℕ)
single_blocks n = (n ∷ []) ∷ map (λ (j : ℕ). j ∷ []) (range_with_len 0 n)

-- The order of the jobs by Horn's rule: all are joined, and stand behind the start.
abbrev pub IsHornOrder : Instance → List ℕ → Type 0
IsHornOrder i order = JoinTo i (single_blocks (length i.jobs)) ((length i.jobs ∷ order) ∷ [])
