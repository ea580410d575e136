-- The proofs that are tried for a cost, and the first that shows just this cost.
use Rattle.std.specs.Prelude.{◌≡◌, ℕ, ◌+◌, ◌<◌, ◌⊎◌, ◌++◌, List, length, map, take, slice_get, Option, Some, None, ℤ, pos, ◌*ℤ◌, All, AllPairs, IsPermutation}
use Rattle.std.specs.List.{range_with_len}
use Rattle.msp_instance.specs.declared.Instance.{Instance}
use Rattle.msp_instance.specs.Instance.{need_at}
use Rattle.msp_pieces.specs.declared.Frac.{Frac}
use Rattle.msp_pieces.specs.Levels.{AreLevels}
use Rattle.msp_cert.specs.declared.Proof.{Proof}
use Rattle.msp_cert.specs.declared.Proof.TheVariants.{Group, Machine, Line, Levels}
use Rattle.msp_cert.specs.Certificates.{HoldsFor, IsValue, of_job}

-- The evidence of the proof holds, and its value is the cost.
pub record HasValue (i : Instance) (cost : Frac) (proof : Proof) : Type 0 where
  pub holds : HoldsFor i proof
  pub num : ℤ
  pub den : ℕ
  pub value : IsValue i proof num den
  pub same : (cost.num *ℤ pos den) ≡ (num *ℤ cost.den)

-- All jobs, the longest first, ties to the lesser number.
pub record AreLongestFirst (i : Instance) (jobs : List ℕ) : Type 0 where
  pub all : IsPermutation (range_with_len 0 (length i.jobs)) jobs
  pub falls : AllPairs (λ j k. ((need_at i k 0).time < (need_at i j 0).time) ⊎ (((need_at i k 0).time ≡ (need_at i j 0).time) × (j < k))) jobs

-- The levels of all jobs.
pub record AreAllLevels (i : Instance) (level : List ℕ) : Type 0 where
  pub each : length level ≡ length i.jobs
  pub levels : AreLevels i (of_job level)

-- The proofs of each kind that are tried, in order: the longest jobs, from one on; each machine; each job; and the levels with each tail, from 0
-- on. No level is as great as the number of jobs.
abbrev pub groups : Instance → List ℕ → List Proof
groups i longest = map (λ k. Group (take (k + 1) longest)) (range_with_len 0 (length i.jobs))

abbrev pub machines : Instance → List Proof
machines i = map Machine (range_with_len 0 i.machines)

abbrev pub lines : Instance → List Proof
lines i = map Line (range_with_len 0 (length i.jobs))

abbrev pub tails : Instance → List ℕ → List Proof
tails i level = map (Levels level) (range_with_len 0 (length i.jobs))

abbrev pub tried : Instance → List ℕ → List ℕ → List Proof
tried i longest level = groups i longest ++ (machines i ++ (lines i ++ tails i level))

-- The first of a list that has a property: none exactly where none has it.
abbrev pub IsFirst : (Proof → Type 0) → List Proof → Option Proof → Type 0
IsFirst P all None = All (λ p. ¬ P p) all
IsFirst P all (Some p) = (k : ℕ) × (slice_get all k ≡ Some p) × P p × All (λ q. ¬ P q) (take k all)

-- What is found is the first of the proofs tried that has the cost as its value.
pub record IsFound (i : Instance) (cost : Frac) (found : Option Proof) : Type 0 where
  pub longest : List ℕ
  pub level : List ℕ
  pub jobs : AreLongestFirst i longest
  pub levels : AreAllLevels i level
  pub first : IsFirst (HasValue i cost) (tried i longest level) found
