-- The tasks of Moore's rule: what they say of jobs, how they compare, and what the rule does with them. No public contract cites this
-- file.
use Rattle.std.specs.Prelude.{◌≡◌, ℕ, ◌<◌, ◌≤◌, ◌⊎◌, ◌<ℤ◌, ◌++◌, List, [], ◌∷◌, map, AllPairs, IsPermutation}
use Rattle.std.specs.List.{remove}
use Rattle.msp_instance.specs.declared.Instance.{Instance}
use Rattle.msp_instance.specs.Instance.{job_at, need_at}
use Rattle.msp_single.specs.declared.moore.Task.{Task}
use Rattle.msp_single.specs.Moore.{IsLongest, IsChoice}

-- The task says how long its job takes and when it is due.
abbrev pub IsTask : Instance → Task → Type 0
IsTask i t = (t.time ≡ (need_at i t.job 0).time) × (t.due ≡ (job_at i t.job).due)

-- Task a is due before task b, or at the same date and has no greater number.
abbrev pub IsDueFirst : Task → Task → Type 0
IsDueFirst a b = (a.due <ℤ b.due) ⊎ ((a.due ≡ b.due) × (a.job ≤ b.job))

-- Task a takes longer than task b, or as long and has no greater number.
abbrev pub Outlasts : Task → Task → Type 0
Outlasts a b = (b.time < a.time) ⊎ ((b.time ≡ a.time) × (a.job ≤ b.job))

-- Of the tasks that were seen these are accepted, and those are dropped.
abbrev pub AreChosen : List Task → List Task → List Task → Type 0
AreChosen = IsChoice (λ t. t.time) (λ t. t.job) (λ t. t.due)

-- The longest task that is accepted is dropped behind the others.
abbrev pub DropsLongest : List Task → List Task → List Task → List Task → Type 0
DropsLongest accepted dropped kept after =
    (place : ℕ) × (longest : Task) × IsLongest (λ t. t.time) (λ t. t.job) accepted place longest × (kept ≡ remove accepted place) × (after ≡ dropped ++ longest ∷ [])

-- The numbers of the tasks that are accepted, and then of those that are dropped, in order.
abbrev pub IsOrderOf : List Task → List Task → List ℕ → Type 0
IsOrderOf accepted dropped order = (late : List Task) × IsPermutation dropped late × AllPairs (λ a b. a.job ≤ b.job) late × (order ≡ map (λ t. t.job) (accepted ++ late))
