-- When a schedule is feasible for an instance: all pairs of pieces are compared, and the unit is any number from 1.
use Rattle.std.specs.Prelude.{◌≡◌, ◌≢◌, ℕ, ◌*◌, ◌/◌, ◌<◌, List, [], ◌∷◌, length, ℤ, pos, ◌+ℤ◌, ◌*ℤ◌, ◌≤ℤ◌, ◌<ℤ◌, slice_index_or, All, AllPairs, fold, map, MatchBool, ⊤}
use Rattle.msp_class.specs.declared.environments.EnvKind.{EnvKind}
use Rattle.msp_class.specs.declared.environments.EnvKind.TheVariants.{Identical, Uniform, Unrelated, OpenShop, FlowShop, JobShop}
use Rattle.msp_class.specs.Env.{kind_of}
use Rattle.msp_instance.specs.declared.Need.{Need}
use Rattle.msp_instance.specs.declared.Instance.{Instance}
use Rattle.msp_instance.specs.Instance.{job_at, need_at}
use Rattle.msp_pieces.specs.declared.Piece.{Piece}
use Rattle.msp_pieces.specs.declared.Schedule.{Schedule}
use Rattle.msp_pieces.specs.Piece.{length_of, IsBefore, IsApart, pieces_of}

-- The job has an operation of this number with work to do. In shops an operation of time 0 has none. Elsewhere a job has the one
-- operation 0, whose times are at least 1.
abbrev pub HasOperation : EnvKind → Instance → ℕ → ℕ → Type 0
HasOperation Identical i j o = o ≡ 0
HasOperation Uniform i j o = o ≡ 0
HasOperation Unrelated i j o = o ≡ 0
HasOperation OpenShop i j o = (o < length (job_at i j).needs) × ((need_at i j o).time ≢ 0)
HasOperation FlowShop i j o = (o < length (job_at i j).needs) × ((need_at i j o).time ≢ 0)
HasOperation JobShop i j o = (o < length (job_at i j).needs) × ((need_at i j o).time ≢ 0)

-- The machine may run the operation: any machine of the instance, and in shops the operation's own.
abbrev pub MayRun : EnvKind → Instance → ℕ → ℕ → ℕ → Type 0
MayRun Identical i j o m = m < i.machines
MayRun Uniform i j o m = m < i.machines
MayRun Unrelated i j o m = m < i.machines
MayRun OpenShop i j o m = m ≡ (need_at i j o).machine
MayRun FlowShop i j o m = m ≡ (need_at i j o).machine
MayRun JobShop i j o m = m ≡ (need_at i j o).machine

-- The piece names a job of the instance, an operation of it with work to do, and a machine that may run it.
pub record HasPlace (i : Instance) (p : Piece) : Type 0 where
  pub job : p.job < length i.jobs
  pub operation : HasOperation (kind_of i.class.env) i p.job p.op
  pub machine : MayRun (kind_of i.class.env) i p.job p.op p.machine

-- On flow and job shops the operations of a job follow each other.
abbrev pub FollowsRoute : EnvKind → List Piece → Type 0
FollowsRoute Identical pieces = ⊤
FollowsRoute Uniform pieces = ⊤
FollowsRoute Unrelated pieces = ⊤
FollowsRoute OpenShop pieces = ⊤
FollowsRoute FlowShop pieces = All (λ p. All (λ q. p.job ≡ q.job → p.op < q.op → IsBefore p q) pieces) pieces
FollowsRoute JobShop pieces = All (λ p. All (λ q. p.job ≡ q.job → p.op < q.op → IsBefore p q) pieces) pieces

-- The total of numbers.
abbrev pub total : List ℤ → ℤ
total xs = fold ◌+ℤ◌ (pos 0) xs

-- The product of a job's times on all machines.
abbrev pub product_of_times : List Need → ℕ
product_of_times needs = fold (λ a n. a * n.time) 1 needs

-- What a piece adds to its operation, where the whole operation takes what `whole_work` says: its length, on uniform machines times
-- the machine's speed, and on unrelated machines times the product of the job's times on the other machines.
abbrev pub work_of : EnvKind → Instance → Piece → ℤ
work_of Identical i p = length_of p
work_of Uniform i p = length_of p *ℤ pos (slice_index_or i.speeds p.machine 0)
work_of Unrelated i p = length_of p *ℤ pos (product_of_times (job_at i p.job).needs / (need_at i p.job p.machine).time)
work_of OpenShop i p = length_of p
work_of FlowShop i p = length_of p
work_of JobShop i p = length_of p

abbrev pub whole_work : EnvKind → Instance → ℕ → ℕ → ℕ
whole_work Identical i j o = (need_at i j o).time
whole_work Uniform i j o = (need_at i j o).time
whole_work Unrelated i j o = product_of_times (job_at i j).needs
whole_work OpenShop i j o = (need_at i j o).time
whole_work FlowShop i j o = (need_at i j o).time
whole_work JobShop i j o = (need_at i j o).time

-- A piece is the whole operation. On unrelated machines its length is the job's time on the piece's machine.
abbrev pub IsWholeWork : EnvKind → Instance → ℤ → Piece → Type 0
IsWholeWork Identical i unit p = length_of p ≡ unit *ℤ pos (need_at i p.job p.op).time
IsWholeWork Uniform i unit p = length_of p *ℤ pos (slice_index_or i.speeds p.machine 0) ≡ unit *ℤ pos (need_at i p.job p.op).time
IsWholeWork Unrelated i unit p = length_of p ≡ unit *ℤ pos (need_at i p.job p.machine).time
IsWholeWork OpenShop i unit p = length_of p ≡ unit *ℤ pos (need_at i p.job p.op).time
IsWholeWork FlowShop i unit p = length_of p ≡ unit *ℤ pos (need_at i p.job p.op).time
IsWholeWork JobShop i unit p = length_of p ≡ unit *ℤ pos (need_at i p.job p.op).time

-- An operation gets its work: where it may be cut, in pieces that add up to it; elsewhere in exactly one piece.
abbrev pub GetsWork : Instance → Schedule → ℕ → ℕ → Type 0
GetsWork i s j o = MatchBool i.class.cut
    (total (map (work_of (kind_of i.class.env) i) (pieces_of s j o)) ≡ s.unit *ℤ pos (whole_work (kind_of i.class.env) i j o))
    ((p : Piece) × (pieces_of s j o ≡ p ∷ []) × IsWholeWork (kind_of i.class.env) i s.unit p)

-- The schedule is feasible for the instance.
pub record Feasible (i : Instance) (s : Schedule) : Type 0 where
  -- the unit is at least 1
  pub unit : pos 1 ≤ℤ s.unit
  -- each piece lasts, from moment 0 on
  pub span : All (λ p. (pos 0 ≤ℤ p.from) × (p.from <ℤ p.to)) s.pieces
  pub place : All (HasPlace i) s.pieces
  -- pieces of one machine do not overlap, nor do pieces of one job
  pub machine : AllPairs (λ p q. p.machine ≡ q.machine → IsApart p q) s.pieces
  pub job : AllPairs (λ p q. p.job ≡ q.job → IsApart p q) s.pieces
  -- no piece begins before its job's release date
  pub release : All (λ p. (s.unit *ℤ pos (job_at i p.job).release) ≤ℤ p.from) s.pieces
  -- each piece of an arc's job before ends no later than any piece of its job after begins
  pub arc : All (λ a. All (λ p. All (λ q. p.job ≡ a.before → q.job ≡ a.after → IsBefore p q) s.pieces) s.pieces) i.arcs
  pub route : FollowsRoute (kind_of i.class.env) s.pieces
  -- each operation with work to do gets its work
  pub work : (j o : ℕ) → j < length i.jobs → HasOperation (kind_of i.class.env) i j o → GetsWork i s j o
