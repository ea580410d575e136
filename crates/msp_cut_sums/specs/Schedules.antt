-- Which pieces the rules give, by the places of the jobs in an order by falling time or weight.
use Rattle.std.specs.Prelude.{◌≡◌, ◌≢◌, ℕ, ◌+◌, ◌*◌, ◌/◌, ◌%◌, ◌<◌, List, length, map, pos, All, AllPairs}
use Rattle.std.specs.List.{range_with_len}
use Rattle.msp_instance.specs.declared.Instance.{Instance}
use Rattle.msp_instance.specs.Instance.{common_time}
use Rattle.msp_pieces.specs.declared.Piece.{Piece}
use Rattle.msp_pieces.specs.declared.Schedule.{Schedule}
use Rattle.msp_pieces.specs.BackToBack.{time_at}
use Rattle.msp_cut_sums.specs.Sums.{at, weight_at, IsByFalling}

-- A piece of an operation on a machine.
abbrev pub part : ℕ → ℕ → ℕ → ℕ → ℕ → Piece
part job op machine from to = record { job = job; op = op; machine = machine; from = pos from; to = pos to }

-- No operation is cut: no two pieces are of one.
abbrev pub CutsNone : Schedule → Type 0
CutsNone s = AllPairs (λ p q. p.job ≡ q.job → p.op ≢ q.op) s.pieces

-- On m machines the job at a place ends as long after the job m places behind it as it takes. Behind the last place that is 0.
pub record AreEnds (m : ℕ) (times ends : List ℕ) : Type 0 where
  pub many : length ends ≡ length times
  pub each : (k : ℕ) → k < length times → at ends k ≡ at times k + at ends (k + m)

-- The pieces of jobs that end so: place k is on machine k mod m.
abbrev pub stacked_piece : ℕ → List ℕ → List ℕ → ℕ → Piece
stacked_piece m order ends k = part (at order k) 0 (k % m) (at ends (k + m)) (at ends k)

-- The jobs by falling time, on each machine the shorter before the longer.
pub record IsStackedSchedule (i : Instance) (s : Schedule) : Type 0 where
  pub order : List ℕ
  pub ends : List ℕ
  pub falls : IsByFalling (length i.jobs) (time_at i) order
  pub are : AreEnds i.machines (map (time_at i) order) ends
  pub unit : s.unit ≡ pos 1
  pub pieces : s.pieces ≡ map (stacked_piece i.machines order ends) (range_with_len 0 (length i.jobs))

-- The pieces of jobs of one time, m at a time: place k is on machine k mod m in slot k / m.
abbrev pub blocked_piece : ℕ → ℕ → List ℕ → ℕ → Piece
blocked_piece m time order k = part (at order k) 0 (k % m) (k / m * time) ((k / m + 1) * time)

-- The jobs by falling weight, as many at a time as there are machines.
pub record IsBlockedSchedule (i : Instance) (s : Schedule) : Type 0 where
  pub order : List ℕ
  pub falls : IsByFalling (length i.jobs) (weight_at i) order
  pub unit : s.unit ≡ pos 1
  pub pieces : s.pieces ≡ map (blocked_piece i.machines (common_time i) order) (range_with_len 0 (length i.jobs))

-- Jobs that go round m machines in m slots: in slot r of its block place k is on machine k + r mod m.
abbrev pub round_piece : ℕ → ℕ → List ℕ → ℕ → ℕ → Piece
round_piece m time order k r = part (at order k) ((k + r) % m) ((k + r) % m) ((k / m * m + r) * time) ((k / m * m + r + 1) * time)

-- The jobs by falling weight, in blocks of as many as there are machines.
pub record IsRoundSchedule (i : Instance) (s : Schedule) : Type 0 where
  pub order : List ℕ
  pub falls : IsByFalling (length i.jobs) (weight_at i) order
  pub unit : s.unit ≡ pos 1
  pub pieces : All (λ p. (k : ℕ) × (r : ℕ) × (k < length i.jobs) × (r < i.machines) × (p ≡ round_piece i.machines (common_time i) order k r)) s.pieces
