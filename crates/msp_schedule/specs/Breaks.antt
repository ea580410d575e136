-- The first condition of a feasible schedule that a schedule breaks, and where.
use Rattle.std.specs.Prelude.{◌≡◌, ℕ, ◌<◌, ◌≤◌, ◌⊎◌, ◌↔◌, List, length, ℤ, pos, ◌*ℤ◌, ◌≤ℤ◌, ◌<ℤ◌, slice_index_or, filter, ◌==◌, ◌&&◌, Option, Some, None, All}
use Rattle.msp_class.specs.declared.environments.EnvKind.TheVariants.{FlowShop, JobShop}
use Rattle.msp_class.specs.Env.{kind_of}
use Rattle.msp_instance.specs.declared.Arc.{Arc as ArcValue}
use Rattle.msp_instance.specs.declared.Instance.{Instance}
use Rattle.msp_instance.specs.Instance.{job_at}
use Rattle.msp_pieces.specs.declared.Piece.{Piece as PieceValue}
use Rattle.msp_pieces.specs.declared.Schedule.{Schedule}
use Rattle.msp_schedule.specs.declared.breaks.Break.{Break}
use Rattle.msp_schedule.specs.declared.breaks.Break.TheVariants.{Span, Place, Machine, Job, Release, Arc, Route, Work}
use Rattle.msp_pieces.specs.Piece.{IsBefore, piece_at}
use Rattle.msp_pieces.specs.Feasible.{Feasible, HasOperation, HasPlace, GetsWork}

-- The arc of a number, from 0.
abbrev pub no_arc : ArcValue
no_arc = record { before = 0; after = 0 }

abbrev pub arc_at : Instance → ℕ → ArcValue
arc_at i k = slice_index_or i.arcs k no_arc

-- The pieces of an operation of a job.
abbrev pub pieces_among : List PieceValue → ℕ → ℕ → List PieceValue
pieces_among pieces j o = filter (λ p. (p.job == j) && (p.op == o)) pieces

-- The number is the least below a bound with a property.
pub record IsLeast (bound : ℕ) (P : ℕ → Type 0) (k : ℕ) : Type 0 where
  pub inside : k < bound
  pub holds : P k
  pub least : (l : ℕ) → l < k → ¬ P l

-- The job and the operation are the first with a property, by job and then by operation.
pub record IsLeastOperation (i : Instance) (P : ℕ → ℕ → Type 0) (j o : ℕ) : Type 0 where
  pub inside : j < length i.jobs
  pub holds : P j o
  pub job : (k q : ℕ) → k < j → ¬ P k q
  pub operation : (q : ℕ) → q < o → ¬ P j q

-- The number is that of the first piece with a property.
abbrev pub IsFirstPiece : (PieceValue → Type 0) → List PieceValue → ℕ → Type 0
IsFirstPiece P pieces k = IsLeast (length pieces) (λ l. P (piece_at pieces l)) k

-- The piece does not last.
abbrev pub IsEmpty : PieceValue → Type 0
IsEmpty p = p.to ≤ℤ p.from

-- The piece begins at its job's release date or later; and it begins earlier.
abbrev pub IsReleased : Instance → ℤ → PieceValue → Type 0
IsReleased i unit p = (unit *ℤ pos (job_at i p.job).release) ≤ℤ p.from

abbrev pub IsEarly : Instance → ℤ → PieceValue → Type 0
IsEarly i unit p = p.from <ℤ (unit *ℤ pos (job_at i p.job).release)

-- Of two pieces by their numbers, the first stands ahead: it begins earlier, or at the same moment with the lesser number.
abbrev pub StandsAhead : List PieceValue → ℕ → ℕ → Type 0
StandsAhead pieces k l = ((piece_at pieces k).from <ℤ (piece_at pieces l).from) ⊎ (((piece_at pieces k).from ≡ (piece_at pieces l).from) × (k < l))

-- The second piece begins before the first one ends, which stands ahead of it on the same machine, or in the same job.
pub record Overlaps (lane : PieceValue → ℕ) (pieces : List PieceValue) (first second : ℕ) : Type 0 where
  pub one : first < length pieces
  pub other : second < length pieces
  pub same : lane (piece_at pieces first) ≡ lane (piece_at pieces second)
  pub ahead : StandsAhead pieces first second
  pub early : (piece_at pieces second).from <ℤ (piece_at pieces first).to

-- The two overlap, and no overlap has a second piece that comes earlier, by machine or job and then by what stands ahead.
pub record IsFirstOverlap (lane : PieceValue → ℕ) (pieces : List PieceValue) (first second : ℕ) : Type 0 where
  pub overlap : Overlaps lane pieces first second
  pub least : (k l : ℕ) → Overlaps lane pieces k l → lane (piece_at pieces second) ≤ lane (piece_at pieces l)
  pub earliest : (k l : ℕ) → Overlaps lane pieces k l → lane (piece_at pieces l) ≡ lane (piece_at pieces second) → ¬ StandsAhead pieces l second

-- Each piece of the arc's job before ends no later than any piece of its job after begins.
abbrev pub KeepsArc : List PieceValue → ArcValue → Type 0
KeepsArc pieces a = All (λ p. All (λ q. p.job ≡ a.before → q.job ≡ a.after → IsBefore p q) pieces) pieces

-- Each piece of an earlier operation of the job ends no later than any piece of the operation begins.
abbrev pub KeepsRoute : List PieceValue → ℕ → ℕ → Type 0
KeepsRoute pieces j o = All (λ p. All (λ q. p.job ≡ j → q.job ≡ j → p.op < o → q.op ≡ o → IsBefore p q) pieces) pieces

-- The number is that of the first arc that is not kept.
abbrev pub IsFirstLostArc : List PieceValue → List ArcValue → ℕ → Type 0
IsFirstLostArc pieces arcs k = IsLeast (length arcs) (λ l. ¬ KeepsArc pieces (slice_index_or arcs l no_arc)) k

-- All operations keep their routes, and the first one that does not.
abbrev pub KeepsRoutes : Instance → List PieceValue → Type 0
KeepsRoutes i pieces = (j o : ℕ) → j < length i.jobs → KeepsRoute pieces j o

abbrev pub IsFirstOutOfRoute : Instance → List PieceValue → ℕ → ℕ → Type 0
IsFirstOutOfRoute i pieces j o = IsLeastOperation i (λ k q. ¬ KeepsRoute pieces k q) j o

-- In flow and job shops the operations of a job follow each other.
abbrev pub HasRoutes : Instance → Type 0
HasRoutes i = (kind_of i.class.env ≡ FlowShop) ⊎ (kind_of i.class.env ≡ JobShop)

-- The operation has work to do and does not get it.
abbrev pub LacksWork : Instance → Schedule → ℕ → ℕ → Type 0
LacksWork i s j o = HasOperation (kind_of i.class.env) i j o × (¬ GetsWork i s j o)

-- What a break says, without regard to the conditions before it.
abbrev pub IsBroken : Instance → Schedule → Break → Type 0
IsBroken i s (Span k) = IsFirstPiece IsEmpty s.pieces k
IsBroken i s (Place k) = IsFirstPiece (λ p. ¬ HasPlace i p) s.pieces k
IsBroken i s (Machine k l) = IsFirstOverlap (λ p. p.machine) s.pieces k l
IsBroken i s (Job k l) = IsFirstOverlap (λ p. p.job) s.pieces k l
IsBroken i s (Release k) = IsFirstPiece (IsEarly i s.unit) s.pieces k
IsBroken i s (Arc k) = IsFirstLostArc s.pieces i.arcs k
IsBroken i s (Route j o) = HasRoutes i × IsFirstOutOfRoute i s.pieces j o
IsBroken i s (Work j o) = IsLeastOperation i (LacksWork i s) j o

-- The order in which breaks are looked for.
abbrev pub turn_of : Break → ℕ
turn_of (Span p) = 0
turn_of (Place p) = 1
turn_of (Machine a b) = 2
turn_of (Job a b) = 3
turn_of (Release p) = 4
turn_of (Arc a) = 5
turn_of (Route j o) = 6
turn_of (Work j o) = 7

-- The first break: it is one, and no break of an earlier turn is.
pub record IsFirstBreak (i : Instance) (s : Schedule) (b : Break) : Type 0 where
  pub broken : IsBroken i s b
  pub first : (c : Break) → turn_of c < turn_of b → ¬ IsBroken i s c

-- What is found of a schedule: nothing where it is feasible, and else the first break.
abbrev pub IsDecision : Instance → Schedule → Option Break → Type 0
IsDecision i s None = Feasible i s
IsDecision i s (Some b) = IsFirstBreak i s b

-- The law of the first break.
pub record LawOfFirstBreak : Type 0 where
  -- a schedule has at most one
  pub one : (i : Instance) (s : Schedule) (b c : Break) → IsFirstBreak i s b → IsFirstBreak i s c → b ≡ c
  -- where its unit is at least 1 and no moment is below 0, it has one exactly where it is not feasible
  pub some : (i : Instance) (s : Schedule) → pos 1 ≤ℤ s.unit → All (λ p. pos 0 ≤ℤ p.from) s.pieces
      → ((b : Break) × IsFirstBreak i s b) ↔ (¬ Feasible i s)
