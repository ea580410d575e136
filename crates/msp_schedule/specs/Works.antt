-- The work of an operation among some pieces. No public contract cites this file.
use Rattle.std.specs.Prelude.{◌≡◌, ℕ, ◌<◌, ◌≤◌, All, List, [], ◌∷◌, length, ℤ, pos, ◌*ℤ◌, map, slice_index_or, MatchBool}
use Rattle.msp_class.specs.declared.environments.EnvKind.{EnvKind}
use Rattle.msp_class.specs.declared.environments.EnvKind.TheVariants.{Identical, Uniform, Unrelated, OpenShop, FlowShop, JobShop}
use Rattle.msp_class.specs.Env.{IsCutOnUnrelated, kind_of}
use Rattle.msp_instance.specs.declared.Instance.{Instance}
use Rattle.msp_instance.specs.Conditions.{Inner}
use Rattle.msp_pieces.specs.declared.Piece.{Piece}
use Rattle.msp_class.specs.declared.sizes.TheConstants.{MOST_PIECES}
use Rattle.msp_pieces.specs.Piece.{length_of}
use Rattle.msp_pieces.specs.Feasible.{HasOperation, HasPlace, total, work_of, whole_work, IsWholeWork}
use Rattle.msp_schedule.specs.Breaks.{pieces_among, IsLeastOperation}
use Rattle.msp_pieces.specs.Within.{IsMoment}

-- The number of the need that says how long the piece's operation takes: on unrelated machines that of its machine.
abbrev pub need_of : EnvKind → Piece → ℕ
need_of Identical p = p.op
need_of Uniform p = p.op
need_of Unrelated p = p.machine
need_of OpenShop p = p.op
need_of FlowShop p = p.op
need_of JobShop p = p.op

-- How long the piece lasts, on uniform machines times the machine's speed.
abbrev pub measured_by : EnvKind → Instance → Piece → ℤ
measured_by Identical i p = length_of p
measured_by Uniform i p = length_of p *ℤ pos (slice_index_or i.speeds p.machine 0)
measured_by Unrelated i p = length_of p
measured_by OpenShop i p = length_of p
measured_by FlowShop i p = length_of p
measured_by JobShop i p = length_of p

-- Whether operations get their work from these pieces can be decided: the instance is inner, the pieces are few, have their places and
-- bounded moments, and on unrelated machines no operation may be cut.
pub record AreMeasurable (i : Instance) (pieces : List Piece) : Type 0 where
  pub inner : Inner i
  pub checked : ¬ IsCutOnUnrelated i.class
  pub few : length pieces ≤ MOST_PIECES
  pub place : All (HasPlace i) pieces
  pub moments : All (λ p. IsMoment p.from × IsMoment p.to) pieces

-- The operation gets its work from these pieces.
abbrev pub GetsWorkAmong : Instance → ℤ → List Piece → ℕ → ℕ → Type 0
GetsWorkAmong i unit pieces j o = MatchBool i.class.cut
    (total (map (work_of (kind_of i.class.env) i) (pieces_among pieces j o)) ≡ unit *ℤ pos (whole_work (kind_of i.class.env) i j o))
    ((p : Piece) × (pieces_among pieces j o ≡ p ∷ []) × IsWholeWork (kind_of i.class.env) i unit p)

-- Where the operation has work to do, it gets it from these pieces.
abbrev pub IsWorked : Instance → ℤ → List Piece → ℕ → ℕ → Type 0
IsWorked i unit pieces j o = HasOperation (kind_of i.class.env) i j o → GetsWorkAmong i unit pieces j o

-- The operation has work to do and does not get it from these pieces.
abbrev pub LacksWorkAmong : Instance → ℤ → List Piece → ℕ → ℕ → Type 0
LacksWorkAmong i unit pieces j o = HasOperation (kind_of i.class.env) i j o × (¬ GetsWorkAmong i unit pieces j o)

-- All operations that have work to do get it from these pieces, and the first one that does not.
abbrev pub AreWorked : Instance → ℤ → List Piece → Type 0
AreWorked i unit pieces = (j o : ℕ) → j < length i.jobs → IsWorked i unit pieces j o

abbrev pub IsFirstUnworked : Instance → ℤ → List Piece → ℕ → ℕ → Type 0
IsFirstUnworked i unit pieces j o = IsLeastOperation i (LacksWorkAmong i unit pieces) j o
