-- Jobs back to back, each begun when the one before it ends.
use Rattle.std.specs.Prelude.{ℕ, ◌+◌, ◌*◌, List, [], ◌∷◌, pos}
use Rattle.msp_instance.specs.declared.Instance.{Instance}
use Rattle.msp_instance.specs.Instance.{need_at}
use Rattle.msp_pieces.specs.declared.Piece.{Piece}
use Rattle.msp_pieces.specs.declared.Schedule.{Schedule}

-- The pieces from the moment t on, where j takes p j and `make j a b` is the piece of j from a to b. In place of jobs there may be anything
-- that takes time.
abbrev pub back_to_back : {X P : Type 0} → (X → ℕ → ℕ → P) → (X → ℕ) → ℕ → List X → List P
back_to_back make p t [] = []
back_to_back make p t (j ∷ js) = make j t (t + p j) ∷ back_to_back make p (t + p j) js

-- The weighted sum of their ends, where j weighs w j.
abbrev pub weighted_ends : {X : Type 0} → (X → ℕ) → (X → ℕ) → ℕ → List X → ℕ
weighted_ends p w t [] = 0
weighted_ends p w t (j ∷ js) = w j * (t + p j) + weighted_ends p w (t + p j) js

-- The job on machine 0 from a to b.
abbrev pub piece : ℕ → ℕ → ℕ → Piece
piece j a b = record { job = j; op = 0; machine = 0; from = pos a; to = pos b }

-- How long the job's one operation takes.
abbrev pub time_at : Instance → ℕ → ℕ
time_at i j = (need_at i j 0).time

-- The jobs on machine 0 back to back from moment 0 on, over the unit 1.
abbrev pub schedule_in_order : Instance → List ℕ → Schedule
schedule_in_order i order = record { unit = pos 1; pieces = back_to_back piece (time_at i) 0 order }
