-- Jobs on machines, listed from the last to the first of each machine. No public contract cites this file.
use Rattle.std.specs.Prelude.{ℕ, ◌*◌, ◌-◌, ◌<◌, ◌≤◌, List, [], ◌∷◌, length, pos, sum_by, ◌==◌, if◌then◌else◌, slice_index_or, All}
use Rattle.msp_class.specs.declared.sizes.TheConstants.{MOST_JOBS, MOST_MACHINES, GREATEST, GREATEST_MULTIPLE}
use Rattle.msp_pieces.specs.declared.Piece.{Piece}
use Rattle.msp_total.specs.declared.lay.Place.{Place}

-- What is read where there is no place.
abbrev pub no_place : Place
no_place = record { job = 0; machine = 0; length = 0 }

abbrev pub place_at : List Place → ℕ → Place
place_at places k = slice_index_or places k no_place

-- Their number, machines and lengths are in range.
abbrev pub ArePlaces : List Place → Type 0
ArePlaces places = (length places ≤ MOST_JOBS) × All (λ p. (p.machine < MOST_MACHINES) × (p.length ≤ GREATEST * GREATEST_MULTIPLE)) places

-- How long the machine runs the jobs.
abbrev pub time_on : ℕ → List Place → ℕ
time_on m places = sum_by (λ p. if p.machine == m then p.length else 0) places

-- The piece of a job that ends at the moment.
abbrev pub piece_until : ℕ → Place → Piece
piece_until end p = record { job = p.job; op = 0; machine = p.machine; from = pos (end - p.length); to = pos end }

-- The pieces of the jobs, without gaps from moment 0 on: a job ends once its machine has run it and those that stand after it.
abbrev pub laid : List Place → List Piece
laid [] = []
laid (p ∷ ps) = piece_until (time_on p.machine (p ∷ ps)) p ∷ laid ps
