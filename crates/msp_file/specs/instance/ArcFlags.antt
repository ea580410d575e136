-- The flags by which an arc is looked up.
use Rattle.std.specs.Prelude.{◌≡◌, ℕ, ◌+◌, ◌*◌, ◌<◌, Bool, false, ◌&&◌, ◌==◌, List, slice_index_or}
use Rattle.std.specs.List.{list_any}
use Rattle.msp_class.specs.declared.sizes.TheConstants.{MOST_JOBS}
use Rattle.msp_instance.specs.declared.Arc.{Arc}

-- The arc is one of these.
abbrev pub is_arc_among : List Arc → ℕ → ℕ → Bool
is_arc_among arcs before after = list_any (λ arc. (arc.before == before) && (arc.after == after)) arcs

-- The place of the flag for two jobs.
abbrev pub flag_place : ℕ → ℕ → ℕ
flag_place before after = before * MOST_JOBS + after

-- The flag at a place. Past the last one there is none.
abbrev pub flag_at : List Bool → ℕ → Bool
flag_at flags place = slice_index_or flags place false

-- The flags tell of each two jobs whether there is an arc from the one to the other.
abbrev pub AreFlagged : List Arc → List Bool → Type 0
AreFlagged arcs flags = (before after : ℕ) → before < MOST_JOBS → after < MOST_JOBS → flag_at flags (flag_place before after) ≡ is_arc_among arcs before after
