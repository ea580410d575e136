-- What the private functions make: tables with a value for each class. No public contract cites this file.
use Rattle.std.specs.Prelude.{ℕ, ◌≢◌, ◌≤◌, Bool, false, List, slice_index, slice_index_or}
use Rattle.msp_class.specs.declared.class.Class.{Class}
use Rattle.msp_class.specs.declared.ranks.TheConstants.{CLASSES}
use Rattle.msp_class.specs.Rank.{rank_of}
use Rattle.msp_table.specs.Rows.{carries, keeps_size}
use Rattle.msp_table.specs.Chains.{every_row, LeadsInto, IsDistance}
use Rattle.msp_closure.specs.Entries.{IsLedTo}
use Rattle.msp_closure.specs.declared.row_set.RowSet.{RowSet}
use Rattle.msp_closure.specs.declared.row_set.RowSet.TheVariants.{Every, Carrying, KeepsSize}
use Rattle.msp_closure.specs.declared.distances.TheConstants.{FAR}

-- the rows that a search may use
abbrev pub allows : RowSet → ℕ → Bool
allows Every = every_row
allows Carrying = carries
allows KeepsSize = keeps_size

-- a number kept for each class, by rank
abbrev pub value_of : List ℕ → Class → ℕ
value_of table c = slice_index table (rank_of c)

-- a flag kept for each class, by rank
abbrev pub is_flagged : List Bool → Class → Bool
is_flagged table c = slice_index_or table (rank_of c) false

-- the distance to the wanted classes of each class to which chains lead from one of the starts, and FAR where no chain leads to a wanted one
pub record AreDistances (usable : ℕ → Bool) (starts wanted : List Class) (table : List ℕ) : Type 0 where
  pub near : (c : Class) → IsLedTo usable starts c → value_of table c ≢ FAR → IsDistance usable wanted c (value_of table c)
  pub all : (c : Class) (ks : List ℕ) → IsLedTo usable starts c → LeadsInto usable wanted c ks → value_of table c ≢ FAR
  pub few : (c : Class) → value_of table c ≢ FAR → value_of table c ≤ CLASSES
