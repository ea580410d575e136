-- The records that a reader of CSV has still to give. No public contract cites this file.
use Rattle.std.specs.Prelude.{◌≡◌, ◌≤◌, ℕ, ◌+◌, ◌<◌, List, [], ◌∷◌, length, Option, Some, None, All, IsSomeAnd, Bool, true, false}
use Rattle.msp_class.specs.declared.list.TheConstants.{PLACES}
use Rattle.msp_results.specs.declared.limits.TheConstants.{LONGEST_FILE}
use Rattle.csv.specs.Reading.{Ready, default_config, records_from, source_of, reader_config, reader_trim, reader_state}
use Rattle.csv.specs.declared.parser.State.{State}
use Rattle.csv.specs.declared.reader.Reader.{Reader}
use Rattle.csv.specs.declared.reader.Trim.TheVariants as trim
use denote.Ref.{Bor}

-- the bytes that a reader of a slice has left
abbrev pub bytes_left : Reader (Bor (List ℕ)) → Option (List ℕ)
bytes_left r = source_of (λ s. Some s.now) r

-- every record of a text, from a state
abbrev pub rows_from : State → List ℕ → List (List (List ℕ))
rows_from s xs = records_from default_config (length xs + 1) s xs

abbrev pub rows_in : State → Option (List ℕ) → List (List (List ℕ))
rows_in s None = []
rows_in s (Some xs) = rows_from s xs

-- the records that the reader has left
abbrev pub rows_left : Reader (Bor (List ℕ)) → List (List (List ℕ))
rows_left r = rows_in (reader_state r) (bytes_left r)

-- the reader stands between two records of a text that is not too long
pub record IsReading (r : Reader (Bor (List ℕ))) : Type 0 where
  pub config : reader_config r ≡ default_config
  pub trim : reader_trim r ≡ trim.None
  pub ready : Ready r
  pub known : IsSomeAnd (bytes_left r) (λ xs. length xs ≤ LONGEST_FILE)

-- no field is as long as a place in a name can tell
abbrev pub AreShort : List (List ℕ) → Type 0
AreShort fields = All (λ f. length f < PLACES) fields

-- what a read gives: the next record, or that there is none
abbrev pub NextRow : Bool → Reader (Bor (List ℕ)) → List (List ℕ) → Reader (Bor (List ℕ)) → Type 0
NextRow true old fields new = (rows_left old ≡ fields ∷ rows_left new) × IsReading new × AreShort fields
NextRow false old fields new = rows_left old ≡ []
