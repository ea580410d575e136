-- The texts of the notes for words that ask for nothing: that they fit no command, or the place and the fault of a misspelled name, or of
-- a word that is no number in range.
use Rattle.std.specs.Prelude.{ℕ, ◌+◌, ◌&&◌, List, [], ◌∷◌, ◌++◌, Option, Some, None, Result, Ok, Err, ℤ, pos, negsuc, length, codes, decimal, bytes_eq, nat_lt, nat_le, if◌then◌else◌}
use Rattle.msp_class.specs.declared.list.TheConstants.{PLACES}
use Rattle.msp_class.specs.declared.class.Class.{Class}
use Rattle.msp_name.specs.declared.fault.NameFault.{NameFault}
use Rattle.msp_name.specs.Reading.{reading_of}
use Rattle.msp_name.specs.Faults.{fault_text}
use Rattle.msp_text.specs.Numbers.{number_of}
use Rattle.msp_class.specs.declared.sizes.TheConstants.{MOST_JOBS}
use Rattle.msp_top.specs.declared.command.TheConstants.{GREATEST_SEED}

abbrev pub misfit_text : List ℕ
misfit_text = codes "usage: words fit no command"

abbrev pub misspelled_text : ℕ → NameFault → List ℕ
misspelled_text place fault = codes "usage: word " ++ decimal place ++ codes ": name: " ++ fault_text fault

-- The text of what reading a word at this place gave, where the later words have their own.
abbrev pub text_of_reading : ℕ → Result Class NameFault → List ℕ → List ℕ
text_of_reading place (Ok class) later = later
text_of_reading place (Err fault) later = misspelled_text place fault

-- The text for a word at this place that is to be a name, where the later words have their own.
abbrev pub name_then : ℕ → List ℕ → List ℕ → List ℕ
name_then place word later = if nat_lt (length word) PLACES then text_of_reading place (reading_of word) later else misfit_text

-- The text for the first of these words that is no name. The first of them has this place, counted from 1.
abbrev pub names_text : ℕ → List (List ℕ) → List ℕ
names_text place [] = misfit_text
names_text place (word ∷ words) = name_then place word (names_text (place + 1) words)

-- The text for the words after `why`.
abbrev pub name_text : List (List ℕ) → List ℕ
name_text (name ∷ []) = names_text 2 (name ∷ [])
name_text _ = misfit_text

-- The text for the words after `solve`.
abbrev pub option_text : List (List ℕ) → List ℕ
option_text (option ∷ name ∷ []) = if bytes_eq option (codes "--at") then names_text 3 (name ∷ []) else misfit_text
option_text _ = misfit_text

abbrev pub misnumbered_text : ℕ → ℕ → ℕ → List ℕ
misnumbered_text place least greatest =
    (codes "usage: word " ++ decimal place) ++ (codes ": not a number from " ++ decimal least) ++ (codes " to " ++ decimal greatest)

-- The number that is spelled, if it lies in the range.
abbrev pub number_within : ℕ → ℕ → Option ℤ → Option ℕ
number_within least greatest None = None
number_within least greatest (Some (pos number)) = if nat_le least number && nat_le number greatest then Some number else None
number_within least greatest (Some (negsuc size)) = None

-- The text for a word at this place that is to be a number in the range, where the later words have their own.
abbrev pub text_of_number : ℕ → ℕ → ℕ → Option ℕ → List ℕ → List ℕ
text_of_number place least greatest (Some number) later = later
text_of_number place least greatest None later = misnumbered_text place least greatest

abbrev pub number_then : ℕ → ℕ → ℕ → List ℕ → List ℕ → List ℕ
number_then place least greatest word later =
    if nat_lt (length word) PLACES then text_of_number place least greatest (number_within least greatest (number_of word)) later else misfit_text

-- The text for the words after `trial`.
abbrev pub trial_text : List (List ℕ) → List ℕ
trial_text (name ∷ count ∷ start ∷ []) = name_then 2 name (number_then 3 1 MOST_JOBS count (number_then 4 0 GREATEST_SEED start misfit_text))
trial_text _ = misfit_text

-- The text for the words after a first word.
abbrev pub later_text : List ℕ → List (List ℕ) → List ℕ
later_text word words =
    if bytes_eq word (codes "label") then names_text 2 words
    else (if bytes_eq word (codes "why") then name_text words
    else (if bytes_eq word (codes "solve") then option_text words
    else (if bytes_eq word (codes "trial") then trial_text words else misfit_text)))

abbrev pub usage_text : List (List ℕ) → List ℕ
usage_text [] = misfit_text
usage_text (word ∷ words) = later_text word words
