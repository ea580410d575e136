-- How the records are read: one by one, up to the first fault.
use Rattle.std.specs.Prelude.{ℕ, ◌+◌, ◌==◌, ◌&&◌, nat_le, nat_lt, List, [], ◌∷◌, ◌++◌, length, Bool, not, Option, Some, None, Result, Ok, Err, bytes_eq, codes, if◌then◌else◌}
use Rattle.std.specs.List.{list_all}
use Rattle.std.specs.Str.{is_utf8}
use Rattle.msp_results.specs.declared.limits.TheConstants.{MOST_ENTRIES, LONGEST_SOURCE}
use Rattle.msp_class.specs.declared.class.Class.{Class}
use Rattle.msp_closure.specs.declared.entry.Entry.{Entry}
use Rattle.msp_closure.specs.declared.entry.Verdict.{Verdict}
use Rattle.msp_closure.specs.declared.entry.Verdict.TheVariants.{Easy, Pseudo, Hard, Strong}
use Rattle.msp_name.specs.declared.fault.NameFault.{NameFault}
use Rattle.msp_name.specs.Reading.{reading_of}
use Rattle.msp_results.specs.declared.fault.ResultFault.{ResultFault}
use Rattle.msp_results.specs.declared.fault.ResultFault.TheVariants as fault
use Rattle.msp_results.specs.declared.version.Version.{Version}
use Rattle.msp_results.specs.declared.version.Version.TheVariants.{First, Second}
use Rattle.msp_results.specs.Results.{records_of, has_verdict}

-- a byte that is neither below 32 nor 127
abbrev pub is_printable : ℕ → Bool
is_printable b = nat_le 32 b && not (b == 127)

unfoldable pub is_plain : List ℕ → Bool
is_plain s = is_utf8 s && list_all is_printable s

-- the verdict of a word, in any version
abbrev pub word_read : List ℕ → Option Verdict
word_read w =
    if bytes_eq w (codes "easy") then Some Easy
    else (if bytes_eq w (codes "pseudo") then Some Pseudo
    else (if bytes_eq w (codes "hard") then Some Hard
    else (if bytes_eq w (codes "strong") then Some Strong else None)))

-- a verdict that a file of the version may say
abbrev pub known : Version → Option Verdict → Option Verdict
known version None = None
known version (Some v) = if has_verdict version v then Some v else None

abbrev pub verdict_read : Version → List ℕ → Option Verdict
verdict_read version w = known version (word_read w)

-- the three fields of a record
abbrev pub three_of : List (List ℕ) → Option (List ℕ × List ℕ × List ℕ)
three_of (a ∷ b ∷ c ∷ []) = Some (a, b, c)
three_of _ = None

-- the version that calls its second column by the word
abbrev pub column_read : List ℕ → Option Version
column_read w = if bytes_eq w (codes "verdict") then Some First else (if bytes_eq w (codes "strength") then Some Second else None)

abbrev pub columns_read : List ℕ × List ℕ × List ℕ → Option Version
columns_read t = if bytes_eq t.0 (codes "class") && bytes_eq t.2 (codes "source") then column_read t.1 else None

-- the version of a header
abbrev pub version_read : List (List ℕ) → Option Version
version_read fields = elim (three_of fields) [ Some t ↦ columns_read t | None ↦ None ]

-- the entry of record `at` whose class and verdict are read
abbrev pub sourced : ℕ → Class → Verdict → List ℕ → Result Entry ResultFault
sourced at c v s = if not (is_plain s) then Err (fault.Source at) else (if nat_lt LONGEST_SOURCE (length s) then Err (fault.Long at) else Ok (record { class = c; verdict = v; source = s }))

abbrev pub judged : ℕ → Class → Option Verdict → List ℕ → Result Entry ResultFault
judged at c None s = Err (fault.Verdict at)
judged at c (Some v) s = sourced at c v s

abbrev pub named : Version → ℕ → Result Class NameFault → List ℕ → List ℕ → Result Entry ResultFault
named version at (Err f) v s = Err (fault.Name at f)
named version at (Ok c) v s = judged at c (verdict_read version v) s

-- the entry of three fields, in the order name, verdict, source
unfoldable pub fields_read : Version → ℕ → List ℕ → List ℕ → List ℕ → Result Entry ResultFault
fields_read version at n v s = named version at (reading_of n) v s

-- the entry of record `at`
abbrev pub row_read : Version → ℕ → List (List ℕ) → Result Entry ResultFault
row_read version at fields = elim (three_of fields) [ Some t ↦ fields_read version at t.0 t.1 t.2 | None ↦ Err (fault.Width at) ]

-- the entries after those of the list
abbrev pub after : List Entry → Result (List Entry) ResultFault → Result (List Entry) ResultFault
after before (Ok es) = Ok (before ++ es)
after before (Err f) = Err f

abbrev pub then_after : Result Entry ResultFault → Result (List Entry) ResultFault → Result (List Entry) ResultFault
then_after (Ok e) rest = after (e ∷ []) rest
then_after (Err f) rest = Err f

-- the entries of these records, the first of which has the number `at`
abbrev pub entries_read : Version → ℕ → List (List (List ℕ)) → Result (List Entry) ResultFault
entries_read version at [] = Ok []
entries_read version at (r ∷ rs) = if nat_lt MOST_ENTRIES at then Err fault.Many else then_after (row_read version at r) (entries_read version (at + 1) rs)

-- the entries of the records behind the header
abbrev pub headed_read : Option Version → List (List (List ℕ)) → Result (List Entry) ResultFault
headed_read None rs = Err fault.Header
headed_read (Some version) rs = entries_read version 1 rs

abbrev pub rows_read : List (List (List ℕ)) → Result (List Entry) ResultFault
rows_read [] = Err fault.Header
rows_read (r ∷ rs) = headed_read (version_read r) rs

-- the entries of the bytes, or their first fault
unfoldable pub results_of : List ℕ → Result (List Entry) ResultFault
results_of b = rows_read (records_of b)
