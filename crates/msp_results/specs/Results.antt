-- The file of known results: the records of its bytes are a header and one record for each entry.
use Rattle.std.specs.Prelude.{◌≡◌, ◌≢◌, ◌≤◌, ℕ, Bool, true, false, IsTrue, List, [], ◌∷◌, length, All, IsUtf8, codes}
use Rattle.std.specs.List.{AllZip}
use Rattle.msp_results.specs.declared.limits.TheConstants.{MOST_ENTRIES, LONGEST_SOURCE}
use Rattle.csv.specs.Reading.{default_config, records, strip_bom}
use Rattle.msp_name.specs.Names.{NameOf}
use Rattle.msp_closure.specs.declared.entry.Entry.{Entry}
use Rattle.msp_closure.specs.declared.entry.Verdict.{Verdict}
use Rattle.msp_closure.specs.declared.entry.Verdict.TheVariants.{Easy, Pseudo, Hard, Strong}
use Rattle.msp_results.specs.declared.version.Version.{Version}
use Rattle.msp_results.specs.declared.version.Version.TheVariants.{First, Second}

-- the records of the bytes, without one byte order mark at their front
abbrev pub records_of : List ℕ → List (List (List ℕ))
records_of b = records default_config (strip_bom b)

-- the second column is called by the version
abbrev pub column_text : Version → List ℕ
column_text First = codes "verdict"
column_text Second = codes "strength"

abbrev pub header : Version → List (List ℕ)
header v = codes "class" ∷ column_text v ∷ codes "source" ∷ []

abbrev pub verdict_text : Verdict → List ℕ
verdict_text Easy = codes "easy"
verdict_text Pseudo = codes "pseudo"
verdict_text Hard = codes "hard"
verdict_text Strong = codes "strong"

-- whether a file of the version may say the verdict
abbrev pub has_verdict : Version → Verdict → Bool
has_verdict First Easy = true
has_verdict First Hard = true
has_verdict First _ = false
has_verdict Second _ = true

-- UTF-8 without control characters of ASCII
pub record IsPlainText (s : List ℕ) : Type 0 where
  pub utf8 : IsUtf8 s
  pub printable : All (λ b. (32 ≤ b) × (b ≢ 127)) s

-- the record says the entry: a name of its class, its verdict, and its source
pub record IsEntry (version : Version) (fields : List (List ℕ)) (e : Entry) : Type 0 where
  pub name : List ℕ
  pub three : fields ≡ name ∷ verdict_text e.verdict ∷ e.source ∷ []
  pub named : NameOf name e.class
  pub known : IsTrue (has_verdict version e.verdict)
  pub plain : IsPlainText e.source
  pub short : length e.source ≤ LONGEST_SOURCE

-- the records of the bytes are the header of a version and one for each entry, in order, at most 20,000
pub record ResultsOf (b : List ℕ) (entries : List Entry) : Type 0 where
  pub version : Version
  pub rows : List (List (List ℕ))
  pub headed : records_of b ≡ header version ∷ rows
  pub each : AllZip (IsEntry version) rows entries
  pub few : length entries ≤ MOST_ENTRIES
