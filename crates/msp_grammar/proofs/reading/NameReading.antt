-- The name of a job in a field, and the job that has it.
use Rattle.std.proofs.Common.{◌≡◌, ℕ, ◌<◌, ◌≤◌, Bool, true, false, nat_le, List, [], ◌∷◌, length, None, Some, position, bytes_eq, Ok, Err, refl, sym, arith}
use Rattle.std.specs.List.{list_all}
use Rattle.std.proofs.lemmas.Bool.{leb-true}
use Rattle.std.proofs.lemmas.List.Quantifiers.{position-Some}
use Rattle.std.proofs.lemmas.List.Sums.{AllPass-from_list_all}
use Rattle.msp_text.specs.declared.job_name.TheConstants.{LONGEST_NAME}
use Rattle.msp_text.specs.JobName.{is_name_byte, IsJobName}
use Rattle.msp_grammar.specs.declared.lines.fault.FileFault.{FileFault}
use Rattle.msp_grammar.specs.declared.lines.fault.FileFault.TheVariants.{Limit, Name, Unknown}
use Rattle.msp_grammar.specs.declared.lines.fault.What.TheVariants as what
use Rattle.msp_grammar.specs.lines.Reading.{job_name_at, known_at}
use Rattle.msp_grammar.proofs.reading.FieldLaws.{name_takes, name_again}

-- ---- bytes that are no job name

pub no_bytes : (at : ℕ) (w : List ℕ) → length w < 1 → job_name_at at w ≡ Err (Name at)
unfolding job_name_at
no_bytes at [] h = refl
no_bytes at (b ∷ bs) h = absurd (omega arith)

pub other_bytes : (at : ℕ) (w : List ℕ) → 1 ≤ length w → list_all is_name_byte w ≡ false → job_name_at at w ≡ Err (Name at)
unfolding job_name_at
other_bytes at [] some h = absurd (omega arith)
other_bytes at (b ∷ bs) some h = rw h refl

pub too_long : (at : ℕ) (w : List ℕ) → 1 ≤ length w → list_all is_name_byte w ≡ true → ¬ IsJobName w → job_name_at at w ≡ Err (Limit at what.Name)
unfolding job_name_at
too_long at [] some h other = absurd (omega arith)
too_long at (b ∷ bs) some h other = by (nat_le (length (b ∷ bs)) LONGEST_NAME) refl
  where
    by : (t : Bool) → nat_le (length (b ∷ bs)) LONGEST_NAME ≡ t → job_name_at at (b ∷ bs) ≡ Err (Limit at what.Name)
    by true e = absurd (other (record { some = some; short = leb-true (length (b ∷ bs)) LONGEST_NAME e; bytes = AllPass-from_list_all is_name_byte (b ∷ bs) h }))
    by false e = rw (h, e) refl

-- ---- the job of a name

pub unknown_name : (at : ℕ) (names : List (List ℕ)) (w name : List ℕ) → position (bytes_eq w) names ≡ None → Ok name ≡ job_name_at at w → known_at at names w ≡ Err (Unknown at)
unfolding known_at
unknown_name at names w name none e = let same = (name_takes at w name (sym e)).0 in rw (sym e, sym same, none) refl

pub no_name : (at : ℕ) (names : List (List ℕ)) (w : List ℕ) (fault : FileFault) → Err fault ≡ job_name_at at w → known_at at names w ≡ Err fault
unfolding known_at
no_name at names w fault e = rw (sym e) refl

pub ruleset unknown_rules = (unknown_name, no_name)

pub known_name : (at : ℕ) (names : List (List ℕ)) (w : List ℕ) (job : ℕ) → IsJobName w → Some job ≡ position (bytes_eq w) names → Ok job ≡ known_at at names w
unfolding known_at
known_name at names w job h e = rw (name_again at w h, sym e) refl

pub found_within : (names : List (List ℕ)) (w : List ℕ) (job : ℕ) → Some job ≡ position (bytes_eq w) names → job < length names
found_within names w job e = (position-Some (bytes_eq w) names job [] (sym e)).0

pub ruleset known_rules = (known_name, found_within)
