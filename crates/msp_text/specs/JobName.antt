-- The names of jobs.
use Rattle.std.specs.Prelude.{◌≢◌, ℕ, ◌≤◌, Bool, ◌&&◌, ◌||◌, ◌==◌, nat_le, IsTrue, List, length, All, AllPairs}
use Rattle.msp_text.specs.declared.job_name.TheConstants.{LONGEST_NAME}

-- The byte is a letter or a digit of ASCII, or one of `_`, `-`, `.`.
abbrev pub is_name_byte : ℕ → Bool
is_name_byte b =
    (nat_le 65 b && nat_le b 90)
    || (nat_le 97 b && nat_le b 122)
    || (nat_le 48 b && nat_le b 57)
    || (b == 95)
    || (b == 45)
    || (b == 46)

-- The bytes are a job name: 1 to 32 bytes, all of them bytes of names.
pub record IsJobName (w : List ℕ) : Type 0 where
  pub some : 1 ≤ length w
  pub short : length w ≤ LONGEST_NAME
  pub bytes : All (λ b. IsTrue (is_name_byte b)) w

-- No name stands twice in the list.
abbrev pub AreDistinct : List (List ℕ) → Type 0
AreDistinct names = AllPairs (λ a b. a ≢ b) names
