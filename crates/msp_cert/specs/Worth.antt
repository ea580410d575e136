-- What a proof is worth. No public contract cites this file.
use Rattle.std.specs.Prelude.{◌≡◌, ℕ, Option, Some, None, ◌+◌, ◌*◌, ◌^◌, ℤ, pos}
use Rattle.msp_class.specs.declared.sizes.TheConstants.{GREATEST}
use Rattle.msp_instance.specs.declared.Instance.{Instance}
use Rattle.msp_pieces.specs.declared.Frac.{Frac}
use Rattle.msp_cert.specs.declared.limits.TheConstants.{MOST_ENTRIES, GREATEST_HEAD}
use Rattle.msp_cert.specs.declared.Proof.{Proof}
use Rattle.msp_cert.specs.Certificates.{HoldsFor, IsValue}

-- The proof is worth its value where its evidence holds, and else nothing.
abbrev pub IsWorth : Instance → Proof → Option Frac → Type 0
IsWorth i p None = (num : ℤ) (den : ℕ) → HoldsFor i p → ¬ IsValue i p num den
IsWorth i p (Some v) = HoldsFor i p × ((den : ℕ) × (v.den ≡ pos den) × IsValue i p v.num den)

-- The latest end of a block: its jobs take at most MOST_ENTRIES times GREATEST after the greatest head.
abbrev pub latest_end : ℕ
latest_end = GREATEST_HEAD + GREATEST * MOST_ENTRIES

-- The greatest size of a value that is a whole number: at least what a job costs that ends then.
abbrev pub greatest_value : ℕ
greatest_value = 10 ^ 23
