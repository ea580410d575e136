-- The limits of results files, by their numbers.
use Rattle.std.specs.Prelude.{◌≡◌}
use Rattle.msp_results.specs.declared.limits.TheConstants.{LONGEST_FILE, MOST_ENTRIES, LONGEST_SOURCE}

-- A file has at most 4,194,304 bytes and 20,000 entries, and a source at most 200 bytes.
abbrev pub AreLimits : Type 0
AreLimits = (LONGEST_FILE ≡ 4194304) × (MOST_ENTRIES ≡ 20000) × (LONGEST_SOURCE ≡ 200)
