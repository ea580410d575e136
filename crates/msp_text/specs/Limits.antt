-- The limit of job names, by its number.
use Rattle.std.specs.Prelude.{◌≡◌}
use Rattle.msp_text.specs.declared.job_name.TheConstants.{LONGEST_NAME}

-- A job name has at most 32 bytes.
abbrev pub AreLimits : Type 0
AreLimits = LONGEST_NAME ≡ 32
