-- What places of jobs of one time on uniform machines have at most. No public contract cites this file.
use Rattle.std.specs.Prelude.{ℕ, ◌*◌}
use Rattle.msp_class.specs.declared.sizes.TheConstants.{MOST_JOBS, GREATEST_MULTIPLE, GREATEST_EQUAL_TIME}

-- How long a job takes at most, over the unit, and where the last place ends at most.
abbrev pub greatest_length : ℕ
greatest_length = GREATEST_EQUAL_TIME * GREATEST_MULTIPLE

abbrev pub greatest_end : ℕ
greatest_end = MOST_JOBS * greatest_length
