-- The bounds on what solvers answer and rows bring back, by their numbers.
use Rattle.std.specs.Prelude.{◌≡◌, ◌*◌, ◌^◌, pos}
use Rattle.msp_route.specs.declared.bounds.TheConstants.{GREATEST_BACK_MOMENT, GREATEST_RAISE, GREATEST_LINED_UP, GREATEST_CLOSED_UP, GREATEST_ANSWER_MOMENT, GREATEST_OPEN_UNIT}

-- Moments and, in open shops, the unit of an answer; moments that are brought back; by how much one row raises them; and those of jobs
-- that are lined up, and of equal operations without idle time.
abbrev pub AreLimits : Type 0
AreLimits =
    (GREATEST_ANSWER_MOMENT ≡ pos (10 ^ 25))
    × (GREATEST_OPEN_UNIT ≡ pos (10 ^ 9))
    × (GREATEST_BACK_MOMENT ≡ pos (19 * 10 ^ 25))
    × (GREATEST_RAISE ≡ pos (2 * 10 ^ 22))
    × (GREATEST_LINED_UP ≡ pos (4 * 10 ^ 24))
    × (GREATEST_CLOSED_UP ≡ pos (13 * 10 ^ 22))
