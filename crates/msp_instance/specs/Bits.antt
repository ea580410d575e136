-- Bits in words, so many words for each job.
use Rattle.std.specs.Prelude.{ℕ, ◌+◌, ◌*◌, ◌/◌, ◌%◌, ◌==◌, Bool, List, slice_index_or}
use Rattle.std.specs.Int.{bit_at}

-- Whether the job j has the bit of the number k. A job has so many words.
unfoldable pub has_bit : List ℕ → ℕ → ℕ → ℕ → Bool
has_bit words width j k = bit_at (slice_index_or words (j * width + k / 64) 0) (k % 64) == 1
