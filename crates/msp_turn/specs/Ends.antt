-- The ends of jobs, and orders by them. No public contract cites this file.
use Rattle.std.specs.Prelude.{ℕ, List, map, slice_index_or, slice_set, ℤ, ◌≤ℤ◌, AllPairs}
use Rattle.std.specs.Int.{int_max}
use Rattle.std.specs.List.{range_with_len}
use Rattle.msp_pieces.specs.declared.Schedule.{Schedule}
use Rattle.msp_pieces.specs.Cost.{end_of}
use Rattle.msp_turn.specs.declared.ends.End.{End}

-- So many jobs with their moments, by number.
abbrev pub ends_at : (ℕ → ℤ) → ℕ → List End
ends_at moment count = map (λ j. record { moment = moment j; job = j }) (range_with_len 0 count)

-- The end of the job is no earlier than the moment.
abbrev pub raised_to : ℤ → ℕ → List End → End → List End
raised_to moment job ends d = let end = slice_index_or ends job d in slice_set ends job (record end { moment = int_max end.moment moment })

-- The jobs end in this order, or in the opposite one.
abbrev pub EndsRise : Schedule → List ℕ → Type 0
EndsRise s order = AllPairs (λ a b. end_of s a ≤ℤ end_of s b) order

abbrev pub EndsFall : Schedule → List ℕ → Type 0
EndsFall s order = AllPairs (λ a b. end_of s b ≤ℤ end_of s a) order
