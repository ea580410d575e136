-- The falling order of numbers, as they are sorted.
use Rattle.std.proofs.Common.{ℕ, List, length, AllPairs, IfOk, IsPermutation, Result, Ok, Err}
use Rattle.std.specs.List.{range_with_len}
use Rattle.msp_route.proofs.KeyedJobs.{Falls, falls_or_stays}
use Rattle.msp_uniform.specs.Uniform.{IsByFalling}
use Rattle.msp_uniform.specs.Segments.{at}

pub read_order : {V E : Type 0} (values : List ℕ) (items : V → List ℕ) (r : Result V E) → IfOk r (λ o. IsPermutation (range_with_len 0 (length values)) (items o))
    → IfOk r (λ o. AllPairs (Falls (at values)) (items o)) → IfOk r (λ o. IsByFalling (length values) (at values) (items o))
read_order values items (Ok o) all falls = record { all = all; falls = falls_or_stays (at values) (items o) falls }
read_order values items (Err x) all falls = tt
