use Rattle.std.proofs.Common.{◌≡◌, map}
use Rattle.std.specs.List.{range_with_len}
use Rattle.msp_shops.specs.Groups.{route_times}
use Rattle.msp_shops.proofs.open.times_of_jobs.Given as goal

-- the times of the jobs so far
abbrev pub invariant-loop-k : goal.invariant-loop-k
invariant-loop-k l = l.times.items ≡ map (route_times l.inst) (range_with_len 0 l.k)
