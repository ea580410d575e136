use Rattle.std.proofs.Common.{◌≡◌, map, filter}
use Rattle.std.specs.List.{range_with_len}
use Rattle.msp_shops.specs.Groups.{route_times, begins_on}
use Rattle.msp_shops.proofs.groups.jobs_from.Given as goal

-- those of the jobs so far
abbrev pub invariant-loop-k : goal.invariant-loop-k
invariant-loop-k l = l.times.items ≡ map (route_times l.inst) (filter (begins_on l.inst l.machine) (range_with_len 0 l.k))
