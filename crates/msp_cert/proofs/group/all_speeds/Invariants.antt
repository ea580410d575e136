use Rattle.std.proofs.Common.{◌≡◌, map}
use Rattle.std.specs.List.{range_with_len}
use Rattle.msp_pieces.specs.Speeds.{speed_of}
use Rattle.msp_cert.proofs.group.all_speeds.Given as goal

-- the speeds so far
abbrev pub invariant-loop-machine : goal.invariant-loop-machine
invariant-loop-machine l = l.all.items ≡ map (speed_of l.inst) (range_with_len 0 l.machine)
