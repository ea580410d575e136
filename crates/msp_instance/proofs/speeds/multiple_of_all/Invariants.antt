use Rattle.std.proofs.Common.{◌≤◌, ◌^◌, take}
use Rattle.msp_instance.specs.Multiples.{IsLeastOfAll}
use Rattle.msp_instance.proofs.speeds.multiple_of_all.Given as goal

abbrev pub invariant-loop-speed : goal.invariant-loop-speed
invariant-loop-speed l = record { least : IsLeastOfAll (take l.speed-index l.speeds) l.multiple; small : l.multiple ≤ 2 ^ 30 }
