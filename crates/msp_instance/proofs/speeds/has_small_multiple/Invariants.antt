use Rattle.std.proofs.Common.{◌≤◌, ◌^◌, take}
use Rattle.msp_instance.specs.Multiples.{IsLeastOfAll}
use Rattle.msp_instance.proofs.speeds.has_small_multiple.Given as goal

abbrev pub invariant-loop-s : goal.invariant-loop-s
invariant-loop-s l = record { least : IsLeastOfAll (take l.s-index l.speeds) l.multiple; small : l.multiple ≤ 2 ^ 30 }
