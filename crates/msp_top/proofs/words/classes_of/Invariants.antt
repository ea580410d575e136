-- What the loop of `classes_of` keeps.
use Rattle.std.proofs.Common.{map, take, string_bytes}
use Rattle.std.specs.List.{AllZip}
use Rattle.msp_top.specs.Commands.{IsNameWord}
use Rattle.msp_top.proofs.words.classes_of.Given as goal

abbrev pub invariant-loop-k : goal.invariant-loop-k
invariant-loop-k l = AllZip IsNameWord (take l.k (map string_bytes l.names)) l.classes
