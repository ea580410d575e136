-- What the loop of `check_names` keeps.
use Rattle.std.proofs.Common.{map, string_bytes}
use Rattle.msp_top.proofs.NameWords.{HasNames}
use Rattle.msp_top.proofs.words.check_names.Given as goal

abbrev pub invariant-loop-k : goal.invariant-loop-k
invariant-loop-k l = HasNames (map string_bytes l.names) l.k
