use Rattle.std.proofs.lemmas.List.Sorted.{IsPermutation-trans}
use Rattle.msp_cert.proofs.group.falling_speeds.Goals as goal

pub returns-clause-all : goal.returns-clause-all
returns-clause-all c = IsPermutation-trans _ _ _ c.in_ok-all.ensures.all c.turn.ensures.all
