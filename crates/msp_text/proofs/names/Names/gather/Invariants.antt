-- What holds in the loop of `gather`.
use Rattle.msp_text.proofs.NameLists.{IsGathered}
use Rattle.msp_text.proofs.names.Names.gather.Given as goal

abbrev pub invariant-loop-name : goal.invariant-loop-name
invariant-loop-name l = IsGathered l.items l.gathered l.name-index
