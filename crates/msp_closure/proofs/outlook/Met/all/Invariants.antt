-- What the loop of `all` keeps.
use Rattle.msp_closure.proofs.OutlookLemmas.{IsStart}
use Rattle.msp_closure.proofs.outlook.Met.all.Given as goal

abbrev pub invariant-loop-c : goal.invariant-loop-c
invariant-loop-c l = IsStart l.classes l.met.classes.items l.met.flags l.met.links.items l.c-index
