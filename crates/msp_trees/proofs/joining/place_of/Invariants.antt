-- Where the job has not been found.
use Rattle.msp_trees.proofs.Picks.{HasNot}
use Rattle.msp_trees.proofs.joining.place_of.Given as goal

-- no block so far holds the job
abbrev pub invariant-loop-place : goal.invariant-loop-place
invariant-loop-place l = HasNot l.blocks l.job l.place
