-- The goals of `frontier_over` that are proved by lemmas.
use Rattle.msp_closure.proofs.frontier_lists.frontier_over.Goals as goal

pub returns : goal.returns
returns c = record { easy = c.in_ok-easy.ensures; hard = c.in_ok-hard.ensures; low = c.in_ok-low.ensures; high = c.in_ok-high.ensures }
