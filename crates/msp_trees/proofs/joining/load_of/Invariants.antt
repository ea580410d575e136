-- The load of the jobs so far.
use Rattle.std.proofs.Common.{◌≡◌, ◌*◌, ◌≤◌, take, sum_by, slice_index_or}
use Rattle.msp_class.specs.declared.sizes.TheConstants.{GREATEST}
use Rattle.msp_pieces.specs.BackToBack.{time_at}
use Rattle.msp_trees.specs.Horn.{weight_at}
use Rattle.msp_trees.proofs.joining.load_of.Given as goal

-- the time and the weight of the jobs so far
abbrev pub invariant-loop-k : goal.invariant-loop-k
invariant-loop-k l = record {
  place : l.load.place ≡ l.place;
  first : l.load.first ≡ slice_index_or l.jobs 0 0;
  time : l.load.time ≡ sum_by (time_at l.inst) (take l.k l.jobs);
  weight : l.load.weight ≡ sum_by (weight_at l.inst) (take l.k l.jobs);
  short : l.load.time ≤ GREATEST * l.k;
  light : l.load.weight ≤ GREATEST * l.k;
}
