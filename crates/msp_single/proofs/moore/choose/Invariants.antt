use Rattle.std.proofs.Common.{◌≡◌, ◌*◌, ◌≤◌, take, sum_by}
use Rattle.msp_class.specs.declared.sizes.TheConstants.{GREATEST}
use Rattle.msp_single.specs.Moore.{IsChoice}
use Rattle.msp_single.proofs.moore.choose.Given as goal

-- the choice of the tasks so far
abbrev pub invariant-loop-k : goal.invariant-loop-k
invariant-loop-k l = record {
  total : l.choice.total ≡ sum_by (λ t. t.time) l.choice.accepted.items;
  early : l.choice.total ≤ GREATEST * l.k;
  choice : IsChoice (λ t. t.time) (λ t. t.job) (λ t. t.due) (take l.k l.tasks) l.choice.accepted.items l.choice.dropped.items;
}
