use Rattle.std.proofs.Common.{◌≡◌, ◌++◌, pos, map}
use Rattle.std.specs.List.{range_with_len}
use Rattle.msp_instance.specs.Instance.{need_at}
use Rattle.msp_shops.proofs.open_cut.put_row.Given as goal

-- the times of the jobs so far
abbrev pub invariant-loop-job : goal.invariant-loop-job
invariant-loop-job l = l.cells.items ≡ l.initial.cells.items ++ map (λ j. pos (need_at l.inst j l.machine).time) (range_with_len 0 l.job)
