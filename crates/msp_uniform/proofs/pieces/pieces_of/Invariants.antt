use Rattle.std.proofs.Common.{◌-◌, ◌<◌, ◌^◌, All, length, replicate}
use Rattle.msp_uniform.proofs.LatestFirst.{IsWalked}
use Rattle.msp_uniform.proofs.pieces.pieces_of.Given as goal

-- the segments from the moment on are done
abbrev pub invariant-loop-back : goal.invariant-loop-back
invariant-loop-back l = record {
  walked : IsWalked l.none l.machines (replicate l.machines l.none) l.segments (length l.segments - l.back) l.moment l.ends.items l.pieces;
  small : All (λ e. e < 2 ^ 127) l.ends.items;
}
