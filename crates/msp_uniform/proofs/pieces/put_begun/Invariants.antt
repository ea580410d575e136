use Rattle.std.proofs.Common.{◌<◌, ◌^◌, All}
use Rattle.msp_uniform.proofs.LatestFirst.{IsBack}
use Rattle.msp_uniform.proofs.pieces.put_begun.Given as goal

-- so many machines are behind
abbrev pub invariant-loop-back : goal.invariant-loop-back
invariant-loop-back l = record {
  behind : IsBack l.none l.before l.jobs l.moment l.initial.ends.items l.initial.pieces l.back l.ends.items l.pieces;
  small : All (λ e. e < 2 ^ 127) l.ends.items;
}
