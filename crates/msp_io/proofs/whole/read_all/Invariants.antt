-- What the loop of `read_all` keeps.
use Rattle.std.proofs.Common.{◌≤◌, ◌-◌, vec_len}
use Rattle.msp_io.proofs.whole.read_all.Given as goal

abbrev pub invariant-pieces : goal.invariant-pieces
invariant-pieces g l = record {
  within : vec_len l.bytes ≤ l.limit;
  taken : g.S.Source.gave l.initial.source l.source l.bytes.items;
  counts : (g.S.Source.seen l.initial.source).faults ≤ (g.S.Source.seen l.source).faults;
}

abbrev pub decreases-pieces : goal.decreases-pieces
decreases-pieces g l = l.limit - vec_len l.bytes
