-- What the loop of `write_all` keeps.
use Rattle.std.proofs.Common.{◌≤◌, ◌-◌, length, take}
use Rattle.msp_io.proofs.whole.write_all.Given as goal

abbrev pub invariant-pieces : goal.invariant-pieces
invariant-pieces g l = record {
  within : l.done ≤ length l.bytes;
  taken : g.K.Sink.took l.initial.sink l.sink (take l.done l.bytes);
  counts : (g.K.Sink.seen l.initial.sink).faults ≤ (g.K.Sink.seen l.sink).faults;
}

abbrev pub decreases-pieces : goal.decreases-pieces
decreases-pieces g l = length l.bytes - l.done
