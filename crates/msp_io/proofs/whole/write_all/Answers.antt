-- The goals of `write_all` that are proved by lemmas.
use Rattle.std.proofs.Common.{ℕ, arith, take, subst}
use Rattle.std.proofs.lemmas.List.{length-take, length-drop}
use Rattle.msp_io.proofs.Moved.{and_none, take_further}
use Rattle.msp_io.proofs.whole.write_all.Goals as goal

pub pieces-preserved : goal.pieces-preserved
pieces-preserved g c = record {
  within = omega (arith, c.in-Ok.ensures.count, length-take {A = ℕ}, length-drop {A = ℕ});
  taken = subst (g.K.Sink.took c.args.sink.now c.write_once.new.sink) (take_further c.pieces.done c.in-Ok.count c.args.bytes.now)
      (g.met.K.Sink.lawful.joined c.args.sink.now c.pieces.sink c.write_once.new.sink _ _ c.pieces.invariant.taken c.in-Ok.ensures.taken);
  counts = omega (arith, c.pieces.invariant.counts, c.in-Ok.ensures.faults);
}

pub returns-in-Err-clause-put : goal.returns-in-Err-clause-put
returns-in-Err-clause-put g c = record {
  all = tt;
  stopped = (
    c.pieces.done,
    c.pieces-test.true,
    and_none (g.K.Sink.broke c.args.sink.now c.write_once.new.sink) (take c.pieces.done c.args.bytes.now)
        (g.met.K.Sink.lawful.joined_fault c.args.sink.now c.pieces.sink c.write_once.new.sink _ _ c.pieces.invariant.taken c.in-Err.ensures.broken),
  );
}
