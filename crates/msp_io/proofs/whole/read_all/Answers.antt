-- The goals of `read_all` that are proved by lemmas.
use Rattle.std.proofs.Common.{ℕ, ◌≤◌, arith, ◌++◌, ◌∙◌, length, take, drop, sym, ap, subst}
use Rattle.std.proofs.Math.Seq.{take-append-le}
use Rattle.std.proofs.lemmas.List.{length-take, length-append}
use Rattle.std.proofs.lemmas.Result.{err_from_is_err_and}
use Rattle.msp_io.proofs.Moved.{and_none}
use Rattle.msp_io.proofs.whole.read_all.Goals as goal

pub returns-then-count-free-clause-stopped : goal.returns-then-count-free-clause-stopped
returns-then-count-free-clause-stopped g c =
    let piece = take c.in-Ok.count c.read_once.new.piece in (
      c.pieces.bytes.items ++ piece,
      (
        g.met.S.Source.lawful.joined c.args.source.now c.pieces.source c.read_once.new.source _ _ c.pieces.invariant.taken
            (c.in-Ok.ensures.given (omega (arith, c.in-Ok.count-test))),
        omega (arith, c.in-Ok.ensures.count, length-append {A = ℕ}, length-take {A = ℕ}),
      ),
    )

pub returns-in_err-extend_from_slice-in-Ok-clause-stopped : goal.returns-in_err-extend_from_slice-in-Ok-clause-stopped
returns-in_err-extend_from_slice-in-Ok-clause-stopped g c =
    let piece = take c.in-Ok.count c.read_once.new.piece in
    let p = err_from_is_err_and c.from_residual.result c.from_residual.ensures.1 in
    rw (p.1, p.2) (
      c.pieces.bytes.items ++ piece,
      (
        g.met.S.Source.lawful.joined c.args.source.now c.pieces.source c.read_once.new.source _ _ c.pieces.invariant.taken
            (c.in-Ok.ensures.given (omega (arith, c.in-Ok.count-test))),
        omega (arith, c.in-Ok.ensures.count, length-append {A = ℕ}, length-take {A = ℕ}),
      ),
    )

pub returns-in-Err-clause-stopped : goal.returns-in-Err-clause-stopped
returns-in-Err-clause-stopped g c = (
  c.pieces.bytes.items,
  (
    and_none (g.S.Source.broke c.args.source.now c.read_once.new.source) c.pieces.bytes.items (g.met.S.Source.lawful.joined_fault c.args.source.now
        c.pieces.source c.read_once.new.source _ _ c.pieces.invariant.taken c.in-Err.ensures.broken),
    omega (arith, c.pieces.invariant.within, c.pieces.bytes.ok),
  ),
)

pub returns-in-Ok-eq0-clause-all : goal.returns-in-Ok-eq0-clause-all
returns-in-Ok-eq0-clause-all g c =
    and_none (g.S.Source.finished c.args.source.now c.read_once.new.source) c.pieces.bytes.items
    (g.met.S.Source.lawful.joined_end c.args.source.now c.pieces.source c.read_once.new.source _ _ c.pieces.invariant.taken (c.in-Ok-eq0.ensures.end (omega (arith, c.in-Ok-eq0.field-0-test))))

pub pieces-preserved : goal.pieces-preserved
pieces-preserved g c =
    let piece = c.read_once.new.piece in
    let short : c.in-Ok.count ≤ length piece = omega (arith, c.in-Ok.ensures.count, length-append {A = ℕ}, length-take {A = ℕ}) in
    let items = c.in_ok-extend_from_slice-in-Ok.ensures.items
    ∙ ap (λ l. c.pieces.bytes.items ++ l) (take-append-le c.in-Ok.count piece (drop c.min-most.result c.pieces.chunk) short) in
    record {
      within = omega (arith, c.pieces.invariant.within, c.in_ok-extend_from_slice-in-Ok.ensures.len, c.if-count-free.false, c.len.ensures, length-take {A = ℕ});
      taken = subst (g.S.Source.gave c.args.source.now c.read_once.new.source) (sym items)
          (g.met.S.Source.lawful.joined c.args.source.now c.pieces.source c.read_once.new.source _ _ c.pieces.invariant.taken
          (c.in-Ok.ensures.given (omega (arith, c.in-Ok.count-test))));
      counts = omega (arith, c.pieces.invariant.counts, c.in-Ok.ensures.faults);
    }
