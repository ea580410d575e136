-- The goals of `segments_at` that are proved by lemmas.
use Rattle.std.proofs.lemmas.Result.{err_from_is_err_and}
use Rattle.msp_grammar.specs.lines.Steps.{place_of}
use Rattle.msp_cert_text.proofs.SegmentLaws.{first_breaks, first_fails}
use Rattle.msp_cert_text.proofs.segments.segments_at.Goals as goal

pub returns-in_err-lists : goal.returns-in_err-lists
returns-in_err-lists c =
    let step = rw c.if-not-branch.false at (c.in_ok-first_list.ensures c.args.names.now) in
    let p = err_from_is_err_and c.from_residual-in_err-lists.result c.from_residual-in_err-lists.ensures.1 in
    rw (p.1, p.2) (first_breaks c.args.names.now (place_of c.args.lines.now) (place_of c.first_list.new.lines) c.in_err-lists.field-0.0 step c.in_err-lists.ensures)

pub returns-in_err-first_list : goal.returns-in_err-first_list
returns-in_err-first_list c =
    let p = err_from_is_err_and c.from_residual.result c.from_residual.ensures.1 in
    rw (p.1, p.2) (first_fails c.args.names.now (place_of c.args.lines.now) c.in_err-first_list.field-0.0 (c.in_err-first_list.ensures c.args.names.now))
