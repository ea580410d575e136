use Rattle.std.proofs.Common.{◌≡◌, suc, ◌-◌, sym, ◌∙◌, ap, arith}
use Rattle.msp_uniform.specs.Runs.{jobs_before as jobs_until}
use Rattle.msp_uniform.proofs.LatestFirst.{jobs_before_next}
use Rattle.msp_uniform.proofs.pieces.jobs_before.Goals as goal

pub returns : goal.returns
returns c =
    let place : suc (c.args.place - 1) ≡ c.args.place = omega (arith, c.if-place-eq0.false) in
    c.as_slice.ensures.value ∙ ap (λ b. b.jobs) c.deref.ensures
    ∙ sym (jobs_before_next c.args.idle.now c.args.segments.now (c.args.place - 1) c.index-segments-place.result (omega (arith, c.requires, place)))
    ∙ ap (jobs_until c.args.idle.now c.args.segments.now) place
