use Rattle.std.proofs.Common.{refl}
use Rattle.std.proofs.lemmas.Bool.{false≢true}
use Rattle.msp_cert.proofs.levels.are_steps.Goals as goal

pub returns-then-not-has_unit_jobs : goal.returns-then-not-has_unit_jobs
returns-then-not-has_unit_jobs c = (λ e. absurd (false≢true e), λ s. c.if-not-has_unit_jobs.ensures.1 s.units)

pub returns-then-not-is_for_each : goal.returns-then-not-is_for_each
returns-then-not-is_for_each c = (λ e. absurd (false≢true e), λ s. c.if-not-is_for_each.ensures.1 s.each)

pub returns-then-not-steps_down : goal.returns-then-not-steps_down
returns-then-not-steps_down c = (λ e. absurd (false≢true e), λ s. c.if-not-steps_down.ensures.1 s.steps)

pub returns : goal.returns
returns c = (
  λ e. record {
    units = c.if-not-has_unit_jobs.ensures.0 refl;
    each = c.if-not-is_for_each.ensures.0 refl;
    steps = c.if-not-steps_down.ensures.0 refl;
    some = c.is_reached.ensures.0 e;
  },
  λ s. c.is_reached.ensures.1 s.some,
)
