-- The goals of `run`: what serving ended with, field by field of what a call leaves.
use Rattle.std.proofs.Common.{Ok, Err, refl, arith}
use Rattle.msp_top.proofs.Served.{is_served, is_refused, report_is_low, refusal_is_high, serves_read_fault, serves_write_fault, serves_rows_status, serves_trial_status}
use Rattle.msp_top.proofs.Served.{serves_trial_due, serves_due, are_told}
use Rattle.msp_top.proofs.serve.run.Goals as goal

pub returns-in-Ok : goal.returns-in-Ok
returns-in-Ok g c = record {
  served = is_served _ _ _ _ _ c.in-Ok.status c.in-Ok.ensures.served;
  unread = λ is. absurd (omega (arith, is, report_is_low _ _ _ _ c.in-Ok.status c.in-Ok.ensures.served));
  unwritten = λ high other. absurd (omega (arith, high, report_is_low _ _ _ _ c.in-Ok.status c.in-Ok.ensures.served));
  silent = λ low. refl;
  read_fault = λ is. absurd (omega (arith, is, report_is_low _ _ _ _ c.in-Ok.status c.in-Ok.ensures.served));
  write_fault = λ is. absurd (omega (arith, is, report_is_low _ _ _ _ c.in-Ok.status c.in-Ok.ensures.served));
  rows = λ rows. (c.in-Ok.ensures.rows rows, serves_rows_status _ _ _ _ (Ok c.in-Ok.status) c.in-Ok.ensures.served rows);
  trial = λ trial asked. (
    c.in-Ok.ensures.trial trial asked,
    serves_trial_status _ _ _ _ (Ok c.in-Ok.status) c.in-Ok.ensures.served trial asked,
    serves_trial_due _ _ _ _ (Ok c.in-Ok.status) c.in-Ok.ensures.served trial asked,
  );
  completeness = serves_due _ _ _ _ _ (Ok c.in-Ok.status) (are_told (g.S.Source.seen c.args.source.now) (g.S.Source.seen c.serve.new.source)
      _ (g.met.S.Source.lawful.gives c.args.source.now c.serve.new.source) (g.met.S.Source.lawful.finishes c.args.source.now c.serve.new.source)) c.in-Ok.ensures.served;
}

pub returns-in-Err : goal.returns-in-Err
returns-in-Err g c = record {
  served = is_refused _ _ _ _ _ c.in-Err.why c.in-Err.ensures.served c.tell.ensures;
  unread = c.in-Err.ensures.unread;
  unwritten = λ high. c.in-Err.ensures.unwritten;
  silent = refusal_is_high _ _ _ _ c.in-Err.why c.in-Err.ensures.served;
  read_fault = λ is. (serves_read_fault _ _ _ _ c.in-Err.why c.in-Err.ensures.served is).1;
  write_fault = λ is. (serves_write_fault _ _ _ _ c.in-Err.why c.in-Err.ensures.served is).1;
  rows = λ rows. (c.in-Err.ensures.rows rows, serves_rows_status _ _ _ _ (Err c.in-Err.why) c.in-Err.ensures.served rows);
  trial = λ trial asked. (
    c.in-Err.ensures.trial trial asked,
    serves_trial_status _ _ _ _ (Err c.in-Err.why) c.in-Err.ensures.served trial asked,
    serves_trial_due _ _ _ _ (Err c.in-Err.why) c.in-Err.ensures.served trial asked,
  );
  completeness = serves_due _ _ _ _ _ (Err c.in-Err.why) (are_told (g.S.Source.seen c.args.source.now) (g.S.Source.seen c.serve.new.source)
      _ (g.met.S.Source.lawful.gives c.args.source.now c.serve.new.source) (g.met.S.Source.lawful.finishes c.args.source.now c.serve.new.source)) c.in-Err.ensures.served;
}
