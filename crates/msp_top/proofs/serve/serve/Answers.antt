-- The goals of `serve` that are proved by lemmas.
use Rattle.std.proofs.Common.{◌∙◌}
use Rattle.msp_top.specs.declared.command.Request.TheVariants.{Rows, Trial as IsTrial, Labels, Command as IsCommand}
use Rattle.msp_top.specs.declared.notes.Note.TheVariants.{Usage}
use Rattle.msp_top.specs.Run.{of_rows}
use Rattle.msp_top.specs.Ending.{misfit}
use Rattle.msp_top.proofs.Exits.{failed}
use Rattle.msp_top.proofs.Endings.{serves_unnamed, serves_any, serves_rows, breaks_off, reads_as, never_usage, trial_in_range}
use Rattle.msp_top.proofs.OneCommand.{rows_are_no_command, trial_is_no_command}
use Rattle.msp_top.proofs.serve.serve.Goals as goal

pub returns-in_err-read_words-clause-served : goal.returns-in_err-read_words-clause-served
returns-in_err-read_words-clause-served g c =
    rw (failed _ c.from_residual.ensures.1) (misfit (Usage c.in_err-read_words.field-0.0) c.in_err-read_words.ensures.0 c.in_err-read_words.ensures.1)

pub returns-in_err-write_all-in-Rows-clause-served : goal.returns-in_err-write_all-in-Rows-clause-served
returns-in_err-write_all-in-Rows-clause-served g c = rw (failed _ c.from_residual-in_err-write_all-in-Rows.ensures.1)
    (breaks_off _ _ _ _ _ _ _ c.in_err-write_all-in-Rows.field-0.0 (of_rows (reads_as _ _ Rows c.in_ok-read_words.ensures c.in-Rows.is))
    (c.bytes.ensures.value ∙ c.rows_text.ensures) c.in_err-write_all-in-Rows.ensures.put c.in_err-write_all-in-Rows.ensures.fault)

pub returns-in_ok-write_all-in-Rows-clause-served : goal.returns-in_ok-write_all-in-Rows-clause-served
returns-in_ok-write_all-in-Rows-clause-served g c =
    serves_rows _ _ _ _ _ (reads_as _ _ Rows c.in_ok-read_words.ensures c.in-Rows.is) (c.bytes.ensures.value ∙ c.rows_text.ensures) c.in_ok-write_all-in-Rows.ensures.put.all

pub try_out-requires : goal.try_out-requires
try_out-requires g c = trial_in_range _ c.in-Trial.trial (reads_as _ _ (IsTrial c.in-Trial.trial) c.in_ok-read_words.ensures c.in-Trial.is)

pub returns-in-Trial-clause-served : goal.returns-in-Trial-clause-served
returns-in-Trial-clause-served g c =
    serves_any _ _ _ _ c.try_out.result (c.try_out.ensures.served _ (reads_as _ _ (IsTrial c.in-Trial.trial) c.in_ok-read_words.ensures c.in-Trial.is))

pub returns-in_err-command-in-Labels-clause-served : goal.returns-in_err-command-in-Labels-clause-served
returns-in_err-command-in-Labels-clause-served g c = rw (failed _ c.from_residual-in_err-command-in-Labels.ensures.1)
    (serves_unnamed _ _ _ _ (g.met.S.Source.lawful.none c.args.source.now) (reads_as _ _ Labels c.in_ok-read_words.ensures c.in-Labels.is))

pub returns-in-Command-clause-served : goal.returns-in-Command-clause-served
returns-in-Command-clause-served g c = c.perform-in-Command.ensures.served _ (reads_as _ _ (IsCommand c.in-Command.command) c.in_ok-read_words.ensures c.in-Command.is)

pub returns-in-Command-clause-unread : goal.returns-in-Command-clause-unread
returns-in-Command-clause-unread g c = never_usage _ c.perform-in-Command.result c.perform-in-Command.ensures.not_usage

pub returns-in-Command-clause-rows : goal.returns-in-Command-clause-rows
returns-in-Command-clause-rows g c rows = rows_are_no_command _ c.in-Command.command rows (reads_as _ _ (IsCommand c.in-Command.command) c.in_ok-read_words.ensures c.in-Command.is)

pub returns-in-Command-clause-trial : goal.returns-in-Command-clause-trial
returns-in-Command-clause-trial g c trial asked =
    trial_is_no_command _ trial c.in-Command.command asked (reads_as _ _ (IsCommand c.in-Command.command) c.in_ok-read_words.ensures c.in-Command.is)
