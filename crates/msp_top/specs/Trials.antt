-- What is right to say of a trial.
use Rattle.std.specs.Prelude.{◌≡◌, ◌≢◌, ℕ, List, None}
use Rattle.msp_instance.specs.declared.Instance.{Instance}
use Rattle.msp_gen.specs.Generated.{generated}
use Rattle.msp_route.specs.declared.answer.Answer.{Answer}
use Rattle.msp_dispatch.specs.declared.Cannot.{Cannot}
use Rattle.msp_dispatch.specs.declared.Cannot.TheVariants.{Memory}
use Rattle.msp_dispatch.specs.Dispatch.{IsAnswered, IsFault}
use Rattle.msp_report.specs.TrialText.{trial_report}
use Rattle.msp_top.specs.Cannots.{cannot_status, cannot_text}
use Rattle.msp_top.specs.Outcome.{Outcome, report, refusal}
use Rattle.msp_top.specs.declared.command.Trial.{Trial}

-- The instance of a trial.
abbrev pub instance_of : Trial → Instance
instance_of trial = generated trial.class trial.jobs trial.seed

-- The outcome is right: a report of a best answer to the instance, or that no chain leads from its class to one that is solved, or that
-- what it is carried to breaks the limit of the solver.
pub data TrialIsRight (trial : Trial) : Outcome → Type 0 where
  solved : (answer : Answer) (text : List ℕ) → IsAnswered (instance_of trial) None answer → text ≡ trial_report (instance_of trial) trial.seed answer → TrialIsRight trial (report 0 text)
  unsolved : (cannot : Cannot) → cannot ≢ Memory → IsFault (instance_of trial) None cannot → TrialIsRight trial (refusal (cannot_status cannot) (cannot_text cannot))
