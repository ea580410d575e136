-- The answer to a trial.
use Rattle.std.proofs.Common.{◌≡◌, ℕ, List, None, Err, inl, inr, refl, ap, ◌∙◌, subst}
use Rattle.msp_instance.specs.declared.Instance.{Instance}
use Rattle.msp_route.specs.declared.answer.Answer.{Answer}
use Rattle.msp_dispatch.specs.declared.Cannot.{Cannot}
use Rattle.msp_dispatch.specs.declared.Cannot.TheVariants.{Memory}
use Rattle.msp_dispatch.specs.Dispatch.{IsAnswered, IsFault}
use Rattle.msp_report.specs.TrialText.{trial_report}
use Rattle.msp_top.specs.declared.command.Trial.{Trial}
use Rattle.msp_top.specs.Outcome.{report}
use Rattle.msp_top.specs.Trials.{instance_of, TrialIsRight, solved, unsolved}
use Rattle.msp_top.specs.Refusals.{of_cannot}
use Rattle.msp_top.specs.Answers.{Answers}

cannot_first : (trial : Trial) (cannot : Cannot) → IsFault (instance_of trial) None cannot → Answers (TrialIsRight trial) (Err (of_cannot cannot))
cannot_first trial Memory h = inl (refl, refl)
cannot_first trial cannot h = inr (unsolved cannot (λ e. cc) h)

pub trial_unsolved : (trial : Trial) (i : Instance) (cannot : Cannot) → i ≡ instance_of trial → IsFault i None cannot → Answers (TrialIsRight trial) (Err (of_cannot cannot))
trial_unsolved trial i cannot made fault = cannot_first trial cannot (subst (λ j. IsFault j None cannot) made fault)

pub trial_solved : (trial : Trial) (i : Instance) (answer : Answer) (text : List ℕ)
    → i ≡ instance_of trial → IsAnswered i None answer → text ≡ trial_report i trial.seed answer → TrialIsRight trial (report 0 text)
trial_solved trial i answer text made answered e =
    solved answer text (subst (λ j. IsAnswered j None answer) made answered) (e ∙ ap (λ j. trial_report j trial.seed answer) made)
