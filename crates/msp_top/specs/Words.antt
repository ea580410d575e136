-- What reading the words of a command line gives. No public contract cites this file.
use Rattle.std.specs.Prelude.{◌≡◌, ◌≢◌, ℕ, List, [], ◌∷◌, Option, Result, Ok, Err, codes}
use Rattle.std.specs.List.{AllZip}
use Rattle.msp_class.specs.declared.class.Class.{Class}
use Rattle.msp_top.specs.declared.command.Command.TheVariants.{Solve, Answer}
use Rattle.msp_top.specs.declared.command.Question.TheVariants.{Label}
use Rattle.msp_top.specs.declared.command.Request.{Request}
use Rattle.msp_top.specs.declared.command.Request.TheVariants.{Rows, Trial as IsTrial, Labels, Command as IsCommand}
use Rattle.msp_top.specs.declared.command.Trial.{Trial}
use Rattle.msp_top.specs.declared.words.Misfit.{Misfit}
use Rattle.msp_top.specs.Commands.{Asks, AsksForRows, AsksForTrial, Misfits, IsNameWord, IsNumberWord}
use Rattle.msp_top.specs.Usage.{misfit_text, names_text, name_text, name_then, number_then, option_text, trial_text, usage_text}
use Rattle.msp_top.specs.Note.{usage_note}

-- The words ask for the labels of the classes that the words after the first name.
abbrev pub AsksForLabels : List (List ℕ) → Type 0
AsksForLabels words = (classes : List Class) × Asks words (Answer (Label classes))

-- A request is what the words ask for, and a misfit is told by its note.
abbrev pub ReadsWords : List (List ℕ) → Result Request Misfit → Type 0
ReadsWords words (Ok Rows) = AsksForRows words
ReadsWords words (Ok (IsTrial trial)) = AsksForTrial words trial
ReadsWords words (Ok Labels) = AsksForLabels words
ReadsWords words (Ok (IsCommand command)) = Asks words command
ReadsWords words (Err misfit) = Misfits words × (usage_note misfit ≡ usage_text words)

-- The word at this place is the name of the class, or it is no name, and the note says so.
abbrev pub ReadsName : List ℕ → ℕ → Result Class Misfit → Type 0
ReadsName word place (Ok class) = IsNameWord word class
ReadsName word place (Err misfit) = ((later : List ℕ) → usage_note misfit ≡ name_then place word later) × ((class : Class) → ¬ IsNameWord word class)

-- The word at this place is the number, which lies in the range, or it is none, and the note says so.
abbrev pub ReadsNumber : ℕ → ℕ → List ℕ → ℕ → Result ℕ Misfit → Type 0
ReadsNumber least greatest word place (Ok number) = IsNumberWord least greatest word number
ReadsNumber least greatest word place (Err misfit) =
    ((later : List ℕ) → usage_note misfit ≡ number_then place least greatest word later) × ((number : ℕ) → ¬ IsNumberWord least greatest word number)

-- The words after `label` are names, or one of them is none, and the note says so.
abbrev pub AreNames : List (List ℕ) → Result (Unit {0}) Misfit → Type 0
AreNames names (Ok done) = (classes : List Class) × AllZip IsNameWord names classes
AreNames names (Err misfit) = ((classes : List Class) → ¬ AllZip IsNameWord names classes) × (usage_note misfit ≡ names_text 2 names)

-- The words after `why` are the name of the class.
abbrev pub ReadsOneName : List (List ℕ) → Result Class Misfit → Type 0
ReadsOneName words (Ok class) = (name : List ℕ) × (words ≡ name ∷ []) × IsNameWord name class
ReadsOneName words (Err misfit) = ((name : List ℕ) (class : Class) → words ≡ name ∷ [] → ¬ IsNameWord name class) × (usage_note misfit ≡ name_text words)

-- The words after `solve` name the class, if one is named.
abbrev pub ReadsOption : List (List ℕ) → Result (Option Class) Misfit → Type 0
ReadsOption options (Ok at) = Asks (codes "solve" ∷ options) (Solve at)
ReadsOption options (Err misfit) = ((at : Option Class) → ¬ Asks (codes "solve" ∷ options) (Solve at)) × (usage_note misfit ≡ option_text options)

-- The words are none of those that ask for something by one word.
pub record AreNoneAlone (words : List (List ℕ)) : Type 0 where
  pub no_frontier : words ≢ codes "frontier" ∷ []
  pub no_certify : words ≢ codes "certify" ∷ []
  pub no_check : words ≢ codes "check" ∷ []
  pub no_accept : words ≢ codes "accept" ∷ []
  pub no_rows : words ≢ codes "rows" ∷ []

-- A word without words behind it asks for the request.
abbrev pub ReadsAlone : List (List ℕ) → Result Request Misfit → Type 0
ReadsAlone words (Ok request) = ReadsWords words (Ok request)
ReadsAlone words (Err misfit) = AreNoneAlone words × (usage_note misfit ≡ misfit_text)

-- The words after `trial` ask for the trial.
abbrev pub ReadsTrial : List (List ℕ) → Result Trial Misfit → Type 0
ReadsTrial words (Ok trial) = AsksForTrial (codes "trial" ∷ words) trial
ReadsTrial words (Err misfit) = ((trial : Trial) → ¬ AsksForTrial (codes "trial" ∷ words) trial) × (usage_note misfit ≡ trial_text words)
