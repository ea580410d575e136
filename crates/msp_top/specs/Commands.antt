-- Which words of a command line ask for what.
use Rattle.std.specs.Prelude.{◌≡◌, ℕ, ◌<◌, ◌≤◌, List, [], ◌∷◌, Some, None, pos, length, codes}
use Rattle.std.specs.List.{AllZip}
use Rattle.msp_class.specs.declared.list.TheConstants.{PLACES}
use Rattle.msp_class.specs.declared.class.Class.{Class}
use Rattle.msp_name.specs.Names.{NameOf}
use Rattle.msp_text.specs.Numbers.{number_of}
use Rattle.msp_class.specs.declared.sizes.TheConstants.{MOST_JOBS}
use Rattle.msp_top.specs.declared.command.TheConstants.{GREATEST_SEED}
use Rattle.msp_top.specs.declared.command.Command.{Command}
use Rattle.msp_top.specs.declared.command.Command.TheVariants.{Solve, Certify, Check, Accept, Answer}
use Rattle.msp_top.specs.declared.command.Question.TheVariants.{Label, Frontier, Why}
use Rattle.msp_top.specs.declared.command.Trial.{Trial}

-- The word is a name of the class. A word of `PLACES` bytes or more is no name.
pub record IsNameWord (word : List ℕ) (class : Class) : Type 0 where
  pub short : length word < PLACES
  pub named : NameOf word class

-- The word spells the number, which lies in a range. A word of `PLACES` bytes or more is no number.
pub record IsNumberWord (least greatest : ℕ) (word : List ℕ) (number : ℕ) : Type 0 where
  pub short : length word < PLACES
  pub spelled : number_of word ≡ Some (pos number)
  pub low : least ≤ number
  pub high : number ≤ greatest

-- The words ask for the command: `solve`, alone or with `--at` and a name of a class; `certify`; `check`; `accept`; `label` and
-- any number of names; `frontier`; `why` and a name.
abbrev pub Asks : List (List ℕ) → Command → Type 0
Asks words (Solve None) = words ≡ codes "solve" ∷ []
Asks words (Solve (Some class)) = (name : List ℕ) × (words ≡ codes "solve" ∷ codes "--at" ∷ name ∷ []) × IsNameWord name class
Asks words Certify = words ≡ codes "certify" ∷ []
Asks words Check = words ≡ codes "check" ∷ []
Asks words Accept = words ≡ codes "accept" ∷ []
Asks words (Answer (Label classes)) = (names : List (List ℕ)) × (words ≡ codes "label" ∷ names) × AllZip IsNameWord names classes
Asks words (Answer Frontier) = words ≡ codes "frontier" ∷ []
Asks words (Answer (Why class)) = (name : List ℕ) × (words ≡ codes "why" ∷ name ∷ []) × IsNameWord name class

-- The words ask for the table of rows, for which nothing is read.
abbrev pub AsksForRows : List (List ℕ) → Type 0
AsksForRows words = words ≡ codes "rows" ∷ []

-- The words ask for a trial: `trial`, a name of the class, the number of jobs, and the seed. Nothing is read for it.
pub record AsksForTrial (words : List (List ℕ)) (trial : Trial) : Type 0 where
  pub name : List ℕ
  pub count : List ℕ
  pub start : List ℕ
  pub form : words ≡ codes "trial" ∷ name ∷ count ∷ start ∷ []
  pub class : IsNameWord name trial.class
  pub jobs : IsNumberWord 1 MOST_JOBS count trial.jobs
  pub seed : IsNumberWord 0 GREATEST_SEED start trial.seed

-- The words ask for nothing that the program does.
pub record Misfits (words : List (List ℕ)) : Type 0 where
  pub no_command : (command : Command) → ¬ Asks words command
  pub no_rows : ¬ AsksForRows words
  pub no_trial : (trial : Trial) → ¬ AsksForTrial words trial
