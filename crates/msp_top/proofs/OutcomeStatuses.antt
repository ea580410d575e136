-- The statuses of right outcomes: 0 or 1 of a report, 3 to 6 of a refusal.
use Rattle.std.proofs.Common.{◌≢◌, ℕ, ◌≤◌, List, refl, arith}
use Rattle.msp_grammar.specs.declared.lines.fault.FileFault.{FileFault}
use Rattle.msp_grammar.specs.declared.lines.fault.FileFault.TheVariants.{Memory as FileMemory}
use Rattle.msp_dispatch.specs.declared.Cannot.{Cannot}
use Rattle.msp_dispatch.specs.declared.Cannot.TheVariants.{Memory as CannotMemory}
use Rattle.msp_dispatch.specs.declared.Uncertified.{Uncertified}
use Rattle.msp_dispatch.specs.declared.Uncertified.TheVariants.{Memory as CertifyMemory}
use Rattle.msp_results.specs.declared.fault.ResultFault.{ResultFault}
use Rattle.msp_results.specs.declared.fault.ResultFault.TheVariants.{Memory}
use Rattle.msp_top.specs.declared.command.Command.{Command}
use Rattle.msp_top.specs.declared.command.Command.TheVariants.{Solve, Certify, Check, Accept, Answer}
use Rattle.msp_top.specs.declared.command.Trial.{Trial}
use Rattle.msp_top.specs.Files.{file_status}
use Rattle.msp_top.specs.Cannots.{cannot_status, uncertified_status}
use Rattle.msp_top.specs.Results.{results_status}
use Rattle.msp_top.specs.Outcome.{Outcome, report, refusal}
use Rattle.msp_top.specs.Solves.{solved, misread, unsolved}
use Rattle.msp_top.specs.Certifies.{certified, misread as misread_instance, uncertified}
use Rattle.msp_top.specs.Checks.{holds, fails, checked, misread_front, unchecked, misread_rest}
use Rattle.msp_top.specs.Accepts.{accepted, rejected, judged, misread_front as misread_first, misread_rest as misread_later}
use Rattle.msp_top.specs.Reports.{contradicts, agrees, reported, misread as misread_results}
use Rattle.msp_top.specs.Trials.{TrialIsRight, solved as trial_solved, unsolved as trial_unsolved}
use Rattle.msp_top.specs.Run.{IsRightWithin}

abbrev pub HasStatus : Outcome → Type 0
HasStatus (report status text) = status ≤ 1
HasStatus (refusal status note) = (3 ≤ status) × (status ≤ 6)

file_range : (fault : FileFault) → fault ≢ FileMemory → (3 ≤ file_status fault) × (file_status fault ≤ 6)
file_range FileMemory other = absurd (other refl)
file_range _ other = (omega arith, omega arith)

results_range : (fault : ResultFault) → fault ≢ Memory → (3 ≤ results_status fault) × (results_status fault ≤ 6)
results_range Memory other = absurd (other refl)
results_range _ other = (omega arith, omega arith)

cannot_range : (cannot : Cannot) → cannot ≢ CannotMemory → (3 ≤ cannot_status cannot) × (cannot_status cannot ≤ 6)
cannot_range CannotMemory other = absurd (other refl)
cannot_range _ other = (omega arith, omega arith)

uncertified_range : (why : Uncertified) → why ≢ CertifyMemory → (3 ≤ uncertified_status why) × (uncertified_status why ≤ 6)
uncertified_range CertifyMemory other = absurd (other refl)
uncertified_range _ other = (omega arith, omega arith)

pub within_status : (command : Command) (input : List ℕ) (outcome : Outcome) → IsRightWithin command input outcome → HasStatus outcome
within_status (Solve at) input (report status text) (solved t is) = omega arith
within_status (Solve at) input (refusal status note) (misread fault other first) = file_range fault other
within_status (Solve at) input (refusal status note) (unsolved names i cannot read other fault) = cannot_range cannot other
within_status Certify input (report status text) (certified t is) = omega arith
within_status Certify input (refusal status note) (misread_instance fault other first) = file_range fault other
within_status Certify input (refusal status note) (uncertified names i why read other h) = uncertified_range why other
within_status Check input (report status text) (checked filed s line rest n t begins may read (holds h e) r) = omega arith
within_status Check input (report status text) (checked filed s line rest n t begins may read (fails h) r) = omega arith
within_status Check input (refusal status note) (misread_front fault other first) = file_range fault other
within_status Check input (refusal status note) (unchecked filed line rest begins cut) = (omega arith, omega arith)
within_status Check input (refusal status note) (misread_rest filed line rest fault begins may other first) = file_range fault other
within_status Accept input (report status text) (judged filed c line rest n t begins read (accepted u h r)) = omega arith
within_status Accept input (report status text) (judged filed c line rest n t begins read (rejected u h r)) = omega arith
within_status Accept input (refusal status note) (misread_first fault other first) = file_range fault other
within_status Accept input (refusal status note) (misread_later filed line rest fault begins other first) = file_range fault other
within_status (Answer question) input (report status text) (reported entries s t read (contradicts h) r) = omega arith
within_status (Answer question) input (report status text) (reported entries s t read (agrees h g) r) = omega arith
within_status (Answer question) input (refusal status note) (misread_results fault other first) = results_range fault other

pub trial_status : (trial : Trial) (outcome : Outcome) → TrialIsRight trial outcome → HasStatus outcome
trial_status trial (report status text) (trial_solved answer t answered e) = omega arith
trial_status trial (refusal status note) (trial_unsolved cannot other fault) = cannot_range cannot other
