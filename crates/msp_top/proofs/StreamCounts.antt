-- How many bytes passed in a call, where they are counted.
use Rattle.std.proofs.Common.{◌≡◌, ℕ, zero, suc, ◌+◌, ◌<◌, ◌≤◌, ◌⊎◌, inl, inr, List, length, take, refl, ap, ◌∙◌, subst, arith}
use Rattle.std.proofs.lemmas.List.{length-take}
use Rattle.msp_io.specs.Faults.{so_many_more}
use Rattle.msp_top.specs.declared.command.Command.{Command}
use Rattle.msp_top.specs.Commands.{Asks}
use Rattle.msp_top.specs.Outcome.{report}
use Rattle.msp_top.specs.Run.{Passed, limit_of, IsRight, short, IsRightReport, of_input, of_trial, of_rows, Refuses, input_refused, past_the_limit, trial_refused, IsServed}
use Rattle.msp_top.specs.Streams.{IsCounted}
use Rattle.msp_top.proofs.OneCommand.{asks_once, rows_are_no_command, trial_is_no_command}

-- so many bytes were read for a command, with this status
abbrev Read : Command → ℕ → ℕ → ℕ → Type 0
Read command given given_after status = (count : ℕ) × (given_after ≡ so_many_more given count) × ((count ≤ limit_of command) ⊎ ((status ≡ 4) × (count ≡ limit_of command + 1)))

report_short : (command : Command) (input : List ℕ) (status : ℕ) (text : List ℕ) → IsRight command input (report status text) → length input ≤ limit_of command
report_short command input status text (short outcome within right) = within

report_read : (words : List (List ℕ)) (call : Passed) (given given_after n status : ℕ) (text : List ℕ) (command : Command)
    → ((bytes : List ℕ) → call.finished bytes → given_after ≡ so_many_more given (length bytes)) →
    Asks words command → IsRightReport words call status text → Read command given given_after n
report_read words call given given_after n status text command finished asked (of_input other input k l asks h right) =
    (length input, finished input h, inl (subst (λ c. length input ≤ limit_of c) (asks_once words other command asks asked) (report_short other input status text right)))
report_read words call given given_after n status text command finished asked (of_trial trial k l asks right) = trial_is_no_command words trial command asks asked
report_read words call given given_after n status text command finished asked (of_rows asks) = rows_are_no_command words command asks asked

refusal_read : (words : List (List ℕ)) (call : Passed) (given given_after status : ℕ) (note : List ℕ) (command : Command)
    → ((bytes : List ℕ) → call.gave bytes → given_after ≡ so_many_more given (length bytes)) → ((bytes : List ℕ) → call.finished bytes → given_after ≡ so_many_more given (length bytes)) →
    Asks words command → Refuses words call status note → Read command given given_after status
refusal_read words call given given_after status note command gave finished asked (input_refused other input k l asks h within right) =
    (length input, finished input h, inl (subst (λ c. length input ≤ limit_of c) (asks_once words other command asks asked) within))
refusal_read words call given given_after status note command gave finished asked (past_the_limit other bytes asks h count) =
    (length bytes, gave bytes h, inr (refl, count ∙ ap (λ c. limit_of c + 1) (asks_once words other command asks asked)))
refusal_read words call given given_after status note command gave finished asked (trial_refused trial k l asks right) = trial_is_no_command words trial command asks asked

-- a status is one of these
data Which (status : ℕ) : Type 0 where
  of_report : status ≤ 1 → Which status
  of_misfit : status ≡ 2 → Which status
  of_refusal : 3 ≤ status → status ≤ 6 → Which status
  of_read : status ≡ 7 → Which status
  of_write : status ≡ 8 → Which status
  of_memory : status ≡ 9 → Which status

which : (status : ℕ) → status ≤ 9 → Which status
which zero h = of_report (omega arith)
which (suc zero) h = of_report (omega arith)
which (suc (suc zero)) h = of_misfit refl
which (suc (suc (suc (suc (suc (suc (suc zero))))))) h = of_read refl
which (suc (suc (suc (suc (suc (suc (suc (suc zero)))))))) h = of_write refl
which (suc (suc (suc (suc (suc (suc (suc (suc (suc zero))))))))) h = of_memory refl
which (suc (suc (suc (suc (suc (suc (suc (suc (suc (suc n)))))))))) h = absurd (omega (arith, h))
which _ h = of_refusal (omega arith) (omega arith)

-- a front of bytes is as long as it says
front_length : (count : ℕ) (text : List ℕ) → count < length text → length (take count text) ≡ count
front_length count text less = omega (arith, length-take count text, less)

-- what the counts say, where each relation says by how many they went up
pub is_counted : (words : List (List ℕ)) (call : Passed) (told : List ℕ → Type 0) (given given_after taken taken_after status : ℕ) →
    ((bytes : List ℕ) → call.gave bytes → given_after ≡ so_many_more given (length bytes)) → ((bytes : List ℕ) → call.finished bytes → given_after ≡ so_many_more given (length bytes))
    → ((bytes : List ℕ) → call.broke bytes → given_after ≡ so_many_more given (length bytes)) →
    ((bytes : List ℕ) → call.took bytes → taken_after ≡ so_many_more taken (length bytes)) → ((bytes : List ℕ) → call.broke_off bytes → taken_after ≡ so_many_more taken (length bytes)) →
    IsServed words call told status → IsCounted words call given given_after taken taken_after status
is_counted words call told given given_after taken taken_after status gave finished broke took broke_off h = record {
  report = λ low. let r = h.right_report low in (r.0, r.1, took r.0 r.2);
  part = λ is. let b = h.write_fault is in (b.status, b.text, b.count, b.right, b.short, broke_off (take b.count b.text) b.part ∙ ap (so_many_more taken) (front_length b.count b.text b.short));
  read = λ command asked. by_status command asked (which status h.known);
}
  where
    of_either : (command : Command) (bytes : List ℕ) → call.gave bytes ⊎ call.finished bytes → length bytes ≤ limit_of command → Read command given given_after status
    of_either command bytes (inl g) few = (length bytes, gave bytes g, inl few)
    of_either command bytes (inr f) few = (length bytes, finished bytes f, inl few)

    by_status : (command : Command) → Asks words command → Which status → Read command given given_after status
    by_status command asked (of_report low) = let r = h.right_report low in report_read words call given given_after status status r.0 command finished asked r.1
    by_status command asked (of_misfit is) = absurd ((h.usage.0 is).no_command command asked)
    by_status command asked (of_refusal from to) = let r = h.refusal from to in refusal_read words call given given_after status r.0 command gave finished asked r.1
    by_status command asked (of_read is) = let r = h.read_fault is in (length r.2.0, broke r.2.0 r.2.1, inl (subst (λ c. length r.2.0 ≤ limit_of c) (asks_once words r.0 command r.1 asked) r.2.2))
    by_status command asked (of_write is) = let b = h.write_fault is in report_read words call given given_after status b.status b.text command finished asked b.right
    by_status command asked (of_memory is) = let m = h.few is command asked in of_either command m.0 m.1 m.2
