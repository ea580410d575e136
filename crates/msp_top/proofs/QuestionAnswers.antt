-- The answers to questions about a file of results.
use Rattle.std.proofs.Common.{◌≡◌, ℕ, ◌<◌, List, [], ◌∷◌, length, Bool, true, false, Option, Some, None, IfOk, is_some, Result, Ok, Err, ◌⊎◌, inl, inr, refl}
use Rattle.std.proofs.Common.{sym, ◌∙◌}
use Rattle.std.specs.Prelude.{slice_index_or}
use Rattle.msp_class.specs.declared.class.Class.{Class}
use Rattle.msp_class.specs.Rank.{rank_of}
use Rattle.msp_table.specs.declared.row.Chain.{Chain}
use Rattle.msp_table.specs.Rows.{keeps_size}
use Rattle.msp_table.specs.Chains.{every_row}
use Rattle.msp_closure.specs.declared.entry.Entry.{Entry}
use Rattle.msp_closure.specs.Entries.{easy_listed, pseudo_listed, hard_listed, strong_listed, HasWay, IsWay}
use Rattle.msp_closure.proofs.WayLemmas.{IsFirst-among, IsFirst-has}
use Rattle.msp_closure.specs.declared.frontier_lists.FrontierLists.{FrontierLists}
use Rattle.msp_closure.specs.Frontier.{IsFrontier}
use Rattle.msp_report.specs.FrontierText.{frontier_report}
use Rattle.msp_report.specs.WhyText.{IsWhyText}
use Rattle.msp_results.specs.declared.fault.ResultFault.{ResultFault}
use Rattle.msp_results.specs.declared.fault.ResultFault.TheVariants.{Memory}
use Rattle.msp_results.specs.Reading.{results_of}
use Rattle.msp_top.specs.declared.command.Question.{Question}
use Rattle.msp_top.specs.Reports.{AreClashes, HasClashStatus, contradicts, agrees, IsFrontierReport, IsWhyReport, ReadsResults, misread}
use Rattle.msp_top.specs.Refusals.{of_result_fault}
use Rattle.msp_top.specs.Answers.{Answers}

-- the first classes, in order of rank
pub record HasClasses (classes : List Class) (n : ℕ) : Type 0 where
  pub all : length classes ≡ n
  pub ranks : (k : ℕ) (d : Class) → k < length classes → rank_of (slice_index_or classes k d) ≡ k

-- ---- the status

way_is : (usable : ℕ → Bool) (wanted starts : List Class) (chain : Chain) → IsWay usable wanted starts (Some chain) → HasWay usable wanted starts
way_is usable wanted starts chain way = (chain.from, IsFirst-among way.0, IsFirst-has way.0)

pub status_first : (entries : List Entry) (clash strong_clash : Option Chain) → is_some clash ≡ true → AreClashes entries clash strong_clash → HasClashStatus entries 1
status_first entries None strong_clash e h = cc
status_first entries (Some clash) strong_clash e h = contradicts (inl (way_is _ _ _ clash h.clash_is))

pub status_second : (entries : List Entry) (clash strong_clash : Option Chain) → is_some strong_clash ≡ true → AreClashes entries clash strong_clash → HasClashStatus entries 1
status_second entries clash None e h = cc
status_second entries clash (Some strong_clash) e h = contradicts (inr (way_is _ _ _ strong_clash h.strong_clash_is))

pub status_none : (entries : List Entry) (clash strong_clash : Option Chain) → is_some clash ≡ false → is_some strong_clash ≡ false → AreClashes entries clash strong_clash → HasClashStatus entries 0
status_none entries None None e f h = agrees h.clash_is h.strong_clash_is
status_none entries None (Some strong_clash) e f h = cc
status_none entries (Some clash) strong_clash e f h = cc

-- ---- the frontier

pub frontier_right : {V E : Type 0} (items : V → List ℕ) (entries : List Entry) (lists : FrontierLists) (clash strong_clash : Option Chain) (r : Result V E)
    → IsFrontier entries lists → AreClashes entries clash strong_clash →
    IfOk r (λ text. items text ≡ frontier_report lists clash strong_clash) → IfOk r (λ text. IsFrontierReport entries (items text))
frontier_right items entries lists clash strong_clash (Ok text) frontier clashes printed = record {
  lists = lists;
  clash = clash;
  strong_clash = strong_clash;
  frontier = frontier;
  clashes = clashes;
  printed = printed;
}
frontier_right items entries lists clash strong_clash (Err e) frontier clashes printed = tt

-- ---- what shows the label of a class

pub why_right : {V E : Type 0} (items : V → List ℕ) (class : Class) (entries : List Entry) (easy pseudo hard strong : Option Chain) (r : Result V E) →
    IsWay every_row (easy_listed entries) (class ∷ []) easy → IsWay keeps_size (pseudo_listed entries) (class ∷ []) pseudo
    → IsWay every_row (class ∷ []) (hard_listed entries) hard → IsWay keeps_size (class ∷ []) (strong_listed entries) strong →
    IfOk r (λ text. IsWhyText entries class easy pseudo hard strong (items text)) → IfOk r (λ text. IsWhyReport class entries (items text))
why_right items class entries easy pseudo hard strong (Ok text) easy_is pseudo_is hard_is strong_is printed = record {
  easy = easy;
  pseudo = pseudo;
  hard = hard;
  strong = strong;
  easy_is = easy_is;
  pseudo_is = pseudo_is;
  hard_is = hard_is;
  strong_is = strong_is;
  printed = printed;
}
why_right items class entries easy pseudo hard strong (Err e) easy_is pseudo_is hard_is strong_is printed = tt

-- ---- the faults of results

-- the fault is the one that reading comes to, or memory was wanting
first_fault : (question : Question) (input : List ℕ) (fault : ResultFault) → (fault ≡ Memory) ⊎ (results_of input ≡ Err fault) → Answers (ReadsResults question input) (Err (of_result_fault fault))
first_fault question input Memory h = inl (refl, refl)
first_fault question input fault (inl memory) = absurd (let e : fault ≡ Memory = memory in cc)
first_fault question input fault (inr first) = inr (misread fault (λ e. cc) first)

err_same : {T : Type 0} {a b : ResultFault} {r : Result T ResultFault} → r ≡ Err a → r ≡ Err b → a ≡ b
err_same p q = cc

pub misread_right : (question : Question) (input : List ℕ) (r : Result (List Entry) ResultFault) (fault : ResultFault)
    → r ≡ Err fault → (r ≡ Err Memory) ⊎ (r ≡ results_of input) → Answers (ReadsResults question input) (Err (of_result_fault fault))
misread_right question input r fault is reading =
    first_fault question input fault (elim reading [ inl memory ↦ inl (err_same is memory) | inr same ↦ inr (sym same ∙ is) ])
