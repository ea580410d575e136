-- The answer to `check`, and the front of an input.
use Rattle.std.proofs.Common.{◌≡◌, ◌↔◌, inr, ℕ, ◌+◌, ◌-◌, ◌≤◌, ◌==◌, List, ◌++◌, length, drop, take, Option, Some, None, IsNone, IfSome, Result, Err, refl, sym, ap, ◌∙◌, subst, arith}
use Rattle.std.proofs.Math.Seq.{drop-append_seam}
use Rattle.std.proofs.lemmas.List.{length-append, length-drop, take_all}
use Rattle.std.proofs.lemmas.List.Sums.{count_by-le-length}
use Rattle.msp_class.specs.Env.{IsCutOnUnrelated}
use Rattle.msp_text.specs.Bytes.{line_feed_byte}
use Rattle.msp_instance.specs.declared.Instance.{Instance}
use Rattle.msp_instance.proofs.Limits.{Inner-from_class}
use Rattle.msp_pieces.specs.declared.Schedule.{Schedule}
use Rattle.msp_schedule.specs.declared.breaks.Break.{Break}
use Rattle.msp_pieces.specs.Feasible.{Feasible}
use Rattle.msp_schedule.specs.Breaks.{IsFirstBreak, IsDecision}
use Rattle.msp_grammar.specs.declared.filed.Filed.{Filed}
use Rattle.msp_file.specs.declared.instance.read.Front.{Front}
use Rattle.msp_grammar.specs.declared.filed.Stated.{Stated}
use Rattle.msp_file.specs.instance.Answers.{IsFrontText}
use Rattle.msp_report.proofs.CheckLemmas.{stated_within}
use Rattle.msp_top.specs.declared.answers.Report.{Report}
use Rattle.msp_top.specs.declared.refusal.Refusal.{Refusal}
use Rattle.msp_top.specs.Checks.{BeginsWith, HasCheckStatus, fails, CheckIsRight, unchecked}
use Rattle.msp_top.specs.Outcome.{Outcome}
use Rattle.msp_top.specs.Refusals.{of_unchecked}
use Rattle.msp_top.specs.Answers.{Answers, OfRest}
use Rattle.msp_top.proofs.SolveAnswers.{answers-along}

-- ---- the front
pub front_inside : (input : List ℕ) (f : Front) → IsFrontText input f.filed.instance f.filed.names f.used f.line → f.used ≤ length input
front_inside input f h = omega (arith, h.long, ap length h.whole, length-append h.text h.rest)

pub front_line : (input : List ℕ) (f : Front) (limit : ℕ) → IsFrontText input f.filed.instance f.filed.names f.used f.line → length input ≤ limit → (1 ≤ f.line) × (f.line ≤ limit + 1)
front_line input f limit h within =
    let count = count_by-le-length (λ byte. byte == line_feed_byte) h.text in
    let inside = front_inside input f h in (
      omega (arith, h.counted),
      omega (arith, h.counted, count, inside, h.long, within),
    )

begins : (input rest : List ℕ) (f : Front) → IsFrontText input f.filed.instance f.filed.names f.used f.line → rest ≡ drop f.used input → BeginsWith input f.filed f.line rest
begins input rest f h e =
    let same : drop f.used input ≡ h.rest = ap (λ n. drop n input) h.long ∙ ap (drop (length h.text)) h.whole ∙ drop-append_seam h.text h.rest in
    record { front = h.text; whole = h.whole ∙ ap (λ r. h.text ++ r) (sym (e ∙ same)); is = h.is; counted = h.counted }

-- the bytes after the text of the instance, as a slice gives them
pub rest_part : (used : ℕ) (input : List ℕ) → take (length input - used) (drop used input) ≡ drop used input
rest_part used input = take_all (length input - used) (drop used input) (omega (arith, length-drop used input))

pub front_right : (IsRightOf : List ℕ → Outcome → Type 0) (input rest : List ℕ) (f : Front) (r : Result Report Refusal)
    → IsFrontText input f.filed.instance f.filed.names f.used f.line → rest ≡ drop f.used input → Answers (OfRest IsRightOf f.filed f.line rest) r → Answers (IsRightOf input) r
front_right IsRightOf input rest f r h e right = answers-along (OfRest IsRightOf f.filed f.line rest) (IsRightOf input) r (λ outcome g. g input (begins input rest f h e)) right

-- ---- the rest
pub rest_unchecked : (filed : Filed) (line : ℕ) (rest : List ℕ) (why : Refusal)
    → IsCutOnUnrelated filed.instance.class → why ≡ of_unchecked filed.instance.class → Answers (OfRest CheckIsRight filed line rest) (Err why)
rest_unchecked filed line rest why cut e =
    subst (λ (w : Refusal). Answers (OfRest CheckIsRight filed line rest) (Err w)) (sym e) (inr (λ input begins. unchecked filed line rest begins cut))

-- ---- the status
pub status_broken : (i : Instance) (s : Stated) (broken : Option Break) (b : Break) → broken ≡ Some b → (IsNone broken ↔ Feasible i s.schedule) → HasCheckStatus i s 1
status_broken i s broken b e decided = fails (λ h. no_none b (subst IsNone e (decided.1 h.0)))
  where
    no_none : (b : Break) → IsNone (Some b) → ⊥
    no_none b h = cc

pub decision : (i : Instance) (s : Schedule) (broken : Option Break) → (IsNone broken ↔ Feasible i s) → IfSome broken (IsFirstBreak i s) → IsDecision i s broken
decision i s None decided first = decided.0 refl
decision i s (Some b) decided first = first

pub ruleset check_rules = (Inner-from_class, stated_within)
