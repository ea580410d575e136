-- What the marks of known results say: easy, hard or open exactly where the class is.
use Rattle.std.proofs.Common.{◌<◌, List, [], ◌∷◌, cond, length, map, filter, inl, inr, refl, arith}
use Rattle.std.specs.Prelude.{Contains}
use Rattle.std.specs.Bool.{Decides}
use Rattle.std.proofs.lemmas.Option.{slice_get-get_or}
use Rattle.msp_class.specs.declared.class.Class.{Class}
use Rattle.msp_class.specs.Rank.{rank_of}
use Rattle.msp_class.proofs.RankLemmas.{rank_of-below}
use Rattle.std.proofs.lemmas.List.Elements.{Contains-append_left, Contains-append_right, Contains-append_cases}
use Rattle.msp_table.proofs.ChainLemmas.{Leads-weaken}
use Rattle.msp_closure.specs.declared.entry.Entry.{Entry}
use Rattle.msp_closure.specs.declared.entry.Verdict.TheVariants as verdict
use Rattle.msp_closure.specs.declared.entry.Mark.{Mark}
use Rattle.msp_closure.specs.declared.entry.Mark.TheVariants.{Easy, Pseudo, Weak, Hard, Strong, Torn, Both, Unsettled}
use Rattle.msp_closure.specs.Entries.{is_hard, is_strong, listed, IsEasy, IsHard, IsStrong, Says, AreLabels}
use Rattle.msp_closure.specs.Frontier.{IsMaximal, IsMinimal, ListsInOrder, mark_at, says_easy, says_hard, says_open, HasMark, IsOpen}
use Rattle.msp_closure.proofs.LabelLemmas.{Says-label}
use Rattle.msp_closure.proofs.FrontierLemmas.{IsMaximal-same, IsMinimal-same}

-- a class listed as hard in the strong sense is listed as hard
listed_strong : (es : List Entry) (b : Class) → Contains (listed is_strong es) b → Contains (listed is_hard es) b
listed_strong [] b has = has
listed_strong (e ∷ es) b has =
    elim (e.verdict) as (λ v. Contains (map (λ x. x.class) (cond (is_strong v) (e ∷ filter (λ x. is_strong x.verdict) es) (filter (λ x. is_strong x.verdict) es))) b
    → Contains (map (λ x. x.class) (cond (is_hard v) (e ∷ filter (λ x. is_hard x.verdict) es) (filter (λ x. is_hard x.verdict) es))) b) [
      | verdict.Easy ↦ listed_strong es b
      | verdict.Pseudo ↦ listed_strong es b
      | verdict.Hard ↦ λ later. Contains-append_right (e.class ∷ []) (listed is_hard es) b (listed_strong es b later)
      | verdict.Strong ↦ λ first. elim (Contains-append_cases (e.class ∷ []) (listed is_strong es) b first) as (λ _. Contains (e.class ∷ listed is_hard es) b) [
        | inl here ↦ Contains-append_left (e.class ∷ []) (listed is_hard es) b here
        | inr later ↦ Contains-append_right (e.class ∷ []) (listed is_hard es) b (listed_strong es b later)
      ]
    ] has

IsHard-from_strong : (es : List Entry) (c : Class) → IsStrong es c → IsHard es c
IsHard-from_strong es c strong =
    (strong.0, listed_strong es strong.0 strong.1, (strong.2.0, Leads-weaken (λ k usable. refl) strong.2.1))

says_easy-right : (es : List Entry) (c : Class) (m : Mark) → Says es c m → Decides (says_easy m) (IsEasy es c)
says_easy-right es c Easy s = (λ e. s.0, λ easy. refl)
says_easy-right es c Both s = (λ e. s.0.0, λ easy. refl)
says_easy-right es c _ s = (λ e. cc, λ easy. absurd (s.1 Easy (omega arith) easy))

says_hard-right : (es : List Entry) (c : Class) (m : Mark) → Says es c m → Decides (says_hard m) (IsHard es c)
says_hard-right es c Easy s = (λ e. cc, λ hard. absurd (s.1 Both (omega arith) (s.0, hard)))
says_hard-right es c Both s = (λ e. s.0.1, λ hard. refl)
says_hard-right es c Torn s = (λ e. IsHard-from_strong es c s.0.1, λ hard. refl)
says_hard-right es c Weak s = (λ e. s.0.0, λ hard. refl)
says_hard-right es c Strong s = (λ e. IsHard-from_strong es c s.0, λ hard. refl)
says_hard-right es c Hard s = (λ e. s.0, λ hard. refl)
says_hard-right es c _ s = (λ e. cc, λ hard. absurd (s.1 Hard (omega arith) hard))

says_open-right : (es : List Entry) (c : Class) (m : Mark) → Decides (says_easy m) (IsEasy es c) → Decides (says_hard m) (IsHard es c)
    → Decides (says_open m) (IsOpen es c)
says_open-right es c Easy easy hard = (λ e. cc, λ open_here. absurd (open_here.0 (easy.0 refl)))
says_open-right es c Both easy hard = (λ e. cc, λ open_here. absurd (open_here.0 (easy.0 refl)))
says_open-right es c Pseudo easy hard = (λ e. (λ is. let both = easy.1 is in cc, λ is. let both = hard.1 is in cc), λ open_here. refl)
says_open-right es c Unsettled easy hard = (λ e. (λ is. let both = easy.1 is in cc, λ is. let both = hard.1 is in cc), λ open_here. refl)
says_open-right es c _ easy hard = (λ e. cc, λ open_here. absurd (open_here.1 (hard.0 refl)))

module _ (es : List Entry) (marks : List Mark) (are : AreLabels es marks) where
  says_at : (c : Class) → Says es c (mark_at marks c)
  says_at c =
      let inside : rank_of c < length marks = omega (arith, rank_of-below c, are.one_each) in
      Says-label es marks c (mark_at marks c) are (slice_get-get_or marks (rank_of c) Unsettled inside)

  open_at : (c : Class) → Decides (says_open (mark_at marks c)) (IsOpen es c)
  open_at c =
      says_open-right es c (mark_at marks c) (says_easy-right es c (mark_at marks c) (says_at c)) (says_hard-right es c (mark_at marks c) (says_at c))

  pub known_easy : (classes : List Class) → ListsInOrder (IsMaximal (HasMark says_easy marks)) classes → ListsInOrder (IsMaximal (IsEasy es)) classes
  known_easy classes s = IsMaximal-same (HasMark says_easy marks) (IsEasy es) classes (λ c. says_easy-right es c (mark_at marks c) (says_at c)) s

  pub known_hard : (classes : List Class) → ListsInOrder (IsMinimal (HasMark says_hard marks)) classes → ListsInOrder (IsMinimal (IsHard es)) classes
  known_hard classes s = IsMinimal-same (HasMark says_hard marks) (IsHard es) classes (λ c. says_hard-right es c (mark_at marks c) (says_at c)) s

  pub known_low : (classes : List Class) → ListsInOrder (IsMinimal (HasMark says_open marks)) classes → ListsInOrder (IsMinimal (IsOpen es)) classes
  known_low classes s = IsMinimal-same (HasMark says_open marks) (IsOpen es) classes open_at s

  pub known_high : (classes : List Class) → ListsInOrder (IsMaximal (HasMark says_open marks)) classes → ListsInOrder (IsMaximal (IsOpen es)) classes
  known_high classes s = IsMaximal-same (HasMark says_open marks) (IsOpen es) classes open_at s
