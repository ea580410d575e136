-- How many jobs have at least a level, level by level, and what the levels of all jobs are worth with each tail.
use Rattle.std.proofs.Common.{◌≡◌, ℕ, zero, suc, ◌+◌, ◌-◌, ◌/◌, ◌<◌, ◌≤◌, inl, inr, Bool, cond, List, length, get_or, set, take, count_by, Some, All, pos, refl}
use Rattle.std.proofs.Common.{sym, ap, subst, ◌∙◌, arith}
use Rattle.std.specs.Prelude.{Any, nat_le, ◌==◌}
use Rattle.std.proofs.lemmas.Bool.Decides.{nat_tests}
use Rattle.std.proofs.lemmas.List.{get_or_default, get_or-set_same, get_or-set_other, length-set, length-take-le}
use Rattle.std.proofs.lemmas.List.Sums.{count_by_more_yes, count_by_more_no}
use Rattle.msp_class.proofs.Cases.{same_or_not}
use Rattle.std.proofs.lemmas.List.Elements.{All-contains}
use Rattle.msp_class.specs.declared.sizes.TheConstants.{MOST_JOBS}
use Rattle.msp_class.specs.Sums.{total_below}
use Rattle.msp_class.proofs.Sums.{sum_by-agree, sum_by-add, sum_by-constant, sum_by-some, sum_by-mono, cond-le, total_below-range}
use Rattle.msp_instance.specs.declared.Instance.{Instance}
use Rattle.msp_instance.specs.Conditions.{InClass, IsSequence, GoesForward}
use Rattle.msp_pieces.specs.declared.Frac.{Frac}
use Rattle.msp_pieces.specs.Levels.{LeadsOut, AreLevels, jobs_from}
use Rattle.msp_pieces.proofs.bounds.LevelBound.{StepsDown-levels}
use Rattle.msp_pieces.proofs.lists.ForwardOrders.{each_at, leads_to}
use Rattle.msp_pieces.proofs.lists.Places.{sum_by-places}
use Rattle.msp_cert.specs.declared.Proof.TheVariants.{Levels}
use Rattle.msp_cert.specs.Certificates.{HasUnitJobs, of_job}
use Rattle.msp_cert.specs.Search.{AreAllLevels}
use Rattle.msp_cert.specs.Worth.{IsWorth}
use Rattle.msp_cert.proofs.Decided.{levels_are_worth}

-- ---- how many have at least a level
abbrev one_if : Bool → ℕ
one_if b = cond b 1 0

one_high : (t x : ℕ) → t ≤ x → one_if (nat_le t x) ≡ 1
one_high t x h = grind (arith, nat_tests)

none_low : (t x : ℕ) → 0 < one_if (nat_le t x) → t ≤ x
none_low t x h = grind (arith, nat_tests)

high_or_there : (t x : ℕ) → one_if (nat_le t x) ≡ one_if (x == t) + one_if (nat_le (t + 1) x)
high_or_there t x = grind (arith, nat_tests)

pub all_high : (level : List ℕ) → count_by (nat_le 0) level ≡ length level
all_high level = sum_by-agree (λ x. cond (nat_le 0 x) 1 0) (λ _. 1) level (λ x. one_high 0 x (omega arith)) ∙ sum_by-constant 1 level ∙ omega arith

pub next_high : (t : ℕ) (level : List ℕ) → count_by (nat_le t) level ≡ count_by (λ l. l == t) level + count_by (nat_le (t + 1)) level
next_high t level = sum_by-agree (λ x. cond (nat_le t x) 1 0) (λ x. cond (x == t) 1 0 + cond (nat_le (t + 1) x) 1 0) level (high_or_there t)
    ∙ sum_by-add (λ x. cond (x == t) 1 0) (λ x. cond (nat_le (t + 1) x) 1 0) level

pub jobs_high : (i : Instance) (level : List ℕ) (t : ℕ) → length level ≡ length i.jobs → jobs_from i (of_job level) t ≡ count_by (nat_le t) level
jobs_high i level t each =
    total_below-range (length i.jobs) (λ j. cond (nat_le t (get_or level j 0)) 1 0) ∙ ap (λ n. total_below n (λ j. cond (nat_le t (get_or level j 0)) 1 0)) (sym each)
    ∙ sym (sum_by-places (λ x. cond (nat_le t x) 1 0) level 0)

-- ---- counted job by job
pub record AreCounted (level : List ℕ) (k : ℕ) (counts : List ℕ) : Type 0 where
  pub wide : length counts ≡ MOST_JOBS
  pub each : (t : ℕ) → t < MOST_JOBS → get_or counts t 0 ≡ count_by (λ l. l == t) (take k level)

at_most_all : (t : ℕ) (xs : List ℕ) → count_by (λ l. l == t) xs ≤ length xs
at_most_all t xs = omega (arith, sum_by-mono (λ x. cond (x == t) 1 0) (λ _. 1) xs (λ k d l. cond-le (get_or xs k d == t) 1), sum_by-constant 1 xs)

pub counted_few : (level counts : List ℕ) (k t : ℕ) → AreCounted level k counts → k ≤ length level → t < MOST_JOBS → get_or counts t 0 ≤ k
counted_few level counts k t h l b = omega (arith, h.each t b, at_most_all t (take k level), length-take-le k level l)

pub AreCounted-next : (level : List ℕ) (k : ℕ) (counts : List ℕ) → AreCounted level k counts → k < length level → get_or level k 0 < MOST_JOBS
    → AreCounted level (k + 1) (set counts (get_or level k 0) (get_or counts (get_or level k 0) 0 + 1))
AreCounted-next level k counts h l small = record {
  wide = length-set counts _ _ ∙ h.wide;
  each = λ t b. elim (same_or_not t (get_or level k 0)) [
    | inl s ↦ subst (λ t. get_or (set counts (get_or level k 0) (get_or counts (get_or level k 0) 0 + 1)) t 0 ≡ count_by (λ l. l == t) (take (k + 1) level)) (sym s)
        (get_or-set_same counts _ _ 0 (omega (arith, h.wide, small)) ∙ ap (λ n. n + 1) (h.each _ small) ∙ sym (count_by_more_yes (λ l. l == get_or level k 0) level k 0 l (grind (arith, nat_tests))))
    | inr n ↦ get_or-set_other counts _ t _ 0 n ∙ h.each t b ∙ sym (count_by_more_no (λ l. l == t) level k 0 l (grind (arith, nat_tests)))
  ];
}

-- ---- no level is as great as the number of jobs
beyond : (i : Instance) (order : List ℕ) → IsSequence i order → All (GoesForward order) i.arcs
    → (n p : ℕ) → p < length order → LeadsOut i.arcs n (get_or order p 0) → n + p < length order
beyond i order s forward zero p l out = omega (arith, l)
beyond i order s forward (suc n) p l (k, step, rest) =
    let (q, later, near, at) = All-contains (λ a. a.before ≡ get_or order p 0 → (q : ℕ) × (p < q) × (q < length order) × (get_or order q 0 ≡ a.after))
    i.arcs (record { before = get_or order p 0; after = k }) (leads_to i order s forward p l) step refl in
    let less : n + q < length order = beyond i order s forward n q near (subst (LeadsOut i.arcs n) (sym at) rest) in
    omega (arith, less, later)

pub few_arcs : (i : Instance) → InClass i → (n j : ℕ) → j < length i.jobs → LeadsOut i.arcs n j → n < length i.jobs
few_arcs i c n =
    let (order, s, forward) = c.acyclic in
    each_at i order s (λ x. LeadsOut i.arcs n x → n < length i.jobs) (λ k b out. omega (arith, beyond i order s forward n k b out, s.whole))

pub level_few : (i : Instance) (level : ℕ → ℕ) → InClass i → AreLevels i level → (j : ℕ) → j < length i.jobs → level j < length i.jobs
level_few i level c h j l = few_arcs i c (level j) j l (h j l).path

-- ---- what levels are worth
module _ (i : Instance) (level : List ℕ) (c : InClass i) (h : AreAllLevels i level) where
  pub levels_small : All (λ l. l < length i.jobs) level
  levels_small j d l = subst (λ x. x < length i.jobs) (get_or_default level j 0 d l) (level_few i (of_job level) c h.levels j (omega (arith, l, h.each)))

  pub tail_is_worth : (tail high value : ℕ) (v : Frac) → HasUnitJobs i → high ≡ count_by (nat_le tail) level
      → 0 < high → value ≡ tail + (high + (i.machines - 1)) / i.machines → v.num ≡ pos value → v.den ≡ pos 1 → IsWorth i (Levels level tail) (Some v)
  tail_is_worth tail high value v units e some is num den =
      levels_are_worth i level tail value v (record { units = units; each = h.each; steps = StepsDown-levels i (of_job level) c.conditions.ends h.levels; some = reached })
      (is ∙ ap (λ n. tail + (n + (i.machines - 1)) / i.machines) (e ∙ sym (jobs_high i level tail h.each))) num den
    where
      reached : Any (λ l. tail ≤ l) level
      reached = let (x, (k, l, at), high) = sum_by-some (λ y. cond (nat_le tail y) 1 0) level (omega (arith, e, some)) in (k, x, l, at, none_low tail x high)
