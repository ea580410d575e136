-- The first slot and the last: where no job is left, the pieces are those of the list.
use Rattle.std.proofs.Common.{◌≡◌, ℕ, ◌+◌, ◌-◌, ◌<◌, ◌≤◌, ◌⊎◌, inl, inr, List, [], ◌∷◌, ◌++◌, length, get_or, map, All, AllPairs}
use Rattle.std.proofs.Common.{IsPermutation, refl, sym, ap, subst, ◌∙◌, arith}
use Rattle.std.specs.List.{range_with_len}
use Rattle.std.proofs.lemmas.List.{append-nil, get_or_default}
use Rattle.std.proofs.lemmas.List.Sorted.{All-permutation}
use Rattle.msp_class.specs.declared.sizes.TheConstants.{MOST_JOBS}
use Rattle.msp_class.proofs.Sums.{AllPairs-contains, OnceBelow, OnceBelow-from_permutation, OnceBelow-contains, length-OnceBelow}
use Rattle.msp_instance.specs.declared.Arc.{Arc}
use Rattle.msp_instance.specs.declared.Instance.{Instance}
use Rattle.msp_instance.specs.Conditions.{Inner}
use Rattle.msp_pieces.specs.declared.Piece.{Piece}
use Rattle.msp_pieces.proofs.lists.Parts.{All-back}
use Rattle.msp_pieces.proofs.changes.Moves.{AllPairs-map}
use Rattle.msp_slots.specs.ListSchedule.{RunsAhead, IsListSchedule}
use Rattle.msp_slots.specs.Steps.{is_blocked, IsSlot, seats, IsUnderWay}
use Rattle.msp_slots.proofs.PieceJobs.{each_job}
use Rattle.msp_slots.proofs.SlotSteps.{IsSlot-arcs}
use Rattle.msp_slots.proofs.Progress.{IsOrdered, fewer, IsUnderWay-next}

-- ---- the start and the end
pub IsUnderWay-start : (i : Instance) (order : List ℕ) → IsOrdered i → IsPermutation (range_with_len 0 (length i.jobs)) order → IsUnderWay i order 0 [] order
IsUnderWay-start i order t all = record {
  begin = λ _. 0;
  machine = λ _. 0;
  all = all;
  ordered = λ a b d l k. (a, b, l, k, get_or_default order a 0 d (omega (arith, l, k)), get_or_default order b 0 d k);
  each = λ k d l. absurd (omega (arith, l));
  early = λ k d l. absurd (omega (arith, l));
  now = λ k d l. refl;
  inside = λ k d l. absurd (omega (arith, l));
  sorted = λ a b d l k. absurd (omega (arith, k));
  forward = λ x d l. inl (OnceBelow-contains (OnceBelow-from_permutation all) (get_or i.arcs x d).after (t.ends x d l).1);
  closed = λ x d l c. OnceBelow-contains (OnceBelow-from_permutation all) (get_or i.arcs x d).after (t.ends x d l).1;
  waits = λ j x l less. absurd (omega (arith, less));
  machines = λ k d l. absurd (omega (arith, l));
  soon = omega (arith, length-OnceBelow (OnceBelow-from_permutation all));
}

pub left_inside : (i : Instance) (order : List ℕ) (moment : ℕ) (pieces : List Piece) (left : List ℕ) → IsUnderWay i order moment pieces left → All (λ j. j < length i.jobs) left
left_inside i order moment pieces left u = All-back (λ j. j < length i.jobs) (map (λ p. p.job) pieces) left (OnceBelow-from_permutation u.all).within

module _ (i : Instance) (order : List ℕ) (moment : ℕ) (pieces : List Piece) (u : IsUnderWay i order moment pieces []) where
  jobs : IsPermutation (range_with_len 0 (length i.jobs)) (map (λ p. p.job) pieces)
  jobs = subst (IsPermutation (range_with_len 0 (length i.jobs))) (append-nil (map (λ p. p.job) pieces)) u.all

  once : OnceBelow (length i.jobs) (map (λ p. p.job) pieces)
  once = OnceBelow-from_permutation jobs

  abbrev Sorted : ℕ → ℕ → Type 0
  Sorted j k = (u.begin j < u.begin k) ⊎ ((u.begin j ≡ u.begin k) × (u.machine j < u.machine k))

  jobs_sorted : AllPairs Sorted (map (λ p. p.job) pieces)
  jobs_sorted = AllPairs-map Sorted (λ p. p.job) pieces u.sorted

  never : (j k : ℕ) → Sorted j k → u.begin j ≡ u.begin k → u.machine j ≡ u.machine k → ⊥
  never j k (inl less) e f = absurd (omega (arith, less, e))
  never j k (inr same) e f = absurd (omega (arith, same.1, f))

  apart : (j k : ℕ) → j < length i.jobs → k < length i.jobs → u.begin j ≡ u.begin k → u.machine j ≡ u.machine k → j ≡ k
  apart j k l m e f = elim (AllPairs-contains Sorted (map (λ p. p.job) pieces) j k jobs_sorted (OnceBelow-contains once j l) (OnceBelow-contains once k m)) [
    | inl before ↦ absurd (never j k before e f)
    | inr other ↦ elim other [ inl same ↦ same | inr after ↦ absurd (never k j after (sym e) (sym f)) ]
  ]

  pub IsListSchedule-from : IsListSchedule i order pieces
  IsListSchedule-from = record {
    begin = u.begin;
    machine = u.machine;
    runs = record {
      forward = λ x d l. elim (u.forward x d l) [ inl c ↦ absurd (omega (arith, c.1)) | inr less ↦ less ];
      inside = each_job pieces once (λ j. u.machine j < i.machines) u.inside;
      apart = apart;
      waits = u.waits;
      machines = λ j m l. each_job pieces once (λ j. (m : ℕ) → m < u.machine j → RunsAhead i order u.begin u.machine (u.begin j) m j) u.machines j l m;
    };
    all = jobs;
    each = u.each;
    sorted = u.sorted;
    soon = λ k d l. omega (arith, u.early k d l, u.soon);
  }

-- ---- at the numbers as the code passes them
module _ (i : Instance) (order : List ℕ) (t : IsOrdered i) (moment : ℕ) (pieces new : List Piece)
    (left shown taken passed rest : List ℕ) (sorted : List Arc) (e : IsPermutation i.arcs sorted) (f : shown ≡ left) (g : passed ≡ taken)
    (s : IsSlot shown (is_blocked sorted shown) i.machines taken rest) (some_left : 0 < length left) (u : IsUnderWay i order moment pieces left) where
  here : IsSlot left (is_blocked i.arcs left) i.machines taken rest
  here = IsSlot-arcs i.arcs sorted left i.machines taken rest e (subst (λ l. IsSlot l (is_blocked sorted l) i.machines taken rest) f s)

  pub slot_smaller : length rest < length left
  slot_smaller = fewer i order t moment pieces left taken rest u here some_left

  pub slot_done : new ≡ pieces ++ seats moment 0 passed → IsUnderWay i order (moment + 1) new rest
  slot_done n = subst (λ ps. IsUnderWay i order (moment + 1) ps rest)
      (ap (λ js. pieces ++ seats moment 0 js) (sym g) ∙ sym n) (IsUnderWay-next i order t moment pieces left taken rest u here some_left)

pub inside_shown : (i : Instance) (order : List ℕ) (moment : ℕ) (pieces : List Piece) (left shown : List ℕ)
    → length i.jobs ≤ MOST_JOBS → shown ≡ left → IsUnderWay i order moment pieces left → All (λ j. j < MOST_JOBS) shown
inside_shown i order moment pieces left shown few e u = subst (All (λ j. j < MOST_JOBS)) (sym e) (λ k d l. omega (arith, left_inside i order moment pieces left u k d l, few))

pub ends_sorted : (i : Instance) (sorted : List Arc) → Inner i → IsPermutation i.arcs sorted → All (λ a. (a.before < MOST_JOBS) × (a.after < MOST_JOBS)) sorted
ends_sorted i sorted h e = All-permutation (λ a. (a.before < MOST_JOBS) × (a.after < MOST_JOBS))
    i.arcs sorted e (λ k d l. (omega (arith, (h.conditions.ends k d l).0, h.conditions.few), omega (arith, (h.conditions.ends k d l).1, h.conditions.few)))

pub start_at : (i : Instance) (order : List ℕ) (pieces : List Piece) → IsOrdered i → pieces ≡ [] → IsPermutation (range_with_len 0 (length i.jobs)) order → IsUnderWay i order 0 pieces order
start_at i order pieces t e h = subst (λ ps. IsUnderWay i order 0 ps order) (sym e) (IsUnderWay-start i order t h)

pub done_at : (i : Instance) (order : List ℕ) (moment : ℕ) (pieces : List Piece) (left : List ℕ) → length left ≡ 0 → IsUnderWay i order moment pieces left → IsListSchedule i order pieces
done_at i order moment pieces [] e u = IsListSchedule-from i order moment pieces u
done_at i order moment pieces (x ∷ left) e u = absurd (omega (arith, e))
