-- The numbers of the sorted jobs are Smith's order.
use Rattle.std.proofs.Common.{◌≡◌, ◌≢◌, ℕ, ◌*◌, ◌<◌, ◌≤◌, ◌⊎◌, inl, inr, List, [], length, get_or, map, All, AllPairs, IsPermutation, sym, ap₂, subst, arith}
use Rattle.std.specs.List.{range_with_len}
use Rattle.std.proofs.lemmas.List.Sorted.{IsPermutation-map, All-permutation}
use Rattle.msp_class.proofs.Sums.{OnceBelow-from_permutation, OnceBelow-distinct}
use Rattle.msp_instance.specs.declared.Instance.{Instance}
use Rattle.msp_instance.specs.Instance.{job_at, need_at}
use Rattle.msp_single.specs.declared.smith.Load.{Load}
use Rattle.msp_single.specs.Smith.{GoesBefore, IsSmithOrder}
use Rattle.msp_single.proofs.SmithSteps.{IsLoadOf}
use Rattle.msp_pieces.proofs.changes.Moves.{AllPairs-map}

abbrev pub Sorted : List Load → Type 0
Sorted ls = AllPairs (λ a b. (b.weight * a.time < a.weight * b.time) ⊎ ((b.weight * a.time ≡ a.weight * b.time) × (a.job ≤ b.job))) ls

-- the same of the jobs, where a job is no greater than itself
abbrev GoesOrIs : Instance → ℕ → ℕ → Type 0
GoesOrIs i a b =
    ((job_at i b).weight * (need_at i a 0).time < (job_at i a).weight * (need_at i b 0).time)
    ⊎ (((job_at i b).weight * (need_at i a 0).time ≡ (job_at i a).weight * (need_at i b 0).time) × (a ≤ b))

goes_or_is : (i : Instance) (a b : Load) → IsLoadOf i a → IsLoadOf i b → (b.weight * a.time < a.weight * b.time) ⊎ ((b.weight * a.time ≡ a.weight * b.time) × (a.job ≤ b.job)) → GoesOrIs i a.job b.job
goes_or_is i a b la lb h =
    let left : b.weight * a.time ≡ (job_at i b.job).weight * (need_at i a.job 0).time = ap₂ (λ m n. m * n) lb.1 la.0 in
    let right : a.weight * b.time ≡ (job_at i a.job).weight * (need_at i b.job 0).time = ap₂ (λ m n. m * n) la.1 lb.0 in
    elim h [ inl l ↦ inl (omega (arith, l, left, right)) | inr e ↦ inr (omega (arith, e.0, left, right), e.1) ]

strict : (i : Instance) (a b : ℕ) → a ≢ b → GoesOrIs i a b → GoesBefore i a b
strict i a b n h = elim h [ inl l ↦ inl l | inr e ↦ inr (e.0, omega (arith, e.1, n)) ]

pub smith_order_is : (i : Instance) (ls sorted : List Load) (order : List ℕ) → map (λ x. x.job) ls ≡ range_with_len 0 (length i.jobs)
    → All (IsLoadOf i) ls → IsPermutation ls sorted → Sorted sorted → order ≡ map (λ x. x.job) sorted → IsSmithOrder i order
smith_order_is i ls sorted order numbers each moved up e =
    subst (IsSmithOrder i) (sym e) (record { all = all; sorted = λ a b d l k. strict i _ _ (OnceBelow-distinct (OnceBelow-from_permutation all) a b d l k) (ties a b d l k) })
  where
    all : IsPermutation (range_with_len 0 (length i.jobs)) (map (λ x. x.job) sorted)
    all = subst (λ l. IsPermutation l (map (λ x. x.job) sorted)) numbers (IsPermutation-map (λ x. x.job) ls sorted moved)

    loads : All (IsLoadOf i) sorted
    loads = All-permutation (IsLoadOf i) ls sorted moved each

    ties : AllPairs (GoesOrIs i) (map (λ x. x.job) sorted)
    ties = AllPairs-map (GoesOrIs i) (λ x. x.job) sorted (λ a b d l k. goes_or_is i (get_or sorted a d) (get_or sorted b d) (loads a d (omega (arith, l, k))) (loads b d k) (up a b d l k))
