-- The queue of tasks, and the steps of the rule as the code takes them.
use Rattle.std.proofs.Common.{◌≡◌, ℕ, ◌+◌, ◌-◌, ◌<◌, ◌≤◌, false, List, [], ◌∷◌, length, All, IsPermutation, refl, sym, ◌∙◌, subst, arith}
use Rattle.std.specs.Ordering.{is_lt, nat_cmp, ordering_then}
use Rattle.std.specs.declared.cmp.Reverse.{Reverse}
use Rattle.std.specs.BinaryHeap.{IsUpperBound}
use Rattle.std.proofs.lemmas.Bool.Decides.{nat_tests}
use Rattle.std.proofs.lemmas.List.Elements.{All-nil, All-cons, All-head, All-tail}
use Rattle.std.proofs.lemmas.List.Sorted.{All-permutation}
use Rattle.msp_instance.specs.Instance.{job_at}
use Rattle.msp_pieces.specs.declared.Piece.{Piece}
use Rattle.msp_srpt.specs.declared.shortest.Task.{Task}
use Rattle.msp_srpt.specs.Running.{Precedes, tasks_in, IsUnderWay, GoesOn, Runs}
use Rattle.msp_srpt.proofs.Steps.{IsUnderWay-permuted, IsUnderWay-idle, IsUnderWay-complete, IsUnderWay-cut}

-- ---- what is not greater runs no later
precedes : (a b : Task) → is_lt (ordering_then (nat_cmp b.left a.left) (nat_cmp b.job a.job)) ≡ false → Precedes a b
precedes a b h = grind (arith, nat_tests)

pub precedes_all : (a : Reverse Task) (xs : List (Reverse Task)) → IsUpperBound (λ x y. ordering_then (nat_cmp y.0.left x.0.left) (nat_cmp y.0.job x.0.job)) a xs → All (Precedes a.0) (tasks_in xs)
precedes_all a [] h = All-nil (Precedes a.0)
precedes_all a (x ∷ xs) h = All-cons (Precedes a.0) x.0 (tasks_in xs) (precedes a.0 x.0 h.0) (precedes_all a xs h.1)

-- ---- all tasks still need time
abbrev pub StillNeed : List Task → Type 0
StillNeed = All (λ x. 0 < x.left)

pub still_put : (x : Task) (xs ys : List Task) → IsPermutation (x ∷ xs) ys → 0 < x.left → StillNeed xs → StillNeed ys
still_put x xs ys p l h = All-permutation (λ y. 0 < y.left) (x ∷ xs) ys p (All-cons (λ y. 0 < y.left) x xs l h)

-- ---- the rule goes on
pub GoesOn-complete : (until t : ℕ) (x : Task) (xs : List Task) (old new : List Piece)
    → 0 < x.left → x.left ≤ until - t → t < until → All (Precedes x) xs → Runs x.job t (t + x.left) old new → GoesOn until t (t + x.left) old (x ∷ xs) new xs
GoesOn-complete until t x xs old new some l m first run i seen come u =
    let h = All-head (λ y. (y.job < length i.jobs) × ((job_at i y.job).release ≤ t) × (0 < y.left)) x xs u.tasks in
    IsUnderWay-complete i seen t until old new x xs x.left some (omega arith) (omega (arith, l, m)) come first u (run i h.0 h.1 u.laid) refl

pub GoesOn-cut : (until t : ℕ) (x : Task) (xs ys : List Task) (old new : List Piece) → until - t < x.left → t < until → All (Precedes x) xs → Runs x.job t until old new
    → IsPermutation (record { left = x.left - (until - t); job = x.job } ∷ xs) ys → GoesOn until t until old (x ∷ xs) new ys
GoesOn-cut until t x xs ys old new l m first run p i seen come u =
    let h = All-head (λ y. (y.job < length i.jobs) × ((job_at i y.job).release ≤ t) × (0 < y.left)) x xs u.tasks in
    let all : t + (until - t) ≡ until = omega (arith, m) in
    IsUnderWay-permuted i seen until new (record { left = x.left - (until - t); job = x.job } ∷ xs) ys p
    (subst (λ v. IsUnderWay i seen v new (record { left = x.left - (until - t); job = x.job } ∷ xs)) all
    (IsUnderWay-cut i seen t until old new x xs (until - t)
    (omega (arith, m)) (omega (arith, l)) (omega (arith, m)) come first u (subst (λ v. Runs x.job t v old new) (sym all) run i h.0 h.1 u.laid) l))

-- one more task is served
pub GoesOn-next : (until from t v : ℕ) (ps old new : List Piece) (rs xs ys zs : List Task) (x : Task)
    → IsPermutation xs (x ∷ ys) → GoesOn until t v old (x ∷ ys) new zs → GoesOn until from t ps rs old xs → GoesOn until from v ps rs new zs
GoesOn-next until from t v ps old new rs xs ys zs x p step so_far i seen come u =
    step i seen come (IsUnderWay-permuted i seen t old xs (x ∷ ys) p (so_far i seen come u))

-- none waits any more
pub GoesOn-idle : (until from t : ℕ) (ps now : List Piece) (rs xs ys : List Task) → xs ≡ [] → ys ≡ xs → t ≤ until → GoesOn until from t ps rs now xs → GoesOn until from until ps rs now ys
GoesOn-idle until from t ps now rs xs ys none same l so_far i seen come u =
    subst (IsUnderWay i seen until now) (sym (same ∙ none)) (IsUnderWay-idle i seen t until now l come (subst (IsUnderWay i seen t now) none (so_far i seen come u)))

pub still_taken : (x : Task) (xs ys : List Task) → IsPermutation xs (x ∷ ys) → StillNeed xs → (0 < x.left) × StillNeed ys
still_taken x xs ys p h = let all = All-permutation (λ y. 0 < y.left) xs (x ∷ ys) p h in (All-head (λ y. 0 < y.left) x ys all, All-tail (λ y. 0 < y.left) x ys all)
