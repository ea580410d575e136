-- The steps of the rule: a job comes, the first task runs, none waits.
use Rattle.std.proofs.Common.{◌≡◌, ℕ, ◌+◌, ◌*◌, ◌-◌, ◌<◌, ◌≤◌, ◌⊎◌, inl, inr, min, Bool, true, false, cond, List, [], ◌∷◌, ◌++◌, length, All, Contains, IsPermutation, sum_by}
use Rattle.std.proofs.Common.{count_by, refl, sym, ap, ap₂, ◌∙◌, subst, subst₂, arith}
use Rattle.std.proofs.Math.Path.{fun_ext}
use Rattle.std.specs.Prelude.{◌==◌}
use Rattle.std.proofs.lemmas.Bool.{cases_lt, eqb-true, eq-eqb, true_from_ne_false}
use Rattle.std.proofs.lemmas.List.Elements.{All-cons, All-head, All-tail, All-contains}
use Rattle.std.proofs.lemmas.List.Sorted.{All-permutation, length_permutation}
use Rattle.msp_class.specs.declared.sizes.TheConstants.{GREATEST}
use Rattle.msp_class.proofs.Sums.{sum_by-append, sum_by-cons, sum_by-some, sum_by-contains, sum_by-IsPermutation, cond-zero, cond-yes, cond-no}
use Rattle.msp_instance.specs.declared.Instance.{Instance}
use Rattle.msp_instance.specs.Instance.{job_at}
use Rattle.msp_pieces.specs.declared.Piece.{Piece}
use Rattle.msp_pieces.specs.BackToBack.{time_at}
use Rattle.msp_srpt.specs.declared.shortest.Task.{Task}
use Rattle.msp_srpt.specs.Shortest.{run_before, left_of, IsWaiting, IsAhead, KeepsRule, idle, runs}
use Rattle.msp_srpt.specs.Running.{Precedes, HasRun, HaveCome, IsUnderWay, waiting, brought}
use Rattle.msp_srpt.proofs.Laying.{run-settled}

-- ---- tasks
waiting-cons : (x : Task) (xs : List Task) (j : ℕ) → waiting (x ∷ xs) j ≡ cond (x.job == j) x.left 0 + waiting xs j
waiting-cons x xs j = sum_by-cons (λ (y : Task). cond (y.job == j) y.left 0) x xs

abbrev counted : List Task → ℕ → ℕ
counted xs j = count_by (λ x. x.job == j) xs

counted-cons : (x : Task) (xs : List Task) (j : ℕ) → counted (x ∷ xs) j ≡ cond (x.job == j) 1 0 + counted xs j
counted-cons x xs j = sum_by-cons (λ (y : Task). cond (y.job == j) 1 0) x xs

abbrev lefts : List Task → ℕ
lefts xs = sum_by (λ x. x.left) xs

lefts-cons : (x : Task) (xs : List Task) → lefts (x ∷ xs) ≡ x.left + lefts xs
lefts-cons x xs = sum_by-cons (λ (y : Task). y.left) x xs

-- a job that waits has a task which needs no more
task_of : (xs : List Task) (j : ℕ) → 0 < waiting xs j → (x : Task) × Contains xs x × (x.job ≡ j) × (x.left ≤ waiting xs j)
task_of xs j l =
    let (x, c, p) = sum_by-some (λ (x : Task). cond (x.job == j) x.left 0) xs l in
    let same : x.job ≡ j = eqb-true x.job j (true_from_ne_false (x.job == j) (λ e. omega (arith, p, cond-no x.left e))) in
    (x, c, same, omega (arith, sum_by-contains (λ (x : Task). cond (x.job == j) x.left 0) xs x c, cond-yes x.left (eq-eqb x.job j same)))

-- no task of a job that is not counted
waiting-none : (xs : List Task) (j : ℕ) → counted xs j ≡ 0 → waiting xs j ≡ 0
waiting-none xs j e = elim (cases_lt 0 (waiting xs j)) [
  | inl l ↦
      let (x, c, same, less) = task_of xs j l in
      absurd (omega (arith, e, sum_by-contains (λ (x : Task). cond (x.job == j) 1 0) xs x c, cond-yes 1 (eq-eqb x.job j same)))
  | inr none ↦ omega (arith, none)
]

-- the order of the tasks is of no account
pub IsUnderWay-permuted : (i : Instance) (seen : List ℕ) (t : ℕ) (ps : List Piece) (xs ys : List Task) → IsPermutation xs ys → IsUnderWay i seen t ps xs → IsUnderWay i seen t ps ys
IsUnderWay-permuted i seen t ps xs ys p u = record {
  laid = u.laid;
  kept = u.kept;
  share = λ j. ap (λ n. run_before ps t j + n) (sum_by-IsPermutation (λ (x : Task). cond (x.job == j) x.left 0) xs ys p) ∙ u.share j;
  tasks = All-permutation (λ x. (x.job < length i.jobs) × ((job_at i x.job).release ≤ t) × (0 < x.left)) xs ys p u.tasks;
  once = λ j. omega (arith, sum_by-IsPermutation (λ (x : Task). cond (x.job == j) 1 0) xs ys p, u.once j);
  distinct = u.distinct;
  soon = λ l. omega (arith, sum_by-IsPermutation (λ (x : Task). x.left) xs ys p, u.soon (omega (arith, length_permutation xs ys p, l)));
}

-- ---- at the start
pub IsUnderWay-none : (i : Instance) → IsUnderWay i [] 0 [] []
IsUnderWay-none i = record {
  laid = record {
    timed = λ k d l. absurd (omega (arith, l));
    place = λ k d l. absurd (omega (arith, l));
    released = λ k d l. absurd (omega (arith, l));
    early = λ k d l. absurd (omega (arith, l));
    order = λ a b d l m. absurd (omega (arith, m));
    whole = λ a b d l m. absurd (omega (arith, m));
  };
  kept = λ u l. absurd (omega (arith, l));
  share = λ j. refl;
  tasks = λ k d l. absurd (omega (arith, l));
  once = λ j. omega arith;
  distinct = λ j. omega arith;
  soon = λ l. absurd (omega (arith, l));
}

-- ---- none waits
module _ (i : Instance) (seen : List ℕ) (t v : ℕ) (ps : List Piece) (later : t ≤ v) (come : HaveCome i seen v) (u : IsUnderWay i seen t ps []) where
  settled : (w j : ℕ) → t ≤ w → run_before ps w j ≡ run_before ps t j
  settled w j l = run-settled ps t w j u.laid.early l

  none_waits : (w : ℕ) → t ≤ w → w < v → (j : ℕ) → ¬ IsWaiting i (run_before ps w) w j
  none_waits w l m j q = absurd (omega (arith, settled w j l, u.share j, come j q.inside (omega (arith, q.released, m)), q.left))

  pub IsUnderWay-idle : IsUnderWay i seen v ps []
  IsUnderWay-idle = record {
    laid = record { timed = u.laid.timed; place = u.laid.place; released = u.laid.released; early = λ k d l. omega (arith, u.laid.early k d l, later); order = u.laid.order; whole = u.laid.whole };
    kept = λ w l. elim (cases_lt w t) [
      | inl g ↦ u.kept w g
      | inr g ↦ idle (none_waits w g l) (λ j. settled (w + 1) j (omega (arith, g)) ∙ sym (settled w j g))
    ];
    share = λ j. ap (λ n. n + 0) (settled v j later) ∙ u.share j;
    tasks = λ k d l. absurd (omega (arith, l));
    once = u.once;
    distinct = u.distinct;
    soon = λ l. absurd (omega (arith, l));
  }

-- ---- a job comes
pub IsUnderWay-comes : (i : Instance) (seen : List ℕ) (t : ℕ) (ps : List Piece) (xs : List Task) (x : Task)
    → x.job < length i.jobs → (job_at i x.job).release ≤ t → x.left ≡ time_at i x.job → 0 < x.left
    → count_by (λ y. y == x.job) seen ≡ 0 → t ≤ 2 * GREATEST → IsUnderWay i seen t ps xs → IsUnderWay i (seen ++ x.job ∷ []) t ps (x ∷ xs)
IsUnderWay-comes i seen t ps xs x inside released is some new early u = record {
  laid = u.laid;
  kept = u.kept;
  share = λ j. omega (arith, u.share j, waiting-cons x xs j, brought-more j, same_share j (x.job == j));
  tasks = All-cons (λ y. (y.job < length i.jobs) × ((job_at i y.job).release ≤ t) × (0 < y.left)) x xs (inside, released, some) u.tasks;
  once = λ j. omega (arith, u.once j, counted-cons x xs j, seen-more j);
  distinct = λ j. distinct_at j (x.job == j) refl;
  soon = λ l. omega (arith, lefts-cons x xs, sum_by-append (time_at i) seen (x.job ∷ []), sum_by-cons (time_at i) x.job [], is, before xs u.soon);
}
  where
    brought-more : (j : ℕ) → brought i (seen ++ x.job ∷ []) j ≡ brought i seen j + cond (x.job == j) (time_at i x.job) 0
    brought-more j = let f : ℕ → ℕ = λ y. cond (y == j) (time_at i y) 0 in omega (arith, sum_by-append f seen (x.job ∷ []), sum_by-cons f x.job [])

    seen-more : (j : ℕ) → count_by (λ y. y == j) (seen ++ x.job ∷ []) ≡ count_by (λ y. y == j) seen + cond (x.job == j) 1 0
    seen-more j = let f : ℕ → ℕ = λ y. cond (y == j) 1 0 in omega (arith, sum_by-append f seen (x.job ∷ []), sum_by-cons f x.job [])

    same_share : (j : ℕ) (b : Bool) → cond b x.left 0 ≡ cond b (time_at i x.job) 0
    same_share j b = ap (λ n. cond b n 0) is

    distinct_at : (j : ℕ) (b : Bool) → (x.job == j) ≡ b → count_by (λ y. y == j) (seen ++ x.job ∷ []) ≤ 1
    distinct_at j true e = omega (arith, seen-more j, cond-yes 1 e, new, ap (λ k. count_by (λ y. y == k) seen) (eqb-true x.job j e))
    distinct_at j false e = omega (arith, seen-more j, cond-no 1 e, u.distinct j)

    before : (ys : List Task) → (0 < length ys → t + lefts ys ≤ 2 * GREATEST + sum_by (time_at i) seen) → t + lefts ys ≤ 2 * GREATEST + sum_by (time_at i) seen
    before [] h = omega (arith, early)
    before (y ∷ ys) h = h (omega arith)

-- ---- the first task runs
module _ (i : Instance) (seen : List ℕ) (t until : ℕ) (old new : List Piece) (x : Task) (xs : List Task) (d : ℕ) (some : 0 < d) (part : d ≤ x.left) (in_time : t + d ≤ until)
    (come : HaveCome i seen until) (first : All (Precedes x) xs) (u : IsUnderWay i seen t old (x ∷ xs)) (run : HasRun i x.job t (t + d) old new) where
  abbrev a : ℕ
  a = x.job

  mine : (a < length i.jobs) × ((job_at i a).release ≤ t) × (0 < x.left)
  mine = All-head (λ y. (y.job < length i.jobs) × ((job_at i y.job).release ≤ t) × (0 < y.left)) x xs u.tasks

  run-early : (v j : ℕ) → v ≤ t → run_before new v j ≡ run_before old v j
  run-early v j l = omega (arith, run.more v j, cond-zero (a == j) {n = min (t + d) v - t} (omega (arith, l)))

  run-then : (v j : ℕ) → t ≤ v → v ≤ t + d → run_before new v j ≡ run_before old t j + cond (a == j) (v - t) 0
  run-then v j l m = run.more v j ∙ ap₂ (λ n x. n + cond (a == j) (x - t) 0) (run-settled old t v j u.laid.early l) (omega (arith, m))

  -- no other task is one of this job
  alone : waiting xs a ≡ 0
  alone = waiting-none xs a (omega (arith, u.once a, u.distinct a, counted-cons x xs a, cond-yes 1 (eq-eqb a a refl)))

  module _ (v : ℕ) (from : t ≤ v) (before : v < t + d) where
    left-mine : left_of i (run_before new v) a ≡ x.left - (v - t)
    left-mine =
        let runs = run-then v a from (omega (arith, before)) in
        let due = come a mine.0 (omega (arith, mine.1, in_time, some)) in
        let one = eq-eqb a a refl in
        omega (arith, runs, cond-yes (v - t) one, waiting-cons x xs a, cond-yes x.left one, alone, u.share a, due)

    left-other : (j : ℕ) → (a == j) ≡ false → j < length i.jobs → (job_at i j).release ≤ v → left_of i (run_before new v) j ≡ waiting xs j
    left-other j ne inside released =
        let runs = run-then v j from (omega (arith, before)) in
        let due = come j inside (omega (arith, released, before, in_time)) in
        omega (arith, runs, cond-no (v - t) ne, waiting-cons x xs j, cond-no x.left ne, u.share j, due)

    ahead : (j : ℕ) → IsWaiting i (run_before new v) v j → IsAhead i (run_before new v) a j
    ahead j w = by (a == j) refl
      where
        compare : (l m z y : ℕ) → l ≤ x.left → z ≡ y → (x.left < m) ⊎ ((x.left ≡ m) × (a ≤ j)) → m ≤ y → (l < z) ⊎ ((l ≡ z) × (a ≤ j))
        compare l m z y e f (inl g) h = inl (omega (arith, e, f, g, h))
        compare l m z y e f (inr g) h = elim (cases_lt l z) [ inl k ↦ inl k | inr k ↦ inr (omega (arith, k, e, f, g.0, h), g.1) ]

        by : (b : Bool) → (a == j) ≡ b → IsAhead i (run_before new v) a j
        by true e = subst (IsAhead i (run_before new v) a) (eqb-true a j e) (inr (refl, omega arith))
        by false e =
            let is = left-other j e w.inside w.released in
            let (y, c, same, small) = task_of xs j (omega (arith, is, w.left)) in
            let o = All-contains (Precedes x) xs y first c in
            compare (left_of i (run_before new v) a) y.left _ _ (omega (arith, left-mine)) is (subst (λ k. (x.left < y.left) ⊎ ((x.left ≡ y.left) × (a ≤ k))) same o) small

    keeps : KeepsRule i (run_before new v) (run_before new (v + 1)) v
    keeps = runs a (record { inside = mine.0; released = omega (arith, mine.1, from); left = omega (arith, left-mine, part, before) }) ahead
        (λ j. let now = run-then v j from (omega (arith, before)) in
        omega (arith, run-then (v + 1) j (omega (arith, from)) (omega (arith, before)), now, next (a == j)))
      where
        next : (b : Bool) → cond b ((v + 1) - t) 0 ≡ cond b (v - t) 0 + cond b 1 0
        next true = omega (arith, from)
        next false = refl

  -- what is left of the tasks
  served : (ys : List Task) → ((j : ℕ) → waiting ys j + cond (a == j) d 0 ≡ waiting (x ∷ xs) j) → ((j : ℕ) → counted ys j ≤ counted (x ∷ xs) j) → lefts ys + d ≡ lefts (x ∷ xs)
      → All (λ y. (y.job < length i.jobs) × ((job_at i y.job).release ≤ t) × (0 < y.left)) ys → IsUnderWay i seen (t + d) new ys
  served ys wait count sum all = record {
    laid = run.laid;
    kept = λ v l. elim (cases_lt v t) [
      | inl g ↦ subst₂ (λ x y. KeepsRule i x y v) (fun_ext (λ j. sym (run-early v j (omega (arith, g)))))
          (fun_ext (λ j. sym (run-early (v + 1) j (omega (arith, g))))) (u.kept v g)
      | inr g ↦ keeps v g l
    ];
    share = λ j.
        let whole : (t + d) - t ≡ d = omega arith in
        omega (arith, run-then (t + d) j (omega arith) (omega arith), ap (λ n. cond (a == j) n 0) whole, wait j, u.share j);
    tasks = λ k e l. let h = all k e l in (h.0, omega (arith, h.1), h.2);
    once = λ j. omega (arith, count j, u.once j);
    distinct = u.distinct;
    soon = λ l. omega (arith, sum, u.soon (omega arith));
  }

  -- all of it
  pub IsUnderWay-complete : d ≡ x.left → IsUnderWay i seen (t + d) new xs
  IsUnderWay-complete whole =
      served xs (λ j. omega (arith, waiting-cons x xs j, ap (λ n. cond (a == j) n 0) whole))
      (λ j. omega (arith, counted-cons x xs j)) (omega (arith, lefts-cons x xs, whole))
      (All-tail (λ y. (y.job < length i.jobs) × ((job_at i y.job).release ≤ t) × (0 < y.left)) x xs u.tasks)

  -- a part of it
  pub IsUnderWay-cut : d < x.left → IsUnderWay i seen (t + d) new (record { left = x.left - d; job = x.job } ∷ xs)
  IsUnderWay-cut less =
      let y : Task = record { left = x.left - d; job = x.job } in
      served (y ∷ xs) (λ j. omega (arith, waiting-cons y xs j, waiting-cons x xs j, parts (a == j)))
      (λ j. omega (arith, counted-cons x xs j, counted-cons y xs j)) (omega (arith, lefts-cons x xs, lefts-cons y xs, less))
      (All-cons (λ y. (y.job < length i.jobs) × ((job_at i y.job).release ≤ t) × (0 < y.left))
      y xs (mine.0, mine.1, omega (arith, less)) (All-tail (λ y. (y.job < length i.jobs) × ((job_at i y.job).release ≤ t) × (0 < y.left)) x xs u.tasks))
    where
      parts : (b : Bool) → cond b (x.left - d) 0 + cond b d 0 ≡ cond b x.left 0
      parts true = omega (arith, less)
      parts false = refl
