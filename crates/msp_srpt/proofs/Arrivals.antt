-- The jobs come one after another by release date: the loop over them.
use Rattle.std.proofs.Common.{◌≡◌, ℕ, ◌+◌, ◌*◌, ◌<◌, ◌≤◌, ◌⊎◌, inl, inr, cond, eqb, List, [], ◌∷◌, ◌++◌, length, get_or, map, take, drop, All, AllPairs}
use Rattle.std.proofs.Common.{IsPermutation, sum_by, count_by, refl, sym, ap, ◌∙◌, subst, arith}
use Rattle.std.specs.Prelude.{◌==◌}
use Rattle.std.specs.List.{range_with_len}
use Rattle.std.proofs.lemmas.Bool.{cases_lt, cond_both, eqb-true, eq-eqb}
use Rattle.std.proofs.lemmas.List.{take_more, take_all, take-append-drop, length-map, length-drop, get_or-map, get_or-drop, get_or_default, get_or_past}
use Rattle.msp_class.specs.declared.sizes.TheConstants.{MOST_JOBS, GREATEST}
use Rattle.msp_class.proofs.Sums.{total_below-same, total_below-only, sum_by-append, sum_by-take_more, sum_by-none, sum_by-mono, sum_by-constant, sum_by-OnceBelow, length-OnceBelow}
use Rattle.msp_class.proofs.Sums.{eqb_comm, cond-yes, OnceBelow, OnceBelow-from_permutation}
use Rattle.msp_instance.specs.declared.Instance.{Instance}
use Rattle.msp_instance.specs.Instance.{job_at, no_job}
use Rattle.msp_pieces.specs.declared.Piece.{Piece}
use Rattle.msp_pieces.specs.BackToBack.{time_at}
use Rattle.msp_srpt.specs.declared.shortest.Task.{Task}
use Rattle.msp_srpt.specs.declared.shortest.Arrival.{Arrival}
use Rattle.msp_srpt.specs.Running.{HaveCome, IsUnderWay, GoesOn, IsCarriedOut, brought}
use Rattle.msp_srpt.proofs.Instances.{IsShortestInstance}
use Rattle.msp_route.proofs.KeyedJobs.{rises_or_stays}
use Rattle.msp_route.proofs.OneInstances.{takes_time, is_short, is_early}
use Rattle.msp_srpt.proofs.Steps.{IsUnderWay-permuted, IsUnderWay-comes}

-- all jobs have come
pub brought-all : (i : Instance) (order : List ℕ) → OnceBelow (length i.jobs) order → (j : ℕ) → j < length i.jobs → brought i order j ≡ time_at i j
brought-all i order once j l =
    sum_by-OnceBelow (λ x. cond (x == j) (time_at i x) 0) once
    ∙ total_below-same (length i.jobs) (λ x. cond (x == j) (time_at i x) 0) (λ x. cond (eqb j x) (time_at i x) 0) (λ x m. ap (λ b. cond b (time_at i x) 0) (eqb_comm x j))
    ∙ total_below-only (length i.jobs) (time_at i) j l

-- jobs by their release dates as keys
pub sorted_by_release : (i : Instance) (dates order : List ℕ)
    → dates ≡ map (λ j. j.release) i.jobs → AllPairs (λ a b. (get_or dates a 0 < get_or dates b 0) ⊎ ((get_or dates a 0 ≡ get_or dates b 0) × (a ≤ b))) order
    → AllPairs (λ a b. (job_at i a).release ≤ (job_at i b).release) order
sorted_by_release i dates order e rising a b d l k = omega (arith, rises_or_stays (λ j. get_or dates j 0) order rising a b d l k, is (get_or order a d), is (get_or order b d))
  where
    is : (n : ℕ) → get_or dates n 0 ≡ (job_at i n).release
    is n = ap (λ ds. get_or ds n 0) e ∙ elim (cases_lt n (length i.jobs)) [
      | inl l ↦ get_or-map (λ j. j.release) i.jobs n no_job 0 l
      | inr l ↦ get_or_past (map (λ j. j.release) i.jobs) n 0 (omega (arith, length-map i.jobs (λ j. j.release), l)) ∙ sym (ap (λ j. j.release) (get_or_past i.jobs n no_job (omega (arith, l))))
    ]

module _ (i : Instance) (h : IsShortestInstance i) (order : List ℕ)
    (all : IsPermutation (range_with_len 0 (length i.jobs)) order) (sorted : AllPairs (λ a b. (job_at i a).release ≤ (job_at i b).release) order) where
  once : OnceBelow (length i.jobs) order
  once = OnceBelow-from_permutation all

  abbrev at : ℕ → ℕ
  at k = get_or order k 0

  abbrev release : ℕ → ℕ
  release j = (job_at i j).release

  pub inside : (k : ℕ) → k < length order → get_or order k 0 < length i.jobs
  inside k l = once.within k 0 l

  parts : (f : ℕ → ℕ) (k : ℕ) → sum_by f order ≡ sum_by f (take k order) + sum_by f (drop k order)
  parts f k = ap (sum_by f) (sym (take-append-drop k order)) ∙ sum_by-append f (take k order) (drop k order)

  -- each job that is released before the next one has come
  come : (k : ℕ) → k < length order → HaveCome i (take k order) (release (at k))
  come k l j small early = omega (arith, parts f k, sum_by-none f (drop k order) later, brought-all i order once j small)
    where
      f : ℕ → ℕ
      f x = cond (x == j) (time_at i x) 0

      later : All (λ a. f a ≡ 0) (drop k order)
      later m e q =
          let a = get_or (drop k order) m e in
          let after : k + m < length order = omega (arith, q, length-drop k order) in
          let is : a ≡ at (k + m) = get_or-drop k order m e ∙ get_or_default order (k + m) e 0 after in
          let not_before : release (at k) ≤ release a = rw is (grind (arith, sorted k (k + m) 0, after)) in
          cond_both (a == j) _ 0 (λ n. n ≡ 0) (λ t. omega (arith, early, not_before, ap release (eqb-true a j t))) (λ _. refl)

  -- the next one has not come
  not_yet : (k : ℕ) → k < length order → count_by (λ y. y == at k) (take k order) ≡ 0
  not_yet k l =
      let a = at k in
      let f : ℕ → ℕ = λ y. cond (y == a) 1 0 in
      omega (arith, once.once a (inside k l), parts f (k + 1), sum_by-take_more f order k 0 l, cond-yes 1 (eq-eqb a a refl))

  module _ (k : ℕ) (a : Arrival) (l : k < length order) (release_is : a.release ≡ (job_at i (get_or order k 0)).release)
      (job_is : a.task.job ≡ get_or order k 0) (left_is : a.task.left ≡ time_at i (get_or order k 0)) where
    small : a.task.job < length i.jobs
    small = subst (λ n. n < length i.jobs) (sym job_is) (inside k l)

    not_late : (job_at i a.task.job).release ≤ a.release
    not_late = omega (arith, release_is, ap release job_is)

    pub early : (a.release ≤ 2 * GREATEST) × (0 < a.task.left)
    early = (omega (arith, release_is, is_early i h.one (at k) (inside k l)), omega (arith, left_is, takes_time i h.one (at k) (inside k l)))

    -- one more round
    pub comes : (t : ℕ) (old new : List Piece) (xs ys zs : List Task) → GoesOn a.release t a.release old xs new ys
        → IsPermutation (a.task ∷ ys) zs → IsUnderWay i (take k order) t old xs → IsUnderWay i (take (k + 1) order) a.release new zs
    comes t old new xs ys zs on p u =
        subst (λ js. IsUnderWay i js a.release new zs) (sym (take_more order k 0 l))
        (subst (λ n. IsUnderWay i (take k order ++ n ∷ []) a.release new zs) job_is
        (IsUnderWay-permuted i (take k order ++ a.task.job ∷ []) a.release new (a.task ∷ ys) zs p
        (IsUnderWay-comes i (take k order) a.release new ys a.task small not_late (left_is ∙ ap (time_at i) (sym job_is)) early.1
        (subst (λ n. count_by (λ y. y == n) (take k order) ≡ 0) (sym job_is) (not_yet k l)) early.0
        (on i (take k order) (subst (HaveCome i (take k order)) (sym release_is) (come k l)) u))))

    pub in_order : (m : ℕ) → k + 1 ≤ m → m < length order → a.release ≤ (job_at i (get_or order m 0)).release
    in_order m less q = omega (arith, release_is, sorted k m 0 (omega (arith, less)) q)

  -- the last round
  pub carried_out : (k t : ℕ) (old new items : List Piece) (xs ys : List Task) → length order ≤ k → IsUnderWay i (take k order) t old xs
      → GoesOn ((MOST_JOBS + 3) * GREATEST) t ((MOST_JOBS + 3) * GREATEST) old xs new ys → items ≡ new → length new ≤ 2 * length order + 1
      → IsCarriedOut i ((MOST_JOBS + 3) * GREATEST) items
  carried_out k t old new items xs ys l u on same short = record {
    order = order;
    once = once;
    ended = subst (λ ps. IsUnderWay i order ((MOST_JOBS + 3) * GREATEST) ps []) (sym same) (subst (IsUnderWay i order ((MOST_JOBS + 3) * GREATEST) new) (none ys last) last);
    short = omega arith;
    few = omega (arith, short, ap length same, length-OnceBelow once);
  }
    where
      last : IsUnderWay i order ((MOST_JOBS + 3) * GREATEST) new ys
      last = on i order (λ j m _. brought-all i order once j m) (subst (λ bs. IsUnderWay i bs t old xs) (take_all k order l) u)

      -- how long all jobs take
      whole : sum_by (time_at i) order ≤ MOST_JOBS * GREATEST
      whole =
          omega (
            arith,
            sum_by-mono (time_at i) (λ _. GREATEST) order (λ m d q. is_short i h.one (get_or order m d) (once.within m d q)),
            sum_by-constant GREATEST order,
            length-OnceBelow once,
            h.one.few,
          )

      none : (ys : List Task) → IsUnderWay i order ((MOST_JOBS + 3) * GREATEST) new ys → ys ≡ []
      none [] v = refl
      none (y ∷ zs) v = absurd (omega (arith, v.soon (omega arith), whole))
