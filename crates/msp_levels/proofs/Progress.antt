-- How soon the jobs of an intree begin that run by falling level.
use Rattle.std.proofs.Common.{◌≡◌, ◌≢◌, ℕ, zero, suc, ◌+◌, ◌<◌, ◌≤◌, ◌⊎◌, inl, inr, Bool, true, not, eqb, ltb, List, length, get_or, map, filter, All, AllPairs, Contains, refl, add-one}
use Rattle.std.proofs.Common.{sym, ap, subst, ◌∙◌, arith}
use Rattle.std.specs.Prelude.{◌==◌, ◌&&◌}
use Rattle.std.specs.List.{list_any, range_with_len}
use Rattle.std.proofs.lemmas.Bool.{eqb-true, eq-eqb, ne_eqb, le-ltb, false≢true}
use Rattle.std.proofs.lemmas.List.{length-map, get_or_default}
use Rattle.std.proofs.lemmas.List.Elements.{All-map, All-contains, Contains-get_or}
use Rattle.std.proofs.lemmas.List.Folds.{Any-from_list_any, list_any_at}
use Rattle.std.proofs.lemmas.List.FromFn.{length-range_with_len}
use Rattle.std.proofs.lemmas.List.Sums.{length-filter}
use Rattle.std.proofs.lemmas.List.Sorted.{IsPermutation-filter_both}
use Rattle.std.proofs.lemmas.Bool.Decides.{nat_tests}
use Rattle.msp_class.proofs.Sums.{Contains-filter, Contains-from_filter, OnceBelow-range, OnceBelow-distinct, OnceBelow-contains, count_by-distinct, distinct_from_counts}
use Rattle.msp_instance.specs.declared.Arc.{Arc}
use Rattle.msp_instance.specs.declared.Instance.{Instance}
use Rattle.msp_instance.specs.Conditions.{leaving}
use Rattle.msp_pieces.proofs.feasible.OneMachine.{both_true}
use Rattle.msp_pieces.proofs.changes.Moves.{AllPairs-map}
use Rattle.msp_pieces.specs.Levels.{LeadsOut, IsLevel, AreLevels}
use Rattle.msp_slots.specs.ListSchedule.{RunsAhead, WaitsForJob, RunsInOrder}
use Rattle.msp_slots.proofs.Progress.{stands-in}
use Rattle.msp_levels.specs.Steps.{Fits}
use Rattle.msp_levels.proofs.Counts.{HasOnce, HasOnce-filter, cover, Fits-low, Fits-next}

-- ---- arcs of an intree
no_arc : Arc
no_arc = record { before = 0; after = 0 }

-- the job to which the arc of a job leads
after_of : List Arc → ℕ → ℕ
after_of arcs j = (get_or (filter (λ a. a.before == j) arcs) 0 no_arc).after

after_is : (arcs : List Arc) (a : Arc) → leaving arcs a.before ≤ 1 → Contains arcs a → after_of arcs a.before ≡ a.after
unfolding after_of
after_is arcs a few c =
    let (k, l, e) = Contains-filter (λ b. b.before == a.before) arcs a c (eq-eqb a.before a.before refl) in
    let f = filter (λ b. b.before == a.before) arcs in
    let first : k ≡ 0 = omega (arith, l, length-filter (λ b. b.before == a.before) arcs, few) in
    ap (λ b. b.after) (get_or_default f 0 no_arc a (omega (arith, l)) ∙ ap (λ n. get_or f n a) (sym first) ∙ e)

pub record IsForest (i : Instance) (level : ℕ → ℕ) : Type 0 where
  pub few : (j : ℕ) → j < length i.jobs → leaving i.arcs j ≤ 1
  pub ends : All (λ a. (a.before < length i.jobs) × (a.after < length i.jobs)) i.arcs
  pub levels : AreLevels i level
  pub some : 1 ≤ i.machines

module _ (i : Instance) (level : ℕ → ℕ) (t : IsForest i level) where
  inside : (a : Arc) → Contains i.arcs a → (a.before < length i.jobs) × (a.after < length i.jobs)
  inside a c = All-contains (λ a. (a.before < length i.jobs) × (a.after < length i.jobs)) i.arcs a t.ends c

  after_here : (a : Arc) → Contains i.arcs a → after_of i.arcs a.before ≡ a.after
  after_here a c = after_is i.arcs a (t.few a.before (inside a c).0) c

  -- an arc goes down by one level
  one_down : (a : Arc) → Contains i.arcs a → level a.before ≡ level a.after + 1
  one_down a c = omega (arith, less, most (level a.before) (t.levels a.before (inside a c).0).path)
    where
      below : IsLevel i.arcs a.after (level a.after)
      below = t.levels a.after (inside a c).1

      less : suc (level a.after) ≤ level a.before
      less = (t.levels a.before (inside a c).0).longest (suc (level a.after)) (a.after, c, below.path)

      most : (l : ℕ) → LeadsOut i.arcs l a.before → l ≤ level a.after + 1
      most zero p = omega arith
      most (suc l) (k, step, p) =
          let same : k ≡ a.after = sym (after_here (record { before = a.before; after = k }) step) ∙ after_here a c in
          omega (arith, below.longest l (subst (LeadsOut i.arcs l) same p))

  -- ---- the jobs that begin at a moment, and those that begin then or later
  module _ (order : List ℕ) (falling : AllPairs (λ a b. level b ≤ level a) order) (begin machine : ℕ → ℕ) (h : RunsInOrder i order begin machine) where
    abbrev n : ℕ
    n = length i.jobs

    abbrev now : ℕ → ℕ → Bool
    now x j = eqb (begin j) x

    abbrev later : ℕ → ℕ → Bool
    later x j = not (now x j)

    abbrev left : ℕ → List ℕ
    left zero = range_with_len 0 n
    left (suc x) = filter (later x) (left x)

    abbrev taken : ℕ → List ℕ
    taken x = filter (now x) (left x)

    other : (x j : ℕ) → not (eqb j x) ≡ true → j ≢ x
    other x j e same = false≢true (sym (ap not (eq-eqb j x same)) ∙ e)

    left-from : (x j : ℕ) → Contains (left x) j → (j < n) × (x ≤ begin j)
    left-from zero j c = (All-contains (λ j. j < n) (range_with_len 0 n) j (OnceBelow-range n).within c, omega arith)
    left-from (suc x) j c =
        let (d, e) = Contains-from_filter (later x) (left x) j c in
        let (l, from) = left-from x j d in
        (l, omega (arith, from, other x (begin j) e))

    left-to : (x j : ℕ) → j < n → x ≤ begin j → Contains (left x) j
    left-to zero j l from = OnceBelow-contains (OnceBelow-range n) j l
    left-to (suc x) j l from = Contains-filter (later x) (left x) j (left-to x j l (omega (arith, from))) (ap not (ne_eqb (begin j) x (λ e. absurd (omega (arith, e, from)))))

    once : (x : ℕ) → HasOnce (left x)
    once zero k = count_by-distinct (range_with_len 0 n) k (OnceBelow-distinct (OnceBelow-range n))
    once (suc x) k = HasOnce-filter (later x) (left x) (once x) k

    taken-from : (x j : ℕ) → Contains (taken x) j → (j < n) × (begin j ≡ x)
    taken-from x j c = let (d, e) = Contains-from_filter (now x) (left x) j c in ((left-from x j d).0, eqb-true (begin j) x e)

    taken-to : (x j : ℕ) → j < n → begin j ≡ x → Contains (taken x) j
    taken-to x j l e = Contains-filter (now x) (left x) j (left-to x j l (omega (arith, e))) (eq-eqb (begin j) x e)

    -- no more begin at a moment than there are machines
    few : (x : ℕ) → length (taken x) ≤ i.machines
    few x = omega (
      arith,
      cover (λ k. k) (range_with_len 0 i.machines) (map machine (taken x)) (λ k. count_by-distinct (map machine (taken x)) k distinct) each,
      length-map (taken x) machine,
      length-range_with_len 0 i.machines,
    )
      where
        jobs_apart : AllPairs (λ a b. a ≢ b) (taken x)
        jobs_apart = distinct_from_counts (taken x) (HasOnce-filter (now x) (left x) (once x))

        distinct : AllPairs (λ a b. a ≢ b) (map machine (taken x))
        distinct = AllPairs-map (λ a b. a ≢ b) machine (taken x) (λ a b d l k e.
            let la : a < length (taken x) = omega (arith, l, k) in
            let (p, u) = taken-from x (get_or (taken x) a d) (Contains-get_or (taken x) a d la) in
            let (q, v) = taken-from x (get_or (taken x) b d) (Contains-get_or (taken x) b d k) in
            jobs_apart a b d l k (h.apart (get_or (taken x) a d) (get_or (taken x) b d) p q (u ∙ sym v) e))

        each : All (λ y. (k : ℕ) × Contains (range_with_len 0 i.machines) k × (k ≡ y)) (map machine (taken x))
        each = All-map (λ y. (k : ℕ) × Contains (range_with_len 0 i.machines) k × (k ≡ y)) machine (taken x) (λ k d l.
            let j = get_or (taken x) k d in
            (machine j, OnceBelow-contains (OnceBelow-range i.machines) (machine j) (h.inside j (taken-from x j (Contains-get_or (taken x) k d l)).0), refl))

    full : (x : ℕ) → ((k : ℕ) → k < i.machines → (j : ℕ) × Contains (taken x) j × (machine j ≡ k)) → i.machines ≤ length (taken x)
    full x f = omega (
      arith,
      cover machine (taken x) (range_with_len 0 i.machines) (λ k. count_by-distinct (range_with_len 0 i.machines) k (OnceBelow-distinct (OnceBelow-range i.machines)))
          (λ k d l. f (get_or (range_with_len 0 i.machines) k d) ((OnceBelow-range i.machines).within k d l)),
      length-range_with_len 0 i.machines,
    )

    -- why jobs are left
    abbrev leads : ℕ → ℕ → Arc → Bool
    leads x j a = a.after == j && not (ltb (begin a.before) x)

    blocked : ℕ → ℕ → Bool
    blocked x j = list_any (leads x j) i.arcs

    abbrev Kept : ℕ → ℕ → Type 0
    Kept x j = (blocked x j ≡ true) ⊎ ((length (taken x) ≡ i.machines) × All (λ f. level j ≤ level f) (taken x))

    is_blocked : (x j : ℕ) → WaitsForJob i begin x j → blocked x j ≡ true
    unfolding blocked
    is_blocked x j (a, (k, l, e), to, from) =
        list_any_at (leads x j) i.arcs k a l (ap (leads x j) e ∙ ap (λ b. b && not (ltb (begin a.before) x)) (eq-eqb a.after j to) ∙ ap not (le-ltb (begin a.before) x from))

    is_full : (x j : ℕ) → ((k : ℕ) → k < i.machines → RunsAhead i order begin machine x k j) → Kept x j
    is_full x j f = inr (
      omega (arith, few x, full x (λ k l. let (p, b, e, g, st) = f k l in (p, taken-to x p b e, g))),
      λ k d l. higher (get_or (taken x) k d) (taken-from x (get_or (taken x) k d) (Contains-get_or (taken x) k d l)),
    )
      where
        higher : (p : ℕ) → (p < n) × (begin p ≡ x) → level j ≤ level p
        higher p (l, e) =
            let (q, b, u, v, st) = f (machine p) (h.inside p l) in
            let same : q ≡ p = h.apart q p b l (u ∙ sym e) v in
            subst (λ y. level j ≤ level y) same (stands-in (λ a b. level b ≤ level a) order q j falling st)

    kept : (x : ℕ) → All (Kept x) (left (suc x))
    kept x k d l = by (get_or (left (suc x)) k d) (left-from (suc x) (get_or (left (suc x)) k d) (Contains-get_or (left (suc x)) k d l))
      where
        by : (j : ℕ) → (j < n) × (suc x ≤ begin j) → Kept x j
        by j (l, from) = elim (h.waits j x l (omega (arith, from))) [ inl waits ↦ inl (is_blocked x j waits) | inr all ↦ is_full x j all ]

    why : (x : ℕ) → All (λ j. blocked x j ≡ true → (a : ℕ) × Contains (left x) a × (after_of i.arcs a ≡ j) × (level a ≡ level j + 1)) (left x)
    unfolding blocked
    why x k d l shut =
        let j = get_or (left x) k d in
        let (m, a, b, e, p) = Any-from_list_any (leads x j) i.arcs shut in
        let both = both_true (a.after == j) (not (ltb (begin a.before) x)) p in
        let c : Contains i.arcs a = (m, b, e) in
        let to : a.after ≡ j = eqb-true a.after j both.0 in
        let from : x ≤ begin a.before = grind (arith, nat_tests, both.1) in
        (a.before, left-to x a.before (inside a c).0 from, after_here a c ∙ to, one_down a c ∙ ap (λ y. level y + 1) to)

    bound : (b : ℕ) → Fits i.machines level (range_with_len 0 n) b → (x j : ℕ) → j < n → x ≤ begin j → (slots : ℕ) × (x + slots ≡ b) × Fits i.machines level (left x) slots
    bound b f zero j l from = (b, omega arith, f)
    bound b f (suc x) j l from = let (slots, e, g) = bound b f x j l (omega (arith, from)) in step slots e g
      where
        step : (slots : ℕ) → x + slots ≡ b → Fits i.machines level (left x) slots → (slots : ℕ) × (suc x + slots ≡ b) × Fits i.machines level (left (suc x)) slots
        step zero e g = let c = left-to x j l (omega (arith, from)) in absurd (omega (arith, All-contains (λ j. level j < 0) (left x) j (Fits-low i.machines level (left x) 0 g) c))
        step (suc g) e f =
            let now_fits : Fits i.machines level (left x) (g + 1) = subst (Fits i.machines level (left x)) (sym (add-one g)) f in (
              g,
              omega (arith, e),
              Fits-next i.machines level (after_of i.arcs) (blocked x) (left x) (taken x) (left (suc x)) (IsPermutation-filter_both (now x) (later x) (λ j. refl) (left x))
                  (few x) (once x) (kept x) (why x) g (λ k d l. omega (arith, Fits-low i.machines level (left x) (g + 1) now_fits k d l)) now_fits,
            )

    -- where so many slots are enough by the levels, all jobs end by then
    pub ends_soon : (b : ℕ) → Fits i.machines level (range_with_len 0 n) b → (j : ℕ) → j < n → begin j + 1 ≤ b
    ends_soon b f j l =
        let (slots, e, g) = bound b f (begin j) j l (omega arith) in
        omega (arith, e, All-contains (λ j. level j < slots) (left (begin j)) j (Fits-low i.machines level (left (begin j)) slots g) (left-to (begin j) j l (omega arith)))
