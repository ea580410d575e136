-- One label more, and the labels of all jobs.
use Rattle.std.proofs.Common.{◌≡◌, ◌≢◌, ℕ, ◌+◌, ◌<◌, ◌≤◌, ◌⊎◌, inl, inr, Bool, true, false, not, List, [], ◌∷◌, ◌++◌, length, get_or, set, filter, slice_index, All}
use Rattle.std.proofs.Common.{AllPairs, Contains, IsTrue, ◌↔◌, IsPermutation, refl, sym, ap, subst, subst₂, ◌∙◌, arith}
use Rattle.std.specs.List.{remove, range_with_len}
use Rattle.std.proofs.lemmas.List.{get_or_default, get_or-set_same, get_or-set_other}
use Rattle.std.proofs.lemmas.Bool.{cases_Bool, cases_lt, cases_eq, false_from_ne_true, false≢true, not-true}
use Rattle.std.proofs.lemmas.List.Elements.{All-contains, Contains-append_right, Contains-get_or, filter_passes}
use Rattle.std.proofs.lemmas.List.Kept.{AllPairs-filter}
use Rattle.std.proofs.lemmas.List.Quantifiers.{all_pairs_remove}
use Rattle.std.proofs.lemmas.List.Sorted.{Contains-permutation, length_permutation, IsPermutation-sym, IsPermutation-trans, IsPermutation-cons, IsPermutation-remove, IsPermutation-filter_both}
use Rattle.msp_class.specs.declared.sizes.TheConstants.{MOST_JOBS}
use Rattle.msp_class.proofs.Sums.{AllPairs-head, AllPairs-tail, Contains-tail, OnceBelow-range, OnceBelow-contains, OnceBelow-distinct, length-OnceBelow}
use Rattle.msp_instance.specs.declared.Instance.{Instance}
use Rattle.msp_instance.specs.Conditions.{IsAcyclic}
use Rattle.msp_instance.specs.Paths.{HasStep, HasPath, one, more}
use Rattle.msp_pieces.specs.Blocks.{HasNoSuccessor}
use Rattle.msp_pieces.proofs.feasible.Series.{AllPairs-append}
use Rattle.msp_pieces.proofs.lists.Permuted.{AllPairs-permutation}
use Rattle.msp_lexical.specs.Steps.{HasSuccessor, Outranks, AreLabels, IsLabelling}
use Rattle.msp_lexical.specs.Counts.{arcs_into}
use Rattle.msp_lexical.proofs.Counts.{free_from_none, successor_from_some}

-- ---- along paths
module _ (i : Instance) (ends : All (λ a. (a.before < length i.jobs) × (a.after < length i.jobs)) i.arcs) where
  pub step_inside : (j k : ℕ) → HasStep i.arcs j k → (j < length i.jobs) × (k < length i.jobs)
  step_inside j k step = All-contains (λ a. (a.before < length i.jobs) × (a.after < length i.jobs)) i.arcs (record { before = j; after = k }) ends step

  pub path_joined : {j k l : ℕ} → HasPath i.arcs j k → HasPath i.arcs k l → HasPath i.arcs j l
  path_joined (one step) p = more step p
  path_joined (more step q) p = more step (path_joined q p)

  module _ (label : ℕ → ℕ) (limit : ℕ) (lower : All (λ a. label a.before < limit → label a.after < label a.before) i.arcs) where
    step_lower : (j k : ℕ) → HasStep i.arcs j k → label j < limit → label k < label j
    step_lower j k step = All-contains (λ a. label a.before < limit → label a.after < label a.before) i.arcs (record { before = j; after = k }) lower step

    pub path_lower : {j k : ℕ} → HasPath i.arcs j k → label j < limit → label k < label j
    path_lower {j} {k} (one step) small = step_lower j k step small
    path_lower {j} {k} (more {k = m} step p) small = let less = step_lower j m step small in omega (arith, less, path_lower p (omega (arith, less, small)))

-- the test of two jobs says where paths lead
abbrev pub Shows : Instance → (ℕ → ℕ → Bool) → Type 0
Shows i leads = (j k : ℕ) → j < length i.jobs → k < length i.jobs → IsTrue (leads j k) ↔ HasPath i.arcs j k

-- a job has got the next label
pub record IsLabelled (i : Instance) (leads : ℕ → ℕ → Bool) (count : ℕ) (labels : ℕ → ℕ) (job : ℕ) (left new : List ℕ) : Type 0 where
  pub next : IsLabelling i leads (count + 1) labels new
  pub leaves : IsPermutation left (job ∷ new)
  pub fewer : length new < length left

module _ (i : Instance) (leads : ℕ → ℕ → Bool) (shows : Shows i leads)
    (ends : All (λ a. (a.before < length i.jobs) × (a.after < length i.jobs)) i.arcs) (acyclic : IsAcyclic i) (few : length i.jobs ≤ MOST_JOBS) where
  abbrev n : ℕ
  n = length i.jobs

  -- ---- one label more
  module _ (count : ℕ) (label next : ℕ → ℕ) (left : List ℕ) (place job : ℕ) (h : IsLabelling i leads count label left) (l : place < length left) (is : job ≡ get_or left place job)
      (free : HasNoSuccessor i left job) (waits : (q : ℕ) → q < place → HasSuccessor i left (get_or left q 0)) (given : next job ≡ count) (kept : (j : ℕ) → j ≢ job → next j ≡ label j) where
    abbrev rest : List ℕ
    rest = remove left place

    abbrev stays : ℕ → Bool
    stays j = not (leads j job)

    abbrev rises : ℕ → Bool
    rises j = leads j job

    abbrev parted : List ℕ
    parted = filter stays rest ++ filter rises rest

    abbrev Unlabelled : ℕ → Type 0
    Unlabelled j = (j < n) × (label j ≡ MOST_JOBS)

    here : Contains left job
    here = (place, l, sym is)

    job_is : Unlabelled job
    job_is = All-contains Unlabelled left job h.inside here

    small : count < MOST_JOBS
    small = omega (arith, h.size, l, few)

    leaves : IsPermutation left (job ∷ parted)
    leaves = IsPermutation-trans left (job ∷ rest) (job ∷ parted) (IsPermutation-remove left place job l is) (IsPermutation-cons job rest parted (IsPermutation-filter_both stays rises other rest))
      where
        other : (j : ℕ) → rises j ≡ not (stays j)
        other j = elim (cases_Bool (leads j job)) [ inl e ↦ rw e refl | inr e ↦ rw e refl ]

    distinct_all : AllPairs (λ j k. j ≢ k) (job ∷ parted)
    distinct_all = AllPairs-permutation (λ j k. j ≢ k) (λ j k differ e. differ (sym e)) left (job ∷ parted) leaves h.once

    from_parted : (j : ℕ) → Contains parted j → Contains left j × (j ≢ job)
    from_parted j c = (
      Contains-permutation (job ∷ parted) left j (IsPermutation-sym left (job ∷ parted) leaves) (Contains-append_right (job ∷ []) parted j c),
      λ e. All-contains (λ k. job ≢ k) parted j (AllPairs-head (λ j k. j ≢ k) job parted distinct_all) c (sym e),
    )

    to_parted : (j : ℕ) → j ≢ job → Contains left j → Contains parted j
    to_parted j differ c = Contains-tail job parted j (Contains-permutation left (job ∷ parted) j leaves c) (λ e. differ (sym e))

    size_next : count + 1 + length parted ≡ n
    size_next = let s = length_permutation left (job ∷ parted) leaves in omega (arith, s, h.size)

    -- a job that has its label is another one
    old : (j : ℕ) → label j < count → (j ≢ job) × (next j ≡ label j)
    old j b = let differ : j ≢ job = λ e. absurd (omega (arith, ap label e, job_is.1, b, small)) in (differ, kept j differ)

    -- the jobs to which the job leads have their labels
    led : (j : ℕ) → j < n → leads job j ≡ true → label j < count
    led j b to = by j b ((shows job j job_is.0 b).0 to)
      where
        first : (k : ℕ) → HasStep i.arcs job k → label k < count
        first k (p, c, e) = elim (h.each k (step_inside i ends job k (p, c, e)).1) [
          | inl q ↦ absurd (free p (record { before = job; after = k }) c (ap (λ a. a.before) e) (subst (Contains left) (sym (ap (λ a. a.after) e)) q.0))
          | inr q ↦ q
        ]

        by : (j : ℕ) → j < n → HasPath i.arcs job j → label j < count
        by j b (one step) = first j step
        by j b (more {k = k} step p) = let less = first k step in omega (arith, less, path_lower i ends label count h.lower p less)

    Outranks-kept : (a b : ℕ) → a < n → b < n → label b < count → Outranks n leads label (MOST_JOBS + 1) a b → Outranks n leads next (MOST_JOBS + 1) a b
    Outranks-kept a b in_a in_b has r j c limit to not_to =
        let less = path_lower i ends label count h.lower ((shows b j in_b c).0 to) has in
        let at = old j (omega (arith, less, has)) in
        let (k, d, bound, greater, to_k, not_k) = r j c (omega (arith, less, has, small)) to not_to in
        (k, d, (by k bound greater less at.1).0, (by k bound greater less at.1).1, to_k, not_k)
      where
        by : (k : ℕ) → label k < MOST_JOBS + 1 → label j < label k → label j < label b → next j ≡ label j → (next k < MOST_JOBS + 1) × (next j < next k)
        by k bound greater less same = (grind (arith, small, kept k), grind (arith, kept k))

    has_old : (j : ℕ) → j < n → j ≢ job → next j < count + 1 → label j < count
    has_old j b differ s = elim (h.each j b) [ inl q ↦ omega (arith, q.1, s, kept j differ, small) | inr q ↦ q ]

    ranked_next : (a b : ℕ) → a < n → b < n → next b < count + 1 → next b < next a → Outranks n leads next (MOST_JOBS + 1) a b
    ranked_next a b in_a in_b has more_ = elim (cases_eq b job) [
      | inl e ↦ subst (λ x. Outranks n leads next (MOST_JOBS + 1) a x) (sym e) (newest (omega (arith, ap next e, given, more_)))
      | inr differ ↦ let at = kept b differ in let small_b = has_old b in_b differ has in
          Outranks-kept a b in_a in_b small_b (h.ranked a b in_a in_b small_b (before (omega (arith, at, more_)) small_b))
    ]
      where
        before : label b < next a → label b < count → label b < label a
        before less has = grind (arith, job_is.1, small, kept a)

        newest : count < next a → Outranks n leads next (MOST_JOBS + 1) a job
        newest less = elim (h.each a in_a) [
          | inr q ↦ absurd (omega (arith, (old a q).1, q, less))
          | inl q ↦ let (at, c, e) = q.0 in by at c e (cases_lt at place)
        ]
          where
            not_job : a ≢ job
            not_job e = absurd (omega (arith, ap next e, given, less))

            by : (at : ℕ) → at < length left → get_or left at a ≡ a → (at < place) ⊎ (place ≤ at) → Outranks n leads next (MOST_JOBS + 1) a job
            by at c e (inl earlier) j d limit to not_to =
                let (k, step, in_left) = waits at earlier in
                let unlabelled = All-contains Unlabelled left k h.inside in_left in
                let has_j = led j d to in
                let to_k : leads a k ≡ true = (shows a k in_a unlabelled.0).1 (one (subst (λ x. HasStep i.arcs x k) (get_or_default left at 0 a c ∙ e) step)) in
                (k, unlabelled.0, next_small k unlabelled.1, above k j unlabelled.1 has_j, to_k, not_led k unlabelled)
              where
                next_small : (k : ℕ) → label k ≡ MOST_JOBS → next k < MOST_JOBS + 1
                next_small k u = grind (arith, small, kept k)

                above : (k j : ℕ) → label k ≡ MOST_JOBS → label j < count → next j < next k
                above k j u has_j = grind (arith, small, kept k, (old j has_j).1)

                not_led : (k : ℕ) → Unlabelled k → leads job k ≡ false
                not_led k u = false_from_ne_true (leads job k) (λ reached. omega (arith, led k u.0 reached, u.1, small))
            by at c e (inr later) j d limit to not_to = elim (cases_eq at place) [
              | inl same ↦ absurd (not_job (sym e ∙ ap (λ p. get_or left p a) same ∙ first))
              | inr differ ↦
                  let has_j = led j d to in
                  let old_j = old j has_j in
                  let (k, in_k, has_k, greater, to_k, not_k) = subst₂ (λ x y. Outranks n leads label count x y) e first (h.sorted place at a (omega (arith, later, differ)) c) j d has_j to not_to in
                  let old_k = old k has_k in
                  (k, in_k, omega (arith, old_k.1, has_k, small), omega (arith, old_j.1, old_k.1, greater), to_k, not_k)
            ]
              where
                first : get_or left place a ≡ job
                first = get_or_default left place a job l ∙ sym is

    -- ---- the order of those that are left
    abbrev Later : ℕ → ℕ → Type 0
    Later b a = Outranks n leads next (count + 1) a b

    -- two jobs that both lead to the new job, or neither
    alike : (b a : ℕ) → leads b job ≡ leads a job → Outranks n leads label count a b → Later b a
    alike b a same r j d limit to not_to =
        let differ : j ≢ job = λ e. false≢true (sym not_to ∙ ap (leads a) e ∙ sym same ∙ ap (leads b) (sym e) ∙ to) in
        let has_j = has_old j d differ limit in
        let (k, in_k, has_k, greater, to_k, not_k) = r j d has_j to not_to in
        let old_k = old k has_k in
        (k, in_k, omega (arith, old_k.1, has_k), omega (arith, (old j has_j).1, old_k.1, greater), to_k, not_k)

    -- only the later one does
    across : (b a : ℕ) → leads b job ≡ false → leads a job ≡ true → Later b a
    across b a no_b yes_a j d limit to not_to =
        let differ : j ≢ job = λ e. false≢true (sym no_b ∙ ap (leads b) (sym e) ∙ to) in
        let has_j = has_old j d differ limit in
        (job, job_is.0, omega (arith, given), omega (arith, (old j has_j).1, given, has_j), yes_a, no_b)

    rest_sorted : AllPairs (λ b a. Outranks n leads label count a b) rest
    rest_sorted = all_pairs_remove (λ b a. Outranks n leads label count a b) left place l h.sorted

    stay : All (λ j. leads j job ≡ false) (filter stays rest)
    stay k d b = not-true (leads (get_or (filter stays rest) k d) job) (filter_passes stays rest k d b)

    rise : All (λ j. leads j job ≡ true) (filter rises rest)
    rise = filter_passes rises rest

    sorted_next : AllPairs Later parted
    sorted_next = AllPairs-append Later (filter stays rest) (filter rises rest)
        (λ p q d b c. alike (get_or (filter stays rest) p d) (get_or (filter stays rest) q d)
        (stay p d (omega (arith, b, c)) ∙ sym (stay q d c)) (AllPairs-filter (λ b a. Outranks n leads label count a b) stays rest rest_sorted p q d b c))
        (λ p q d b c. alike (get_or (filter rises rest) p d) (get_or (filter rises rest) q d)
        (rise p d (omega (arith, b, c)) ∙ sym (rise q d c)) (AllPairs-filter (λ b a. Outranks n leads label count a b) rises rest rest_sorted p q d b c))
        (λ p d b q e c. across (get_or (filter stays rest) p d) (get_or (filter rises rest) q e) (stay p d b) (rise q e c))

    each_next : (j : ℕ) → j < n → (Contains parted j × (next j ≡ MOST_JOBS)) ⊎ (next j < count + 1)
    each_next j b = elim (cases_eq j job) [
      | inl e ↦ inr (omega (arith, ap next e, given))
      | inr differ ↦ elim (h.each j b) [ inl q ↦ inl (to_parted j differ q.0, kept j differ ∙ q.1) | inr q ↦ inr (omega (arith, kept j differ, q)) ]
    ]

    inside_next : All (λ j. (j < n) × (next j ≡ MOST_JOBS)) parted
    inside_next k d b =
        let (c, differ) = from_parted (get_or parted k d) (Contains-get_or parted k d b) in
        let u = All-contains Unlabelled left (get_or parted k d) h.inside c in
        (u.0, kept (get_or parted k d) differ ∙ u.1)

    distinct_next : (j k : ℕ) → j < n → k < n → next j < count + 1 → next j ≡ next k → j ≡ k
    distinct_next j k b c has e = grind (arith, kept j, kept k, has_old j b, has_old k c, h.distinct j k b c)

    lower_next : All (λ a. next a.before < count + 1 → next a.after < next a.before) i.arcs
    lower_next p d b has = by (get_or i.arcs p d).before (get_or i.arcs p d).after (ends p d b) refl refl (h.lower p d b) (cases_eq (get_or i.arcs p d).before job)
      where
        by : (x y : ℕ) → (x < n) × (y < n) → (get_or i.arcs p d).before ≡ x → (get_or i.arcs p d).after ≡ y → (label x < count → label y < label x) → (x ≡ job) ⊎ (x ≡ job → ⊥) → next y < next x
        by x y inside e f less (inl same) = elim (h.each y inside.1) [
          | inl q ↦ absurd (free p d b (e ∙ same) (subst (Contains left) (sym f) q.0))
          | inr q ↦ omega (arith, (old y q).1, q, ap next same, given)
        ]
        by x y inside e f less (inr differ) =
            let has_x = has_old x inside.0 differ (subst (λ z. next z < count + 1) e has) in
            let below = less has_x in
            omega (arith, (old y (omega (arith, below, has_x))).1, kept x differ, below)

    pub IsLabelled-next : IsLabelled i leads count next job left parted
    IsLabelled-next = record {
      next = record {
        each = each_next;
        inside = inside_next;
        once = AllPairs-tail (λ j k. j ≢ k) job parted distinct_all;
        size = size_next;
        distinct = distinct_next;
        lower = lower_next;
        ranked = ranked_next;
        sorted = sorted_next;
      };
      leaves = leaves;
      fewer = omega (arith, length_permutation left (job ∷ parted) leaves);
    }

  -- ---- no label, and all labels
  pub IsLabelling-start : (label : ℕ → ℕ) (left : List ℕ) → ((j : ℕ) → j < n → label j ≡ MOST_JOBS) → left ≡ range_with_len 0 n → IsLabelling i leads 0 label left
  IsLabelling-start label left none e = record {
    each = λ j b. inl (subst (λ xs. Contains xs j) (sym e) (OnceBelow-contains (OnceBelow-range n) j b), none j b);
    inside = subst (All (λ j. (j < n) × (label j ≡ MOST_JOBS))) (sym e) (λ k d b. let inside = (OnceBelow-range n).within k d b in (inside, none (get_or (range_with_len 0 n) k d) inside));
    once = subst (AllPairs (λ j k. j ≢ k)) (sym e) (OnceBelow-distinct (OnceBelow-range n));
    size = omega (arith, ap length e, length-OnceBelow (OnceBelow-range n));
    distinct = λ j k b c less. absurd (omega (arith, less));
    lower = λ k d b less. absurd (omega (arith, less));
    ranked = λ a b c d less. absurd (omega (arith, less));
    sorted = λ p q d b c j in_j less. absurd (omega (arith, less));
  }

  pub AreLabels-end : (count : ℕ) (label : ℕ → ℕ) (left : List ℕ) → length left ≡ 0 → IsLabelling i leads count label left → AreLabels i leads label
  AreLabels-end count label left none h = record {
    small = all;
    distinct = λ j k b c e. h.distinct j k b c (omega (arith, all j b, whole)) e;
    lower = λ k d b. h.lower k d b (omega (arith, all (get_or i.arcs k d).before (ends k d b).0, whole));
    ranked = λ a b in_a in_b less j c has to not_to.
        let (k, d, bound, greater, to_k, not_k) = h.ranked a b in_a in_b (omega (arith, all b in_b, whole)) less j c (omega (arith, has, few)) to not_to in
        (k, d, all k d, greater, to_k, not_k);
  }
    where
      whole : count ≡ n
      whole = omega (arith, h.size, none)

      all : (j : ℕ) → j < n → label j < n
      all j b = elim (h.each j b) [ inl q ↦ let (k, c, e) = q.0 in absurd (omega (arith, c, none)) | inr q ↦ omega (arith, q, whole) ]

-- ---- one label more, at the lists as the code passes them
pub labelled : (i : Instance) (leads : ℕ → ℕ → Bool) → Shows i leads → All (λ a. (a.before < length i.jobs) × (a.after < length i.jobs)) i.arcs → IsAcyclic i → length i.jobs ≤ MOST_JOBS
    → (count : ℕ) (labels counts left shown after new : List ℕ) (place job : ℕ) → IsLabelling i leads count (slice_index labels) left
    → length labels ≡ MOST_JOBS → ((j : ℕ) → j < MOST_JOBS → slice_index counts j ≡ arcs_into i.arcs left j)
    → shown ≡ left → place < length shown → slice_index counts (get_or shown place 0) ≡ 0 → ((q : ℕ) → q < place → 0 < slice_index counts (get_or shown q 0))
    → job ≡ get_or left place job → after ≡ remove left place → new ≡ filter (λ j. not (leads j job)) after ++ filter (λ j. leads j job) after
    → IsLabelled i leads count (slice_index (set labels job count)) job left new
labelled i leads shows ends acyclic few count labels counts left shown after new place job h long counted e l free waits is f new_is =
    subst (IsLabelled i leads count (slice_index (set labels job count)) job left) (sym all)
    (IsLabelled-next i leads shows ends acyclic few count (slice_index labels) (slice_index (set labels job count)) left place job h in_left is here_free here_waits given kept)
  where
    in_left : place < length left
    in_left = omega (arith, l, ap length e)

    inside : (q : ℕ) → q < length left → get_or left q 0 < MOST_JOBS
    inside q b = omega (arith, (h.inside q 0 b).0, few)

    same : get_or shown place 0 ≡ job
    same = ap (λ xs. get_or xs place 0) e ∙ get_or_default left place 0 job in_left ∙ sym is

    small : job < MOST_JOBS
    small = subst (λ j. j < MOST_JOBS) (ap (λ xs. get_or xs place 0) (sym e) ∙ same) (inside place in_left)

    here_free : HasNoSuccessor i left job
    here_free = free_from_none i left job (sym (counted job small) ∙ ap (slice_index counts) (sym same) ∙ free)

    here_waits : (q : ℕ) → q < place → HasSuccessor i left (get_or left q 0)
    here_waits q b =
        let early : q < length left = omega (arith, b, in_left) in
        successor_from_some i left (get_or left q 0) (subst (λ m. 0 < m) (counted (get_or left q 0) (inside q early)) (subst (λ xs. 0 < slice_index counts (get_or xs q 0)) e (waits q b)))

    given : slice_index (set labels job count) job ≡ count
    given = get_or-set_same labels job count 0 (omega (arith, small, long))

    kept : (j : ℕ) → j ≢ job → slice_index (set labels job count) j ≡ slice_index labels j
    kept j differ = get_or-set_other labels job j count 0 differ

    all : new ≡ filter (λ j. not (leads j job)) (remove left place) ++ filter (λ j. leads j job) (remove left place)
    all = new_is ∙ ap (λ xs. filter (λ j. not (leads j job)) xs ++ filter (λ j. leads j job) xs) f
