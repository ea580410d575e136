-- The numbers of the tasks that are accepted and dropped are Moore's order.
use Rattle.std.proofs.Common.{◌≡◌, ◌≢◌, ℕ, suc, ◌<◌, ◌≤◌, ◌⊎◌, inl, inr, List, [], ◌∷◌, ◌++◌, length, get_or, map, take, drop, ℤ, pos, ◌≤ℤ◌, ◌<ℤ◌, All, AllPairs, IsPermutation}
use Rattle.std.proofs.Common.{sum_by, refl, sym, ap, ap₂, subst, subst₂, ◌∙◌, arith, slice_index_or}
use Rattle.std.specs.List.{range_with_len, remove, take-map, drop-map}
use Rattle.std.proofs.lemmas.List.{map-append, length-map, get_or-map}
use Rattle.std.proofs.lemmas.List.Elements.{All-head, All-append, All-map}
use Rattle.std.proofs.lemmas.List.Sorted.{IsPermutation-map, IsPermutation-trans, IsPermutation-append_right, All-permutation, length_permutation}
use Rattle.msp_class.specs.declared.sizes.TheConstants.{GREATEST}
use Rattle.msp_class.proofs.Sums.{OnceBelow, OnceBelow-range, OnceBelow-from_permutation, OnceBelow-distinct, length-OnceBelow, sum_by-map, sum_by-same}
use Rattle.msp_instance.specs.declared.Instance.{Instance}
use Rattle.msp_instance.specs.Instance.{no_need, no_job, job_at}
use Rattle.msp_pieces.proofs.changes.Moves.{AllPairs-map}
use Rattle.msp_pieces.specs.BackToBack.{time_at}
use Rattle.msp_pieces.proofs.changes.Shrunk.{All-from_map}
use Rattle.msp_single.specs.declared.moore.Task.{Task}
use Rattle.msp_route.specs.Dates.{IsDueBefore}
use Rattle.msp_single.specs.Moore.{IsLongest, IsChoice, none, kept, overrun, IsMooreOrder}
use Rattle.msp_pieces.proofs.lists.Parts.{All-front, All-back, AllPairs-back}
use Rattle.msp_single.proofs.MooreChoice.{accepted_of, keeps, drops, choice-permutation}
use Rattle.msp_single.proofs.MooreSteps.{IsTaskOf, Chooses}

remove-map : {X Y : Type 0} (f : X → Y) (xs : List X) (k : ℕ) → map f (remove xs k) ≡ remove (map f xs) k
remove-map f xs k = map-append f (take k xs) (drop (suc k) xs) ∙ ap₂ (λ a b. a ++ b) (sym (take-map f k xs)) (sym (drop-map f (suc k) xs))

-- ---- the choice among other names of the same
module _ {X Y : Type 0} (f : X → Y) (time number : X → ℕ) (due : X → ℤ) (time' number' : Y → ℕ) (due' : Y → ℤ) where
  abbrev Agrees : X → Type 0
  Agrees x = (time x ≡ time' (f x)) × (number x ≡ number' (f x)) × (due x ≡ due' (f x))

  sum-map : (xs : List X) → All Agrees xs → sum_by time xs ≡ sum_by time' (map f xs)
  sum-map xs a = sum_by-same time (λ x. time' (f x)) xs (λ k d l. (a k d l).0) ∙ sym (sum_by-map time' f xs)

  longest-map : (xs : List X) (place : ℕ) (longest : X) → All Agrees xs → Agrees longest → IsLongest time number xs place longest → IsLongest time' number' (map f xs) place (f longest)
  longest-map xs place longest a own h = record {
    within = omega (arith, h.within, length-map xs f);
    is = ap f h.is ∙ sym (get_or-map f xs place longest (f longest) h.within);
    all = All-map (λ y. (time' y < time' (f longest)) ⊎ ((time' y ≡ time' (f longest)) × (number' (f longest) ≤ number' y))) f xs (λ k d l. one (get_or xs k d) (a k d l) (h.all k d l));
  }
    where
      one : (x : X) → Agrees x → (time x < time longest) ⊎ ((time x ≡ time longest) × (number longest ≤ number x))
          → (time' (f x) < time' (f longest)) ⊎ ((time' (f x) ≡ time' (f longest)) × (number' (f longest) ≤ number' (f x)))
      one x b (inl l) = inl (omega (arith, l, b.0, own.0))
      one x b (inr e) = inr (omega (arith, e.0, b.0, own.0), omega (arith, e.1, b.1, own.1))

  pub choice-map : {seen accepted dropped : List X} → IsChoice time number due seen accepted dropped → All Agrees seen → IsChoice time' number' due' (map f seen) (map f accepted) (map f dropped)
  choice-map none a = none
  choice-map (kept {seen} {accepted} {dropped} {x} c l) a =
      let before = All-front Agrees seen (x ∷ []) a in
      let own = All-head Agrees x [] (All-back Agrees seen (x ∷ []) a) in
      let all = All-append Agrees accepted (x ∷ []) (accepted_of time number due Agrees seen accepted dropped c before) (All-back Agrees seen (x ∷ []) a) in
      keeps time' number' due' (map f seen) (map f accepted) (map f dropped)
      (map f (seen ++ x ∷ [])) (map f (accepted ++ x ∷ [])) (f x) (map-append f seen (x ∷ [])) (map-append f accepted (x ∷ [])) (choice-map c before)
      (subst₂ (λ n d. pos n ≤ℤ d) (sum-map (accepted ++ x ∷ []) all) own.2 l)
  choice-map (overrun {seen} {accepted} {dropped} {x} {longest} {place} c l h) a =
      let before = All-front Agrees seen (x ∷ []) a in
      let own = All-head Agrees x [] (All-back Agrees seen (x ∷ []) a) in
      let all = All-append Agrees accepted (x ∷ []) (accepted_of time number due Agrees seen accepted dropped c before) (All-back Agrees seen (x ∷ []) a) in
      let taken : Agrees longest = subst Agrees (sym h.is) (all place longest h.within) in
      drops time' number' due' (map f seen) (map f accepted) (map f dropped) (map f (seen ++ x ∷ []))
      (map f (accepted ++ x ∷ [])) (map f (remove (accepted ++ x ∷ []) place)) (map f (dropped ++ longest ∷ [])) (f x) (f longest) place
      (map-append f seen (x ∷ [])) (map-append f accepted (x ∷ [])) (remove-map f (accepted ++ x ∷ []) place) (map-append f dropped (longest ∷ [])) (choice-map c before)
      (subst₂ (λ n d. d <ℤ pos n) (sum-map (accepted ++ x ∷ []) all) own.2 l) (longest-map (accepted ++ x ∷ []) place longest all taken h)

-- ---- the tasks of an instance
module _ (i : Instance) (ts : List Task) (numbers : map (λ x. x.job) ts ≡ range_with_len 0 (length i.jobs)) (each : All (IsTaskOf i) ts) (sorted : List Task) (moved : IsPermutation ts sorted) where
  abbrev n : ℕ
  n = length i.jobs

  pub tasks_count : length sorted ≡ n
  tasks_count = length_permutation ts sorted moved ∙ sym (length-map ts (λ x. x.job)) ∙ ap length numbers ∙ length-OnceBelow (OnceBelow-range n)

  tasks_within : All (λ t. t.job < n) sorted
  tasks_within = All-permutation (λ t. t.job < n) ts sorted moved (All-from_map (λ j. j < n) (λ x. x.job) ts (subst (All (λ j. j < n)) (sym numbers) (OnceBelow-range n).within))

  tasks_are : All (IsTaskOf i) sorted
  tasks_are = All-permutation (IsTaskOf i) ts sorted moved each

  pub tasks_short : All (λ j. (slice_index_or j.needs 0 no_need).time ≤ GREATEST) i.jobs → All (λ t. t.time ≤ GREATEST) sorted
  tasks_short h k d l = omega (arith, (tasks_are k d l).0, h (get_or sorted k d).job no_job (tasks_within k d l))

  abbrev job : Task → ℕ
  job t = t.job

  all_once : IsPermutation (range_with_len 0 n) (map job sorted)
  all_once = subst (λ l. IsPermutation l (map job sorted)) numbers (IsPermutation-map job ts sorted moved)

  abbrev DueFirst : Task → Task → Type 0
  DueFirst a b = (a.due <ℤ b.due) ⊎ ((a.due ≡ b.due) × (a.job ≤ b.job))

  abbrev GoesOrIs : ℕ → ℕ → Type 0
  GoesOrIs x y = ((job_at i x).due <ℤ (job_at i y).due) ⊎ (((job_at i x).due ≡ (job_at i y).due) × (x ≤ y))

  by_date : AllPairs DueFirst sorted → AllPairs (IsDueBefore i) (map job sorted)
  by_date up a b d l k =
      let apart = OnceBelow-distinct (OnceBelow-from_permutation all_once) a b d l k in
      elim (ties a b d l k) [ inl less ↦ inl less | inr e ↦ inr (e.0, omega (arith, e.1, apart)) ]
    where
      here : (a b : Task) → IsTaskOf i a → IsTaskOf i b → DueFirst a b → GoesOrIs a.job b.job
      here a b ta tb h = elim h [ inl l ↦ inl (subst₂ (λ x y. x <ℤ y) ta.1 tb.1 l) | inr e ↦ inr (sym ta.1 ∙ e.0 ∙ tb.1, e.1) ]

      ties : AllPairs GoesOrIs (map job sorted)
      ties = AllPairs-map GoesOrIs job sorted (λ a b d l k. here (get_or sorted a d) (get_or sorted b d) (tasks_are a d (omega (arith, l, k))) (tasks_are b d k) (up a b d l k))

  pub moore_order_is : (accepted dropped late : List Task) (order : List ℕ) → AllPairs DueFirst sorted → Chooses sorted accepted dropped
      → IsPermutation dropped late → AllPairs (λ a b. a.job ≤ b.job) late → order ≡ map job (accepted ++ late) → IsMooreOrder i order
  moore_order_is accepted dropped late order up choice swapped by_number e = record {
    by_date = map job sorted;
    accepted = map job accepted;
    dropped = map job dropped;
    late = map job late;
    all = all_once;
    sorted = by_date up;
    choice = chosen;
    moved = IsPermutation-map job dropped late swapped;
    by_number = λ a b d l k. let apart = distinct a b d l k in omega (arith, apart, ties a b d l k);
    whole = e ∙ map-append job accepted late;
  }
    where
      chosen : IsChoice (time_at i) (λ j. j) (λ j. (job_at i j).due) (map job sorted) (map job accepted) (map job dropped)
      chosen = choice-map job (λ (t : Task). t.time) job (λ (t : Task). t.due) (time_at i) (λ j. j) (λ j. (job_at i j).due) choice (λ k d l. ((tasks_are k d l).0, refl, (tasks_are k d l).1))

      once : OnceBelow n (map job accepted ++ map job late)
      once = OnceBelow-from_permutation (IsPermutation-trans _ _ _ all_once (IsPermutation-trans _ _ _ (choice-permutation (time_at i) (λ j. j) (λ j. (job_at i j).due) chosen)
          (IsPermutation-append_right (map job accepted) (map job dropped) (map job late) (IsPermutation-map job dropped late swapped))))

      distinct : AllPairs (λ x y. x ≢ y) (map job late)
      distinct = AllPairs-back (λ x y. x ≢ y) (map job accepted) (map job late) (OnceBelow-distinct once)

      ties : AllPairs (λ a b. a ≤ b) (map job late)
      ties = AllPairs-map (λ a b. a ≤ b) job late by_number
