-- One slot more: what the pieces and the jobs that are left keep.
use Rattle.std.proofs.Common.{◌≡◌, ◌≢◌, ℕ, zero, suc, ◌+◌, ◌-◌, ◌<◌, ◌≤◌, ◌⊎◌, inl, inr, Bool, true, false, cond, List, [], ◌∷◌, ◌++◌, length, get_or, map, All, AllPairs, Contains, zero-add}
use Rattle.std.proofs.Common.{IsPermutation, refl, sym, ap, ap₂, subst, subst₂, ◌∙◌, arith, append_assoc}
use Rattle.std.specs.Prelude.{◌==◌, ◌&&◌}
use Rattle.std.specs.List.{list_any, range_with_len}
use Rattle.std.proofs.lemmas.Bool.{cases_Bool, cases_lt, eqb-true, eq-eqb, false≢true}
use Rattle.std.proofs.lemmas.List.{length-append, map-append, get_or_append_left, get_or-append-add}
use Rattle.std.proofs.lemmas.List.Elements.{All-append, All-map, All-contains, Contains-get_or, Contains-append_left, Contains-append_right, Contains-append_cases}
use Rattle.std.proofs.lemmas.List.Folds.{Any-from_list_any, list_any_at}
use Rattle.std.proofs.lemmas.List.Sorted.{Contains-permutation, length_permutation, IsPermutation-sym, IsPermutation-trans, IsPermutation-append_right}
use Rattle.msp_class.proofs.Sums.{OnceBelow-from_permutation, OnceBelow-distinct, OnceBelow-contains}
use Rattle.msp_instance.specs.declared.Arc.{Arc}
use Rattle.msp_instance.specs.declared.Instance.{Instance}
use Rattle.msp_instance.specs.Conditions.{IsAcyclic, Inner}
use Rattle.msp_instance.proofs.ListingLemmas.{list_any-from_Contains, Contains-from_list_any}
use Rattle.msp_pieces.specs.declared.Piece.{Piece}
use Rattle.msp_pieces.proofs.lists.Intervals.{greatest_by, greatest_by-contains, greatest_by-reached}
use Rattle.msp_pieces.proofs.lists.Parts.{AllPairs-front, AllPairs-back}
use Rattle.msp_pieces.proofs.feasible.Series.{AllPairs-append}
use Rattle.msp_pieces.proofs.feasible.OneMachine.{both_true}
use Rattle.msp_pieces.proofs.bounds.Certified.{place_in, place_in-is, ranked}
use Rattle.msp_slots.specs.Pieces.{piece_at}
use Rattle.msp_slots.specs.ListSchedule.{StandsBefore, RunsAhead, WaitsForJob}
use Rattle.msp_slots.specs.Steps.{is_blocked, IsSlot, seats, IsUnderWay}

-- ---- what stands before what
-- in a list whose members are in the order of another, what stands before stands before there
pub stands-in : (R : ℕ → ℕ → Type 0) (xs : List ℕ) (a b : ℕ) → AllPairs R xs → StandsBefore xs a b → R a b
stands-in R xs a b h (p, q, less, inside, e, f) = subst₂ R e f (h p q 0 less inside)

-- ---- the pieces of a slot, by places
length-seats : (moment machine : ℕ) (js : List ℕ) → length (seats moment machine js) ≡ length js
length-seats moment machine [] = refl
length-seats moment machine (j ∷ js) = ap suc (length-seats moment (machine + 1) js)

seats-at : (moment machine : ℕ) (js : List ℕ) (k : ℕ) (d : Piece) (z : ℕ) → k < length js → get_or (seats moment machine js) k d ≡ piece_at moment (machine + k) (get_or js k z)
seats-at moment machine [] k d z l = absurd (omega (arith, l))
seats-at moment machine (j ∷ js) zero d z l = ap (λ m. piece_at moment m j) (omega arith)
seats-at moment machine (j ∷ js) (suc k) d z l = seats-at moment (machine + 1) js k d z (omega (arith, l)) ∙ ap (λ m. piece_at moment m (get_or js k z)) (omega arith)

jobs-seats : (moment machine : ℕ) (js : List ℕ) → map (λ p. p.job) (seats moment machine js) ≡ js
jobs-seats moment machine [] = refl
jobs-seats moment machine (j ∷ js) = ap (λ l. j ∷ l) (jobs-seats moment (machine + 1) js)

-- ---- the instance
pub record IsOrdered (i : Instance) : Type 0 where
  pub ends : All (λ a. (a.before < length i.jobs) × (a.after < length i.jobs)) i.arcs
  pub acyclic : IsAcyclic i
  pub some : 1 ≤ i.machines

pub IsOrdered-from : (i : Instance) → Inner i → IsOrdered i
IsOrdered-from i h = record { ends = h.conditions.ends; acyclic = h.acyclic; some = h.conditions.machines.0 }

-- why a job is blocked
blocker : (arcs : List Arc) (left : List ℕ) (j : ℕ) → is_blocked arcs left j ≡ true → (a : Arc) × Contains arcs a × (a.after ≡ j) × Contains left a.before
blocker arcs left j shut =
    let (k, a, l, e, p) = Any-from_list_any (λ a. a.after == j && list_any (λ x. x == a.before) left) arcs shut in
    let b = both_true (a.after == j) (list_any (λ x. x == a.before) left) p in
    (a, (k, l, e), eqb-true a.after j b.0, Contains-from_list_any left a.before b.1)

open_arc : (arcs : List Arc) (left : List ℕ) (a : Arc) → Contains arcs a → Contains left a.before → is_blocked arcs left a.after ≡ true
open_arc arcs left a (k, l, e) b = list_any_at leads arcs k a l (ap leads e ∙ here)
  where
    leads : Arc → Bool
    leads x = x.after == a.after && list_any (λ y. y == x.before) left

    here : leads a ≡ true
    here = ap (λ b. b && list_any (λ y. y == a.before) left) (eq-eqb a.after a.after refl) ∙ list_any-from_Contains left a.before b

module _ (i : Instance) (order : List ℕ) (t : IsOrdered i) (moment : ℕ) (pieces : List Piece)
    (left taken rest : List ℕ) (u : IsUnderWay i order moment pieces left) (s : IsSlot left (is_blocked i.arcs left) i.machines taken rest) where
  abbrev n : ℕ
  n = length i.jobs

  abbrev placed : List ℕ
  placed = map (λ p. p.job) pieces

  abbrev made_now : List Piece
  made_now = seats moment 0 taken

  apart_now : AllPairs (λ x y. x ≢ y) (taken ++ rest)
  apart_now = AllPairs-back (λ x y. x ≢ y) placed (taken ++ rest)
      (OnceBelow-distinct (OnceBelow-from_permutation (IsPermutation-trans _ _ _ u.all (IsPermutation-append_right placed left (taken ++ rest) s.all))))

  not_both : (j : ℕ) → Contains taken j → Contains rest j → ⊥
  not_both j (k, l, e) (m, b, f) = apart_now k (length taken + m)
      j (omega (arith, l)) (omega (arith, b, length-append taken rest)) (get_or_append_left taken rest j k l ∙ e ∙ sym (get_or-append-add taken rest m j ∙ f))

  taken_left : (j : ℕ) → Contains taken j → Contains left j
  taken_left j c = Contains-permutation (taken ++ rest) left j (IsPermutation-sym left (taken ++ rest) s.all) (Contains-append_left taken rest j c)

  rest_left : (j : ℕ) → Contains rest j → Contains left j
  rest_left j c = Contains-permutation (taken ++ rest) left j (IsPermutation-sym left (taken ++ rest) s.all) (Contains-append_right taken rest j c)

  left_split : (j : ℕ) → Contains left j → Contains taken j ⊎ Contains rest j
  left_split j c = Contains-append_cases taken rest j (Contains-permutation left (taken ++ rest) j s.all c)

  size : length left ≡ length taken + length rest
  size = omega (arith, length_permutation left (taken ++ rest) s.all, length-append taken rest)

  left_now : (j : ℕ) → Contains left j → u.begin j ≡ moment
  left_now j c = All-contains (λ j. u.begin j ≡ moment) left j u.now c

  -- a slot is not empty: of the jobs left the first along the arcs is not blocked
  some_taken : 0 < length left → 1 ≤ length taken
  some_taken some =
      let (rank, rises) = ranked i t.acyclic in
      let (j, c, top) = first_by rank left some in
      elim (left_split j c) [
        | inl (k, l, e) ↦ omega (arith, l)
        | inr r ↦ elim (All-contains (λ j. (is_blocked i.arcs left j ≡ true) ⊎ ((length taken ≡ i.machines) × All (λ f. StandsBefore left f j) taken)) rest j s.kept r) [
          | inl shut ↦
              let (a, ca, e, b) = blocker i.arcs left j shut in
              absurd (omega (arith, All-contains (λ a. rank a.before < rank a.after) i.arcs a rises ca, ap rank e, top a.before b))
          | inr full ↦ omega (arith, full.0, t.some)
        ]
      ]
    where
      first_by : (f : ℕ → ℕ) (xs : List ℕ) → 0 < length xs → (x : ℕ) × Contains xs x × ((y : ℕ) → Contains xs y → f x ≤ f y)
      first_by f xs l =
          let g : ℕ → ℕ = λ x. greatest_by f xs - f x in
          let (x, c, e) = greatest_by-reached g xs l in
          (x, c, λ y d. omega (arith, e, greatest_by-contains g xs y d, greatest_by-contains f xs y d, greatest_by-contains f xs x c))

  pub fewer : 0 < length left → length rest < length left
  fewer some = omega (arith, size, some_taken some)

  -- ---- when jobs begin now, and where
  abbrev waits_more : ℕ → Bool
  waits_more j = list_any (λ k. k == j) rest

  begin : ℕ → ℕ
  begin j = cond (waits_more j) (moment + 1) (u.begin j)

  abbrev goes : ℕ → Bool
  goes j = list_any (λ k. k == j) taken

  machine : ℕ → ℕ
  machine j = cond (goes j) (place_in taken j) (u.machine j)

  begin-rest : (j : ℕ) → Contains rest j → begin j ≡ moment + 1
  unfolding begin
  begin-rest j c = ap (λ b. cond b (moment + 1) (u.begin j)) (list_any-from_Contains rest j c)

  absent : (xs : List ℕ) (j : ℕ) → (Contains xs j → ⊥) → list_any (λ k. k == j) xs ≡ false
  absent xs j no_ = elim (cases_Bool (list_any (λ k. k == j) xs)) [ inl on ↦ absurd (no_ (Contains-from_list_any xs j on)) | inr is ↦ is ]

  begin-other : (j : ℕ) → (Contains rest j → ⊥) → begin j ≡ u.begin j
  unfolding begin
  begin-other j no_ = ap (λ b. cond b (moment + 1) (u.begin j)) (absent rest j no_)

  -- a job begins no earlier than it was to
  begin-later : (j : ℕ) → u.begin j ≤ begin j
  begin-later j = elim (cases_Bool (waits_more j)) [
    | inl on ↦ let c = Contains-from_list_any rest j on in omega (arith, begin-rest j c, left_now j (rest_left j c))
    | inr is ↦ omega (arith, begin-other j (λ c. false≢true (sym is ∙ list_any-from_Contains rest j c)))
  ]

  begin-early : (j : ℕ) → u.begin j < moment → begin j ≡ u.begin j
  begin-early j less = begin-other j (λ c. absurd (omega (arith, less, left_now j (rest_left j c))))

  machine-early : (j : ℕ) → u.begin j < moment → machine j ≡ u.machine j
  unfolding machine
  machine-early j less = ap (λ b. cond b (place_in taken j) (u.machine j)) (absent taken j (λ c. absurd (omega (arith, less, left_now j (taken_left j c)))))

  begin-taken : (j : ℕ) → Contains taken j → begin j ≡ moment
  begin-taken j c = begin-other j (not_both j c) ∙ left_now j (taken_left j c)

  machine-taken : (k : ℕ) → k < length taken → machine (get_or taken k 0) ≡ k
  unfolding machine
  machine-taken k l =
      ap (λ b. cond b (place_in taken (get_or taken k 0)) (u.machine (get_or taken k 0))) (list_any-from_Contains taken (get_or taken k 0) (Contains-get_or taken k 0 l))
      ∙ place_in-is taken k (AllPairs-front (λ x y. x ≢ y) taken rest apart_now) l

  -- ---- where a job is
  where_is : (j : ℕ) → j < n → Contains placed j ⊎ Contains left j
  where_is j l = Contains-append_cases placed left j (OnceBelow-contains (OnceBelow-from_permutation u.all) j l)

  placed_early : (j : ℕ) → Contains placed j → u.begin j < moment
  placed_early j c = All-contains (λ j. u.begin j < moment) placed j (All-map (λ j. u.begin j < moment) (λ p. p.job) pieces u.early) c

  at_most : (j : ℕ) → j < n → u.begin j ≤ moment
  at_most j l = elim (where_is j l) [ inl c ↦ omega (arith, placed_early j c) | inr c ↦ omega (arith, left_now j c) ]

  inside_left : (j : ℕ) → Contains left j → j < n
  inside_left j c = All-contains (λ j. j < n) (placed ++ left) j (OnceBelow-from_permutation u.all).within (Contains-append_right placed left j c)

  -- ---- all pieces
  all : IsPermutation (range_with_len 0 n) (map (λ p. p.job) (pieces ++ made_now) ++ rest)
  all = IsPermutation-trans _ _ _ u.all (subst (IsPermutation (placed ++ left)) same (IsPermutation-append_right placed left (taken ++ rest) s.all))
    where
      same : placed ++ (taken ++ rest) ≡ map (λ p. p.job) (pieces ++ made_now) ++ rest
      same = sym (append_assoc placed taken rest) ∙ ap (λ l. (placed ++ l) ++ rest) (sym (jobs-seats moment 0 taken)) ∙ ap (λ l. l ++ rest) (sym (map-append (λ p. p.job) pieces made_now))

  new_at : (P : Piece → Type 0) → ((k : ℕ) → k < length taken → P (piece_at moment k (get_or taken k 0))) → All P made_now
  new_at P h k d l = let b : k < length taken = omega (arith, l, length-seats moment 0 taken) in
      subst P (ap (λ m. piece_at moment m (get_or taken k 0)) (sym (zero-add k)) ∙ sym (seats-at moment 0 taken k d 0 b)) (h k b)

  taken_at : (k : ℕ) → k < length taken → Contains taken (get_or taken k 0)
  taken_at k l = Contains-get_or taken k 0 l

  each : All (λ p. p ≡ piece_at (begin p.job) (machine p.job) p.job) (pieces ++ made_now)
  each = All-append (λ p. p ≡ piece_at (begin p.job) (machine p.job) p.job) pieces made_now
      (λ k d l. let p = get_or pieces k d in u.each k d l ∙ ap₂ (λ b m. piece_at b m p.job) (sym (begin-early p.job (u.early k d l))) (sym (machine-early p.job (u.early k d l))))
      (new_at (λ p. p ≡ piece_at (begin p.job) (machine p.job) p.job)
      (λ k l. ap₂ (λ b m. piece_at b m (get_or taken k 0)) (sym (begin-taken (get_or taken k 0) (taken_at k l))) (sym (machine-taken k l))))

  early : All (λ p. begin p.job < moment + 1) (pieces ++ made_now)
  early = All-append (λ p. begin p.job < moment + 1) pieces made_now
      (λ k d l. omega (arith, begin-early (get_or pieces k d).job (u.early k d l), u.early k d l))
      (new_at (λ p. begin p.job < moment + 1) (λ k l. omega (arith, begin-taken (get_or taken k 0) (taken_at k l))))

  inside : All (λ p. machine p.job < i.machines) (pieces ++ made_now)
  inside = All-append (λ p. machine p.job < i.machines) pieces made_now
      (λ k d l. omega (arith, machine-early (get_or pieces k d).job (u.early k d l), u.inside k d l))
      (new_at (λ p. machine p.job < i.machines) (λ k l. omega (arith, machine-taken k l, l, s.few)))

  abbrev First : Piece → Piece → Type 0
  First p q = (begin p.job < begin q.job) ⊎ ((begin p.job ≡ begin q.job) × (machine p.job < machine q.job))

  sorted : AllPairs First (pieces ++ made_now)
  sorted = AllPairs-append First pieces made_now old among
      (λ k d l. new_at (First (get_or pieces k d)) (λ m b. inl (omega (arith, begin-early (get_or pieces k d).job (u.early k d l), u.early k d l, begin-taken (get_or taken m 0) (taken_at m b)))))
    where
      old : AllPairs First pieces
      old a b d l k = by (get_or pieces a d) (get_or pieces b d) (u.early a d (omega (arith, l, k))) (u.early b d k) (u.sorted a b d l k)
        where
          by : (p q : Piece) → u.begin p.job < moment → u.begin q.job < moment → (u.begin p.job < u.begin q.job) ⊎ ((u.begin p.job ≡ u.begin q.job) × (u.machine p.job < u.machine q.job)) → First p q
          by p q f g h = elim h [
            | inl less ↦ inl (omega (arith, less, begin-early p.job f, begin-early q.job g))
            | inr same ↦ inr (begin-early p.job f ∙ same.0 ∙ sym (begin-early q.job g), omega (arith, same.1, machine-early p.job f, machine-early q.job g))
          ]

      among : AllPairs First made_now
      among a b d h l =
          let kb : b < length taken = omega (arith, l, length-seats moment 0 taken) in
          let ka : a < length taken = omega (arith, kb, h) in
          subst₂ First (sym (seats-at moment 0 taken a d 0 ka)) (sym (seats-at moment 0 taken b d 0 kb))
          (inr (begin-taken (get_or taken a 0) (taken_at a ka) ∙ sym (begin-taken (get_or taken b 0) (taken_at b kb)), omega (arith, machine-taken a ka, machine-taken b kb, h)))

  -- ---- the arcs
  open_ : (a : Arc) → Contains i.arcs a → Contains taken a.after → Contains left a.before → ⊥
  open_ a ca c b = false≢true (sym (All-contains (λ j. is_blocked i.arcs left j ≡ false) taken a.after s.free c) ∙ open_arc i.arcs left a ca b)

  forward : All (λ a. Contains rest a.after ⊎ (begin a.before < begin a.after)) i.arcs
  forward x d l = by (get_or i.arcs x d) (Contains-get_or i.arcs x d l) (t.ends x d l) (u.forward x d l)
    where
      by : (a : Arc) → Contains i.arcs a → (a.before < n) × (a.after < n) → Contains left a.after ⊎ (u.begin a.before < u.begin a.after) → Contains rest a.after ⊎ (begin a.before < begin a.after)
      by a ca b (inr less) =
          let soon : u.begin a.before < moment = omega (arith, less, at_most a.after b.1) in
          inr (omega (arith, less, begin-early a.before soon, begin-later a.after))
      by a ca b (inl c) = elim (left_split a.after c) [
        | inr r ↦ inl r
        | inl now ↦ elim (where_is a.before b.0) [
          | inr late ↦ absurd (open_ a ca now late)
          | inl done ↦ inr (omega (arith, placed_early a.before done, begin-early a.before (placed_early a.before done), begin-taken a.after now))
        ]
      ]

  closed : All (λ a. Contains rest a.before → Contains rest a.after) i.arcs
  closed x d l c = by (left_split (get_or i.arcs x d).after (u.closed x d l (rest_left (get_or i.arcs x d).before c)))
    where
      by : Contains taken (get_or i.arcs x d).after ⊎ Contains rest (get_or i.arcs x d).after → Contains rest (get_or i.arcs x d).after
      by (inl y) = absurd (open_ (get_or i.arcs x d) (Contains-get_or i.arcs x d l) y (rest_left (get_or i.arcs x d).before c))
      by (inr y) = y

  -- ---- why jobs wait
  abbrev Waits : (ℕ → ℕ) → (ℕ → ℕ) → ℕ → ℕ → Type 0
  Waits b mc x j = WaitsForJob i b x j ⊎ ((m : ℕ) → m < i.machines → RunsAhead i order b mc x m j)

  ahead_still : (x m j : ℕ) → x < moment → RunsAhead i order u.begin u.machine x m j → RunsAhead i order begin machine x m j
  ahead_still x m j soon (k, b, e, f, g) = let less : u.begin k < moment = omega (arith, e, soon) in (k, b, begin-early k less ∙ e, machine-early k less ∙ f, g)

  ahead_now : (m j : ℕ) → m < length taken → StandsBefore left (get_or taken m 0) j → RunsAhead i order begin machine moment m j
  ahead_now m j l g = (
    get_or taken m 0,
    inside_left (get_or taken m 0) (taken_left (get_or taken m 0) (taken_at m l)),
    begin-taken (get_or taken m 0) (taken_at m l),
    machine-taken m l,
    stands-in (StandsBefore order) left (get_or taken m 0) j u.ordered g,
  )

  still : (x j : ℕ) → x < moment → Waits u.begin u.machine x j → Waits begin machine x j
  still x j soon (inl (a, c, e, h)) = inl (a, c, e, omega (arith, h, begin-later a.before))
  still x j soon (inr f) = inr (λ m l. ahead_still x m j soon (f m l))

  waits_now : (j : ℕ) → Contains rest j → Waits begin machine moment j
  waits_now j c = elim (All-contains (λ j. (is_blocked i.arcs left j ≡ true) ⊎ ((length taken ≡ i.machines) × All (λ f. StandsBefore left f j) taken)) rest j s.kept c) [
    | inl shut ↦ let (a, ca, e, b) = blocker i.arcs left j shut in inl (a, ca, e, omega (arith, left_now a.before b, begin-later a.before))
    | inr full ↦ inr (λ m l. let b : m < length taken = omega (arith, l, full.0) in ahead_now m j b (full.1 m 0 b))
  ]

  waits : (j x : ℕ) → j < n → x < begin j → Waits begin machine x j
  waits j x l less = elim (cases_Bool (waits_more j)) [
    | inl on ↦
        let c = Contains-from_list_any rest j on in
        elim (cases_lt x moment) [
          | inl soon ↦ still x j soon (u.waits j x l (omega (arith, soon, left_now j (rest_left j c))))
          | inr now ↦ let same : moment ≡ x = omega (arith, now, less, begin-rest j c) in subst (λ y. Waits begin machine y j) same (waits_now j c)
        ]
    | inr is ↦
        let before : x < u.begin j = omega (arith, less, begin-other j (λ c. false≢true (sym is ∙ list_any-from_Contains rest j c))) in
        still x j (omega (arith, before, at_most j l)) (u.waits j x l before)
  ]

  abbrev Machines : Piece → Type 0
  Machines p = (m : ℕ) → m < machine p.job → RunsAhead i order begin machine (begin p.job) m p.job

  machines : All Machines (pieces ++ made_now)
  machines = All-append Machines pieces made_now (λ k d l. old (get_or pieces k d) (u.early k d l) (u.machines k d l)) (new_at Machines (λ k l m b. new k l m (omega (arith, b, machine-taken k l))))
    where
      old : (p : Piece) → u.begin p.job < moment → ((m : ℕ) → m < u.machine p.job → RunsAhead i order u.begin u.machine (u.begin p.job) m p.job) → Machines p
      old p soon h m l = subst (λ x. RunsAhead i order begin machine x m p.job)
          (sym (begin-early p.job soon)) (ahead_still (u.begin p.job) m p.job soon (h m (omega (arith, l, machine-early p.job soon))))

      new : (k : ℕ) → k < length taken → (m : ℕ) → m < k → RunsAhead i order begin machine (begin (get_or taken k 0)) m (get_or taken k 0)
      new k l m b = subst (λ x. RunsAhead i order begin machine x m (get_or taken k 0))
          (sym (begin-taken (get_or taken k 0) (taken_at k l))) (ahead_now m (get_or taken k 0) (omega (arith, b, l)) (s.taken_order m k 0 b l))

  pub IsUnderWay-next : 0 < length left → IsUnderWay i order (moment + 1) (pieces ++ made_now) rest
  IsUnderWay-next some = record {
    begin = begin;
    machine = machine;
    all = all;
    ordered = λ a b d l k. stands-in (StandsBefore order) left (get_or rest a d) (get_or rest b d) u.ordered (s.rest_order a b d l k);
    each = each;
    early = early;
    now = λ k d l. begin-rest (get_or rest k d) (Contains-get_or rest k d l);
    inside = inside;
    sorted = sorted;
    forward = forward;
    closed = closed;
    waits = waits;
    machines = machines;
    soon = omega (arith, u.soon, size, some_taken some);
  }
