-- The jobs of a slot, one by one.
use Rattle.std.proofs.Common.{◌≡◌, ℕ, ◌+◌, ◌-◌, ◌<◌, ◌≤◌, ◌⊎◌, inl, inr, Bool, true, false, cond, ltb, ◌&&◌, not, List, [], ◌∷◌, ◌++◌, length, get_or, take, ℤ, pos, All, AllPairs}
use Rattle.std.proofs.Common.{Contains, IsPermutation, refl, sym, ap, ap₂, subst, subst₂, ◌∙◌, arith, append_assoc}
use Rattle.std.specs.Prelude.{◌==◌, ◌||◌}
use Rattle.std.specs.List.{list_any}
use Rattle.std.proofs.lemmas.Bool.{false≢true, ltb-true}
use Rattle.std.proofs.lemmas.List.{take_more, take_all, length-append, length-take, get_or_append_left, get_or_default, get_or_push}
use Rattle.std.proofs.lemmas.List.Elements.{All-head, All-tail, All-push, All-contains, Contains-get_or, Contains-append_left, Contains-append_right}
use Rattle.std.proofs.lemmas.List.Quantifiers.{all_pairs_push}
use Rattle.std.proofs.lemmas.List.Sorted.{list_any-IsPermutation, All-permutation, Contains-permutation, IsPermutation-refl, IsPermutation-sym, IsPermutation-trans}
use Rattle.std.proofs.lemmas.List.Sorted.{IsPermutation-append_left, IsPermutation-append_right, IsPermutation-append_comm}
use Rattle.msp_class.specs.declared.sizes.TheConstants.{MOST_JOBS}
use Rattle.msp_instance.specs.declared.Arc.{Arc}
use Rattle.msp_pieces.specs.declared.Piece.{Piece}
use Rattle.msp_slots.specs.Pieces.{piece_at}
use Rattle.msp_slots.specs.ListSchedule.{StandsBefore}
use Rattle.msp_slots.specs.Steps.{is_blocked, IsSlot, seats}

-- ---- what stands before what, in a list with more at the end
pub stands-more : (xs ys : List ℕ) (a b : ℕ) → StandsBefore xs a b → StandsBefore (xs ++ ys) a b
stands-more xs ys a b (p, q, less, inside, e, f) =
    (p, q, less, omega (arith, inside, length-append xs ys), get_or_append_left xs ys 0 p (omega (arith, less, inside)) ∙ e, get_or_append_left xs ys 0 q inside ∙ f)

pub stands-last : (xs : List ℕ) (a j : ℕ) → Contains xs a → StandsBefore (xs ++ j ∷ []) a j
stands-last xs a j (k, l, e) = (
  k,
  length xs,
  l,
  omega (arith, length-append xs (j ∷ [])),
  get_or_append_left xs (j ∷ []) 0 k l ∙ get_or_default xs k 0 a l
      ∙ e,
  get_or_push xs j 0 (length xs) refl,
)

-- ---- one more job
pub IsSlot-none : (blocked : ℕ → Bool) (machines : ℕ) → IsSlot [] blocked machines [] []
IsSlot-none blocked machines = record {
  all = IsPermutation-refl [];
  free = λ k d l. absurd (omega (arith, l));
  few = omega arith;
  taken_order = λ a b d l k. absurd (omega (arith, k));
  rest_order = λ a b d l k. absurd (omega (arith, k));
  kept = λ k d l. absurd (omega (arith, l));
}

module _ (jobs : List ℕ) (blocked : ℕ → Bool) (machines : ℕ) (taken rest : List ℕ) (j : ℕ) (h : IsSlot jobs blocked machines taken rest) where
  abbrev Before : ℕ → ℕ → Type 0
  Before = StandsBefore (jobs ++ j ∷ [])

  abbrev Kept : ℕ → Type 0
  Kept r = (blocked r ≡ true) ⊎ ((length taken ≡ machines) × All (λ f. Before f r) taken)

  wider : (xs : List ℕ) → AllPairs (StandsBefore jobs) xs → AllPairs Before xs
  wider xs up a b d l k = stands-more jobs (j ∷ []) (get_or xs a d) (get_or xs b d) (up a b d l k)

  -- the jobs so far stand before the next one
  ahead : (x : ℕ) → Contains (taken ++ rest) x → Before x j
  ahead x c = stands-last jobs x j (Contains-permutation (taken ++ rest) jobs x (IsPermutation-sym jobs (taken ++ rest) h.all) c)

  all_taken_ahead : All (λ f. Before f j) taken
  all_taken_ahead k d l = ahead (get_or taken k d) (Contains-append_left taken rest (get_or taken k d) (Contains-get_or taken k d l))

  pub IsSlot-take : length taken < machines → blocked j ≡ false → IsSlot (jobs ++ j ∷ []) blocked machines (taken ++ j ∷ []) rest
  IsSlot-take room open_ = record {
    all = all;
    free = All-push (λ x. blocked x ≡ false) taken j h.free open_;
    few = omega (arith, length-append taken (j ∷ []), room);
    taken_order = all_pairs_push Before taken j (wider taken h.taken_order) all_taken_ahead;
    rest_order = wider rest h.rest_order;
    kept = λ k d l. elim (h.kept k d l) [ inl shut ↦ inl shut | inr full ↦ absurd (omega (arith, full.0, room)) ];
  }
    where
      all : IsPermutation (jobs ++ j ∷ []) ((taken ++ j ∷ []) ++ rest)
      all = IsPermutation-trans _ _ _ (IsPermutation-append_left (j ∷ []) jobs (taken ++ rest) h.all)
          (subst₂ IsPermutation (sym (append_assoc taken rest (j ∷ []))) (sym (append_assoc taken (j ∷ []) rest))
          (IsPermutation-append_right taken (rest ++ j ∷ []) ((j ∷ []) ++ rest) (IsPermutation-append_comm rest (j ∷ []))))

  pub IsSlot-keep : (machines ≤ length taken) ⊎ (blocked j ≡ true) → IsSlot (jobs ++ j ∷ []) blocked machines taken (rest ++ j ∷ [])
  IsSlot-keep why = record {
    all = subst (IsPermutation (jobs ++ j ∷ [])) (append_assoc taken rest (j ∷ [])) (IsPermutation-append_left (j ∷ []) jobs (taken ++ rest) h.all);
    free = h.free;
    few = h.few;
    taken_order = wider taken h.taken_order;
    rest_order = all_pairs_push Before rest j (wider rest h.rest_order)
        (λ k d l. ahead (get_or rest k d) (Contains-append_right taken rest (get_or rest k d) (Contains-get_or rest k d l)));
    kept = All-push Kept rest j old (elim why [ inl full ↦ inr (omega (arith, full, h.few), all_taken_ahead) | inr shut ↦ inl shut ]);
  }
    where
      old : All Kept rest
      old k d l = elim (h.kept k d l) [ inl shut ↦ inl shut | inr full ↦ inr (full.0, λ n x b. stands-more jobs (j ∷ []) (get_or taken n x) (get_or rest k d) (full.1 n x b)) ]

-- at the numbers as the code passes them
IsSlot-next : (jobs : List ℕ) (blocked : ℕ → Bool) (machines : ℕ) (taken rest new_taken new_rest : List ℕ) (k j : ℕ) (goes : Bool) → k < length jobs
    → j ≡ get_or jobs k 0 → (goes ≡ true → (length taken < machines) × (blocked j ≡ false)) → (goes ≡ false → (machines ≤ length taken) ⊎ (blocked j ≡ true))
    → new_taken ≡ cond goes (taken ++ j ∷ []) taken → new_rest ≡ cond goes rest (rest ++ j ∷ [])
    → IsSlot (take k jobs) blocked machines taken rest → IsSlot (take (k + 1) jobs) blocked machines new_taken new_rest
IsSlot-next jobs blocked machines taken rest new_taken new_rest k j goes l at ready waits e f h = subst (λ js. IsSlot js blocked machines new_taken new_rest) (sym one) (by goes ready waits e f)
  where
    one : take (k + 1) jobs ≡ take k jobs ++ j ∷ []
    one = take_more jobs k 0 l ∙ ap (λ x. take k jobs ++ x ∷ []) (sym at)

    by : (goes : Bool) → (goes ≡ true → (length taken < machines) × (blocked j ≡ false)) → (goes ≡ false → (machines ≤ length taken) ⊎ (blocked j ≡ true))
        → new_taken ≡ cond goes (taken ++ j ∷ []) taken → new_rest ≡ cond goes rest (rest ++ j ∷ [])
        → IsSlot (take k jobs ++ j ∷ []) blocked machines new_taken new_rest
    by true ready waits e f = let (room, open_) = ready refl in
        subst₂ (IsSlot (take k jobs ++ j ∷ []) blocked machines) (sym e) (sym f) (IsSlot-take (take k jobs) blocked machines taken rest j h room open_)
    by false ready waits e f = subst₂ (IsSlot (take k jobs ++ j ∷ []) blocked machines) (sym e) (sym f) (IsSlot-keep (take k jobs) blocked machines taken rest j h (waits refl))

-- the next job, where there is room: it goes where it is not blocked
pub IsSlot-room : (jobs : List ℕ) (blocked : ℕ → Bool) (machines : ℕ) (taken rest new_taken new_rest : List ℕ) (k j : ℕ) (goes shut : Bool)
    → k < length jobs → j ≡ get_or jobs k 0 → length taken < machines → goes ≡ not shut → shut ≡ blocked j
    → new_taken ≡ cond goes (taken ++ j ∷ []) taken → new_rest ≡ cond goes rest (rest ++ j ∷ [])
    → IsSlot (take k jobs) blocked machines taken rest → IsSlot (take (k + 1) jobs) blocked machines new_taken new_rest
IsSlot-room jobs blocked machines taken rest new_taken new_rest k j goes true l at room e same f g h =
    IsSlot-next jobs blocked machines taken rest new_taken new_rest k j goes l at (λ t. absurd (false≢true (sym e ∙ t))) (λ u. inr (sym same)) f g h
IsSlot-room jobs blocked machines taken rest new_taken new_rest k j goes false l at room e same f g h =
    IsSlot-next jobs blocked machines taken rest new_taken new_rest k j goes l at (λ t. (room, sym same)) (λ u. absurd (false≢true (sym u ∙ e))) f g h

-- and where there is none
pub IsSlot-full : (jobs : List ℕ) (blocked : ℕ → Bool) (machines : ℕ) (taken rest new_taken new_rest : List ℕ) (k j n : ℕ) (goes : Bool)
    → k < length jobs → j ≡ get_or jobs k 0 → machines ≤ length taken → machines ≤ n → goes ≡ ltb n machines
    → new_taken ≡ cond goes (taken ++ j ∷ []) taken → new_rest ≡ cond goes rest (rest ++ j ∷ [])
    → IsSlot (take k jobs) blocked machines taken rest → IsSlot (take (k + 1) jobs) blocked machines new_taken new_rest
IsSlot-full jobs blocked machines taken rest new_taken new_rest k j n goes l at full so e f g h =
    IsSlot-next jobs blocked machines taken rest new_taken new_rest k j goes l at (λ t. absurd (omega (arith, ltb-true n machines (sym e ∙ t), so))) (λ u. inl full) f g h

pub IsSlot-all : (jobs : List ℕ) (blocked : ℕ → Bool) (machines : ℕ) (taken rest : List ℕ) (k : ℕ)
    → length jobs ≤ k → IsSlot (take k jobs) blocked machines taken rest → IsSlot jobs blocked machines taken rest
IsSlot-all jobs blocked machines taken rest k l h = subst (λ js. IsSlot js blocked machines taken rest) (take_all k jobs l) h

-- the same flags, by another word
pub IsSlot-same : (jobs : List ℕ) (blocked other : ℕ → Bool) (machines : ℕ) (taken rest : List ℕ)
    → All (λ j. blocked j ≡ other j) jobs → IsSlot jobs blocked machines taken rest → IsSlot jobs other machines taken rest
IsSlot-same jobs blocked other machines taken rest same h = record {
  all = h.all;
  free =
      λ k d l. sym (All-contains (λ j. blocked j ≡ other j) (taken ++ rest) (get_or taken k d) both (Contains-append_left taken rest (get_or taken k d) (Contains-get_or taken k d l))) ∙ h.free k d l;
  few = h.few;
  taken_order = h.taken_order;
  rest_order = h.rest_order;
  kept = λ k d l. elim (h.kept k d l) [
    | inl shut ↦ inl (sym (All-contains (λ j. blocked j ≡ other j) (taken ++ rest) (get_or rest k d) both (Contains-append_right taken rest (get_or rest k d) (Contains-get_or rest k d l))) ∙ shut)
    | inr full ↦ inr full
  ];
}
  where
    both : All (λ j. blocked j ≡ other j) (taken ++ rest)
    both = All-permutation (λ j. blocked j ≡ other j) jobs (taken ++ rest) h.all same

list_any-same : {X : Type 0} (f g : X → Bool) (xs : List X) → All (λ x. f x ≡ g x) xs → list_any f xs ≡ list_any g xs
list_any-same f g [] h = refl
list_any-same f g (x ∷ xs) h = ap₂ (λ a b. a || b) (All-head (λ x. f x ≡ g x) x xs h) (list_any-same f g xs (All-tail (λ x. f x ≡ g x) x xs h))

-- flags as the code makes them
pub blocked-flagged : (arcs : List Arc) (left : List ℕ) (flags : List Bool) (j : ℕ)
    → All (λ a. (a.before < MOST_JOBS) × (a.after < MOST_JOBS)) arcs → ((k : ℕ) → k < MOST_JOBS → get_or flags k false ≡ list_any (λ x. x == k) left)
    → list_any (λ a. a.after == j && get_or flags a.before false) arcs ≡ is_blocked arcs left j
blocked-flagged arcs left flags j ends flagged =
    list_any-same (λ a. a.after == j && get_or flags a.before false) (λ a. a.after == j && list_any (λ k. k == a.before) left)
    arcs (λ n x b. ap (λ m. (get_or arcs n x).after == j && m) (flagged (get_or arcs n x).before (ends n x b).0))

-- the same arcs in another order
pub IsSlot-arcs : (arcs sorted : List Arc) (left : List ℕ) (machines : ℕ) (taken rest : List ℕ)
    → IsPermutation arcs sorted → IsSlot left (is_blocked sorted left) machines taken rest → IsSlot left (is_blocked arcs left) machines taken rest
IsSlot-arcs arcs sorted left machines taken rest h =
    IsSlot-same left (is_blocked sorted left) (is_blocked arcs left)
    machines taken rest (λ k d l. sym (list_any-IsPermutation (λ a. a.after == get_or left k d && list_any (λ x. x == a.before) left) arcs sorted h))

-- ---- the pieces of a slot
seats-append : (moment machine : ℕ) (js : List ℕ) (j : ℕ) → seats moment machine (js ++ j ∷ []) ≡ seats moment machine js ++ piece_at moment (machine + length js) j ∷ []
seats-append moment machine [] j = ap (λ m. piece_at moment m j ∷ []) (omega arith)
seats-append moment machine (x ∷ js) j =
    ap (λ ps. piece_at moment machine x ∷ ps) (seats-append moment (machine + 1) js j ∙ ap (λ m. seats moment (machine + 1) js ++ piece_at moment m j ∷ []) (omega arith))

pub seats-next : (new old start : List Piece) (taken : List ℕ) (k j moment : ℕ) (from to : ℤ)
    → new ≡ old ++ record { job = j; op = 0; machine = k; from = from; to = to } ∷ [] → from ≡ pos moment → to ≡ pos (moment + 1) → k < length taken → j ≡ get_or taken k 0
    → old ≡ start ++ seats moment 0 (take k taken) → new ≡ start ++ seats moment 0 (take (k + 1) taken)
seats-next new old start taken k j moment from to e f t l at so_far =
    e ∙ ap₂ (λ x y. old ++ record { job = j; op = 0; machine = k; from = x; to = y } ∷ []) f t
    ∙ ap (λ l. l ++ piece_at moment k j ∷ []) so_far ∙ append_assoc start (seats moment 0 (take k taken)) (piece_at moment k j ∷ [])
    ∙ ap (λ m. start ++ (seats moment 0 (take k taken) ++ piece_at moment m j ∷ [])) place ∙ ap (λ l. start ++ l) (sym (seats-append moment 0 (take k taken) j))
    ∙ ap (λ js. start ++ seats moment 0 js) (sym (take_more taken k 0 l ∙ ap (λ x. take k taken ++ x ∷ []) (sym at)))
  where
    place : k ≡ 0 + length (take k taken)
    place = omega (arith, length-take k taken, l)
