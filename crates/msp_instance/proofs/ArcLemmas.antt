-- Lemmas on sorted arcs, and on how many arcs enter a job.
use Rattle.std.proofs.Common.{◌≡◌, ℕ, ◌+◌, ◌-◌, ◌<◌, ◌≤◌, Bool, true, false, cond, eqb, ltb, leb, List, [], ◌∷◌, ◌++◌, length, get_or, take, drop, set, filter, ◌==◌}
use Rattle.std.proofs.Common.{◌&&◌, ◌||◌, inl, inr, add-one, All, refl, sym, ap, ◌∙◌, subst, arith}
use Rattle.std.proofs.Math.ListN.{length-set}
use Rattle.std.proofs.lemmas.Grind.{get_or-set_at}
use Rattle.std.specs.List.{list_any, range_with_len}
use Rattle.std.specs.List.Sorted.{IsPartitionPoint}
use Rattle.std.proofs.lemmas.List.{append-nil, get_or-take, get_or-drop, length-take, length-drop, take_all, take-append-drop, get_or_default, get_or-set_other}
use Rattle.std.proofs.lemmas.List.Elements.{All-head, All-tail, filter-append}
use Rattle.std.proofs.lemmas.List.Sums.{sum_by_more, count_by-le-length}
use Rattle.std.proofs.lemmas.Bool.{cases_Bool, ne_eqb, eq-eqb, eqb-true, eqb-false, ltb-true, ltb-false, leb-true, leb-false}
use Rattle.msp_class.proofs.Sums.{range_with_len_last}
use Rattle.msp_instance.specs.declared.Arc.{Arc}
use Rattle.msp_instance.specs.Conditions.{entering}

module _ {X : Type 0} (p : X → Bool) where
  pub filter_none : (xs : List X) → All (λ x. p x ≡ false) xs → filter p xs ≡ []
  filter_none [] h = refl
  filter_none (x ∷ xs) h =
      let none : p x ≡ false = All-head (λ y. p y ≡ false) x xs h in
      ap (λ b. cond b (x ∷ filter p xs) (filter p xs)) none ∙ filter_none xs (All-tail (λ y. p y ≡ false) x xs h)

  pub filter_all : (xs : List X) → All (λ x. p x ≡ true) xs → filter p xs ≡ xs
  filter_all [] h = refl
  filter_all (x ∷ xs) h =
      let all : p x ≡ true = All-head (λ y. p y ≡ true) x xs h in
      ap (λ b. cond b (x ∷ filter p xs) (filter p xs)) all ∙ ap (λ l. x ∷ l) (filter_all xs (All-tail (λ y. p y ≡ true) x xs h))

-- a test of what another test keeps
pub list_any-filter : {X : Type 0} (p q : X → Bool) (xs : List X) → list_any q (filter p xs) ≡ list_any (λ x. p x && q x) xs
list_any-filter p q [] = refl
list_any-filter p q (x ∷ xs) =
    elim (p x) as (λ b. list_any q (cond b (x ∷ filter p xs) (filter p xs)) ≡ ((b && q x) || list_any (λ y. p y && q y) xs))
    [ true ↦ ap (λ r. q x || r) (list_any-filter p q xs) | false ↦ list_any-filter p q xs ]

-- of a list sorted by a key, what stands between the lesser keys and the greater ones has the key
pub filter_between : {X : Type 0} (key : X → ℕ) (j : ℕ) (xs : List X) (a b : ℕ)
    → IsPartitionPoint (λ x. ltb (key x) j ≡ true) (λ x. ltb (key x) j ≡ false) xs a
    → IsPartitionPoint (λ x. leb (key x) j ≡ true) (λ x. leb (key x) j ≡ false) (drop a xs) b
    → take b (drop a xs) ≡ filter (λ x. eqb (key x) j) xs
filter_between {X} key j xs a b low high =
    sym (ap (filter p) (sym (take-append-drop a xs)) ∙ filter-append p (take a xs) (drop a xs) ∙ ap (λ l. l ++ filter p (drop a xs)) (filter_none p (take a xs) lesser)
    ∙ ap (filter p) (sym (take-append-drop b (drop a xs))) ∙ filter-append p (take b (drop a xs)) (drop b (drop a xs))
    ∙ ap (λ l. l ++ filter p (drop b (drop a xs))) (filter_all p (take b (drop a xs)) equal)
    ∙ ap (λ l. take b (drop a xs) ++ l) (filter_none p (drop b (drop a xs)) greater)
    ∙ append-nil (take b (drop a xs)))
  where
    p : X → Bool
    p x = eqb (key x) j

    lesser : All (λ x. p x ≡ false) (take a xs)
    lesser k d t =
        let at : k < a = omega (arith, length-take a xs) in
        rw (get_or-take a xs k d at) (ne_eqb _ _ (λ e. absurd (omega (arith, e, ltb-true _ _ (low.0 k d (omega arith) at)))))

    equal : All (λ x. p x ≡ true) (take b (drop a xs))
    equal k d t =
        let at : k < b = omega (arith, length-take b (drop a xs)) in
        let there : k < length (drop a xs) = omega (arith, length-take b (drop a xs)) in
        let above = ltb-false _ _ (low.1 (a + k) d (omega arith) (omega (arith, length-drop a xs))) in
        let below = leb-true _ _ (high.0 k d (omega arith) at) in
        rw (get_or-take b (drop a xs) k d at) (eq-eqb _ _ (omega (arith, above, below, ap key (get_or-drop a xs k d))))

    greater : All (λ x. p x ≡ false) (drop b (drop a xs))
    greater k d t =
        rw (get_or-drop b (drop a xs) k d) (ne_eqb _ _ (λ e. absurd (omega (arith, e, leb-false _ _ (high.1 (b + k) d (omega arith) (omega (arith, length-drop b (drop a xs))))))))

-- the same, where the rest is cut to its own length first
pub filter_between_cut : {X : Type 0} (key : X → ℕ) (j : ℕ) (xs : List X) (a b : ℕ)
    → IsPartitionPoint (λ x. ltb (key x) j ≡ true) (λ x. ltb (key x) j ≡ false) xs a
    → IsPartitionPoint (λ x. leb (key x) j ≡ true) (λ x. leb (key x) j ≡ false) (take (length xs - a) (drop a xs)) b
    → take b (take (length xs - a) (drop a xs)) ≡ filter (λ x. eqb (key x) j) xs
filter_between_cut key j xs a b low high =
    let whole = take_all (length xs - a) (drop a xs) (omega (arith, length-drop a xs)) in
    ap (take b) whole ∙ filter_between key j xs a b low (subst (λ l. IsPartitionPoint (λ x. leb (key x) j ≡ true) (λ x. leb (key x) j ≡ false) l b) whole high)

-- ---- how many arcs enter each job, over more and more arcs
pub record CountsEntering (arcs : List Arc) (n : ℕ) (counts : List ℕ) : Type 0 where
  pub whole : length counts ≡ n
  pub each : (k : ℕ) → k < n → get_or counts k 0 ≡ entering arcs k

pub entering_more : (arcs : List Arc) (i : ℕ) (d : Arc) (k : ℕ) → i < length arcs → entering (take (i + 1) arcs) k ≡ entering (take i arcs) k + cond ((get_or arcs i d).after == k) 1 0
entering_more arcs i d k t = sum_by_more (λ a. cond (a.after == k) 1 0) arcs i d t

pub CountsEntering-more : (arcs : List Arc) (i : ℕ) (d : Arc) (n j : ℕ) (counts : List ℕ) → i < length arcs → (get_or arcs i d).after ≡ j → j < n
    → CountsEntering (take i arcs) n counts → CountsEntering (take (i + 1) arcs) n (set counts j (get_or counts j 0 + 1))
CountsEntering-more arcs i d n j counts t is inside h = record { whole = length-set counts j _ ∙ h.whole; each = each }
  where
    new : List ℕ
    new = set counts j (get_or counts j 0 + 1)

    each : (k : ℕ) → k < n → get_or new k 0 ≡ entering (take (i + 1) arcs) k
    each k u = elim (cases_Bool (j == k)) [
      | inl hit ↦
          let same : j ≡ k = eqb-true j k hit in
          let there : get_or new k 0 ≡ get_or counts j 0 + 1 = get_or-set_at counts j k _ 0 (sym same) (omega (arith, h.whole)) in
          there ∙ ap (λ m. m + 1) (h.each j inside ∙ ap (entering (take i arcs)) same)
          ∙ sym (entering_more arcs i d k t ∙ ap (λ m. entering (take i arcs) k + cond (m == k) 1 0) is ∙ ap (λ b. entering (take i arcs) k + cond b 1 0) hit)
      | inr miss ↦
          let there : get_or new k 0 ≡ get_or counts k 0 = get_or-set_other counts j k _ 0 (λ e. eqb-false j k miss (sym e)) in
          there ∙ h.each k u ∙ sym (entering_more arcs i d k t ∙ ap (λ m. entering (take i arcs) k + cond (m == k) 1 0) is ∙ ap (λ b. entering (take i arcs) k + cond b 1 0) miss ∙ omega arith)
    ]

-- a filter of the numbers below one more
pub filter_range_more : (p : ℕ → Bool) (n : ℕ) → filter p (range_with_len 0 (n + 1)) ≡ filter p (range_with_len 0 n) ++ cond (p n) (n ∷ []) []
filter_range_more p n =
    ap (λ m. filter p (range_with_len 0 m)) (add-one n) ∙ ap (filter p) (range_with_len_last 0 n ∙ ap (λ m. range_with_len 0 n ++ m ∷ []) (omega arith))
    ∙ filter-append p (range_with_len 0 n) (n ∷ [])

-- the step of the loop that counts, by what it reads at the job after
pub CountsEntering-read : (arcs : List Arc) (i : ℕ) (d : Arc) (n r : ℕ) (counts : List ℕ) → i < length arcs → All (λ a. a.after < n) arcs
    → CountsEntering (take i arcs) n counts → r ≡ get_or counts (get_or arcs i d).after r
    → (r ≤ i) × CountsEntering (take (i + 1) arcs) n (set counts (get_or arcs i d).after (r + 1))
CountsEntering-read arcs i d n r counts t ends h is = (
  omega (arith, value, h.each j (ends i d t), count_by-le-length (λ a. a.after == j) (take i arcs), length-take i arcs),
  subst (λ m. CountsEntering (take (i + 1) arcs) n (set counts j (m + 1))) (sym value) (CountsEntering-more arcs i d n j counts t refl (ends i d t) h),
)
  where
    j : ℕ
    j = (get_or arcs i d).after

    value : r ≡ get_or counts j 0
    value = is ∙ get_or_default counts j r 0 (let u : j < n = ends i d t in omega (arith, h.whole))

-- the step of the loop that lists the numbers of a range that pass a test
pub filter_range_next : (p : ℕ → Bool) (n : ℕ) (old new : List ℕ) (b : Bool)
    → p n ≡ b → new ≡ old ++ cond b (n ∷ []) [] → old ≡ filter p (range_with_len 0 n) → new ≡ filter p (range_with_len 0 (n + 1))
filter_range_next p n old new b at e h = e ∙ ap (λ l. l ++ cond b (n ∷ []) []) h ∙ ap (λ c. filter p (range_with_len 0 n) ++ cond c (n ∷ []) []) (sym at) ∙ sym (filter_range_more p n)
