-- Lemmas on jobs put into order one after the other, each once no arc into it waits for a job that is left.
use Rattle.std.proofs.Common.{◌≡◌, ◌≢◌, ℕ, ◌+◌, ◌-◌, ◌<◌, ◌≤◌, Bool, true, false, cond, not, ◌==◌, ◌&&◌, ◌||◌, List, [], ◌∷◌, ◌++◌, length, get_or, take, set, filter, All}
use Rattle.std.proofs.Common.{Contains, inl, inr, refl, sym, ap, ◌∙◌, subst, arith}
use Rattle.std.specs.List.{list_any, range_with_len}
use Rattle.std.proofs.lemmas.Bool.{cases_Bool, cases_lt, eqb-true, eqb-false, eq-eqb, ne_eqb, and_parts, both_ways, not-true}
use Rattle.std.proofs.lemmas.List.{take_all, take_more, take-take, take-append-le, get_or_default, get_or-take, get_or-set_other, length-take, length-set}
use Rattle.std.proofs.lemmas.List.Folds.{list_any-append}
use Rattle.std.proofs.lemmas.List.Sums.{sum_by-take-le}
use Rattle.std.proofs.lemmas.List.Elements.{All-filter, Contains-get_or}
use Rattle.std.proofs.lemmas.Grind.{get_or-set_at}
use Rattle.msp_class.proofs.Sums.{cond-yes, cond-no, sum_by-agree, sum_by-add, sum_by-filter, sum_by-some, sum_by-contains, eqb_comm}
use Rattle.msp_instance.specs.declared.Arc.{Arc}
use Rattle.msp_instance.specs.Conditions.{entering}
use Rattle.msp_instance.specs.Paths.{HasStep}
use Rattle.msp_instance.specs.Listing.{IsListing, waiting, IsLongestOrder}
use Rattle.msp_instance.proofs.ArcLemmas.{entering_more}
use Rattle.msp_instance.proofs.ListingLemmas.{list_any-from_Contains, Contains-from_list_any, Contains-take, IsListing-filter, IsListing-same, IsListing-push, IsListing-distinct}
use Rattle.msp_instance.proofs.ListingLemmas.{IsListing-length, IsListing-contains, IsListing-passes, not_before_itself, length-kept}

-- ---- arcs from outside a list
abbrev awaits : List ℕ → ℕ → Arc → ℕ
awaits xs k a = cond (a.after == k && not (list_any (λ x. x == a.before) xs)) 1 0

joins : (a l b : Bool) → (b ≡ true → l ≡ false) → cond {A = ℕ} (a && not l) 1 0 ≡ cond (a && not (l || (b || false))) 1 0 + cond b (cond a 1 0) 0
joins a l true f = let e = f refl in grind (arith, e)
joins a l false f = grind arith

plain_term : (p : Bool) → cond {A = ℕ} (p && not false) 1 0 ≡ cond p 1 0
plain_term p = grind arith

pub waiting-none : (arcs : List Arc) (k : ℕ) → waiting arcs [] k ≡ entering arcs k
waiting-none arcs k = sum_by-agree (awaits [] k) (λ a. cond (a.after == k) 1 0) arcs (λ a. plain_term (a.after == k))

awaits-push : (xs : List ℕ) (j k : ℕ) (a : Arc) → list_any (λ x. x == j) xs ≡ false → awaits xs k a ≡ awaits (xs ++ j ∷ []) k a + cond (a.before == j) (cond (a.after == k) 1 0) 0
awaits-push xs j k a none =
    joins (a.after == k) (list_any (λ x. x == a.before) xs) (a.before == j) (λ e. ap (λ m. list_any (λ x. x == m) xs) (eqb-true a.before j e) ∙ none)
    ∙ ap (λ b. cond {A = ℕ} (a.after == k && not b) 1 0 + cond (a.before == j) (cond (a.after == k) 1 0) 0)
    (ap (λ b. list_any (λ x. x == a.before) xs || (b || false)) (eqb_comm a.before j) ∙ sym (list_any-append (λ x. x == a.before) xs (j ∷ [])))

-- the arcs of a job that joins the list wait no longer
pub waiting-push : (arcs : List Arc) (xs : List ℕ) (j k : ℕ) → ¬ Contains xs j → waiting arcs xs k ≡ waiting arcs (xs ++ j ∷ []) k + entering (filter (λ a. a.before == j) arcs) k
waiting-push arcs xs j k out =
    sum_by-agree (awaits xs k) (λ a. awaits (xs ++ j ∷ []) k a + cond (a.before == j) (cond (a.after == k) 1 0) 0) arcs (λ a. awaits-push xs j k a none)
    ∙ sum_by-add (awaits (xs ++ j ∷ []) k) (λ a. cond (a.before == j) (cond (a.after == k) 1 0) 0) arcs
    ∙ ap (λ m. waiting arcs (xs ++ j ∷ []) k + m) (sym (sum_by-filter (λ a. cond (a.after == k) 1 0) (λ a. a.before == j) arcs))
  where
    none : list_any (λ x. x == j) xs ≡ false
    none = elim (cases_Bool (list_any (λ x. x == j) xs)) [ inl e ↦ absurd (out (Contains-from_list_any xs j e)) | inr e ↦ e ]

-- where no arc waits, each comes from the list
pub Contains-from_waiting : (arcs : List Arc) (xs : List ℕ) (j k : ℕ) → waiting arcs xs k ≡ 0 → HasStep arcs j k → Contains xs j
Contains-from_waiting arcs xs j k quiet step = elim (cases_Bool (list_any (λ x. x == j) xs)) [
  | inl e ↦ Contains-from_list_any xs j e
  | inr e ↦
      let one : cond {A = ℕ} (k == k && not (list_any (λ x. x == j) xs)) 1 0 ≡ 1 = ap (λ b. cond {A = ℕ} (k == k && not b) 1 0) e ∙ ap (λ b. cond {A = ℕ} (b && true) 1 0) (eq-eqb k k refl) in
      absurd (omega (arith, quiet, one, sum_by-contains (awaits xs k) arcs (record { before = j; after = k }) step))
]

pub waiting-some : (arcs : List Arc) (xs : List ℕ) (k : ℕ) → 0 < waiting arcs xs k → (j : ℕ) × HasStep arcs j k × (¬ Contains xs j)
waiting-some arcs xs k some = let s = sum_by-some (awaits xs k) arcs some in found s.0 s.1 (let h = s.2 in grind (arith, h))
  where
    found : (a : Arc) → Contains arcs a → (a.after == k && not (list_any (λ x. x == a.before) xs)) ≡ true → (j : ℕ) × HasStep arcs j k × (¬ Contains xs j)
    found a c h =
        let parts = and_parts _ _ h in
        let out = not-true _ parts.1 in
        (a.before, subst (HasStep arcs a.before) (eqb-true a.after k parts.0) c, λ c. both_ways _ out (list_any-from_Contains xs a.before c))

-- ---- the arcs of one job, passed one after the other
pub record IsReleasing (n : ℕ) (passed : List Arc) (counts order now_counts now_order : List ℕ) : Type 0 where
  pub whole : length now_counts ≡ n
  pub each : (k : ℕ) → k < n → get_or now_counts k 0 + entering passed k ≡ get_or counts k 0
  pub listing : IsListing n (λ k. get_or now_counts k 0 == 0) now_order
  pub kept : take (length order) now_order ≡ order

pub IsReleasing-start : (n : ℕ) (counts order : List ℕ) → length counts ≡ n → IsListing n (λ k. get_or counts k 0 == 0) order → IsReleasing n [] counts order counts order
IsReleasing-start n counts order whole listing = record { whole = whole; each = λ k t. omega arith; listing = listing; kept = take_all (length order) order (omega arith) }

-- the next arc is still counted
pub IsReleasing-some : (n : ℕ) (leaving : List Arc) (i : ℕ) (d : Arc) (counts order now_counts now_order : List ℕ) → i < length leaving → (get_or leaving i d).after < n
    → ((k : ℕ) → k < n → entering leaving k ≤ get_or counts k 0) → IsReleasing n (take i leaving) counts order now_counts now_order → 0 < get_or now_counts (get_or leaving i d).after 0
IsReleasing-some n leaving i d counts order now_counts now_order t inside enough h =
    let j = (get_or leaving i d).after in
    omega (arith, enough j inside, h.each j inside, entering_more leaving i d j t, cond-yes 1 (eq-eqb j j refl), sum_by-take-le (λ a. cond (a.after == j) 1 0) leaving (i + 1))

pub IsReleasing-more : (n : ℕ) (leaving : List Arc) (i : ℕ) (d : Arc) (counts order now_counts now_order new_counts new_order : List ℕ) → i < length leaving → (get_or leaving i d).after < n
    → 0 < get_or now_counts (get_or leaving i d).after 0
    → new_counts ≡ set now_counts (get_or leaving i d).after (get_or now_counts (get_or leaving i d).after 0 - 1)
    → new_order ≡ cond (get_or now_counts (get_or leaving i d).after 0 == 1) (now_order ++ (get_or leaving i d).after ∷ []) now_order
    → IsReleasing n (take i leaving) counts order now_counts now_order → IsReleasing n (take (i + 1) leaving) counts order new_counts new_order
IsReleasing-more n leaving i d counts order now_counts now_order new_counts new_order t inside some counted listed h =
    record { whole = ap length counted ∙ length-set now_counts j _ ∙ h.whole; each = each; listing = listing; kept = kept }
  where
    j : ℕ
    j = (get_or leaving i d).after

    at_j : get_or new_counts j 0 ≡ get_or now_counts j 0 - 1
    at_j = ap (λ l. get_or l j 0) counted ∙ get_or-set_at now_counts j j _ 0 refl (let u : j < n = inside in omega (arith, h.whole))

    elsewhere : (k : ℕ) → k ≢ j → get_or new_counts k 0 ≡ get_or now_counts k 0
    elsewhere k differs = ap (λ l. get_or l k 0) counted ∙ get_or-set_other now_counts j k _ 0 differs

    each : (k : ℕ) → k < n → get_or new_counts k 0 + entering (take (i + 1) leaving) k ≡ get_or counts k 0
    each k u = elim (cases_Bool (j == k)) [
      | inl hit ↦
          let e : j ≡ k = eqb-true j k hit in
          let new : get_or new_counts k 0 ≡ get_or now_counts k 0 - 1 = subst (λ m. get_or new_counts m 0 ≡ get_or now_counts m 0 - 1) e at_j in
          let old : 0 < get_or now_counts k 0 = subst (λ m. 0 < get_or now_counts m 0) e some in
          omega (arith, new, old, h.each k u, entering_more leaving i d k t, cond-yes 1 hit)
      | inr miss ↦
          omega (arith, elsewhere k (λ e. eqb-false j k miss (sym e)), h.each k u, entering_more leaving i d k t, cond-no 1 miss)
    ]

    listing : IsListing n (λ k. get_or new_counts k 0 == 0) new_order
    listing = elim (cases_Bool (get_or now_counts j 0 == 1)) [
      | inl last ↦
          let v : get_or now_counts j 0 ≡ 1 = eqb-true _ 1 last in
          let list : new_order ≡ now_order ++ j ∷ [] = listed ∙ ap (λ b. cond b (now_order ++ j ∷ []) now_order) last in
          subst (IsListing n (λ k. get_or new_counts k 0 == 0)) (sym list)
          (IsListing-push n (λ k. get_or now_counts k 0 == 0) (λ k. get_or new_counts k 0 == 0) now_order j inside
          (ne_eqb _ 0 (λ e. absurd (omega arith))) (eq-eqb _ 0 (omega (arith, at_j))) (λ k u differs. ap (λ m. m == 0) (elsewhere k differs)) h.listing)
      | inr more ↦
          let v : get_or now_counts j 0 ≢ 1 = eqb-false _ 1 more in
          let list : new_order ≡ now_order = listed ∙ ap (λ b. cond b (now_order ++ j ∷ []) now_order) more in
          subst (IsListing n (λ k. get_or new_counts k 0 == 0)) (sym list)
          (IsListing-same n (λ k. get_or now_counts k 0 == 0) (λ k. get_or new_counts k 0 == 0) now_order (λ k u. elim (cases_Bool (j == k)) [
            | inl hit ↦ subst (λ m. (get_or new_counts m 0 == 0) ≡ (get_or now_counts m 0 == 0)) (eqb-true j k hit)
                (ne_eqb _ 0 (λ q. absurd (omega (arith, at_j, some, v))) ∙ sym (ne_eqb _ 0 (λ q. absurd (omega (arith, some)))))
            | inr miss ↦ ap (λ m. m == 0) (elsewhere k (λ e. eqb-false j k miss (sym e)))
          ]) h.listing)
    ]

    kept : take (length order) new_order ≡ order
    kept = elim (cases_Bool (get_or now_counts j 0 == 1)) [
      | inl last ↦ ap (take (length order)) (listed ∙ ap (λ b. cond b (now_order ++ j ∷ []) now_order) last)
          ∙ take-append-le (length order) now_order (j ∷ []) (length-kept order now_order h.kept) ∙ h.kept
      | inr more ↦ ap (take (length order)) (listed ∙ ap (λ b. cond b (now_order ++ j ∷ []) now_order) more) ∙ h.kept
    ]

-- ---- all jobs of the order, one after the other
pub record IsPassing (n : ℕ) (arcs : List Arc) (counts order : List ℕ) (done : ℕ) : Type 0 where
  pub whole : length counts ≡ n
  pub each : (k : ℕ) → k < n → get_or counts k 0 ≡ waiting arcs (take done order) k
  pub listing : IsListing n (λ k. get_or counts k 0 == 0) order
  pub early : (j q : ℕ) → q < length order → HasStep arcs j (get_or order q 0) → Contains (take q order) j
  pub near : done ≤ length order

pub IsPassing-start : (n : ℕ) (arcs : List Arc) (counts order : List ℕ) → length counts ≡ n → ((k : ℕ) → k < n → get_or counts k 0 ≡ entering arcs k)
    → order ≡ filter (λ k. get_or counts k 0 == 0) (range_with_len 0 (length counts)) → IsPassing n arcs counts order 0
IsPassing-start n arcs counts order whole each is = record { whole = whole; each = λ k t. each k t ∙ sym (waiting-none arcs k); listing = listing; early = early; near = omega arith }
  where
    listing : IsListing n (λ k. get_or counts k 0 == 0) order
    listing = subst (IsListing n (λ k. get_or counts k 0 == 0))
        (sym (is ∙ ap (λ m. filter (λ k. get_or counts k 0 == 0) (range_with_len 0 m)) whole)) (IsListing-filter n (λ k. get_or counts k 0 == 0))

    early : (j q : ℕ) → q < length order → HasStep arcs j (get_or order q 0) → Contains (take q order) j
    early j q t step =
        let k = get_or order q 0 in
        let free = IsListing-passes n (λ m. get_or counts m 0 == 0) order listing k (Contains-get_or order q 0 t) in
        absurd (omega (arith, each k free.0, eqb-true _ 0 free.1, sum_by-contains (λ a. cond (a.after == k) 1 0) arcs (record { before = j; after = k }) step, cond-yes 1 (eq-eqb k k refl)))

-- the arcs of the next job are all counted
pub IsPassing-enough : (n : ℕ) (arcs : List Arc) (counts order : List ℕ) (done : ℕ) → IsPassing n arcs counts order done
    → done < length order → (k : ℕ) → k < n → entering (filter (λ a. a.before == get_or order done 0) arcs) k ≤ get_or counts k 0
IsPassing-enough n arcs counts order done h t k u =
    omega (arith, h.each k u, waiting-push arcs (take done order) (get_or order done 0) k (not_before_itself order done (IsListing-distinct n _ order h.listing) t))

pub IsPassing-next : (n : ℕ) (arcs : List Arc) (counts order new_counts new_order : List ℕ) (done : ℕ) → IsPassing n arcs counts order done → done < length order → length new_counts ≡ n
    → ((k : ℕ) → k < n → get_or new_counts k 0 + entering (filter (λ a. a.before == get_or order done 0) arcs) k ≡ get_or counts k 0)
    → IsListing n (λ k. get_or new_counts k 0 == 0) new_order → take (length order) new_order ≡ order
    → IsPassing n arcs new_counts new_order (done + 1)
IsPassing-next n arcs counts order new_counts new_order done h t whole counted listing kept = record { whole = whole; each = each; listing = listing; early = early; near = omega (arith, longer) }
  where
    job : ℕ
    job = get_or order done 0

    longer : length order ≤ length new_order
    longer = omega (arith, length-take (length order) new_order, ap length kept)

    same : (q : ℕ) → q ≤ length order → take q new_order ≡ take q order
    same q u = sym (ap (take q) (sym kept) ∙ take-take q (length order) new_order u)

    more : take (done + 1) new_order ≡ take done order ++ job ∷ []
    more = same (done + 1) (omega arith) ∙ take_more order done 0 t

    each : (k : ℕ) → k < n → get_or new_counts k 0 ≡ waiting arcs (take (done + 1) new_order) k
    each k u =
        omega (
          arith,
          counted k u,
          h.each k u,
          waiting-push arcs (take done order) job k (not_before_itself order done (IsListing-distinct n _ order h.listing) t),
          ap (λ l. waiting arcs l k) more,
        )

    early : (j q : ℕ) → q < length new_order → HasStep arcs j (get_or new_order q 0) → Contains (take q new_order) j
    early j q u step = elim (cases_lt q (length order)) [
      | inl before ↦
          let there : get_or new_order q 0 ≡ get_or order q 0 = sym (get_or-take (length order) new_order q 0 before) ∙ ap (λ l. get_or l q 0) kept in
          subst (λ l. Contains l j) (sym (same q (omega arith))) (h.early j q before (subst (HasStep arcs j) there step))
      | inr past ↦
          let k = get_or new_order q 0 in
          let free = IsListing-passes n (λ m. get_or new_counts m 0 == 0) new_order listing k (Contains-get_or new_order q 0 u) in
          Contains-take new_order (done + 1) q j (omega arith) (Contains-from_waiting arcs (take (done + 1) new_order) j k (sym (each k free.0) ∙ eqb-true _ 0 free.1) step)
    ]

pub IsLongestOrder-end : (n : ℕ) (arcs : List Arc) (counts order : List ℕ) (done : ℕ) → IsPassing n arcs counts order done → length order ≤ done → IsLongestOrder arcs n order
IsLongestOrder-end n arcs counts order done h past = record { inside = h.listing.inside; apart = IsListing-distinct n _ order h.listing; early = h.early; left = left }
  where
    left : (k : ℕ) → k < n → ¬ Contains order k → (j : ℕ) × HasStep arcs j k × (¬ Contains order j)
    left k t out = waiting-some arcs order k (elim (cases_Bool (get_or counts k 0 == 0)) [
      | inl free ↦ absurd (out (IsListing-contains n _ order h.listing k t free))
      | inr some ↦ let more : get_or counts k 0 ≢ 0 = eqb-false _ 0 some in omega (arith, h.each k t, ap (λ l. waiting arcs l k) (take_all done order past))
    ])

-- ---- the same, by what the loop reads and calls
module _ (n : ℕ) (arcs : List Arc) (counts order : List ℕ) (done job : ℕ) (leaving : List Arc) (h : IsPassing n arcs counts order done)
    (t : done < length order) (is : job ≡ get_or order done job) (arcs_of : leaving ≡ filter (λ a. a.before == job) arcs) where
  own : leaving ≡ filter (λ a. a.before == get_or order done 0) arcs
  own = arcs_of ∙ ap (λ j. filter (λ a. a.before == j) arcs) (is ∙ get_or_default order done job 0 t)

  pub IsPassing-ends : All (λ a. (a.before < n) × (a.after < n)) arcs → All (λ a. a.after < length counts) leaving
  IsPassing-ends ends k d u =
      let there = All-filter (λ a. a.before == job) (λ a. (a.before < n) × (a.after < n)) arcs ends in
      omega (arith, h.whole, (subst (All (λ a. (a.before < n) × (a.after < n))) (sym arcs_of) there k d u).1)

  pub IsPassing-covers : (k : ℕ) → k < length counts → entering leaving k ≤ get_or counts k 0
  IsPassing-covers k u = subst (λ l. entering l k ≤ get_or counts k 0) (sym own) (IsPassing-enough n arcs counts order done h t k (omega (arith, h.whole)))

  pub IsPassing-step : (new_counts new_order : List ℕ) → length new_counts ≡ length counts
      → ((k : ℕ) → k < length counts → get_or new_counts k 0 + entering leaving k ≡ get_or counts k 0)
      → IsListing (length counts) (λ k. get_or new_counts k 0 == 0) new_order → take (length order) new_order ≡ order
      → IsPassing n arcs new_counts new_order (done + 1)
  IsPassing-step new_counts new_order whole counted listing kept =
      IsPassing-next n arcs counts order new_counts new_order done h t (whole ∙ h.whole)
      (λ k u. subst (λ l. get_or new_counts k 0 + entering l k ≡ get_or counts k 0) own (counted k (omega (arith, h.whole))))
      (subst (λ m. IsListing m (λ k. get_or new_counts k 0 == 0) new_order) h.whole listing) kept

  pub IsPassing-smaller : n - (done + 1) < n - done
  IsPassing-smaller = omega (arith, IsListing-length n _ order h.listing)

pub IsPassing-begin : (n : ℕ) (arcs : List Arc) (first shown counts order : List ℕ) → length first ≡ n → ((k : ℕ) → k < n → get_or first k 0 ≡ entering arcs k)
    → shown ≡ first → counts ≡ first → order ≡ filter (λ k. get_or shown k 0 == 0) (range_with_len 0 (length shown)) → IsPassing n arcs counts order 0
IsPassing-begin n arcs first shown counts order whole each s c is =
    subst (λ l. IsPassing n arcs l order 0) (sym c) (IsPassing-start n arcs first order whole each (is ∙ ap (λ l. filter (λ k. get_or l k 0 == 0) (range_with_len 0 (length l))) s))
