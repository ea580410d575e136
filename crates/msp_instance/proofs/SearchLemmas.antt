-- Lemmas on paths, and on the search for the jobs to which paths lead.
use Rattle.std.proofs.Common.{◌≡◌, ◌≢◌, ℕ, ◌+◌, ◌-◌, ◌<◌, ◌≤◌, Bool, true, false, cond, ◌==◌, List, [], ◌∷◌, ◌++◌, length, get_or, take, set, filter, replicate, All, Any, Contains}
use Rattle.std.proofs.Common.{◌⊎◌, inl, inr, IsTrue, ◌↔◌, refl, sym, ap, ◌∙◌, subst, arith}
use Rattle.std.specs.List.Sorted.{IsPermutation}
use Rattle.std.proofs.lemmas.Bool.{cases_Bool, cases_lt, eqb-true, eq-eqb, cases_eq}
use Rattle.std.proofs.lemmas.List.{take_all, take_more, take-append-le, get_or_default, get_or-set_other, length-set, length-replicate}
use Rattle.std.proofs.lemmas.List.Elements.{All-nil, All-push, All-filter, All-weaker, All-contains, Contains-get_or, Contains-push, Contains-append_left}
use Rattle.std.proofs.lemmas.List.Sorted.{Contains-permutation}
use Rattle.std.proofs.lemmas.Grind.{get_or-set_at, common_steps}
use Rattle.msp_class.proofs.Sums.{Contains-filter, Contains-from_filter}
use Rattle.msp_instance.specs.declared.Arc.{Arc}
use Rattle.msp_instance.specs.Paths.{HasStep, HasPath, one, more}
use Rattle.msp_instance.specs.Listing.{IsListing, IsMet}
use Rattle.msp_instance.proofs.ListingLemmas.{Contains-take, Contains-kept, get_or-kept, length-kept, IsListing-same, IsListing-push, IsListing-length, IsListing-contains, IsListing-passes}

-- ---- paths
pub HasPath-permutation : (xs ys : List Arc) → IsPermutation xs ys → {j k : ℕ} → HasPath xs j k → HasPath ys j k
HasPath-permutation xs ys p (one s) = one (Contains-permutation xs ys _ p s)
HasPath-permutation xs ys p (more s h) = more (Contains-permutation xs ys _ p s) (HasPath-permutation xs ys p h)

-- a path goes on by an arc
pub HasPath-push : (arcs : List Arc) {j k l : ℕ} → HasPath arcs j k → HasStep arcs k l → HasPath arcs j l
HasPath-push arcs (one s) t = more s (one t)
HasPath-push arcs (more s h) t = more s (HasPath-push arcs h t)

-- where each arc from the first job, and from a job of the list, leads into the list, so does each path
pub HasPath-closed : (arcs : List Arc) (xs : List ℕ) → ((j k : ℕ) → Contains xs j → HasStep arcs j k → Contains xs k)
    → {j l : ℕ} → ((k : ℕ) → HasStep arcs j k → Contains xs k) → HasPath arcs j l → Contains xs l
HasPath-closed arcs xs closed first (one s) = first _ s
HasPath-closed arcs xs closed first (more s h) = HasPath-closed arcs xs closed (λ k t. closed _ k (first _ s) t) h

-- ---- the arcs of one job, followed one after the other
pub record IsMeeting (n : ℕ) (passed : List Arc) (found : List ℕ) (now_seen : List Bool) (now_found : List ℕ) : Type 0 where
  pub whole : length now_seen ≡ n
  pub listing : IsListing n (λ k. get_or now_seen k false) now_found
  pub kept : take (length found) now_found ≡ found
  pub met : All (λ a. Contains now_found a.after) passed
  pub only : All (λ k. IsMet found passed k) now_found

pub IsMeeting-start : (n : ℕ) (seen : List Bool) (found : List ℕ) → length seen ≡ n → IsListing n (λ k. get_or seen k false) found → IsMeeting n [] found seen found
IsMeeting-start n seen found whole listing = record {
  whole = whole;
  listing = listing;
  kept = take_all (length found) found (omega arith);
  met = All-nil (λ a. Contains found a.after);
  only = λ k d t. inl (Contains-get_or found k d t);
}

pub IsMeeting-more : (n : ℕ) (leaving : List Arc) (i : ℕ) (d : Arc) (found : List ℕ) (now_seen : List Bool) (now_found : List ℕ) (new_seen : List Bool) (new_found : List ℕ)
    → i < length leaving → (get_or leaving i d).after < n
    → new_seen ≡ set now_seen (get_or leaving i d).after true
    → new_found ≡ cond (get_or now_seen (get_or leaving i d).after false) now_found (now_found ++ (get_or leaving i d).after ∷ [])
    → IsMeeting n (take i leaving) found now_seen now_found → IsMeeting n (take (i + 1) leaving) found new_seen new_found
IsMeeting-more n leaving i d found now_seen now_found new_seen new_found t inside is_set listed h = by (cases_Bool (get_or now_seen j false))
  where
    j : ℕ
    j = (get_or leaving i d).after

    whole : length new_seen ≡ n
    whole = ap length is_set ∙ length-set now_seen j true ∙ h.whole

    at_j : get_or new_seen j false ≡ true
    at_j = ap (λ l. get_or l j false) is_set ∙ get_or-set_at now_seen j j true false refl (let u : j < n = inside in omega (arith, h.whole))

    elsewhere : (k : ℕ) → k ≢ j → get_or new_seen k false ≡ get_or now_seen k false
    elsewhere k differs = ap (λ l. get_or l k false) is_set ∙ get_or-set_other now_seen j k true false differs

    wider : (k : ℕ) → IsMet found (take i leaving) k → IsMet found (take (i + 1) leaving) k
    wider k (inl c) = inl c
    wider k (inr a) = let c = Contains-take leaving i (i + 1) a.1 (omega arith) (a.0, a.2, a.3) in inr (c.0, a.1, c.1, c.2, a.4)

    here : IsMet found (take (i + 1) leaving) j
    here =
        let a = get_or leaving i d in
        let c = subst (λ l. Contains l a) (sym (take_more leaving i d t)) (Contains-push (take i leaving) a) in
        inr (c.0, a, c.1, c.2, refl)

    met_more : (xs : List ℕ) → All (λ a. Contains xs a.after) (take i leaving) → Contains xs j → All (λ a. Contains xs a.after) (take (i + 1) leaving)
    met_more xs before there = subst (All (λ a. Contains xs a.after)) (sym (take_more leaving i d t)) (All-push (λ a. Contains xs a.after) (take i leaving) (get_or leaving i d) before there)

    by : (get_or now_seen j false ≡ true) ⊎ (get_or now_seen j false ≡ false) → IsMeeting n (take (i + 1) leaving) found new_seen new_found
    by (inl old) =
        let list : new_found ≡ now_found = listed ∙ ap (λ b. cond b now_found (now_found ++ j ∷ [])) old in
        subst (IsMeeting n (take (i + 1) leaving) found new_seen) (sym list) (record {
          whole = whole;
          listing = IsListing-same n (λ k. get_or now_seen k false) (λ k. get_or new_seen k false) now_found (λ k u. elim (cases_eq k j) [
            | inl e ↦ subst (λ m. get_or new_seen m false ≡ get_or now_seen m false) (sym e) (at_j ∙ sym old)
            | inr ne ↦ elsewhere k ne
          ]) h.listing;
          kept = h.kept;
          met = met_more now_found h.met (IsListing-contains n (λ k. get_or now_seen k false) now_found h.listing j inside old);
          only = All-weaker (IsMet found (take i leaving)) (IsMet found (take (i + 1) leaving)) wider now_found h.only;
        })
    by (inr fresh) =
        let list : new_found ≡ now_found ++ j ∷ [] = listed ∙ ap (λ b. cond b now_found (now_found ++ j ∷ [])) fresh in
        subst (IsMeeting n (take (i + 1) leaving) found new_seen) (sym list) (record {
          whole = whole;
          listing = IsListing-push n (λ k. get_or now_seen k false) (λ k. get_or new_seen k false) now_found j inside fresh at_j (λ k u. elsewhere k) h.listing;
          kept = take-append-le (length found) now_found (j ∷ []) (length-kept found now_found h.kept) ∙ h.kept;
          met = met_more (now_found ++ j ∷ [])
              (All-weaker (λ a. Contains now_found a.after) (λ a. Contains (now_found ++ j ∷ []) a.after) (λ a c. Contains-append_left now_found (j ∷ []) a.after c) (take i leaving) h.met)
              (Contains-push now_found j);
          only = All-push (IsMet found (take (i + 1) leaving)) now_found j (All-weaker (IsMet found (take i leaving)) (IsMet found (take (i + 1) leaving)) wider now_found h.only) here;
        })

-- ---- the whole search
pub record IsSearch (n : ℕ) (arcs : List Arc) (start : ℕ) (seen : List Bool) (found : List ℕ) (done : ℕ) : Type 0 where
  pub whole : length seen ≡ n
  pub listing : IsListing n (λ k. get_or seen k false) found
  pub reached : All (HasPath arcs start) found
  pub first : (k : ℕ) → HasStep arcs start k → Contains found k
  pub closed : (p k : ℕ) → p < done → HasStep arcs (get_or found p 0) k → Contains found k
  pub near : done ≤ length found

-- an arc of the filter is one of the list
step_of : (arcs : List Arc) (job k : ℕ) → Any (λ a. a.after ≡ k) (filter (λ a. a.before == job) arcs) → HasStep arcs job k
step_of arcs job k h =
    let c = Contains-from_filter (λ a. a.before == job) arcs h.1 (h.0, h.2, h.3) in
    subst (λ m. HasStep arcs m k) (eqb-true _ _ c.1) (subst (λ m. HasStep arcs h.1.before m) h.4 c.0)

followed : (arcs : List Arc) (job k : ℕ) (found : List ℕ) → All (λ a. Contains found a.after) (filter (λ a. a.before == job) arcs) → HasStep arcs job k → Contains found k
followed arcs job k found met s =
    All-contains (λ a. Contains found a.after) (filter (λ a. a.before == job) arcs) (record { before = job; after = k }) met
    (Contains-filter (λ a. a.before == job) arcs (record { before = job; after = k }) s (eq-eqb job job refl))

pub IsSearch-start : (n : ℕ) (arcs : List Arc) (start : ℕ) (seen : List Bool) (found : List ℕ) → length seen ≡ n → IsListing n (λ k. get_or seen k false) found
    → All (λ a. Contains found a.after) (filter (λ a. a.before == start) arcs) → All (λ k. IsMet [] (filter (λ a. a.before == start) arcs) k) found → IsSearch n arcs start seen found 0
IsSearch-start n arcs start seen found whole listing met only = record {
  whole = whole;
  listing = listing;
  reached = All-weaker (IsMet [] (filter (λ a. a.before == start) arcs)) (HasPath arcs start) reach found only;
  first = λ k s. followed arcs start k found met s;
  closed = λ p k t. absurd (omega arith);
  near = omega arith;
}
  where
    reach : (k : ℕ) → IsMet [] (filter (λ a. a.before == start) arcs) k → HasPath arcs start k
    reach k (inl c) = absurd (omega (arith, c.1))
    reach k (inr a) = one (step_of arcs start k a)

pub IsSearch-next : (n : ℕ) (arcs : List Arc) (start : ℕ) (seen : List Bool) (found : List ℕ) (done : ℕ) (new_seen : List Bool) (new_found : List ℕ)
    → IsSearch n arcs start seen found done → done < length found → length new_seen ≡ n
    → IsListing n (λ k. get_or new_seen k false) new_found → take (length found) new_found ≡ found
    → All (λ a. Contains new_found a.after) (filter (λ a. a.before == get_or found done 0) arcs) → All (λ k. IsMet found (filter (λ a. a.before == get_or found done 0) arcs) k) new_found
    → IsSearch n arcs start new_seen new_found (done + 1)
IsSearch-next n arcs start seen found done new_seen new_found h t whole listing kept met only = record {
  whole = whole;
  listing = listing;
  reached = All-weaker (IsMet found (filter (λ a. a.before == job) arcs)) (HasPath arcs start) reach new_found only;
  first = λ k s. Contains-kept found new_found k kept (h.first k s);
  closed = closed;
  near = omega (arith, length-kept found new_found kept);
}
  where
    job : ℕ
    job = get_or found done 0

    reach : (k : ℕ) → IsMet found (filter (λ a. a.before == job) arcs) k → HasPath arcs start k
    reach k (inl c) = All-contains (HasPath arcs start) found k h.reached c
    reach k (inr a) = HasPath-push arcs (h.reached done 0 t) (step_of arcs job k a)

    closed : (p k : ℕ) → p < done + 1 → HasStep arcs (get_or new_found p 0) k → Contains new_found k
    closed p k u s =
        let s' = subst (λ m. HasStep arcs m k) (get_or-kept found new_found p 0 kept (omega arith)) s in
        elim (cases_lt p done) [
          | inl before ↦ Contains-kept found new_found k kept (h.closed p k before s')
          | inr past ↦ followed arcs job k new_found met (subst (λ m. HasStep arcs (get_or found m 0) k) (omega arith) s')
        ]

pub IsSearch-smaller : (n : ℕ) (arcs : List Arc) (start : ℕ) (seen : List Bool) (found : List ℕ) (done : ℕ) → IsSearch n arcs start seen found done → done < length found → n - (done + 1) < n - done
IsSearch-smaller n arcs start seen found done h t = omega (arith, IsListing-length n (λ k. get_or seen k false) found h.listing)

pub IsSearch-end : (n : ℕ) (arcs : List Arc) (start : ℕ) (seen : List Bool) (found : List ℕ) (done : ℕ) (k : ℕ)
    → IsSearch n arcs start seen found done → length found ≤ done → k < n → IsTrue (get_or seen k false) ↔ HasPath arcs start k
IsSearch-end n arcs start seen found done k h past inside = (there, back)
  where
    there : IsTrue (get_or seen k false) → HasPath arcs start k
    there e = All-contains (HasPath arcs start) found k h.reached (IsListing-contains n (λ m. get_or seen m false) found h.listing k inside e)

    closed : (j m : ℕ) → Contains found j → HasStep arcs j m → Contains found m
    closed j m c s = h.closed c.0 m (omega (arith, c.1)) (subst (λ l. HasStep arcs l m) (sym (get_or_default found c.0 0 j c.1 ∙ c.2)) s)

    back : HasPath arcs start k → IsTrue (get_or seen k false)
    back p = (IsListing-passes n (λ m. get_or seen m false) found h.listing k (HasPath-closed arcs found closed h.first p)).1

-- ---- the same, by what the code reads and calls
pub length-flags : (n : ℕ) (flags shown : List Bool) → shown ≡ flags → flags ≡ replicate n false → length shown ≡ n
length-flags n flags shown e is = ap length e ∙ ap length is ∙ length-replicate n false

pub IsListing-flags : (n : ℕ) (flags shown : List Bool) (none : List ℕ) → shown ≡ flags → flags ≡ replicate n false → none ≡ [] → IsListing (length shown) (λ k. get_or shown k false) none
IsListing-flags n flags shown none e is is_none = rw (e, is, is_none) (record { inside = All-nil (λ x. x < length (replicate n false)); each = λ k t. grind (arith, common_steps) })

pub ends_inside : (n : ℕ) (arcs leaving : List Arc) (job m : ℕ) → leaving ≡ filter (λ a. a.before == job) arcs → m ≡ n → All (λ a. (a.before < n) × (a.after < n)) arcs → All (λ a. a.after < m) leaving
ends_inside n arcs leaving job m own whole ends k d u =
    let there = All-filter (λ a. a.before == job) (λ a. (a.before < n) × (a.after < n)) arcs ends in
    omega (arith, whole, (subst (All (λ a. (a.before < n) × (a.after < n))) (sym own) there k d u).1)

pub IsSearch-begin : (n : ℕ) (arcs : List Arc) (start : ℕ) (leaving : List Arc) (old_seen seen : List Bool) (none found : List ℕ)
    → leaving ≡ filter (λ a. a.before == start) arcs → length old_seen ≡ n → length seen ≡ length old_seen → none ≡ []
    → IsListing (length old_seen) (λ k. get_or seen k false) found → All (λ a. Contains found a.after) leaving → All (IsMet none leaving) found → IsSearch n arcs start seen found 0
IsSearch-begin n arcs start leaving old_seen seen none found own whole same is_none listing met only =
    IsSearch-start n arcs start seen found (same ∙ whole) (subst (λ m. IsListing m (λ k. get_or seen k false) found) whole listing)
    (subst (All (λ a. Contains found a.after)) own met) (subst (λ l. All (IsMet [] l) found) own (subst (λ l. All (IsMet l leaving) found) is_none only))

pub IsSearch-step : (n : ℕ) (arcs : List Arc) (start : ℕ) (seen : List Bool) (found : List ℕ) (done job : ℕ) (leaving : List Arc) (new_seen : List Bool) (new_found : List ℕ)
    → IsSearch n arcs start seen found done → done < length found
    → job ≡ get_or found done job → leaving ≡ filter (λ a. a.before == job) arcs → length new_seen ≡ length seen
    → IsListing (length seen) (λ k. get_or new_seen k false) new_found → take (length found) new_found ≡ found → All (λ a. Contains new_found a.after) leaving → All (IsMet found leaving) new_found
    → IsSearch n arcs start new_seen new_found (done + 1)
IsSearch-step n arcs start seen found done job leaving new_seen new_found h t is arcs_of same listing kept met only =
    IsSearch-next n arcs start seen found done new_seen new_found h t (same ∙ h.whole) (subst (λ m. IsListing m (λ k. get_or new_seen k false) new_found) h.whole listing) kept
    (subst (All (λ a. Contains new_found a.after)) own met) (subst (λ l. All (IsMet found l) new_found) own only)
  where
    own : leaving ≡ filter (λ a. a.before == get_or found done 0) arcs
    own = arcs_of ∙ ap (λ j. filter (λ a. a.before == j) arcs) (is ∙ get_or_default found done job 0 t)
