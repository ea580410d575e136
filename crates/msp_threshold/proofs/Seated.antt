-- Jobs in the slots of the earliest schedule: in order of their release dates at first, then as they change places, and the bound that they
-- meet.
use Rattle.std.proofs.Common.{◌≡◌, ℕ, ◌+◌, ◌<◌, ◌≤◌, ◌⊎◌, inl, inr, List, ◌++◌, length, take, drop, get_or, map, All, AllPairs, IsPermutation, ℤ, pos, ◌+ℤ◌}
use Rattle.std.proofs.Common.{◌≤ℤ◌, sym, ap, subst, ◌∙◌, arith}
use Rattle.std.specs.List.{range_with_len, SwappedAt}
use Rattle.std.specs.List.Sorted.{IsNonDecreasing}
use Rattle.std.proofs.Math.Seq.{take-append_seam}
use Rattle.std.proofs.lemmas.Bool.{cases_lt}
use Rattle.std.proofs.lemmas.List.{length-map, get_or-map, ext_get_or}
use Rattle.std.proofs.lemmas.List.FromFn.{get_or-map-range_with_len, length-map-range_with_len}
use Rattle.std.proofs.lemmas.List.Sorted.{IsPermutation-map, IsPermutation-trans}
use Rattle.msp_class.proofs.Sums.{OnceBelow, OnceBelow-from_permutation, OnceBelow-contains, OnceBelow-distinct, length-OnceBelow}
use Rattle.msp_class.proofs.Cases.{same_or_not}
use Rattle.msp_instance.specs.declared.Job.{Job}
use Rattle.msp_instance.specs.declared.Instance.{Instance}
use Rattle.msp_instance.specs.Instance.{no_job}
use Rattle.msp_pieces.proofs.bounds.Certified.{place_in}
use Rattle.msp_slots.specs.declared.earliest.Slot.{Slot}
use Rattle.msp_slots.specs.Earliest.{start_in, AreSlots}
use Rattle.msp_threshold.specs.Squeezed.{CanMeet}
use Rattle.msp_threshold.specs.Search.{job_in, IsReleased, AreReleased, AreInSlots}
use Rattle.msp_threshold.proofs.Facts.{IsLatenessShop, IsAt, IsAt-from}
use Rattle.msp_threshold.proofs.Meeting.{meets_seats}
use Rattle.msp_route.proofs.KeyedJobs.{rises_or_stays}

-- what a vector holds after its slice was written
pub whole_slice : {X : Type 0} (n k : ℕ) (xs ys : List X) → length xs ≡ n → take n (xs ++ drop k ys) ≡ xs
whole_slice n k xs ys e = subst (λ m. take m (xs ++ drop k ys) ≡ xs) e (take-append_seam xs (drop k ys))

-- a list read place by place
places_read : (xs : List ℕ) → map (λ j. get_or xs j 0) (range_with_len 0 (length xs)) ≡ xs
places_read xs =
    let same : length (map (λ j. get_or xs j 0) (range_with_len 0 (length xs))) ≡ length xs = length-map-range_with_len (λ j. get_or xs j 0) 0 (length xs) in
    ext_get_or 0 (map (λ j. get_or xs j 0) (range_with_len 0 (length xs))) xs same (λ i l. get_or-map-range_with_len (λ j. get_or xs j 0) 0 (length xs) i i 0 (omega (arith, l, same)) (omega arith))

-- ---- by release date
module _ (i : Instance) (releases order heads : List ℕ) (r : releases ≡ map (λ j. j.release) i.jobs)
    (p : IsPermutation (range_with_len 0 (length releases)) order) (h : heads ≡ map (λ j. get_or releases j 0) order) where
  many : length releases ≡ length i.jobs
  many = ap length r ∙ length-map i.jobs (λ j. j.release)

  order_inside : All (λ j. j < length releases) order
  order_inside = (OnceBelow-from_permutation p).within

  pub heads_sorted : IsPermutation (map (λ j. j.release) i.jobs) heads
  heads_sorted = subst (IsPermutation (map (λ j. j.release) i.jobs)) (sym h)
      (subst (λ x. IsPermutation x (map (λ j. get_or releases j 0) order)) (places_read releases ∙ r) (IsPermutation-map (λ j. get_or releases j 0) (range_with_len 0 (length releases)) order p))

  head_is : (k : ℕ) → k < length order → (d : ℕ) → get_or heads k d ≡ get_or releases (get_or order k 0) 0
  head_is k l d = ap (λ x. get_or x k d) h ∙ get_or-map (λ j. get_or releases j 0) order k 0 d l

  heads_many : length heads ≡ length order
  heads_many = ap length h ∙ length-map order (λ j. get_or releases j 0)

  pub heads_rising : AllPairs (λ a b. (get_or releases a 0 < get_or releases b 0) ⊎ ((get_or releases a 0 ≡ get_or releases b 0) × (a ≤ b))) order → IsNonDecreasing heads
  heads_rising up a b d le l = elim (cases_lt a b) [
    | inl less ↦
        let lb : b < length order = omega (arith, l, heads_many) in
        omega (arith, head_is a (omega (arith, less, lb)) d, head_is b lb d, rises_or_stays (λ j. get_or releases j 0) order up a b 0 less lb)
    | inr more ↦ let e : a ≡ b = omega (arith, le, more) in omega (arith, ap (λ x. get_or heads x d) e)
  ]

  pub in_slots : (slots : List Slot) → AreSlots i.machines heads slots → AreInSlots i slots order
  in_slots slots f = record {
    heads = heads;
    filled = f;
    count = f.count ∙ heads_many ∙ length-OnceBelow (OnceBelow-from_permutation p) ∙ many;
    all = subst (λ n. IsPermutation (range_with_len 0 n) order) many p;
    released = λ k l.
        let inside : get_or order k 0 < length i.jobs = omega (arith, order_inside k 0 l, many) in
        let release : (job_in i.jobs order k).release ≡ get_or heads k 0 =
        sym (get_or-map (λ j. j.release) i.jobs (get_or order k 0) no_job 0 inside) ∙ sym (ap (λ x. get_or x (get_or order k 0) 0) r) ∙ sym (head_is k l 0) in
        omega (arith, release, f.seated.released k (omega (arith, l, heads_many)));
  }

module _ (i : Instance) (slots : List Slot) (order next : List ℕ) (h : AreInSlots i slots order) (p : IsPermutation order next) where
  once_each : OnceBelow (length i.jobs) next
  once_each = OnceBelow-from_permutation (IsPermutation-trans (range_with_len 0 (length i.jobs)) order next h.all p)

  pub seated_inside : All (λ j. j < length i.jobs) next
  seated_inside = once_each.within

  pub seated_count : length next ≡ length slots
  seated_count = length-OnceBelow once_each ∙ sym h.count

-- ---- two jobs change places
pub released-swapped : (jobs : List Job) (slots : List Slot) (order next : List ℕ) (a b : ℕ)
    → ((j k : ℕ) → j ≤ k → k < length slots → start_in slots j ≤ start_in slots k) → length order ≡ length slots → AreReleased jobs slots order
    → a ≤ b → b < length order → IsReleased jobs order (start_in slots a) b → length next ≡ length order → SwappedAt order next a b → AreReleased jobs slots next
released-swapped jobs slots order next a b rises count h le l first same s k lk = elim (same_or_not k a) [
  | inl e ↦ subst (λ x. (job_in jobs next x).release ≤ start_in slots x) (sym e)
      (omega (arith, ap (λ x. (get_or jobs x no_job).release) (s.0 0), first))
  | inr x ↦ elim (same_or_not k b) [
    | inl e ↦ subst (λ x. (job_in jobs next x).release ≤ start_in slots x) (sym e)
        (omega (arith, ap (λ x. (get_or jobs x no_job).release) (s.1 0), h a (omega (arith, le, l)), rises a b le (omega (arith, l, count))))
    | inr y ↦ omega (arith, ap (λ z. (get_or jobs z no_job).release) (s.2 k 0 x y), h k (omega (arith, lk, same)))
  ]
]

-- ---- the bound that they meet
pub met_in_slots : (i : Instance) (t : IsLatenessShop i) (slots : List Slot) (order next : List ℕ) (bound : ℤ) → AreInSlots i slots order → IsPermutation order next → AreReleased i.jobs slots next
    → ((k : ℕ) → k < length next → pos (start_in slots k + 1) ≤ℤ ((job_in i.jobs next k).due +ℤ bound)) → CanMeet i bound
met_in_slots i t slots order next bound h p released late =
    meets_seats i t h.heads slots h.filled (sym h.filled.count ∙ h.count) bound (place_in next) (λ j l. omega (arith, (seated j l).inside, size))
    (λ j k l m e. sym (seated j l).is ∙ ap (λ x. get_or next x 0) e ∙ (seated k m).is)
    (λ j l. subst (λ x. (get_or i.jobs x no_job).release ≤ start_in slots (place_in next j)) (seated j l).is (released (place_in next j) (seated j l).inside))
    (λ j l. subst (λ x. pos (start_in slots (place_in next j) + 1) ≤ℤ ((get_or i.jobs x no_job).due +ℤ bound)) (seated j l).is (late (place_in next j) (seated j l).inside))
  where
    once : OnceBelow (length i.jobs) next
    once = once_each i slots order next h p

    size : length next ≡ length i.jobs
    size = length-OnceBelow once

    seated : (j : ℕ) → j < length i.jobs → IsAt next j
    seated j l = IsAt-from next j (OnceBelow-distinct once) (OnceBelow-contains once j l)
