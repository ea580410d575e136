-- What Moore's rule accepts: nothing of it is late, and no other part of the list without a late element is larger. What is accepted and
-- what is dropped is all that was seen.
use Rattle.std.proofs.Common.{◌≡◌, ℕ, zero, suc, ◌+◌, ◌*◌, ◌-◌, ◌<◌, ◌≤◌, Bool, true, false, cond, ltb, leb, inl, inr, List, [], ◌∷◌, ◌++◌, length, filter, ℤ, pos, ◌≤ℤ◌, ◌<ℤ◌, All}
use Rattle.std.proofs.Common.{AllPairs, IsPermutation, sum_by, refl, sym, ap, subst, ◌∙◌, arith}
use Rattle.std.specs.List.{remove}
use Rattle.std.proofs.Math.Nat.{mul-le-mul_right}
use Rattle.std.proofs.lemmas.Bool.{leb-true, leb-false, ltb-true, ltb-false, cases_lt}
use Rattle.std.proofs.lemmas.Int.{ints}
use Rattle.std.proofs.lemmas.List.{append_assoc, append-nil, length-append}
use Rattle.std.proofs.lemmas.List.Edits.{remove-append_left, remove-append_right, length-remove}
use Rattle.std.proofs.lemmas.List.Elements.{All-head, All-tail, filter-append}
use Rattle.std.proofs.lemmas.List.Sums.{sum_by-cons, sum_by-append, sum_by-remove}
use Rattle.std.proofs.lemmas.List.Sorted.{IsPermutation-refl, IsPermutation-sym, IsPermutation-trans, IsPermutation-cons, IsPermutation-middle, IsPermutation-to_front}
use Rattle.std.proofs.lemmas.List.Sorted.{IsPermutation-append_left, IsPermutation-remove, All-permutation}
use Rattle.msp_class.proofs.IntegerRing.{≤ℤ_trans, pos-le}
use Rattle.msp_pieces.proofs.costs.LateJobs.{OnTime}
use Rattle.msp_pieces.proofs.lists.Parts.{All-front, All-back, AllPairs-front, AllPairs-last}
use Rattle.msp_single.specs.Moore.{IsLongest, IsChoice, none, kept, overrun}

-- the room that the elements leave below a length
abbrev pub slack : {X : Type 0} → (X → ℕ) → ℕ → List X → ℕ
slack time m xs = sum_by (λ x. m - time x) xs

-- no shorter, and its elements, as many of the least as there are of the others, take no longer
pub record IsNoWorse {X : Type 0} (time : X → ℕ) (ys xs : List X) : Type 0 where
  pub count : length ys ≤ length xs
  pub least : (m : ℕ) → length ys * m ≤ sum_by time ys + slack time m xs

module _ {X : Type 0} (time number : X → ℕ) (due : X → ℤ) where
  pub OnTime-append : (t : ℕ) (xs ys : List X) → OnTime time due t xs → OnTime time due (t + sum_by time xs) ys → OnTime time due t (xs ++ ys)
  OnTime-append t [] ys h k = subst (λ n. OnTime time due n ys) (omega arith) k
  OnTime-append t (x ∷ xs) ys h k = (h.0, OnTime-append (t + time x) xs ys h.1 (subst (λ n. OnTime time due n ys) (omega (arith, sum_by-cons time x xs)) k))

  pub OnTime-front : (t : ℕ) (xs ys : List X) → OnTime time due t (xs ++ ys) → OnTime time due t xs
  OnTime-front t [] ys h = tt
  OnTime-front t (x ∷ xs) ys h = (h.0, OnTime-front (t + time x) xs ys h.1)

  pub OnTime-back : (t : ℕ) (xs ys : List X) → OnTime time due t (xs ++ ys) → OnTime time due (t + sum_by time xs) ys
  OnTime-back t [] ys h = subst (λ n. OnTime time due n ys) (omega arith) h
  OnTime-back t (x ∷ xs) ys h = subst (λ n. OnTime time due n ys) (omega (arith, sum_by-cons time x xs)) (OnTime-back (t + time x) xs ys h.1)

  OnTime-earlier : (s t : ℕ) (xs : List X) → s ≤ t → OnTime time due t xs → OnTime time due s xs
  OnTime-earlier s t [] l h = tt
  OnTime-earlier s t (x ∷ xs) l h = (≤ℤ_trans (pos-le (omega (arith, l))) h.0, OnTime-earlier (s + time x) (t + time x) xs (omega (arith, l)) h.1)

  OnTime-remove : (t : ℕ) (xs : List X) (k : ℕ) → OnTime time due t xs → OnTime time due t (remove xs k)
  OnTime-remove t [] zero h = tt
  OnTime-remove t [] (suc k) h = tt
  OnTime-remove t (x ∷ xs) zero h = OnTime-earlier t (t + time x) xs (omega arith) h.1
  OnTime-remove t (x ∷ xs) (suc k) h = (h.0, OnTime-remove (t + time x) xs k h.1)

  -- the last one is on time, so all together take no longer than until the latest due date
  OnTime-total : (d : ℤ) (t : ℕ) (xs : List X) → OnTime time due t xs → All (λ x. due x ≤ℤ d) xs → 0 < length xs → pos (t + sum_by time xs) ≤ℤ d
  OnTime-total d t [] h a l = absurd (omega (arith, l))
  OnTime-total d t (x ∷ []) h a l = ≤ℤ_trans (pos-le (omega (arith, sum_by-cons time x []))) (≤ℤ_trans h.0 (All-head (λ y. due y ≤ℤ d) x [] a))
  OnTime-total d t (x ∷ y ∷ ys) h a l =
      ≤ℤ_trans (pos-le (omega (arith, sum_by-cons time x (y ∷ ys)))) (OnTime-total d (t + time x) (y ∷ ys) h.1 (All-tail (λ y. due y ≤ℤ d) x (y ∷ ys) a) (omega arith))

  -- ---- the longest is taken out
  module _ (all : List X) (place : ℕ) (longest : X) (h : IsLongest time number all place longest) where
    abbrev rest : List X
    rest = remove all place

    no_longer : All (λ x. time x ≤ time longest) all
    no_longer k d l = elim (h.all k d l) [ inl a ↦ omega (arith, a) | inr e ↦ omega (arith, e.0) ]

    moved : IsPermutation all (longest ∷ rest)
    moved = IsPermutation-remove all place longest h.within h.is

    rest_no_longer : All (λ x. time x ≤ time longest) rest
    rest_no_longer = All-tail (λ x. time x ≤ time longest) longest rest (All-permutation (λ x. time x ≤ time longest) all (longest ∷ rest) moved no_longer)

    without : (f : X → ℕ) → sum_by f rest + f longest ≡ sum_by f all
    without f = omega (arith, sum_by-remove f all place longest h.within, ap f h.is)

  -- with a length that none exceeds, room and times fill it up
  slack-all : (m : ℕ) (xs : List X) → All (λ x. time x ≤ m) xs → slack time m xs + sum_by time xs ≡ length xs * m
  slack-all m [] h = omega arith
  slack-all m (x ∷ xs) h =
      let l = All-head (λ y. time y ≤ m) x xs h in
      omega (arith, sum_by-cons (λ x. m - time x) x xs, sum_by-cons time x xs, slack-all m xs (All-tail (λ y. time y ≤ m) x xs h), l)

  -- the two steps, with names for the lists that they lead to
  pub keeps : (seen accepted dropped seen' accepted' : List X) (x : X) → seen' ≡ seen ++ x ∷ [] → accepted' ≡ accepted ++ x ∷ []
      → IsChoice time number due seen accepted dropped → pos (sum_by time accepted') ≤ℤ due x → IsChoice time number due seen' accepted' dropped
  keeps seen accepted dropped seen' accepted' x e f c l =
      subst (λ xs. IsChoice time number due xs accepted' dropped)
      (sym e) (subst (λ xs. IsChoice time number due (seen ++ x ∷ []) xs dropped) (sym f) (kept c (subst (λ xs. pos (sum_by time xs) ≤ℤ due x) f l)))

  pub drops : (seen accepted dropped seen' all accepted' dropped' : List X) (x longest : X) (place : ℕ)
      → seen' ≡ seen ++ x ∷ [] → all ≡ accepted ++ x ∷ [] → accepted' ≡ remove all place → dropped' ≡ dropped ++ longest ∷ []
      → IsChoice time number due seen accepted dropped → due x <ℤ pos (sum_by time all) → IsLongest time number all place longest → IsChoice time number due seen' accepted' dropped'
  drops seen accepted dropped seen' all accepted' dropped' x longest place e f g k c l h =
      subst (λ xs. IsChoice time number due xs accepted' dropped') (sym e)
      (subst (λ xs. IsChoice time number due (seen ++ x ∷ []) xs dropped') (sym (g ∙ ap (λ xs. remove xs place) f))
      (subst (IsChoice time number due (seen ++ x ∷ []) (remove (accepted ++ x ∷ []) place)) (sym k)
      (overrun c (subst (λ xs. due x <ℤ pos (sum_by time xs)) f l) (subst (λ xs. IsLongest time number xs place longest) f h))))

  one_more : (seen accepted dropped : List X) (x : X) → IsPermutation seen (accepted ++ dropped) → IsPermutation (seen ++ x ∷ []) ((accepted ++ x ∷ []) ++ dropped)
  one_more seen accepted dropped x p =
      subst (IsPermutation (seen ++ x ∷ [])) (sym (append_assoc accepted (x ∷ []) dropped))
      (IsPermutation-trans _ _ _ (IsPermutation-to_front seen x)
      (IsPermutation-trans _ _ _ (IsPermutation-cons x seen (accepted ++ dropped) p) (IsPermutation-sym _ _ (IsPermutation-middle accepted x dropped))))

  -- all that was seen is accepted or dropped
  pub choice-permutation : {seen accepted dropped : List X} → IsChoice time number due seen accepted dropped → IsPermutation seen (accepted ++ dropped)
  choice-permutation none = IsPermutation-refl []
  choice-permutation (kept {seen} {accepted} {dropped} {x} c l) = one_more seen accepted dropped x (choice-permutation c)
  choice-permutation (overrun {seen} {accepted} {dropped} {x} {longest} {place} c l h) =
      let all = accepted ++ x ∷ [] in
      let rest = remove all place in
      IsPermutation-trans _ _ _ (one_more seen accepted dropped x (choice-permutation c))
      (IsPermutation-trans _ _ _ (IsPermutation-append_left dropped all (longest ∷ rest) (moved all place longest h))
      (subst (IsPermutation (longest ∷ (rest ++ dropped))) (append_assoc rest dropped (longest ∷ [])) (IsPermutation-sym _ _ (IsPermutation-to_front (rest ++ dropped) longest))))

  pub accepted_of : (P : X → Type 0) (seen accepted dropped : List X) → IsChoice time number due seen accepted dropped → All P seen → All P accepted
  accepted_of P seen accepted dropped c h = All-front P accepted dropped (All-permutation P seen (accepted ++ dropped) (choice-permutation c) h)

  -- ---- nothing accepted is late
  on_time-kept : (accepted : List X) (x : X) → OnTime time due 0 accepted → pos (sum_by time (accepted ++ x ∷ [])) ≤ℤ due x → OnTime time due 0 (accepted ++ x ∷ [])
  on_time-kept accepted x h l = OnTime-append 0 accepted (x ∷ []) h (≤ℤ_trans (pos-le (omega (arith, sum_by-append time accepted (x ∷ []), sum_by-cons time x []))) l, tt)

  on_time-overrun : (accepted : List X) (x longest : X) (place : ℕ) → OnTime time due 0 accepted
      → All (λ y. due y ≤ℤ due x) accepted → IsLongest time number (accepted ++ x ∷ []) place longest → OnTime time due 0 (remove (accepted ++ x ∷ []) place)
  on_time-overrun accepted x longest place h early l = by (ltb place (length accepted)) refl
    where
      all : List X
      all = accepted ++ x ∷ []

      by : (b : Bool) → ltb place (length accepted) ≡ b → OnTime time due 0 (remove all place)
      by true e =
          let inside : place < length accepted = ltb-true place (length accepted) e in
          let is : remove all place ≡ remove accepted place ++ x ∷ [] = remove-append_left accepted (x ∷ []) place inside in
          let last : time x ≤ time longest = All-head (λ y. time y ≤ time longest) x [] (All-back (λ y. time y ≤ time longest) accepted (x ∷ []) (no_longer all place longest l)) in
          let less : 0 + sum_by time (remove accepted place) + time x ≤ 0 + sum_by time accepted = omega
          (arith, without all place longest l time, ap (sum_by time) is, sum_by-append time (remove accepted place) (x ∷ []), sum_by-append time accepted (x ∷ []), sum_by-cons time x [], last) in
          subst (OnTime time due 0) (sym is)
          (OnTime-append 0 (remove accepted place) (x ∷ []) (OnTime-remove 0 accepted place h) (≤ℤ_trans (pos-le less) (OnTime-total (due x) 0 accepted h early (omega (arith, inside))), tt))
      by false e =
          let past : length accepted ≤ place = ltb-false place (length accepted) e in
          let here : place ≡ length accepted = omega (arith, past, l.within, length-append accepted (x ∷ [])) in
          let none_left : place - length accepted ≡ 0 = omega (arith, here) in
          let is : remove all place ≡ accepted = remove-append_right accepted (x ∷ []) (length accepted) place refl past ∙ ap (λ n. accepted ++ remove (x ∷ []) n) none_left ∙ append-nil accepted in
          subst (OnTime time due 0) (sym is) h

  abbrev pub ByDate : List X → Type 0
  ByDate = AllPairs (λ x y. due x ≤ℤ due y)

  pub choice-on_time : {seen accepted dropped : List X} → IsChoice time number due seen accepted dropped → ByDate seen → OnTime time due 0 accepted
  choice-on_time none s = tt
  choice-on_time (kept {seen} {accepted} {dropped} {x} c l) s = on_time-kept accepted x (choice-on_time c (AllPairs-front (λ x y. due x ≤ℤ due y) seen (x ∷ []) s)) l
  choice-on_time (overrun {seen} {accepted} {dropped} {x} {longest} {place} c l h) s =
      on_time-overrun accepted x longest place (choice-on_time c (AllPairs-front (λ x y. due x ≤ℤ due y) seen (x ∷ []) s))
      (accepted_of (λ y. due y ≤ℤ due x) seen accepted dropped c (AllPairs-last (λ x y. due x ≤ℤ due y) seen x s)) h

  -- ---- no part without a late element is larger
  more : (xs : List X) (x : X) → (m : ℕ) → slack time m (xs ++ x ∷ []) ≡ slack time m xs + (m - time x)
  more xs x m = omega (arith, sum_by-append (λ x. m - time x) xs (x ∷ []), sum_by-cons (λ x. m - time x) x [])

  no_worse-skip : (ys xs : List X) (x : X) → IsNoWorse time ys xs → IsNoWorse time ys (xs ++ x ∷ [])
  no_worse-skip ys xs x h = record {
    count = omega (arith, h.count, length-append xs (x ∷ []));
    least = λ m. omega (arith, h.least m, more xs x m);
  }

  no_worse-take : (ys xs : List X) (x : X) → IsNoWorse time ys xs → IsNoWorse time (ys ++ x ∷ []) (xs ++ x ∷ [])
  no_worse-take ys xs x h = record {
    count = omega (arith, h.count, length-append xs (x ∷ []), length-append ys (x ∷ []));
    least = λ m.
        let size = ap (λ n. n * m) (length-append ys (x ∷ [])) in
        let sum = sum_by-append time ys (x ∷ []) in
        omega (arith, h.least m, size, sum, sum_by-cons time x [], more xs x m);
  }

  -- the longest is taken out of a list that takes longer than the part
  no_worse-without : (ys all : List X) (place : ℕ) (longest : X) → IsLongest time number all place longest → length ys < length all → IsNoWorse time ys all → IsNoWorse time ys (remove all place)
  no_worse-without ys all place longest l fewer h = record { count = count; least = λ m. by m (leb m (time longest)) refl }
    where
      rest : List X
      rest = remove all place

      count : length ys ≤ length rest
      count = omega (arith, fewer, length-remove all place l.within)

      -- at the longest, what is taken out leaves no room
      at_longest : length ys * time longest + sum_by time rest ≤ sum_by time ys + length rest * time longest
      at_longest = omega (arith, h.least (time longest), without all place longest l (λ x. time longest - time x), slack-all (time longest) rest (rest_no_longer all place longest l))

      by : (m : ℕ) (b : Bool) → leb m (time longest) ≡ b → length ys * m ≤ sum_by time ys + slack time m rest
      by m true e = let short = leb-true m (time longest) e in omega (arith, h.least m, without all place longest l (λ x. m - time x), short)
      by m false e =
          let long = leb-false m (time longest) e in
          let full = slack-all m rest (λ k d n. omega (arith, rest_no_longer all place longest l k d n, long)) in
          grown (length ys) (length rest) (sum_by time ys) (sum_by time rest) (slack time m rest) (time longest) m count at_longest full long
        where
          grown : (b r s t k p m : ℕ) → b ≤ r → b * p + t ≤ s + r * p → k + t ≡ r * m → p < m → b * m ≤ s + k
          grown b r s t k p m l h f g =
              let q = m - p in
              let is : m ≡ p + q = omega (arith, g) in
              omega (arith, h, f, ap (λ n. b * n) is, ap (λ n. r * n) is, mul-le-mul_right q l)

  -- a part that takes less time than the whole is not all of it
  fewer_than : (ys all : List X) (place : ℕ) (longest : X) → IsLongest time number all place longest → sum_by time ys < sum_by time all → IsNoWorse time ys all → length ys < length all
  fewer_than ys all place longest l less h =
      by (length ys) (length all) (time longest) (sum_by time ys)
      (sum_by time all) (slack time (time longest) all) h.count (h.least (time longest)) (slack-all (time longest) all (no_longer all place longest l)) less
    where
      by : (b r p s t k : ℕ) → b ≤ r → b * p ≤ s + k → k + t ≡ r * p → s < t → b < r
      by b r p s t k l h f g = elim (cases_lt b r) [ inl a ↦ a | inr a ↦ let e : b ≡ r = omega (arith, a, l) in absurd (omega (arith, h, f, g, ap (λ n. n * p) e)) ]

  module _ (passes : X → Bool) where
    front : (seen : List X) (x : X) → OnTime time due 0 (filter passes (seen ++ x ∷ [])) → OnTime time due 0 (filter passes seen)
    front seen x h = OnTime-front 0 (filter passes seen) (filter passes (x ∷ [])) (subst (OnTime time due 0) (filter-append passes seen (x ∷ [])) h)

    step-kept : (ys on : List X) (x : X) → (b : Bool) → IsNoWorse time ys on → IsNoWorse time (ys ++ cond b (x ∷ []) []) (on ++ x ∷ [])
    step-kept ys on x true h = no_worse-take ys on x h
    step-kept ys on x false h = subst (λ zs. IsNoWorse time zs (on ++ x ∷ [])) (sym (append-nil ys)) (no_worse-skip ys on x h)

    step-overrun : (ys on : List X) (x longest : X) (place : ℕ) → (b : Bool) → due x <ℤ pos (sum_by time (on ++ x ∷ [])) → IsLongest time number (on ++ x ∷ []) place longest
        → OnTime time due 0 (ys ++ cond b (x ∷ []) []) → IsNoWorse time ys on → IsNoWorse time (ys ++ cond b (x ∷ []) []) (remove (on ++ x ∷ []) place)
    step-overrun ys on x longest place true over l fits h =
        let last : pos (0 + sum_by time ys + time x) ≤ℤ due x = (OnTime-back 0 ys (x ∷ []) fits).0 in
        let sum : sum_by time (ys ++ x ∷ []) ≡ 0 + sum_by time ys + time x = omega (arith, sum_by-append time ys (x ∷ []), sum_by-cons time x []) in
        let taken = no_worse-take ys on x h in
        no_worse-without (ys ++ x ∷ []) (on ++ x ∷ []) place longest l
        (fewer_than (ys ++ x ∷ []) (on ++ x ∷ []) place longest l (omega (arith, ints, sum, last, over)) taken) taken
    step-overrun ys on x longest place false over l fits h =
        subst (λ zs. IsNoWorse time zs (remove (on ++ x ∷ []) place)) (sym (append-nil ys))
        (no_worse-without ys (on ++ x ∷ []) place longest l (omega (arith, h.count, length-append on (x ∷ []))) (no_worse-skip ys on x h))

    choice-no_worse : {seen accepted dropped : List X} → IsChoice time number due seen accepted dropped → OnTime time due 0 (filter passes seen) → IsNoWorse time (filter passes seen) accepted
    choice-no_worse none h = record { count = omega arith; least = λ m. omega arith }
    choice-no_worse (kept {seen} {accepted} {dropped} {x} c l) h =
        subst (λ zs. IsNoWorse time zs (accepted ++ x ∷ [])) (sym (filter-append passes seen (x ∷ [])))
        (step-kept (filter passes seen) accepted x (passes x) (choice-no_worse c (front seen x h)))
    choice-no_worse (overrun {seen} {accepted} {dropped} {x} {longest} {place} c l k) h =
        subst (λ zs. IsNoWorse time zs (remove (accepted ++ x ∷ []) place)) (sym (filter-append passes seen (x ∷ [])))
        (step-overrun (filter passes seen) accepted x longest place (passes x) l k (subst (OnTime time due 0) (filter-append passes seen (x ∷ [])) h) (choice-no_worse c (front seen x h)))

    -- no part without a late element has more elements than are accepted
    pub choice-most : {seen accepted dropped : List X} → IsChoice time number due seen accepted dropped → OnTime time due 0 (filter passes seen) → length (filter passes seen) ≤ length accepted
    choice-most c h = (choice-no_worse c h).count
