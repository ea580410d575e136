-- Jobs put at their places in a list, from the last place to the first.
use Rattle.std.proofs.Common.{◌≡◌, ℕ, ◌+◌, ◌-◌, ◌<◌, ◌≤◌, inl, inr, List, length, get_or, take, set, swap, All, IsPermutation, sym, ap, ◌∙◌, subst, arith}
use Rattle.std.specs.List.{range_with_len}
use Rattle.std.proofs.Math.Seq.{take-set-lt}
use Rattle.std.proofs.lemmas.Bool.{cases_lt}
use Rattle.std.proofs.lemmas.List.{get_or-take, length-take, get_or-set_same, get_or-set_other, length-set}
use Rattle.std.proofs.lemmas.List.Edits.{swap_is, length-swap}
use Rattle.std.proofs.lemmas.List.Elements.{All-take}
use Rattle.std.proofs.lemmas.List.Sorted.{IsPermutation-swap}
use Rattle.msp_class.proofs.Sums.{OnceBelow-from_permutation, length-OnceBelow}

-- two places below n changed: the first n are reordered
take-swap : (n : ℕ) (xs : List ℕ) (a b : ℕ) → a < n → b < n → n ≤ length xs → IsPermutation (take n xs) (take n (swap xs a b))
take-swap n xs a b ha hb l =
    let short : length (take n xs) ≡ n = omega (arith, length-take n xs, l) in
    let ya = get_or-take n xs a 0 ha in
    let yb = get_or-take n xs b 0 hb in
    let here : swap xs a b ≡ set (set xs a (get_or xs b 0)) b (get_or xs a 0) = sym (swap_is xs a b 0 (omega (arith, ha, l)) (omega (arith, hb, l))) in
    let there : set (set (take n xs) a (get_or (take n xs) b 0)) b (get_or (take n xs) a 0) ≡ swap (take n xs) a b = swap_is (take n xs) a b 0 (omega (arith, ha, short)) (omega (arith, hb, short)) in
    IsPermutation-swap (take n xs) (take n (swap xs a b)) a b (omega (arith, ha, short)) (omega (arith, hb, short))
    (ap (take n) here ∙ take-set-lt n (set xs a (get_or xs b 0)) b (get_or xs a 0) hb ∙ ap (λ zs. set zs b (get_or xs a 0)) (take-set-lt n xs a (get_or xs b 0) ha)
    ∙ ap (λ y. set (set (take n xs) a y) b (get_or xs a 0)) (sym yb) ∙ ap (λ y. set (set (take n xs) a (get_or (take n xs) b 0)) b y) (sym ya) ∙ there)

-- at the second place stands what stood at the first, and past it nothing changes
swap-second : (xs : List ℕ) (a b : ℕ) → a < length xs → b < length xs → get_or (swap xs a b) b 0 ≡ get_or xs a 0
swap-second xs a b ha hb = ap (λ zs. get_or zs b 0) (sym (swap_is xs a b 0 ha hb)) ∙ get_or-set_same (set xs a (get_or xs b 0)) b (get_or xs a 0) 0 (omega (arith, hb, length-set xs a (get_or xs b 0)))

swap-past : (xs : List ℕ) (a b k : ℕ) → a ≤ b → b < k → b < length xs → get_or (swap xs a b) k 0 ≡ get_or xs k 0
swap-past xs a b k h l hb =
    ap (λ zs. get_or zs k 0) (sym (swap_is xs a b 0 (omega (arith, h, hb)) hb))
    ∙ get_or-set_other (set xs a (get_or xs b 0)) b k (get_or xs a 0) 0 (omega (arith, l))
    ∙ get_or-set_other xs a k (get_or xs b 0) 0 (omega (arith, h, l))

-- from a place on each job may go to its place, of itself and those before it
abbrev pub AreInTurn : (Goes : ℕ → List ℕ → ℕ → Type 0) → ℕ → List ℕ → Type 0
AreInTurn Goes left order = (k : ℕ) → left ≤ k → k < length order → Goes k (take (k + 1) order) (get_or order k 0)

-- one more, where the order of those before it does not matter
pub put_next : (Goes : ℕ → List ℕ → ℕ → Type 0) → ((k : ℕ) (xs ys : List ℕ) (j : ℕ) → IsPermutation xs ys → Goes k xs j → Goes k ys j)
    → (order new : List ℕ) (left place : ℕ) → 0 < left → left ≤ length order → place < left → new ≡ swap order place (left - 1)
    → Goes (left - 1) (take left order) (get_or (take left order) place 0) → AreInTurn Goes left order → AreInTurn Goes (left - 1) new
put_next Goes still order new left place some inside early e last so_far = subst (AreInTurn Goes (left - 1)) (sym e) next
  where
    now : Goes (left - 1) (take left order) (get_or order place 0)
    now = subst (Goes (left - 1) (take left order)) (get_or-take left order place 0 early) last

    next : AreInTurn Goes (left - 1) (swap order place (left - 1))
    next k from l =
        let within : k < length order = omega (arith, l, length-swap order place (left - 1)) in
        let moved = take-swap (k + 1) order place (left - 1) (omega (arith, early, from)) (omega (arith, from)) (omega (arith, within)) in
        elim (cases_lt (left - 1) k) [
          | inl past ↦
              subst (Goes k (take (k + 1) (swap order place (left - 1)))) (sym (swap-past order place (left - 1) k (omega (arith, early)) past (omega (arith, within, past))))
              (still k (take (k + 1) order) (take (k + 1) (swap order place (left - 1))) (get_or order k 0) moved (so_far k (omega (arith, past)) within))
          | inr here ↦
              let is : k ≡ left - 1 = omega (arith, here, from) in
              let count : left ≡ k + 1 = omega (arith, is, some) in
              subst (Goes k (take (k + 1) (swap order place (left - 1))))
              (sym (ap (λ n. get_or (swap order place (left - 1)) n 0) is ∙ swap-second order place (left - 1) (omega (arith, early, inside)) (omega (arith, some, inside))))
              (still k (take (k + 1) order) (take (k + 1) (swap order place (left - 1))) (get_or order place 0) moved
              (subst (λ n. Goes k (take n order) (get_or order place 0)) count (subst (λ n. Goes n (take left order) (get_or order place 0)) (sym is) now)))
        ]

-- ---- lists that are all jobs in some order
module _ (n : ℕ) (order : List ℕ) (all : IsPermutation (range_with_len 0 n) order) where
  pub length_is : length order ≡ n
  length_is = length-OnceBelow (OnceBelow-from_permutation all)

  pub take_within : (k : ℕ) → All (λ j. j < n) (take k order)
  take_within k = All-take (λ j. j < n) k order (OnceBelow-from_permutation all).within
