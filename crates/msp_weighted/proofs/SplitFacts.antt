-- A list that is split in two that keep its order.
use Rattle.std.proofs.Common.{List, ◌++◌, ℕ, AllPairs, IsPermutation}
use Rattle.std.proofs.lemmas.List.Sorted.{IsPermutation-refl, IsPermutation-sym, IsPermutation-trans, IsPermutation-cons, IsPermutation-middle, All-permutation}
use Rattle.std.proofs.lemmas.List.Kept.{AllPairs-cons}
use Rattle.msp_class.proofs.Sums.{AllPairs-head, AllPairs-tail}
use Rattle.msp_pieces.proofs.lists.Parts.{All-front}
use Rattle.msp_weighted.specs.Values.{IsSplit, empty, first, second}

pub split-permutation : {xs ys zs : List ℕ} → IsSplit xs ys zs → IsPermutation xs (ys ++ zs)
split-permutation empty = IsPermutation-refl _
split-permutation (first x {xs} {ys} {zs} s) = IsPermutation-cons x xs (ys ++ zs) (split-permutation s)
split-permutation (second x {xs} {ys} {zs} s) = IsPermutation-trans _ _ _ (IsPermutation-cons x xs (ys ++ zs) (split-permutation s)) (IsPermutation-sym _ _ (IsPermutation-middle ys x zs))

pub split-pairs : (R : ℕ → ℕ → Type 0) {xs ys zs : List ℕ} → IsSplit xs ys zs → AllPairs R xs → AllPairs R ys
split-pairs R empty h = h
split-pairs R (first x {xs} {ys} {zs} s) h =
    AllPairs-cons R x ys (All-front (R x) ys zs (All-permutation (R x) xs (ys ++ zs) (split-permutation s) (AllPairs-head R x xs h))) (split-pairs R s (AllPairs-tail R x xs h))
split-pairs R (second x {xs} {ys} {zs} s) h = split-pairs R s (AllPairs-tail R x xs h)
