-- Jobs by how many have greater labels.
use Rattle.std.proofs.Common.{◌≡◌, ℕ, ◌+◌, ◌-◌, ◌<◌, ◌≤◌, ◌⊎◌, inl, inr, List, [], ◌∷◌, ◌++◌, length, get_or, slice_index, AllPairs, IsPermutation, sym, ap, ◌∙◌, arith}
use Rattle.std.specs.List.{range_with_len}
use Rattle.std.proofs.lemmas.Bool.{cases_lt}
use Rattle.std.proofs.lemmas.List.{length_push, get_or_append_left, get_or_push}
use Rattle.msp_lexical.specs.Steps.{AreRanks}
use Rattle.msp_class.proofs.Sums.{OnceBelow-from_permutation}

pub AreRanks-next : (count : ℕ) (labels ranks new : List ℕ) (job rank : ℕ)
    → new ≡ ranks ++ rank ∷ [] → rank ≡ count - 1 - slice_index labels job → AreRanks count labels ranks job → AreRanks count labels new (job + 1)
AreRanks-next count labels ranks new job rank e is h = record {
  len = ap length e ∙ length_push ranks rank ∙ ap (λ n. n + 1) h.len;
  each = λ j l. ap (λ xs. slice_index xs j) e ∙ by j (cases_lt j job) l;
}
  where
    by : (j : ℕ) → (j < job) ⊎ (job ≤ j) → j < job + 1 → slice_index (ranks ++ rank ∷ []) j ≡ count - 1 - slice_index labels j
    by j (inl less) l = get_or_append_left ranks (rank ∷ []) 0 j (omega (arith, less, h.len)) ∙ h.each j less
    by j (inr more) l =
        let same : j ≡ job = omega (arith, more, l) in
        get_or_push ranks rank 0 j (h.len ∙ sym same) ∙ is ∙ ap (λ k. count - 1 - slice_index labels k) (sym same)

-- rising ranks are falling labels
pub falling_labels : (count : ℕ) (labels shown ranks order : List ℕ)
    → shown ≡ ranks → AreRanks count labels ranks count → ((j : ℕ) → j < count → slice_index labels j < count) → IsPermutation (range_with_len 0 count) order
    → AllPairs (λ a b. (get_or shown a 0 < get_or shown b 0) ⊎ ((get_or shown a 0 ≡ get_or shown b 0) × (a ≤ b))) order → AllPairs (λ a b. slice_index labels b ≤ slice_index labels a) order
falling_labels count labels shown ranks order e h small all sorted p q d l b =
    by (get_or order p d) (get_or order q d) ((OnceBelow-from_permutation all).within p d (omega (arith, l, b))) ((OnceBelow-from_permutation all).within q d b) (sorted p q d l b)
  where
    by : (x y : ℕ) → x < count → y < count → (get_or shown x 0 < get_or shown y 0) ⊎ ((get_or shown x 0 ≡ get_or shown y 0) × (x ≤ y)) → slice_index labels y ≤ slice_index labels x
    by x y c d less =
        let rank_x = ap (λ xs. get_or xs x 0) e ∙ h.each x c in
        let rank_y = ap (λ xs. get_or xs y 0) e ∙ h.each y d in
        omega (arith, less, rank_x, rank_y, small x c, small y d)
