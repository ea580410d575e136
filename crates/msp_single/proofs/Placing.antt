-- One more job put at its place, from the last place to the first.
use Rattle.std.proofs.Common.{◌≡◌, ℕ, ◌-◌, ◌<◌, ◌≤◌, List, length, get_or, take, swap, IsPermutation, sym, subst}
use Rattle.std.proofs.lemmas.List.Sorted.{IsPermutation-sym, All-permutation, Contains-permutation}
use Rattle.msp_class.proofs.Sums.{sum_by-IsPermutation}
use Rattle.msp_instance.specs.declared.Instance.{Instance}
use Rattle.msp_pieces.specs.BackToBack.{time_at}
use Rattle.msp_pieces.specs.Blocks.{total_time, HasNoSuccessor}
use Rattle.msp_pieces.proofs.lists.InTurn.{AreInTurn, put_next}
use Rattle.msp_route.specs.LastJob.{CostsLess}
use Rattle.msp_single.specs.Lawler.{GoesLast}

-- the order of the jobs before the last one does not matter
pub GoesLast-permutation : (i : Instance) (xs ys : List ℕ) (j : ℕ) → IsPermutation xs ys → GoesLast i xs j → GoesLast i ys j
GoesLast-permutation i xs ys j p h = record {
  free = still xs ys p j h.free;
  least = All-permutation (λ x. HasNoSuccessor i ys x → CostsLess i (total_time i ys) j x) xs ys p
      (λ k d l free. subst (λ m. CostsLess i m j (get_or xs k d)) (sym (sum_by-IsPermutation (time_at i) xs ys p)) (h.least k d l (still ys xs (IsPermutation-sym xs ys p) (get_or xs k d) free)));
}
  where
    still : (xs ys : List ℕ) → IsPermutation xs ys → (x : ℕ) → HasNoSuccessor i xs x → HasNoSuccessor i ys x
    still xs ys p x free k d l e c = free k d l e (Contains-permutation ys xs (get_or i.arcs k d).after (IsPermutation-sym xs ys p) c)

abbrev pub GoLastFrom : Instance → ℕ → List ℕ → Type 0
GoLastFrom i = AreInTurn (λ _. GoesLast i)

pub placed-next : (i : Instance) (order new : List ℕ) (left place : ℕ) → 0 < left → left ≤ length order → place < left → new ≡ swap order place (left - 1)
    → GoesLast i (take left order) (get_or (take left order) place 0) → GoLastFrom i left order → GoLastFrom i (left - 1) new
placed-next i = put_next (λ _. GoesLast i) (λ _. GoesLast-permutation i)
