-- Lists that are filled item after item: numbers and prices of columns, and prices of rows.
use Rattle.std.proofs.Common.{◌≡◌, ℕ, ◌+◌, ◌<◌, ◌≤◌, inl, inr, ℤ, pos, neg_ℤ, ◌-ℤ◌, to_z, of_z, List}
use Rattle.std.proofs.Common.{[], ◌∷◌, ◌++◌, length, get_or, set, replicate, sym, ap, subst, ◌∙◌, arith, below_more}
use Rattle.std.specs.Int.{w128}
use Rattle.std.proofs.lemmas.Int.{ints}
use Rattle.std.proofs.lemmas.List.{get_or-set_same, get_or-set_other, length-set, length_push, get_or_push, get_or_append_left}
use Rattle.std.proofs.lemmas.List.{length-replicate, get_or-replicate}
use Rattle.msp_assign.specs.Passing.{at}
use Rattle.msp_class.proofs.Cases.{same_or_not}
use Rattle.msp_assign.specs.declared.column.Column.{Column}
use Rattle.msp_assign.specs.Prices.{price_at, greatest_fall, AreFalls}
use Rattle.msp_assign.specs.Search.{greatest_charge}
use Rattle.msp_assign.specs.View.{number_at, IsPriceBelow}

-- one more item
pub each_push : {X : Type 0} (P : ℕ → X → Type 0) (xs ys : List X) (x d : X) (n : ℕ) → ys ≡ xs ++ x ∷ [] → length xs ≡ n
    → ((k : ℕ) → k < n → P k (get_or xs k d)) → P n x → (length ys ≡ n + 1) × ((k : ℕ) → k < n + 1 → P k (get_or ys k d))
each_push P xs ys x d n e s h l = subst (λ zs. (length zs ≡ n + 1) × ((k : ℕ) → k < n + 1 → P k (get_or zs k d))) (sym e) (
  omega (arith, length_push xs x, s),
  below_more (λ k. P k (get_or (xs ++ x ∷ []) k d)) n
      (λ k b. subst (P k) (sym (get_or_append_left xs (x ∷ []) d k (omega (arith, b, s)))) (h k b))
      (subst (P n) (sym (get_or_push xs x d n s)) l),
)

-- the price of one more column in view
pub IsPriceBelow-next : (long : ℕ) (columns : List Column) (falls : List ℕ) (k : ℕ) (prices : List ℤ) (number : ℕ) (price : ℤ) (c : ℕ)
    → number < length prices → number ≡ number_at long columns k → price ≡ neg_ℤ (pos (at falls k))
    → IsPriceBelow long columns falls k c (price_at prices c) → IsPriceBelow long columns falls (k + 1) c (price_at (set prices number price) c)
IsPriceBelow-next long columns falls k prices number price c l e p h = elim (same_or_not c number) [
  | inl s ↦ inl (k, omega arith, sym e ∙ sym s, ap (price_at (set prices number price)) s ∙ get_or-set_same prices number price (pos 0) l ∙ p)
  | inr n ↦
      let same = get_or-set_other prices number c price (pos 0) n in
      elim h [
        | inl w ↦ inl (w.0, omega (arith, w.1), w.2, same ∙ w.3)
        | inr w ↦ inr (below_more (λ j. number_at long columns j ≡ c → ⊥) k w.0 (λ x. n (sym x ∙ sym e)), same ∙ w.1)
      ]
]

-- how the code has it
pub below_zero : (fall : ℕ) → fall ≤ greatest_charge → to_z w128 (of_z w128 (pos 0 -ℤ to_z w128 fall)) ≡ neg_ℤ (pos fall)
below_zero fall l = omega (arith, ints)

pub IsPriceBelow-start : (count long : ℕ) (columns : List Column) (falls : List ℕ) (prices : List ℤ) (c : ℕ)
    → prices ≡ replicate count (pos 0) → c < count → IsPriceBelow long columns falls 0 c (price_at prices c)
IsPriceBelow-start count long columns falls prices c e l =
    inr (λ k b. absurd (omega (arith, b)), ap (λ xs. price_at xs c) e ∙ get_or-replicate count c (pos 0) (pos 0) l)

-- prices of columns before they are written, and one more that is
pub AreFalls-start : (n : ℕ) (falls : List ℕ) → falls ≡ replicate n 0 → AreFalls n falls
AreFalls-start n falls e = record {
  size = ap length e ∙ length-replicate n 0;
  low = λ c l. subst (λ y. y ≤ greatest_fall) (sym (ap (λ xs. at xs c) e ∙ get_or-replicate n c 0 0 l)) (omega arith);
}

pub AreFalls-set : (n k x : ℕ) (falls : List ℕ) → AreFalls n falls → k < n → x ≤ greatest_fall → AreFalls n (set falls k x)
AreFalls-set n k x falls h l b = record {
  size = length-set falls k x ∙ h.size;
  low = λ c m. elim (same_or_not c k) [
    | inl s ↦ subst (λ y. y ≤ greatest_fall) (sym (ap (at (set falls k x)) s ∙ get_or-set_same falls k x 0 (omega (arith, l, h.size)))) b
    | inr d ↦ subst (λ y. y ≤ greatest_fall) (sym (get_or-set_other falls k c x 0 d)) (h.low c m)
  ];
}
