-- One machine, weighted completion times: with times and weights exchanged and the arcs turned, the order read from its end costs the same.
use Rattle.std.proofs.Common.{◌≡◌, ◌≢◌, ℕ, ◌+◌, ◌*◌, ◌<◌, ◌≤◌, List, [], ◌∷◌, ◌++◌, reverse, length, get_or, All, AllPairs, Contains, sum_by, pos, nat_abs, ◌≤ℤ◌, refl, sym, ap, ap₂, subst, ◌∙◌, arith}
use Rattle.std.proofs.lemmas.Int.{ints}
use Rattle.std.proofs.lemmas.List.Elements.{All-nil, All-cons, All-head, All-tail, All-append, All-contains}
use Rattle.std.proofs.lemmas.List.{reverse-append}
use Rattle.std.proofs.lemmas.List.Sorted.{IsPermutation-reverse}
use Rattle.msp_class.specs.declared.class.Crit.TheVariants.{SumWC}
use Rattle.msp_class.proofs.Sums.{sum_by-IsPermutation, AllPairs-head, AllPairs-tail, OnceBelow, OnceBelow-permutation}
use Rattle.msp_class.proofs.IntegerRing.{≤ℤ_trans, ≤ℤ_of_same}
use Rattle.msp_instance.specs.declared.Instance.{Instance}
use Rattle.msp_instance.specs.Instance.{job_at}
use Rattle.msp_pieces.specs.declared.Schedule.{Schedule}
use Rattle.msp_pieces.specs.Feasible.{Feasible}
use Rattle.msp_pieces.specs.Cost.{cost_of, end_of}
use Rattle.msp_pieces.specs.BackToBack.{weighted_ends, piece, time_at}
use Rattle.msp_pieces.proofs.lists.WeightedEnds.{weighted_ends-later, weighted_ends-append}
use Rattle.msp_pieces.proofs.lists.BackToBack.{last-weighted_ends_below}
use Rattle.msp_pieces.proofs.feasible.OneMachine.{weighted_cost}
use Rattle.msp_pieces.proofs.feasible.BackToBack.{piece_makes, back_to_back-timed}
use Rattle.msp_pieces.proofs.changes.Mirror.{turned}
use Rattle.msp_pieces.proofs.costs.Charges.{SameCharges-from_jobs}
use Rattle.msp_pieces.proofs.feasible.Series.{AllPairs-append, MayPrecede}
use Rattle.msp_pieces.specs.LineUp.{lined_up}
use Rattle.msp_pieces.proofs.changes.LineUp.{IsLine, Feasible-lined_up, positive, SameLine-refl, cost-lined_up, forward_by_ends, loose_by_ends}

-- ---- orders read from their ends
reverse-cons : {X : Type 0} (x : X) (xs : List X) → reverse (x ∷ xs) ≡ reverse xs ++ x ∷ []
reverse-cons x xs = reverse-append (x ∷ []) xs

All-reverse : {X : Type 0} (P : X → Type 0) (xs : List X) → All P xs → All P (reverse xs)
All-reverse P [] h = h
All-reverse P (x ∷ xs) h = subst (All P) (sym (reverse-cons x xs)) (All-append P (reverse xs) (x ∷ []) (All-reverse P xs (All-tail P x xs h)) (All-cons P x [] (All-head P x xs h) (All-nil P)))

pub AllPairs-reverse : {X : Type 0} (R : X → X → Type 0) (xs : List X) → AllPairs R xs → AllPairs (λ x y. R y x) (reverse xs)
AllPairs-reverse R [] h = λ i j d a b. absurd (omega arith)
AllPairs-reverse {X} R (x ∷ xs) h =
    subst (AllPairs (λ x y. R y x)) (sym (reverse-cons x xs))
    (AllPairs-append (λ x y. R y x) (reverse xs) (x ∷ []) (AllPairs-reverse R xs (AllPairs-tail R x xs h)) (λ i j d a b. absurd (omega arith))
    (λ k d l. All-cons (λ z. R z (get_or (reverse xs) k d)) x [] (All-reverse (R x) xs (AllPairs-head R x xs h) k d l) (All-nil (λ z. R z (get_or (reverse xs) k d)))))

-- the weighted sum of the ends is the same with times and weights exchanged, read from the end
pub weighted_ends-exchange : {X : Type 0} (p w : X → ℕ) (xs : List X) → weighted_ends p w 0 xs ≡ weighted_ends w p 0 (reverse xs)
weighted_ends-exchange p w [] = refl
weighted_ends-exchange p w (x ∷ xs) =
    let last = weighted_ends-append w p 0 (reverse xs) (x ∷ []) in
    let later = weighted_ends-later p w 0 (p x) xs in
    let same = sum_by-IsPermutation w xs (reverse xs) (IsPermutation-reverse xs) in
    joined (p x) (w x) (weighted_ends p w 0 xs) (weighted_ends p w (0 + p x) xs) (weighted_ends w p 0 (reverse xs))
    (sum_by w xs) (sum_by w (reverse xs)) (weighted_ends w p 0 (reverse xs ++ x ∷ [])) later (weighted_ends-exchange p w xs) same last
    ∙ ap (weighted_ends w p 0) (sym (reverse-cons x xs))
  where
    joined : (q v a b c s t d : ℕ) → b ≡ a + q * s → a ≡ c → t ≡ s → d ≡ c + (q * (0 + t + v) + 0) → v * (0 + q) + b ≡ d
    joined q v a b c s t d e f g h = omega (arith, e, f, h, ap (λ n. q * n) g)

-- times that are D times as long
weighted_ends-scale : {X : Type 0} (D : ℕ) (p w : X → ℕ) (t : ℕ) (xs : List X) → weighted_ends (λ x. D * p x) w (D * t) xs ≡ D * weighted_ends p w t xs
weighted_ends-scale D p w t [] = omega arith
weighted_ends-scale D p w t (x ∷ xs) = ap (λ u. w x * (D * t + D * p x) + weighted_ends (λ y. D * p y) w u xs) (let join : D * t + D * p x ≡ D * (t + p x) = omega arith in join)
    ∙ ap (λ n. w x * (D * t + D * p x) + n) (weighted_ends-scale D p w (t + p x) xs) ∙ omega arith

weighted_ends-agree : {X : Type 0} (p q v w : X → ℕ) (t : ℕ) (xs : List X) → All (λ k. p k ≡ q k) xs → All (λ k. v k ≡ w k) xs → weighted_ends p v t xs ≡ weighted_ends q w t xs
weighted_ends-agree p q v w t [] h k = refl
weighted_ends-agree p q v w t (x ∷ xs) h k =
    ap₂ (λ m n. m * (t + n) + weighted_ends p v (t + n) xs) (All-head (λ z. v z ≡ w z) x xs k) (All-head (λ z. p z ≡ q z) x xs h)
    ∙ ap (λ n. w x * (t + q x) + n) (weighted_ends-agree p q v w (t + q x) xs (All-tail (λ z. p z ≡ q z) x xs h) (All-tail (λ z. v z ≡ w z) x xs k))

-- ---- what the lined-up jobs cost
abbrev weight_at : Instance → ℕ → ℕ
weight_at i j = (job_at i j).weight

pub cost_of-lined_up : (i : Instance) → IsLine i → i.class.crit ≡ SumWC → (D : ℕ)
    → 1 ≤ D → (order : List ℕ) → OnceBelow (length i.jobs) order → cost_of i (lined_up i D order) ≡ pos (D * weighted_ends (time_at i) (weight_at i) 0 order)
cost_of-lined_up i line e D unit order o =
    weighted_cost i (lined_up i D order) e (back_to_back-timed (λ j. D * time_at i j) 0 order (λ k d l. positive i line D unit order o (get_or order k d) (o.within k d l)))
    ∙ ap pos (last-weighted_ends_below piece piece_makes (λ j. D * time_at i j) (weight_at i) (length i.jobs) 0 order o
    ∙ ap (λ t. weighted_ends (λ j. D * time_at i j) (weight_at i) t order) (let none : 0 ≡ D * 0 = omega arith in none) ∙ weighted_ends-scale D (time_at i) (weight_at i) 0 order)

-- ---- the exchanged instance
pub record Exchanges (i j : Instance) : Type 0 where
  pub count : length i.jobs ≡ length j.jobs
  pub times : (k : ℕ) → k < length i.jobs → time_at j k ≡ (job_at i k).weight
  pub weights : (k : ℕ) → k < length i.jobs → (job_at j k).weight ≡ time_at i k
  pub arcs : All (λ a. Contains i.arcs (turned a)) j.arcs

module _ (i j : Instance) (line : IsLine i) (other : IsLine j) (x : Exchanges i j)
    (s : Schedule) (f : Feasible i s) (order : List ℕ) (o : OnceBelow (length i.jobs) order) (rises : AllPairs (λ a b. end_of s a ≤ℤ end_of s b) order) where
  abbrev D : ℕ
  D = nat_abs s.unit

  abbrev back : List ℕ
  back = reverse order

  unit : 1 ≤ D
  unit = omega (arith, ints, f.unit)

  once_back : OnceBelow (length i.jobs) back
  once_back = OnceBelow-permutation o (IsPermutation-reverse order)

  once_there : OnceBelow (length j.jobs) back
  once_there = subst (λ n. OnceBelow n back) x.count once_back

  forward : AllPairs (MayPrecede j.arcs) back
  forward a b d h k arc c e g = AllPairs-reverse (MayPrecede i.arcs)
      order (forward_by_ends i line s f order o rises) a b d h k (turned arc) (All-contains (λ z. Contains i.arcs (turned z)) j.arcs arc x.arcs c) g e

  loose : All (λ a. a.before ≢ a.after) j.arcs
  loose k d l e = All-contains (λ a. a.before ≢ a.after) i.arcs (turned (get_or j.arcs k d)) (loose_by_ends i line s f order o rises) (x.arcs k d l) (sym e)

  pub Feasible-exchanged : ((k : ℕ) → k < length j.jobs → (job_at j k).release ≡ 0) → Feasible j (lined_up j D back)
  Feasible-exchanged heads = Feasible-lined_up j other D unit back once_there heads forward loose

  pub cost-exchanged : i.class.crit ≡ SumWC → j.class.crit ≡ SumWC → cost_of j (lined_up j D back) ≤ℤ cost_of i s
  cost-exchanged c e =
      ≤ℤ_trans (≤ℤ_of_same (cost_of-lined_up j other e D unit back once_there
      ∙ ap (λ n. pos (D * n)) (weighted_ends-agree (time_at j) (weight_at i) (weight_at j) (time_at i) 0 back (λ k d l. x.times (get_or back k d) (once_back.within k d l))
      (λ k d l. x.weights (get_or back k d) (once_back.within k d l)) ∙ sym (weighted_ends-exchange (time_at i) (weight_at i) order)) ∙ sym (cost_of-lined_up i line c D unit order o)))
      (cost-lined_up i i line line (SameLine-refl i) s f order o rises (SameCharges-from_jobs i i refl refl (λ k l. (refl, refl, refl))))
