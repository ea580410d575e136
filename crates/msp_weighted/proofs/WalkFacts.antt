-- The way back through the flags, from the last job to the first.
use Rattle.std.proofs.Common.{◌≡◌, ℕ, ◌+◌, ◌-◌, ◌<◌, ◌≤◌, Bool, true, false, List, [], ◌∷◌, ◌++◌, length, get_or, take, drop, reverse, pos, ◌≤ℤ◌, sum_by, refl, sym, ap, subst}
use Rattle.std.proofs.Common.{subst₂, ◌∙◌, arith}
use Rattle.std.proofs.lemmas.List.{take_all, reverse-append, drop_all, drop_more}
use Rattle.std.proofs.lemmas.List.Sums.{sum_by-cons}
use Rattle.msp_instance.specs.declared.Instance.{Instance}
use Rattle.msp_pieces.specs.BackToBack.{time_at}
use Rattle.msp_pieces.proofs.costs.LateJobs.{due_at}
use Rattle.msp_weighted.specs.Late.{EndInTime}
use Rattle.msp_weighted.specs.Values.{weight_at, value_with, values_of, is_taken, IsSplit, empty, first, second}
use Rattle.msp_weighted.proofs.ValueFacts.{gains-yes, gains-no, values-more}

-- of the jobs from the place on those are chosen that take the time from the moment t on, and the others are left
pub record IsWalk (i : Instance) (order : List ℕ) (value place t : ℕ) (chosen left : List ℕ) : Type 0 where
  pub inside : place ≤ length order
  pub split : IsSplit (drop place order) (reverse chosen) (reverse left)
  pub in_time : EndInTime i t (reverse chosen)
  pub weight : value ≡ values_of i (take place order) t + sum_by (weight_at i) (reverse chosen)
  pub some : 0 < values_of i (take place order) t

module _ (i : Instance) (order : List ℕ) where
  pub walk-start : (t : ℕ) (chosen left : List ℕ) → 0 < values_of i order t → chosen ≡ [] → left ≡ [] → IsWalk i order (values_of i order t) (length order) t chosen left
  walk-start t chosen left some ec el =
      let all : take (length order) order ≡ order = take_all (length order) order (omega arith) in
      subst₂ (IsWalk i order (values_of i order t) (length order) t) (sym ec) (sym el) (record {
        inside = omega arith;
        split = subst (λ xs. IsSplit xs [] []) (sym (drop_all (length order) order (omega arith))) empty;
        in_time = tt;
        weight = omega (arith, ap (λ xs. values_of i xs t) all);
        some = subst (λ xs. 0 < values_of i xs t) (sym all) some;
      })

  module _ (value k t : ℕ) (chosen left : List ℕ) (l : k < length order) (h : IsWalk i order value (k + 1) t chosen left) where
    abbrev x : ℕ
    x = get_or order k 0

    abbrev before : ℕ → ℕ
    before = values_of i (take k order)

    rest : drop k order ≡ x ∷ drop (k + 1) order
    rest = drop_more order k 0 l

    front : (xs : List ℕ) → reverse (xs ++ x ∷ []) ≡ x ∷ reverse xs
    front xs = reverse-append xs (x ∷ [])

    now : values_of i (take (k + 1) order) t ≡ value_with (time_at i x) (weight_at i x) (due_at i x) before t
    now = values-more i order k t l

    walk-take : (chosen' left' : List ℕ) (t' : ℕ) → is_taken i order k t ≡ true → chosen' ≡ chosen ++ x ∷ [] → left' ≡ left → t' ≡ t - time_at i x → IsWalk i order value k t' chosen' left'
    walk-take chosen' left' t' e ec el et =
        let g = gains-yes (time_at i x) (weight_at i x) (due_at i x) before t e in
        let back : t - time_at i x + time_at i x ≡ t = omega (arith, g.0) in
        subst (λ n. IsWalk i order value k n chosen' left') (sym et)
        (subst₂ (IsWalk i order value k (t - time_at i x)) (sym ec) (sym el) (record {
          inside = omega (arith, l);
          split = subst₂ (λ xs ys. IsSplit xs ys (reverse left)) (sym rest) (sym (front chosen)) (first x h.split);
          in_time = subst (EndInTime i (t - time_at i x)) (sym (front chosen)) (subst (λ n. (pos n ≤ℤ due_at i x) × EndInTime i n (reverse chosen)) (sym back) (g.1, h.in_time));
          weight = omega (arith, h.weight, now, g.3, ap (sum_by (weight_at i)) (front chosen), sum_by-cons (weight_at i) x (reverse chosen));
          some = g.2;
        }))

    walk-leave : (chosen' left' : List ℕ) (t' : ℕ) → is_taken i order k t ≡ false → chosen' ≡ chosen → left' ≡ left ++ x ∷ [] → t' ≡ t → IsWalk i order value k t' chosen' left'
    walk-leave chosen' left' t' e ec el et =
        let same = gains-no (time_at i x) (weight_at i x) (due_at i x) before t e in
        subst (λ n. IsWalk i order value k n chosen' left') (sym et)
        (subst₂ (IsWalk i order value k t) (sym ec) (sym el) (record {
          inside = omega (arith, l);
          split = subst₂ (λ xs ys. IsSplit xs (reverse chosen) ys) (sym rest) (sym (front left)) (second x h.split);
          in_time = h.in_time;
          weight = omega (arith, h.weight, now, same);
          some = subst (λ n. 0 < n) (now ∙ same) h.some;
        }))

  -- one job back, as the code does it
  pub walk-next : (value place t : ℕ) (chosen left : List ℕ) → 0 < place → IsWalk i order value place t chosen left → (job time : ℕ) (b : Bool) (chosen' left' : List ℕ) (t' : ℕ)
      → job ≡ get_or order (place - 1) 0 → time ≡ time_at i job → b ≡ is_taken i order (place - 1) t
      → (b ≡ true → (chosen' ≡ chosen ++ job ∷ []) × (left' ≡ left) × (t' ≡ t - time))
      → (b ≡ false → (chosen' ≡ chosen) × (left' ≡ left ++ job ∷ []) × (t' ≡ t))
      → IsWalk i order value (place - 1) t' chosen' left' × (t' ≤ t)
  walk-next value place t chosen left some h job time b chosen' left' t' ej et eb taken kept = by b refl
    where
      last : place - 1 < length order
      last = omega (arith, h.inside, some)

      before : IsWalk i order value (place - 1 + 1) t chosen left
      before = let is : place ≡ place - 1 + 1 = omega (arith, some) in subst (λ n. IsWalk i order value n t chosen left) is h

      by : (c : Bool) → b ≡ c → IsWalk i order value (place - 1) t' chosen' left' × (t' ≤ t)
      by true e =
          let r = taken e in (
            walk-take value (place - 1) t chosen left last before chosen' left' t' (sym eb ∙ e) (r.0 ∙ ap (λ x. chosen ++ x ∷ []) ej) r.1 (r.2 ∙ ap (λ n. t - n) (et ∙ ap (time_at i) ej)),
            omega (arith, r.2),
          )
      by false e =
          let r = kept e in
          (walk-leave value (place - 1) t chosen left last before chosen' left' t' (sym eb ∙ e) r.0 (r.1 ∙ ap (λ x. left ++ x ∷ []) ej) r.2, omega (arith, r.2))

  pub walk_time : (value place t : ℕ) (chosen left : List ℕ) → 0 < place → IsWalk i order value place t chosen left
      → (job time : ℕ) (b : Bool) → job ≡ get_or order (place - 1) 0 → time ≡ time_at i job → b ≡ is_taken i order (place - 1) t → b ≡ true → time ≤ t
  walk_time value place t chosen left some h job time b ej et eb e =
      let x = get_or order (place - 1) 0 in
      let fits = (gains-yes (time_at i x) (weight_at i x) (due_at i x) (values_of i (take (place - 1) order)) t (sym eb ∙ e)).0 in
      omega (arith, et, ap (time_at i) ej, fits)
