-- The needs of a drawn job are those of its environment.
use Rattle.std.proofs.Common.{◌≡◌, ◌≢◌, ℕ, zero, suc, ◌+◌, ◌-◌, ◌*◌, ◌%◌, ◌⊎◌, inl, inr, ◌<◌, ◌≤◌, List, [], ◌∷◌, ◌++◌, length, get_or, All, refl, sym, ap, subst, ◌∙◌, length-append, arith}
use Rattle.std.specs.Prelude.{EachIndex, Any, slice_index_or}
use Rattle.std.specs.List.{AllAdjacentBelow}
use Rattle.std.proofs.lemmas.List.{get_or_append_left, get_or_default}
use Rattle.std.proofs.Math.Seq.{get_or-append_seam}
use Rattle.std.proofs.lemmas.Bool.{cases_lt}
use Rattle.std.proofs.lemmas.Nat.{mod_below, mod-mul-add}
use Rattle.std.proofs.Math.Nat.{mod-eq_of_lt}
use Rattle.std.proofs.lemmas.List.Elements.{All-nil, All-cons, All-push}
use Rattle.std.proofs.lemmas.List.Quantifiers.{Any-push}
use Rattle.msp_class.specs.declared.class.Times.{Times}
use Rattle.msp_instance.specs.declared.Need.{Need}
use Rattle.msp_instance.specs.Instance.{no_need}
use Rattle.msp_gen.specs.Draws.{Drawn, draw, draw_one, draw_turns}
use Rattle.msp_gen.specs.Generated.{draw_need, draw_machine, draw_operation}
use Rattle.msp_gen.proofs.Turns.{turns_keep}
use Rattle.msp_gen.proofs.Numbers.{draw_below, IsSharedTime, IsTime, some_time}

pub all_one : {A : Type 0} (P : A → Type 0) (x : A) → P x → All P (x ∷ [])
all_one P x h = All-cons P x [] h (All-nil P)

pub any_before : {A : Type 0} (P : A → Type 0) (xs : List A) (x : A) → Any P xs → Any P (xs ++ x ∷ [])
any_before P xs x (k, y, l, e, h) = (k, y, omega (arith, l, length-append xs (x ∷ [])), get_or_append_left xs (x ∷ []) y k l ∙ e, h)

abbrev pub HasDrawnTimes : Times → ℕ → ℕ → List Need → Type 0
HasDrawnTimes times shared least needs = All (λ n. IsTime times shared least n.time) needs

-- ---- a need for each machine
module _ (times : Times) (shared least : ℕ) (rule : ℕ → ℕ → Drawn ℕ) (ok : (k s : ℕ) → IsTime times shared least (rule k s).value) (first : (s : ℕ) → 1 ≤ (rule 0 s).value) where
  pub record Keeps (k : ℕ) (needs : List Need) : Type 0 where
    pub count : length needs ≡ k
    pub places : EachIndex needs (λ j. (slice_index_or needs j no_need).machine ≡ j)
    pub times_met : HasDrawnTimes times shared least needs
    pub some : 1 ≤ k → Any (λ n. 1 ≤ n.time) needs

  keeps : (k : ℕ) (before : List Need) (s : ℕ) → Keeps k before → Keeps (suc k) (before ++ (draw_need k (rule k) s).value ∷ [])
  keeps k before s h = record {
    count = omega (arith, length-append before (new ∷ []), h.count);
    places = place;
    times_met = All-push (λ n. IsTime times shared least n.time) before new h.times_met (ok k s);
    some = λ _. any k refl;
  }
    where
      new : Need
      new = (draw_need k (rule k) s).value

      place : EachIndex (before ++ new ∷ []) (λ j. (slice_index_or (before ++ new ∷ []) j no_need).machine ≡ j)
      place j l = by (cases_lt j (length before))
        where
          by : (j < length before) ⊎ (length before ≤ j) → (get_or (before ++ new ∷ []) j no_need).machine ≡ j
          by (inl m) = ap (λ n. n.machine) (get_or_append_left before (new ∷ []) no_need j m) ∙ h.places j m
          by (inr m) = let last : j ≡ length before = omega (arith, l, m, length-append before (new ∷ [])) in
              ap (λ n. n.machine) (ap (λ x. get_or (before ++ new ∷ []) x no_need) last ∙ get_or-append_seam before new [] _) ∙ sym h.count ∙ sym last

      any : (n : ℕ) → n ≡ k → Any (λ n. 1 ≤ n.time) (before ++ new ∷ [])
      any zero e = Any-push (λ n. 1 ≤ n.time) before new (subst (λ x. 1 ≤ (rule x s).value) e (first s))
      any (suc n) e = any_before (λ n. 1 ≤ n.time) before new (h.some (omega (arith, e)))

  pub need_per_machine : (m s : ℕ) → Keeps m (draw_turns (λ machine _. draw_one (draw_need machine (rule machine))) m s).value
  need_per_machine m s =
      turns_keep Keeps (λ machine _. draw_one (draw_need machine (rule machine))) m s
      (record { count = refl; places = λ j l. absurd (omega (arith, l)); times_met = All-nil (λ n. IsTime times shared least n.time); some = λ l. absurd (omega (arith, l)) })
      (λ k before t l h. keeps k before t h)

-- ---- a route
other_machine : (x d m : ℕ) → x < m → d < m - 1 → x ≢ (x + 1 + d) % m
other_machine x d m l k = by (cases_lt (x + 1 + d) m)
  where
    by : (x + 1 + d < m) ⊎ (m ≤ x + 1 + d) → x ≢ (x + 1 + d) % m
    by (inl h) = λ e. let same = mod-eq_of_lt h in omega (arith, e, same)
    by (inr h) = λ e. let wrapped : (x + 1 + d) % m ≡ x + 1 + d - m = (ap (λ n. n % m) split ∙ mod-mul-add 1 m (x + 1 + d - m) (omega (arith, l, k, h))) in omega (arith, e, wrapped, h, k)
      where
        split : x + 1 + d ≡ 1 * m + (x + 1 + d - m)
        split = omega (arith, h)

module _ (m : ℕ) (two : 2 ≤ m) where
  machine_inside : (before : List Need) (s : ℕ) → (draw_machine m before s).value < m
  machine_inside [] s = draw_below m s (omega (arith, two))
  machine_inside (n ∷ ns) s = mod_below ((slice_index_or (n ∷ ns) (length ns) no_need).machine + 1 + (draw (m - 1) s).value) m (omega (arith, two))

  machine_differs : (before : List Need) (s k : ℕ) (d : Need) → All (λ n. n.machine < m) before → k + 1 ≡ length before → (get_or before k d).machine ≢ (draw_machine m before s).value
  machine_differs [] s k d h e = absurd (omega (arith, e))
  machine_differs (n ∷ ns) s k d h e =
      let last : k ≡ length ns = omega (arith, e) in
      let l : length ns < length (n ∷ ns) = omega arith in
      subst (λ x. x.machine ≢ (draw_machine m (n ∷ ns) s).value) (sym (ap (λ j. get_or (n ∷ ns) j d) last ∙ get_or_default (n ∷ ns) (length ns) d no_need l))
      (other_machine (get_or (n ∷ ns) (length ns) no_need).machine (draw (m - 1) s).value m (h (length ns) no_need l) (draw_below (m - 1) s (omega (arith, two))))

  module _ (times : Times) (shared : ℕ) (ok : IsSharedTime times shared) where
    pub record KeepsRoute (k : ℕ) (needs : List Need) : Type 0 where
      pub count : length needs ≡ k
      pub machines : All (λ n. n.machine < m) needs
      pub moves : AllAdjacentBelow (λ a b. a.machine ≢ b.machine) needs (length needs)
      pub times_met : HasDrawnTimes times shared 1 needs
      pub some : 1 ≤ k → Any (λ n. 1 ≤ n.time) needs

    keeps_route : (k : ℕ) (before : List Need) (s : ℕ) → KeepsRoute k before → KeepsRoute (suc k) (before ++ (draw_operation times shared m before s).value ∷ [])
    keeps_route k before s h = record {
      count = omega (arith, length-append before (new ∷ []), h.count);
      machines = All-push (λ n. n.machine < m) before new h.machines (machine_inside before s);
      moves = move;
      times_met = All-push (λ n. IsTime times shared 1 n.time) before new h.times_met time;
      some = λ _. Any-push (λ n. 1 ≤ n.time) before new time.least_met;
    }
      where
        new : Need
        new = (draw_operation times shared m before s).value

        time : IsTime times shared 1 new.time
        time = some_time times shared (draw_machine m before s).seed ok

        move : AllAdjacentBelow (λ a b. a.machine ≢ b.machine) (before ++ new ∷ []) (length (before ++ new ∷ []))
        move j d l = by (cases_lt (j + 1) (length before))
          where
            by : (j + 1 < length before) ⊎ (length before ≤ j + 1) → (get_or (before ++ new ∷ []) j d).machine ≢ (get_or (before ++ new ∷ []) (j + 1) d).machine
            by (inl k') = λ e. h.moves j d k'
                (ap (λ n. n.machine) (sym (get_or_append_left before (new ∷ []) d j (omega (arith, k')))) ∙ e ∙ ap (λ n. n.machine) (get_or_append_left before (new ∷ []) d (j + 1) k'))
            by (inr k') =
                let last : j + 1 ≡ length before = omega (arith, l, k', length-append before (new ∷ [])) in
                λ e. machine_differs before s j d h.machines last (ap (λ n. n.machine) (sym (get_or_append_left before (new ∷ []) d j (omega (arith, last))))
                ∙ e ∙ ap (λ n. n.machine) (ap (λ x. get_or (before ++ new ∷ []) x d) last ∙ get_or-append_seam before new [] d))

    pub route : (count s : ℕ) → KeepsRoute count (draw_turns (λ _ before. draw_one (draw_operation times shared m before)) count s).value
    route count s =
        turns_keep KeepsRoute (λ _ before. draw_one (draw_operation times shared m before)) count s
        (record {
          count = refl;
          machines = All-nil (λ n. n.machine < m);
          moves = λ j d l. absurd (omega (arith, l));
          times_met = All-nil (λ n. IsTime times shared 1 n.time);
          some = λ l. absurd (omega (arith, l));
        })
        (λ k before t l h. keeps_route k before t h)
