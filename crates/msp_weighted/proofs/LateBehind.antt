-- Rows of jobs that end after their due dates.
use Rattle.std.proofs.Common.{◌≡◌, ◌≢◌, ℕ, ◌+◌, ◌≤◌, Bool, true, false, cond, List, [], ◌∷◌, ◌++◌, get_or, ℤ, pos, ◌<ℤ◌, All, AllPairs, sum_by, refl, ap, subst, arith}
use Rattle.std.specs.Prelude.{int_lt}
use Rattle.std.proofs.lemmas.Int.{ints}
use Rattle.std.proofs.lemmas.Bool.{eq-eqb, ne_eqb}
use Rattle.std.proofs.lemmas.List.Elements.{All-nil, All-cons, All-head, All-tail}
use Rattle.std.proofs.lemmas.List.Sums.{sum_by-cons}
use Rattle.msp_class.proofs.Sums.{AllPairs-head, AllPairs-tail, sum_by-mono}
use Rattle.msp_instance.specs.declared.Instance.{Instance}
use Rattle.msp_pieces.specs.BackToBack.{time_at}
use Rattle.msp_pieces.proofs.costs.LateJobs.{due_at}
use Rattle.msp_pieces.proofs.lists.Parts.{All-back}
use Rattle.msp_pieces.proofs.lists.BackToBack.{end_in}
use Rattle.msp_weighted.specs.Late.{EndLate}

-- what is nowhere greater, and together no less, is the same everywhere
pub same_each : (f g : ℕ → ℕ) (xs : List ℕ) → ((x : ℕ) → f x ≤ g x) → sum_by g xs ≤ sum_by f xs → All (λ x. f x ≡ g x) xs
same_each f g [] l s = All-nil (λ x. f x ≡ g x)
same_each f g (x ∷ xs) l s =
    All-cons (λ x. f x ≡ g x) x xs
    (omega (arith, l x, s, sum_by-cons f x xs, sum_by-cons g x xs, sum_by-mono f g xs (λ k d n. l (get_or xs k d))))
    (same_each f g xs l (omega (arith, l x, s, sum_by-cons f x xs, sum_by-cons g x xs)))

-- what costs the job's weight is late
pub costs_weight : (late : Bool) (w : ℕ) → 1 ≤ w → cond late w 0 ≡ w → late ≡ true
costs_weight true w some same = refl
costs_weight false w some same = absurd (omega (arith, some, same))

pub is_after : (a b : ℤ) → int_lt a b ≡ true → a <ℤ b
is_after a b h = omega (arith, ints)

-- a job that is not the first one ends as it does in the rest
rest_ends : (p : ℕ → ℕ) (t x : ℕ) (js : List ℕ) (j : ℕ) → x ≢ j → end_in p t (x ∷ js) j ≡ end_in p (t + p x) js j
rest_ends p t x js j other = ap (λ b. cond b (t + p x) (end_in p (t + p x) js j)) (ne_eqb x j other)

-- of all jobs back to back, or of those from a job on
module _ (i : Instance) where
  abbrev IsPast : ℕ → List ℕ → ℕ → Type 0
  IsPast t js j = due_at i j <ℤ pos (end_in (time_at i) t js j)

  EndLate-each : (t : ℕ) (js : List ℕ) → AllPairs (λ x y. x ≢ y) js → All (IsPast t js) js → EndLate i t js
  EndLate-each t [] u h = tt
  EndLate-each t (x ∷ js) u h = (
    subst (λ e. due_at i x <ℤ pos e) (ap (λ b. cond b (t + time_at i x) (end_in (time_at i) (t + time_at i x) js x)) (eq-eqb x x refl)) (All-head (IsPast t (x ∷ js)) x js h),
    EndLate-each (t + time_at i x) js (AllPairs-tail (λ x y. x ≢ y) x js u)
        (λ k d l. subst (λ e. due_at i (get_or js k d) <ℤ pos e)
        (rest_ends (time_at i) t x js (get_or js k d) (AllPairs-head (λ x y. x ≢ y) x js u k d l)) (All-tail (IsPast t (x ∷ js)) x js h k d l)),
  )

  pub EndLate-behind : (t : ℕ) (xs js : List ℕ) → AllPairs (λ x y. x ≢ y) (xs ++ js) → All (IsPast t (xs ++ js)) js → EndLate i (t + sum_by (time_at i) xs) js
  EndLate-behind t [] js u h = subst (λ n. EndLate i n js) (omega arith) (EndLate-each t js u h)
  EndLate-behind t (x ∷ xs) js u h =
      subst (λ n. EndLate i n js) (omega (arith, sum_by-cons (time_at i) x xs))
      (EndLate-behind (t + time_at i x) xs js (AllPairs-tail (λ x y. x ≢ y) x (xs ++ js) u)
      (λ k d l. subst (λ e. due_at i (get_or js k d) <ℤ pos e) (rest_ends (time_at i) t x (xs ++ js) (get_or js k d)
      (All-back (λ y. x ≢ y) xs js (AllPairs-head (λ x y. x ≢ y) x (xs ++ js) u) k d l)) (h k d l)))
