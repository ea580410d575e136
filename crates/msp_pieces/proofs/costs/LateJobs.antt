-- The number of late jobs as a cost, jobs back to back of which none is late, and the jobs that are on time in a feasible schedule on one machine.
use Rattle.std.proofs.Common.{◌≡◌, ◌≢◌, ℕ, ◌+◌, ◌*◌, ◌<◌, ◌≤◌, Bool, true, false, cond, not, List, [], ◌∷◌, ◌++◌, length, get_or, filter, ℤ, pos, ◌-ℤ◌, ◌*ℤ◌, ◌≤ℤ◌, All, AllPairs}
use Rattle.std.proofs.Common.{sum_by, if◌then◌else◌, refl, sym, ap, subst, ◌∙◌, arith}
use Rattle.std.specs.Prelude.{int_lt, ⊤}
use Rattle.std.proofs.lemmas.Int.{ints}
use Rattle.std.proofs.lemmas.Bool.{eq-eqb, ne_eqb, false_from_ne_true, not-true}
use Rattle.std.proofs.lemmas.List.{append_assoc}
use Rattle.std.proofs.lemmas.List.Elements.{All-nil, All-cons, All-head, All-append, All-filter, filter_passes}
use Rattle.std.proofs.lemmas.List.Kept.{AllPairs-filter}
use Rattle.std.proofs.lemmas.List.Sums.{sum_by-cons, sum_by-append}
use Rattle.msp_class.specs.declared.class.Crit.TheVariants.{SumU}
use Rattle.msp_class.specs.Crit.{is_greatest}
use Rattle.msp_class.proofs.IntegerRing.{pos-le, ≤ℤ_trans, ≤ℤ_of_same, *ℤ-mono_nonneg, *ℤ-cancel_pos, one-*ℤ}
use Rattle.msp_class.specs.Sums.{total_below}
use Rattle.msp_class.proofs.Sums.{total_below-scale, total_below-range, int_total_below-natural, sum_by-distinct_test, AllPairs-head, AllPairs-tail}
use Rattle.msp_instance.specs.declared.Instance.{Instance}
use Rattle.msp_instance.specs.Instance.{job_at}
use Rattle.msp_pieces.specs.declared.Schedule.{Schedule}
use Rattle.msp_pieces.specs.Feasible.{Feasible}
use Rattle.msp_pieces.specs.Cost.{job_cost, end_of, cost_of}
use Rattle.msp_pieces.specs.Laws.{time_together, HasRoom}
use Rattle.msp_pieces.proofs.costs.Charges.{charge_of, cost_of-sum}
use Rattle.msp_pieces.proofs.feasible.LastEnds.{last_end-natural}
use Rattle.msp_pieces.proofs.feasible.OneMachine.{IsOneMachine}
use Rattle.msp_pieces.specs.BackToBack.{time_at}
use Rattle.msp_pieces.proofs.lists.BackToBack.{end_in}
use Rattle.msp_pieces.proofs.bounds.EndsAndFloors.{law_of_ends}
use Rattle.msp_pieces.proofs.lists.Parts.{All-front, All-back, AllPairs-front, AllPairs-last}

abbrev pub due_at : Instance → ℕ → ℤ
due_at i j = (job_at i j).due

-- whether the job ends after its due date
abbrev pub is_late : Instance → Schedule → ℕ → Bool
is_late i s j = int_lt (s.unit *ℤ due_at i j) (end_of s j)

abbrev pub late_jobs : Instance → Schedule → ℕ
late_jobs i s = total_below (length i.jobs) (λ j. cond (is_late i s j) 1 0)

pub late_cost : (i : Instance) (s : Schedule) (d : ℕ) → i.class.crit ≡ SumU → s.unit ≡ pos d → cost_of i s ≡ pos (d * late_jobs i s)
late_cost i s d e u =
    cost_of-sum i s (ap is_greatest e)
    ∙ int_total_below-natural (length i.jobs) (charge_of i s) (λ j. d * cond (is_late i s j) 1 0)
    (λ j l. ap (λ c. job_cost c s.unit (job_at i j) (end_of s j)) e ∙ ap (λ x. if is_late i s j then x else pos 0) u ∙ one (is_late i s j))
    ∙ ap pos (total_below-scale (length i.jobs) d (λ j. cond (is_late i s j) 1 0))
  where
    one : (b : Bool) → (if b then pos d else pos 0) ≡ pos (d * cond b 1 0)
    one true = ap pos (omega arith)
    one false = ap pos (omega arith)

pub not_late : (a b : ℤ) → b ≤ℤ a → int_lt a b ≡ false
not_late a b h = false_from_ne_true (int_lt a b) (λ e. omega (arith, ints))

in_time : (a b : ℤ) → not (int_lt a b) ≡ true → b ≤ℤ a
in_time a b h = let e = not-true _ h in omega (arith, ints)

-- ---- elements back to back from a moment on, each of which ends by its due date
abbrev pub OnTime : {X : Type 0} → (X → ℕ) → (X → ℤ) → ℕ → List X → Type 0
OnTime time due t [] = ⊤
OnTime time due t (x ∷ xs) = (pos (t + time x) ≤ℤ due x) × OnTime time due (t + time x) xs

-- it is enough to look at each element after those before it
pub OnTime-from_parts : (p : ℕ → ℕ) (due : ℕ → ℤ) (t : ℕ) (zs : List ℕ) → ((xs : List ℕ) (x : ℕ) (ys : List ℕ) → zs ≡ xs ++ x ∷ ys → pos (t + sum_by p xs + p x) ≤ℤ due x) → OnTime p due t zs
OnTime-from_parts p due t [] h = tt
OnTime-from_parts p due t (z ∷ zs) h = (
  ≤ℤ_trans (pos-le (omega arith)) (h [] z zs refl),
  OnTime-from_parts p due (t + p z) zs (λ xs x ys e. ≤ℤ_trans (pos-le (omega (arith, sum_by-cons p z xs))) (h (z ∷ xs) x ys (ap (λ l. z ∷ l) e))),
)

-- back to back before any others these jobs end by their due dates
pub ends_on_time : (p : ℕ → ℕ) (due : ℕ → ℤ) (t : ℕ) (xs rest : List ℕ) → AllPairs (λ x y. x ≢ y) (xs ++ rest) → OnTime p due t xs → All (λ j. pos (end_in p t (xs ++ rest) j) ≤ℤ due j) xs
ends_on_time p due t [] rest u h = All-nil (λ j. pos (end_in p t rest j) ≤ℤ due j)
ends_on_time p due t (x ∷ xs) rest u h =
    All-cons (λ j. pos (end_in p t (x ∷ (xs ++ rest)) j) ≤ℤ due j) x xs
    (≤ℤ_trans (≤ℤ_of_same (ap (λ b. pos (cond b (t + p x) (end_in p (t + p x) (xs ++ rest) x))) (eq-eqb x x refl))) h.0)
    (λ k d l. ≤ℤ_trans (≤ℤ_of_same (ap (λ b. pos (cond b (t + p x) (end_in p (t + p x) (xs ++ rest) (get_or xs k d)))) (ne_eqb x (get_or xs k d) (apart k d l))))
    (ends_on_time p due (t + p x) xs rest (AllPairs-tail (λ x y. x ≢ y) x (xs ++ rest) u) h.1 k d l))
  where
    apart : All (λ y. x ≢ y) xs
    apart = All-front (λ y. x ≢ y) xs rest (AllPairs-head (λ x y. x ≢ y) x (xs ++ rest) u)

-- ---- a feasible schedule
module _ (i : Instance) (m : IsOneMachine i) (t : Schedule) (f : Feasible i t) where
  -- jobs that all end by a due date take no longer than until then
  module _ (x : ℕ) where
    abbrev by_then : ℕ → Bool
    by_then j = not (int_lt (t.unit *ℤ due_at i x) (end_of t j))

    room : end_of t x ≤ℤ (t.unit *ℤ due_at i x) → pos (time_together i by_then) ≤ℤ due_at i x
    room last =
        let end = t.unit *ℤ due_at i x in
        let has : HasRoom i t by_then (pos 0) end =
        law_of_ends.room i t by_then (pos 0) end m.kind f (omega (arith, ints)) (≤ℤ_trans (last_end-natural t.pieces x) last) (λ k d l _. (f.span k d l).0) (λ j l e. in_time end (end_of t j) e) in
        let same : end -ℤ pos 0 ≡ end = omega (arith, ints) in
        let is = ap (λ n. pos n *ℤ (end -ℤ pos 0)) m.one ∙ one-*ℤ (end -ℤ pos 0) ∙ same in
        *ℤ-cancel_pos t.unit (omega (arith, ints, f.unit)) (≤ℤ_trans has (≤ℤ_of_same is))

    jobs_take : (xs : List ℕ) → All (λ j. j < length i.jobs) xs → AllPairs (λ a b. a ≢ b) xs → All (λ j. end_of t j ≤ℤ (t.unit *ℤ due_at i x)) xs → sum_by (time_at i) xs ≤ time_together i by_then
    jobs_take xs inside apart early = omega (
      arith,
      sum_by-distinct_test (time_at i) by_then (length i.jobs) xs inside apart
          (λ k d l. ap not (not_late (t.unit *ℤ due_at i x) (end_of t (get_or xs k d)) (early k d l))),
      total_below-range (length i.jobs) (λ j. cond (by_then j) (time_at i j) 0),
    )

  -- of jobs by due date those that are not late would be on time one after another
  module _ (by_date : List ℕ) (inside : All (λ j. j < length i.jobs) by_date) (apart : AllPairs (λ a b. a ≢ b) by_date) (sorted : AllPairs (λ a b. due_at i a ≤ℤ due_at i b) by_date) where
    abbrev on_time : ℕ → Bool
    on_time j = not (is_late i t j)

    pub on_time_back_to_back : OnTime (time_at i) (due_at i) 0 (filter on_time by_date)
    on_time_back_to_back = OnTime-from_parts (time_at i) (due_at i) 0 (filter on_time by_date) part
      where
        part : (xs : List ℕ) (x : ℕ) (ys : List ℕ) → filter on_time by_date ≡ xs ++ x ∷ ys → pos (0 + sum_by (time_at i) xs + time_at i x) ≤ℤ due_at i x
        part xs x ys e =
            let all : filter on_time by_date ≡ (xs ++ x ∷ []) ++ ys = e ∙ sym (append_assoc xs (x ∷ []) ys) in
            let inside' = All-front (λ j. j < length i.jobs) (xs ++ x ∷ []) ys (subst (All (λ j. j < length i.jobs)) all (All-filter on_time (λ j. j < length i.jobs) by_date inside)) in
            let apart' = AllPairs-front (λ a b. a ≢ b) (xs ++ x ∷ []) ys (subst (AllPairs (λ a b. a ≢ b)) all (AllPairs-filter (λ a b. a ≢ b) on_time by_date apart)) in
            let sorted' = AllPairs-front (λ a b. due_at i a ≤ℤ due_at i b) (xs ++ x ∷ [])
            ys (subst (AllPairs (λ a b. due_at i a ≤ℤ due_at i b)) all (AllPairs-filter (λ a b. due_at i a ≤ℤ due_at i b) on_time by_date sorted)) in
            let passes = All-front (λ j. on_time j ≡ true) (xs ++ x ∷ []) ys (subst (All (λ j. on_time j ≡ true)) all (filter_passes on_time by_date)) in
            let ends : All (λ j. end_of t j ≤ℤ (t.unit *ℤ due_at i j)) (xs ++ x ∷ []) =
            λ k d l. in_time (t.unit *ℤ due_at i (get_or (xs ++ x ∷ []) k d)) (end_of t (get_or (xs ++ x ∷ []) k d)) (passes k d l) in
            let last = All-head (λ j. end_of t j ≤ℤ (t.unit *ℤ due_at i j)) x [] (All-back (λ j. end_of t j ≤ℤ (t.unit *ℤ due_at i j)) xs (x ∷ []) ends) in
            let before = All-front (λ j. end_of t j ≤ℤ (t.unit *ℤ due_at i j)) xs (x ∷ []) ends in
            let due = AllPairs-last (λ a b. due_at i a ≤ℤ due_at i b) xs x sorted' in
            let early : All (λ j. end_of t j ≤ℤ (t.unit *ℤ due_at i x)) (xs ++ x ∷ []) =
            All-append (λ j. end_of t j ≤ℤ (t.unit *ℤ due_at i x)) xs (x ∷ []) (λ k d l. ≤ℤ_trans (before k d l) (*ℤ-mono_nonneg t.unit (omega (arith, ints, f.unit)) (due k d l)))
            (All-cons (λ j. end_of t j ≤ℤ (t.unit *ℤ due_at i x)) x [] last (All-nil (λ j. end_of t j ≤ℤ (t.unit *ℤ due_at i x)))) in
            ≤ℤ_trans (pos-le (omega (arith, sum_by-append (time_at i) xs (x ∷ []), sum_by-cons (time_at i) x [], jobs_take x (xs ++ x ∷ []) inside' apart' early))) (room x last)
