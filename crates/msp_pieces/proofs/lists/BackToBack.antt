-- The pieces of jobs that are laid one after another: `make j a b` is the piece of job j from a to b.
use Rattle.std.proofs.Common.{◌≡◌, ℕ, suc, ◌+◌, ◌*◌, ◌≤◌, ◌<◌, cond, eqb, ◌≢◌, inl, inr, List, [], ◌∷◌, ◌++◌, map, length, get_or, All, AllPairs}
use Rattle.std.proofs.Common.{Contains, filter, sum_by, arith, refl, sym, ap, ap₂, subst, ◌∙◌}
use Rattle.std.proofs.lemmas.List.Sums.{sum_by-cons}
use Rattle.std.proofs.lemmas.List.Elements.{All-nil, All-cons, All-head, All-tail, Contains-append_right}
use Rattle.std.proofs.lemmas.List.Kept.{AllPairs-cons}
use Rattle.std.proofs.lemmas.Bool.{eq-eqb, ne_eqb, cases_eq}
use Rattle.msp_class.specs.Sums.{total_below}
use Rattle.msp_class.proofs.Sums.{sum_by-same, sum_by-OnceBelow, total_below-same, OnceBelow, OnceBelow-distinct, OnceBelow-contains}
use Rattle.msp_class.proofs.Sums.{AllPairs-head, AllPairs-tail, AllPairs-contains, Contains-tail}
use Rattle.msp_pieces.proofs.lists.Intervals.{last_of, greatest_by}
use Rattle.msp_pieces.specs.BackToBack.{weighted_ends, back_to_back}
use Rattle.std.proofs.lemmas.Bool.Decides.{nat_tests}

-- when job j of these ends, back to back: 0 where it is none of them
abbrev pub end_in : (ℕ → ℕ) → ℕ → List ℕ → ℕ → ℕ
end_in p t [] j = 0
end_in p t (i ∷ js) j = cond (eqb i j) (t + p i) (end_in p (t + p i) js j)

-- when it begins
abbrev pub begin_in : (ℕ → ℕ) → ℕ → List ℕ → ℕ → ℕ
begin_in p t [] j = 0
begin_in p t (i ∷ js) j = cond (eqb i j) t (begin_in p (t + p i) js j)

-- `make` makes pieces of which job, from and to are what it was given
pub record Makes {X P : Type 0} (make : X → ℕ → ℕ → P) (job : P → X) (from to : P → ℕ) : Type 0 where
  pub job_is : (j : X) (a b : ℕ) → job (make j a b) ≡ j
  pub from_is : (j : X) (a b : ℕ) → from (make j a b) ≡ a
  pub to_is : (j : X) (a b : ℕ) → to (make j a b) ≡ b

-- ---- any list
module _ {X P : Type 0} (make : X → ℕ → ℕ → P) (p : X → ℕ) where
  pub back_to_back-append : (t : ℕ) (xs ys : List X) → back_to_back make p t (xs ++ ys) ≡ back_to_back make p t xs ++ back_to_back make p (t + sum_by p xs) ys
  back_to_back-append t [] ys = ap (λ u. back_to_back make p u ys) (omega arith)
  back_to_back-append t (j ∷ xs) ys =
      let move : t + p j + sum_by p xs ≡ t + sum_by p (j ∷ xs) = omega (arith, sum_by-cons p j xs) in
      ap (λ l. make j t (t + p j) ∷ l) (back_to_back-append (t + p j) xs ys ∙ ap (λ u. back_to_back make p (t + p j) xs ++ back_to_back make p u ys) move)

  pub length-back_to_back : (t : ℕ) (js : List X) → length (back_to_back make p t js) ≡ length js
  length-back_to_back t [] = refl
  length-back_to_back t (j ∷ js) = ap suc (length-back_to_back (t + p j) js)

  module _ {job : P → X} {from to : P → ℕ} (makes : Makes make job from to) where
    pub back_to_back-jobs : (t : ℕ) (js : List X) → map job (back_to_back make p t js) ≡ js
    back_to_back-jobs t [] = refl
    back_to_back-jobs t (j ∷ js) = ap₂ (λ i l. i ∷ l) (makes.job_is j t (t + p j)) (back_to_back-jobs (t + p j) js)

    -- what holds of each job holds of each piece's job
    pub back_to_back-All : (Q : X → Type 0) (t : ℕ) (js : List X) → All Q js → All (λ q. Q (job q)) (back_to_back make p t js)
    back_to_back-All Q t [] h = All-nil (λ q. Q (job q))
    back_to_back-All Q t (j ∷ js) h = All-cons (λ q. Q (job q)) (make j t (t + p j)) (back_to_back make p (t + p j) js)
        (subst Q (sym (makes.job_is j t (t + p j))) (All-head Q j js h)) (back_to_back-All Q (t + p j) js (All-tail Q j js h))

    pub back_to_back-AllPairs : (R : X → X → Type 0) (t : ℕ) (js : List X) → AllPairs R js → AllPairs (λ q r. R (job q) (job r)) (back_to_back make p t js)
    back_to_back-AllPairs R t [] h = λ i j d a b. absurd (omega arith)
    back_to_back-AllPairs R t (j ∷ js) h = AllPairs-cons (λ q r. R (job q) (job r)) (make j t (t + p j)) (back_to_back make p (t + p j) js)
        (subst (λ x. All (λ q. R x (job q)) (back_to_back make p (t + p j) js)) (sym (makes.job_is j t (t + p j))) (back_to_back-All (R j) (t + p j) js (AllPairs-head R j js h)))
        (back_to_back-AllPairs R (t + p j) js (AllPairs-tail R j js h))

    -- each piece is one that `make` makes
    pub back_to_back-made : (t : ℕ) (js : List X) → All (λ q. q ≡ make (job q) (from q) (to q)) (back_to_back make p t js)
    back_to_back-made t [] = All-nil (λ q. q ≡ make (job q) (from q) (to q))
    back_to_back-made t (j ∷ js) = All-cons (λ q. q ≡ make (job q) (from q) (to q)) (make j t (t + p j)) (back_to_back make p (t + p j) js)
        (ap (λ b. make j t b) (sym (makes.to_is j t (t + p j))) ∙ ap₂ (λ i a. make i a (to (make j t (t + p j)))) (sym (makes.job_is j t (t + p j))) (sym (makes.from_is j t (t + p j))))
        (back_to_back-made (t + p j) js)

    -- each piece lasts its job's time, begins at t or later and ends within the whole
    pub back_to_back-sizes : (t : ℕ) (js : List X) → All (λ q. to q ≡ from q + p (job q)) (back_to_back make p t js)
    back_to_back-sizes t [] = All-nil (λ q. to q ≡ from q + p (job q))
    back_to_back-sizes t (j ∷ js) = All-cons (λ q. to q ≡ from q + p (job q)) (make j t (t + p j)) (back_to_back make p (t + p j) js)
        (omega (arith, makes.to_is j t (t + p j), makes.from_is j t (t + p j), ap p (makes.job_is j t (t + p j)))) (back_to_back-sizes (t + p j) js)

    pub back_to_back-from : (t : ℕ) (js : List X) → All (λ q. t ≤ from q) (back_to_back make p t js)
    back_to_back-from t [] = All-nil (λ q. t ≤ from q)
    back_to_back-from t (j ∷ js) = All-cons (λ q. t ≤ from q) (make j t (t + p j))
        (back_to_back make p (t + p j) js) (omega (arith, makes.from_is j t (t + p j))) (λ k d l. omega (arith, back_to_back-from (t + p j) js k d l))

    pub back_to_back-to : (t : ℕ) (js : List X) → All (λ q. to q ≤ t + sum_by p js) (back_to_back make p t js)
    back_to_back-to t [] = All-nil (λ q. to q ≤ t + 0)
    back_to_back-to t (j ∷ js) = All-cons (λ q. to q ≤ t + sum_by p (j ∷ js)) (make j t (t + p j)) (back_to_back make p (t + p j) js)
        (omega (arith, makes.to_is j t (t + p j), sum_by-cons p j js)) (λ k d l. omega (arith, back_to_back-to (t + p j) js k d l, sum_by-cons p j js))

    -- where times are not 0, no piece is empty
    pub back_to_back-positive : (t : ℕ) (js : List X) → All (λ j. 0 < p j) js → All (λ q. from q < to q) (back_to_back make p t js)
    back_to_back-positive t js h k d l = omega (arith, back_to_back-sizes t js k d l, back_to_back-All (λ j. 0 < p j) t js h k d l)

    -- each piece ends before or when any later one begins
    pub back_to_back-in_order : (t : ℕ) (js : List X) → AllPairs (λ q r. to q ≤ from r) (back_to_back make p t js)
    back_to_back-in_order t [] = λ i j d a b. absurd (omega arith)
    back_to_back-in_order t (j ∷ js) = AllPairs-cons (λ q r. to q ≤ from r) (make j t (t + p j)) (back_to_back make p (t + p j) js)
        (λ k d l. omega (arith, makes.to_is j t (t + p j), back_to_back-from (t + p j) js k d l)) (back_to_back-in_order (t + p j) js)

    -- where no job of the list must wait for a later one, the pieces come in the order of the arcs
    pub back_to_back-arcs : (Arc : X → X → Type 0) (t : ℕ) (js : List X) → ((j : X) → ¬ (Arc j j)) → AllPairs (λ x y. ¬ (Arc y x)) js
        → (q r : P) → Contains (back_to_back make p t js) q → Contains (back_to_back make p t js) r → Arc (job q) (job r) → to q ≤ from r
    back_to_back-arcs Arc t js loose forward q r c d arc =
        elim (AllPairs-contains (λ x y. (to x ≤ from y) × ¬ (Arc (job y) (job x))) (back_to_back make p t js)
        q r (λ i j e a b. (back_to_back-in_order t js i j e a b, back_to_back-AllPairs (λ x y. ¬ (Arc y x)) t js forward i j e a b)) c d)
        [ inl h ↦ h.0 | inr (inl same) ↦ absurd (loose (job q) (subst (λ x. Arc (job q) (job x)) (sym same) arc)) | inr (inr h) ↦ absurd (h.1 arc) ]

-- ---- any list of jobs
module _ {P : Type 0} (make : ℕ → ℕ → ℕ → P) (p : ℕ → ℕ) {job from to : P → ℕ} (makes : Makes make job from to) where
  -- a job that is not in the list has no piece
  pub back_to_back-filter_none : (t : ℕ) (js : List ℕ) (j : ℕ) → All (λ i. i ≢ j) js → filter (λ q. eqb (job q) j) (back_to_back make p t js) ≡ []
  back_to_back-filter_none t [] j h = refl
  back_to_back-filter_none t (i ∷ js) j h =
      ap (λ b. cond b (make i t (t + p i) ∷ filter (λ q. eqb (job q) j) (back_to_back make p (t + p i) js)) (filter (λ q. eqb (job q) j) (back_to_back make p (t + p i) js)))
      (ne_eqb (job (make i t (t + p i))) j (λ e. All-head (λ i. i ≢ j) i js h (sym (makes.job_is i t (t + p i)) ∙ e)))
      ∙ back_to_back-filter_none (t + p i) js j (All-tail (λ i. i ≢ j) i js h)

  -- a job that is in it once has one piece
  pub back_to_back-filter : (t : ℕ) (js : List ℕ) (j : ℕ)
      → AllPairs (λ x y. x ≢ y) js → Contains js j → filter (λ q. eqb (job q) j) (back_to_back make p t js) ≡ make j (begin_in p t js j) (end_in p t js j) ∷ []
  back_to_back-filter t [] j u c = absurd (omega (arith, c.1))
  back_to_back-filter t (i ∷ js) j u c = elim (cases_eq i j) [
    | inl e ↦
        ap (λ b. cond b (make i t (t + p i) ∷ later) later) (ap (λ x. eqb x j) (makes.job_is i t (t + p i)) ∙ eq-eqb i j e)
        ∙ ap (λ l. make i t (t + p i) ∷ l)
        (back_to_back-filter_none (t + p i) js j (λ k d l q. AllPairs-head (λ x y. x ≢ y) i js u k d l (e ∙ sym q)))
        ∙ ap (λ x. make x t (t + p i) ∷ []) e
        ∙ sym (ap (λ b. make j (cond b t (begin_in p (t + p i) js j)) (cond b (t + p i) (end_in p (t + p i) js j)) ∷ []) (eq-eqb i j e))
    | inr ne ↦
        ap (λ b. cond b (make i t (t + p i) ∷ later) later) (ap (λ x. eqb x j) (makes.job_is i t (t + p i)) ∙ ne_eqb i j ne)
        ∙ back_to_back-filter (t + p i) js j (AllPairs-tail (λ x y. x ≢ y) i js u) (Contains-tail i js j c ne)
        ∙ sym (ap (λ b. make j (cond b t (begin_in p (t + p i) js j)) (cond b (t + p i) (end_in p (t + p i) js j)) ∷ []) (ne_eqb i j ne))
  ]
    where
      later : List P
      later = filter (λ q. eqb (job q) j) (back_to_back make p (t + p i) js)

  pub back_to_back-last : (t : ℕ) (js : List ℕ) (j : ℕ) → AllPairs (λ x y. x ≢ y) js → Contains js j → last_of job to (back_to_back make p t js) j ≡ end_in p t js j
  back_to_back-last t js j u c =
      ap (greatest_by to) (back_to_back-filter t js j u c) ∙ omega (arith, makes.to_is j (begin_in p t js j) (end_in p t js j))

-- ---- when the jobs end
pub end_in-begin : (p : ℕ → ℕ) (t : ℕ) (js : List ℕ) (j : ℕ) → Contains js j → end_in p t js j ≡ begin_in p t js j + p j
end_in-begin p t [] j c = absurd (omega (arith, c.1))
end_in-begin p t (i ∷ js) j c =
    let later : i ≢ j → end_in p (t + p i) js j ≡ begin_in p (t + p i) js j + p j = λ ne. end_in-begin p (t + p i) js j (Contains-tail i js j c ne) in
    grind (arith, nat_tests, later)

-- the job at a place begins after the times of those before it
pub begin_in-at : (p : ℕ → ℕ) (t : ℕ) (xs : List ℕ) (j : ℕ) (ys : List ℕ) → All (λ i. i ≢ j) xs → begin_in p t (xs ++ j ∷ ys) j ≡ t + sum_by p xs
begin_in-at p t [] j ys h = ap (λ b. cond b t (begin_in p (t + p j) ys j)) (eq-eqb j j refl) ∙ omega arith
begin_in-at p t (i ∷ xs) j ys h =
    ap (λ b. cond b t (begin_in p (t + p i) (xs ++ j ∷ ys) j)) (ne_eqb i j (All-head (λ i. i ≢ j) i xs h))
    ∙ begin_in-at p (t + p i) xs j ys (All-tail (λ i. i ≢ j) i xs h) ∙ omega (arith, sum_by-cons p i xs)

pub end_in-at : (p : ℕ → ℕ) (t : ℕ) (xs : List ℕ) (j : ℕ) (ys : List ℕ) → All (λ i. i ≢ j) xs → end_in p t (xs ++ j ∷ ys) j ≡ t + sum_by p xs + p j
end_in-at p t xs j ys h = end_in-begin p t (xs ++ j ∷ ys) j (Contains-append_right xs (j ∷ ys) j (0, omega arith, refl)) ∙ ap (λ n. n + p j) (begin_in-at p t xs j ys h)

-- the weighted ends add up to `seq`
pub ends-weighted_ends : (p w : ℕ → ℕ) (t : ℕ) (js : List ℕ) → AllPairs (λ x y. x ≢ y) js → sum_by (λ j. w j * end_in p t js j) js ≡ weighted_ends p w t js
ends-weighted_ends p w t [] u = refl
ends-weighted_ends p w t (i ∷ js) u =
    sum_by-cons (λ j. w j * end_in p t (i ∷ js) j) i js
    ∙ ap₂ (λ m n. w i * m + n) (ap (λ b. cond b (t + p i) (end_in p (t + p i) js i)) (eq-eqb i i refl))
    (sum_by-same _ (λ j. w j * end_in p (t + p i) js j) js
    (λ k d l. ap (λ b. w (get_or js k d) * cond b (t + p i) (end_in p (t + p i) js (get_or js k d))) (ne_eqb i (get_or js k d) (AllPairs-head (λ x y. x ≢ y) i js u k d l)))
    ∙ ends-weighted_ends p w (t + p i) js (AllPairs-tail (λ x y. x ≢ y) i js u))

-- the same for the greatest end of each job's pieces
pub last-weighted_ends_below : {P : Type 0} (make : ℕ → ℕ → ℕ → P) {job from to : P → ℕ} (makes : Makes make job from to) (p w : ℕ → ℕ) (n t : ℕ) (js : List ℕ)
    → OnceBelow n js → total_below n (λ j. w j * last_of job to (back_to_back make p t js) j) ≡ weighted_ends p w t js
last-weighted_ends_below make makes p w n t js o =
    total_below-same n _ _ (λ j l. ap (λ m. w j * m) (back_to_back-last make p makes t js j (OnceBelow-distinct o) (OnceBelow-contains o j l)))
    ∙ sym (sum_by-OnceBelow (λ j. w j * end_in p t js j) o) ∙ ends-weighted_ends p w t js (OnceBelow-distinct o)
