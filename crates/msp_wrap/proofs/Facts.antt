-- What an instance of the class of McNaughton's rule has, and the size of its least end.
use Rattle.std.proofs.Common.{◌≡◌, ℕ, suc, ◌*◌, ◌<◌, ◌≤◌, ◌⊎◌, inl, inr, max, true, false, Bool, leb, List, [], ◌∷◌, length, get_or, fold, map, All, refl, sym, ◌∙◌, subst, arith}
use Rattle.std.proofs.lemmas.Bool.{leb-true, leb-false}
use Rattle.std.proofs.lemmas.List.{length-map, get_or-map}
use Rattle.std.proofs.lemmas.List.Elements.{All-nil, All-cons, All-head, All-tail, All-map}
use Rattle.std.proofs.Math.Nat.{mul-le-mul_left}
use Rattle.msp_class.specs.declared.sizes.TheConstants.{MOST_JOBS, GREATEST}
use Rattle.msp_class.specs.Sums.{total_below}
use Rattle.msp_class.proofs.Sums.{sum_by-mono, sum_by-constant}
use Rattle.msp_instance.specs.declared.Instance.{Instance}
use Rattle.msp_instance.specs.Instance.{no_need, no_job}
use Rattle.msp_instance.specs.Conditions.{Inner}
use Rattle.msp_pieces.proofs.feasible.OfClass.{IsOfClass, IsOfClass-from}
use Rattle.msp_pieces.specs.BackToBack.{time_at}
use Rattle.msp_pieces.proofs.lists.Places.{sum_by-places, total_below-within}
use Rattle.msp_wrap.specs.Wrap.{wrap_class, time_of, longest_time, total_time, least_end}

abbrev pub IsWrapInstance : Instance → Type 0
IsWrapInstance i = IsOfClass i wrap_class

pub IsWrapInstance-from_class : (i : Instance) → i.class ≡ wrap_class → Inner i → IsWrapInstance i
IsWrapInstance-from_class i e h = IsOfClass-from i wrap_class e h

needs : (i : Instance) → IsWrapInstance i → All (λ j. (length j.needs ≡ 1) × (1 ≤ time_of j) × (time_of j ≤ GREATEST)) i.jobs
needs i h k d l = let n = (h.jobs k d l).needs in let t = n.times 0 no_need (omega (arith, n.shape.0)) in (n.shape.0, t.0, t.1)

-- as the code asks for it
pub short_needs : (i : Instance) → IsWrapInstance i → All (λ j. (0 < length j.needs) × (time_of j ≤ GREATEST)) i.jobs
short_needs i h k d l = (omega (arith, (needs i h k d l).0), (needs i h k d l).2)

-- ---- the greatest of numbers
pub fold_max-bound : (a : ℕ) (xs : List ℕ) → (a ≤ fold max a xs) × All (λ x. x ≤ fold max a xs) xs
fold_max-bound a [] = (omega arith, All-nil (λ x. x ≤ a))
fold_max-bound a (x ∷ xs) = let h = fold_max-bound (max a x) xs in (omega (arith, h.0), All-cons (λ y. y ≤ fold max (max a x) xs) x xs (omega (arith, h.0)) h.1)

pub fold_max-least : (a b : ℕ) (xs : List ℕ) → a ≤ b → All (λ x. x ≤ b) xs → fold max a xs ≤ b
fold_max-least a b [] l h = l
fold_max-least a b (x ∷ xs) l h = fold_max-least (max a x) b xs (omega (arith, All-head (λ y. y ≤ b) x xs h)) (All-tail (λ y. y ≤ b) x xs h)

pub fold_max-reached : (a : ℕ) (xs : List ℕ) → (fold max a xs ≡ a) ⊎ ((k : ℕ) × (k < length xs) × (get_or xs k 0 ≡ fold max a xs))
fold_max-reached a [] = inl refl
fold_max-reached a (x ∷ xs) = by (leb x a) refl (fold_max-reached (max a x) xs)
  where
    left : (m n : ℕ) → n ≤ m → max m n ≡ m
    left m n l = omega arith

    right : (m n : ℕ) → m < n → n ≡ max m n
    right m n l = omega arith

    by : (b : Bool) → leb x a ≡ b → (fold max (max a x) xs ≡ max a x) ⊎ ((k : ℕ) × (k < length xs) × (get_or xs k 0 ≡ fold max (max a x) xs))
        → (fold max (max a x) xs ≡ a) ⊎ ((k : ℕ) × (k < suc (length xs)) × (get_or (x ∷ xs) k 0 ≡ fold max (max a x) xs))
    by true e (inl s) = inl (s ∙ left a x (leb-true x a e))
    by false e (inl s) = inr (0, omega arith, right a x (leb-false x a e) ∙ sym s)
    by b e (inr s) = inr (suc s.0, omega (arith, s.1), s.2)

-- ---- the least end
module _ (i : Instance) (h : IsWrapInstance i) where
  pub total_time-is : total_time i ≡ total_below (length i.jobs) (time_at i)
  total_time-is = sum_by-places time_of i.jobs no_job

  pub time_at-longest : (j : ℕ) → j < length i.jobs → time_at i j ≤ longest_time i
  time_at-longest j l =
      let inside : j < length (map time_of i.jobs) = omega (arith, length-map i.jobs time_of) in
      subst (λ x. x ≤ longest_time i) (get_or-map time_of i.jobs j no_job 0 l) ((fold_max-bound 0 (map time_of i.jobs)).1 j 0 inside)

  -- it is the time of a job
  pub longest_time-reached : (j : ℕ) × (j < length i.jobs) × (time_at i j ≡ longest_time i)
  longest_time-reached = elim (fold_max-reached 0 (map time_of i.jobs)) [
    | inl e ↦ absurd (omega (arith, e, h.some, time_at-longest 0 (omega (arith, h.some)), (needs i h 0 no_job (omega (arith, h.some))).1))
    | inr r ↦
        let inside : r.0 < length i.jobs = omega (arith, r.1, length-map i.jobs time_of) in
        (r.0, inside, sym (get_or-map time_of i.jobs r.0 no_job 0 inside) ∙ r.2)
  ]

  pub longest_time-short : longest_time i ≤ GREATEST
  longest_time-short = fold_max-least 0 GREATEST (map time_of i.jobs) (omega arith) (All-map (λ x. x ≤ GREATEST) time_of i.jobs (λ k d l. (needs i h k d l).2))

  pub total_time-short : total_time i ≤ MOST_JOBS * GREATEST
  total_time-short = omega (arith, sum_by-mono time_of (λ _. GREATEST) i.jobs (λ k d l. (needs i h k d l).2), sum_by-constant GREATEST i.jobs, h.few)

  pub job_fits : (j : ℕ) → j < length i.jobs → i.machines * time_at i j ≤ least_end i
  job_fits j l = let p = mul-le-mul_left i.machines (time_at-longest j l) in omega (arith, p)

  pub jobs_fit : (k : ℕ) → k ≤ length i.jobs → total_below k (time_at i) ≤ least_end i
  jobs_fit k l = omega (arith, total_time-is, total_below-within (time_at i) k (length i.jobs) l)

  pub least_end-short : least_end i ≤ MOST_JOBS * GREATEST
  least_end-short = let p = mul-le-mul_left i.machines longest_time-short in omega (arith, p, h.machines, total_time-short)

  -- a job takes time on the machines together
  pub work_positive : (j : ℕ) → j < length i.jobs → 0 < i.machines * time_at i j
  work_positive j l = more i.machines (time_at i j) h.machine (needs i h j no_job l).1
    where
      more : (m t : ℕ) → 1 ≤ m → 1 ≤ t → 0 < m * t
      more m t p q = grind arith
