-- The jobs by falling time or weight, as they are sorted.
use Rattle.std.proofs.Common.{◌≡◌, ◌≢◌, ℕ, ◌<◌, ◌≤◌, ◌⊎◌, List, length, map, get_or, All, AllPairs, IfOk, IsPermutation, Result, Ok, Err, ap, subst, ◌∙◌, arith}
use Rattle.std.specs.List.{range_with_len}
use Rattle.std.proofs.lemmas.List.{get_or-map, length-map}
use Rattle.msp_class.proofs.Sums.{OnceBelow, OnceBelow-from_permutation, OnceBelow-distinct, length-OnceBelow}
use Rattle.msp_instance.specs.declared.Job.{Job}
use Rattle.msp_instance.specs.declared.Instance.{Instance}
use Rattle.msp_instance.specs.Instance.{no_job, job_at}
use Rattle.msp_route.proofs.KeyedJobs.{Falls as KeysFall}
use Rattle.msp_cut_sums.specs.Sums.{at, IsByFalling}

-- x comes before y
abbrev Falls : (ℕ → ℕ) → ℕ → ℕ → Type 0
Falls key x y = (key y < key x) ⊎ ((key y ≡ key x) × (x < y))

-- ---- numbers that are read of the jobs
module _ (i : Instance) (f : Job → ℕ) (values kept : List ℕ) (is : kept ≡ map f i.jobs) (same : values ≡ kept) where
  pub values_many : length values ≡ length i.jobs
  values_many = ap length (same ∙ is) ∙ length-map i.jobs f

  read : (order : List ℕ) → IsPermutation (range_with_len 0 (length values)) order → AllPairs (KeysFall (at values)) order → IsByFalling (length i.jobs) (λ j. f (job_at i j)) order
  read order all falls = record {
    all = subst (λ n. IsPermutation (range_with_len 0 n) order) values_many all;
    falls = λ a b d l k. by (get_or order a d) (get_or order b d) (value (get_or order a d) (within a d (omega (arith, l, k)))) (value (get_or order b d) (within b d k))
        (OnceBelow-distinct (OnceBelow-from_permutation all) a b d l k) (falls a b d l k);
  }
    where
      within : All (λ j. j < length i.jobs) order
      within k d l = omega (arith, values_many, (OnceBelow-from_permutation all).within k d l)

      value : (j : ℕ) → j < length i.jobs → at values j ≡ f (job_at i j)
      value j l = ap (λ vs. at vs j) (same ∙ is) ∙ get_or-map f i.jobs j no_job 0 l

      by : (x y : ℕ) → at values x ≡ f (job_at i x) → at values y ≡ f (job_at i y) → x ≢ y → KeysFall (at values) x y → Falls (λ j. f (job_at i j)) x y
      by x y e g n h = grind arith

  pub read_order : {V E : Type 0} (items : V → List ℕ) (r : Result V E) → IfOk r (λ o. IsPermutation (range_with_len 0 (length values)) (items o))
      → IfOk r (λ o. AllPairs (KeysFall (at values)) (items o)) → IfOk r (λ o. IsByFalling (length i.jobs) (λ j. f (job_at i j)) (items o))
  read_order items (Ok o) all falls = read (items o) all falls
  read_order items (Err x) all falls = tt

-- ---- by places
module _ (n : ℕ) (key : ℕ → ℕ) (order : List ℕ) (h : IsByFalling n key order) where
  pub order_once : OnceBelow n order
  order_once = OnceBelow-from_permutation h.all

  pub order_many : length order ≡ n
  order_many = length-OnceBelow order_once

  pub order_inside : (k : ℕ) → k < n → at order k < n
  order_inside k l = order_once.within k 0 (omega (arith, l, order_many))

  pub order_falls : (a b : ℕ) → a ≤ b → b < n → key (at order b) ≤ key (at order a)
  order_falls a b l k = grind (arith, h.falls a b 0, order_many)

  pub order_distinct : (a b : ℕ) → a < n → b < n → at order a ≡ at order b → a ≡ b
  order_distinct a b l k e = grind (arith, OnceBelow-distinct order_once a b 0, OnceBelow-distinct order_once b a 0, order_many)
