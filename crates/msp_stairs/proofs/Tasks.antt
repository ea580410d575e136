-- Deadlines and bounds as the code computes them.
use Rattle.std.proofs.Common.{◌≡◌, ℕ, ◌+◌, ◌*◌, ◌<◌, ◌≤◌, List, length, get_or, ℤ, pos, nat_abs, ◌+ℤ◌, ◌-ℤ◌, ◌*ℤ◌, ◌≤ℤ◌, FitsSigned, to_z, of_z, sym, ap, ap₂, subst, ◌∙◌, arith}
use Rattle.std.specs.Int.{int_max, w64, w128}
use Rattle.std.proofs.lemmas.Int.{ints, to_z-of_z}
use Rattle.std.proofs.lemmas.List.{get_or_default}
use Rattle.msp_class.specs.declared.sizes.TheConstants.{MOST_JOBS, MOST_MACHINES, GREATEST}
use Rattle.msp_instance.specs.declared.Instance.{Instance}
use Rattle.msp_instance.specs.declared.Job.{Job}
use Rattle.msp_instance.specs.Instance.{job_at, no_job, no_need}
use Rattle.msp_instance.specs.Conditions.{LiesWithin}
use Rattle.msp_pieces.proofs.feasible.OfClass.{IsOfClass}
use Rattle.msp_stairs.specs.Stairs.{stairs_class}
use Rattle.msp_stairs.specs.declared.climb.Limits.{Limits}
use Rattle.msp_stairs.specs.Bounds.{greatest_bound, greatest_date, latest_deadline, capped}
use Rattle.msp_stairs.specs.declared.climb.Task.{Task}
use Rattle.msp_stairs.specs.Steps.{task_for}
use Rattle.msp_class.proofs.IntegerRing.{+ℤ_mono}
use Rattle.msp_pieces.proofs.costs.Small.{product_within}

-- a number as 128 bits hold it
abbrev pub held : ℤ → ℤ
held x = to_z w128 (of_z w128 x)

fits : (c : ℕ) (x : ℤ) → c ≤ latest_deadline → LiesWithin c x → FitsSigned w128 x
fits c x l h = omega (arith, ints, h.0, h.1)

pub kept : (c : ℕ) (x : ℤ) → c ≤ latest_deadline → LiesWithin c x → held x ≡ x
kept c x l h = to_z-of_z w128 x (fits c x l h)

pub count_kept : (m : ℕ) → m ≤ MOST_MACHINES → held (pos m) ≡ pos m
count_kept m l = kept MOST_MACHINES (pos m) (omega arith) (omega (arith, ints), omega (arith, ints, l))

-- a date as 64 bits hold it
pub date_kept : (d : ℤ) → LiesWithin (2 * GREATEST) d → to_z w64 (of_z w64 d) ≡ d
date_kept d h = to_z-of_z w64 d (omega (arith, ints, h.0, h.1))

pub date_held : (d : ℤ) → LiesWithin (2 * GREATEST) d → LiesWithin (2 * GREATEST) (to_z w64 (of_z w64 d))
date_held d h = subst (LiesWithin (2 * GREATEST)) (sym (date_kept d h)) h

-- the moment of a deadline
module _ (x y z : ℤ) (m : ℕ) (d : ℤ) (e : x ≡ pos m) (f : y ≡ d) (few : m ≤ MOST_MACHINES) (date : LiesWithin (2 * GREATEST) d) (bound : LiesWithin greatest_bound z) where
  product : LiesWithin greatest_date (pos m *ℤ d)
  product = product_within m d MOST_MACHINES (2 * GREATEST) greatest_date few date (omega arith)

  total_within : LiesWithin latest_deadline ((pos m *ℤ d) +ℤ z)
  total_within = (+ℤ_mono product.0 bound.0, +ℤ_mono product.1 bound.1)

  factors : (held x *ℤ held y) ≡ (pos m *ℤ d)
  factors = ap₂ (λ u v. u *ℤ v) (ap held e ∙ count_kept m few) (ap held f ∙ kept (2 * GREATEST) d (omega arith) date)

  pub moment_is : (held (held x *ℤ held y) +ℤ held z) ≡ ((pos m *ℤ d) +ℤ z)
  moment_is = ap₂ (λ u v. u +ℤ v) (ap held factors ∙ kept greatest_date (pos m *ℤ d) (omega arith) product)
      (kept greatest_bound z (omega arith) bound)

  pub moment_fits : FitsSigned w128 (held (held x *ℤ held y) +ℤ held z)
  moment_fits = subst (FitsSigned w128) (sym moment_is) (fits latest_deadline ((pos m *ℤ d) +ℤ z) (omega arith) total_within)

  pub moment_held : held (held (held x *ℤ held y) +ℤ held z) ≡ ((pos m *ℤ d) +ℤ z)
  moment_held = ap held moment_is ∙ kept latest_deadline ((pos m *ℤ d) +ℤ z) (omega arith) total_within

  pub moment_small : held (held (held x *ℤ held y) +ℤ held z) ≤ℤ pos latest_deadline
  moment_small = subst (λ v. v ≤ℤ pos latest_deadline) (sym moment_held) total_within.1

-- a job as it is read
pub job_read : (i : Instance) (jobs : List Job) (k : ℕ) (job : Job) → jobs ≡ i.jobs → k < length i.jobs → job ≡ get_or jobs k job → job ≡ job_at i k
job_read i jobs k job e l at = at ∙ get_or_default jobs k job no_job (subst (λ n. k < n) (sym (ap length e)) l) ∙ ap (λ xs. get_or xs k no_job) e

pub date_read : (i : Instance) → IsOfClass i stairs_class → (k : ℕ) (job : Job) → k < length i.jobs → job ≡ job_at i k → LiesWithin (2 * GREATEST) job.due
date_read i h k job l e = subst (λ j. LiesWithin (2 * GREATEST) j.due) (sym e) (h.jobs k no_job l).due

pub task_read : (i : Instance) (limits : Limits) (k m t due : ℕ) (job : Job)
    → job ≡ job_at i k → m ≡ i.machines → t ≡ (get_or job.needs 0 no_need).time → due ≡ nat_abs (int_max (pos 0) (capped limits.end ((pos i.machines *ℤ job.due) +ℤ limits.late)))
    → record { job = k; time = m * t; due = due } ≡ task_for i limits k
task_read i limits k m t due job e f g h =
    ap₂ made (ap₂ (λ a b. a * b) f (g ∙ ap (λ j. (get_or j.needs 0 no_need).time) e)) (h ∙ ap (λ j. nat_abs (int_max (pos 0) (capped limits.end ((pos i.machines *ℤ j.due) +ℤ limits.late)))) e)
  where
    made : ℕ → ℕ → Task
    made a b = record { job = k; time = a; due = b }

-- the ends of the range of bounds
abbrev greatest_lateness : ℕ
greatest_lateness = MOST_JOBS * GREATEST + 2 * GREATEST

module _ (x t d : ℤ) (m time : ℕ) (due : ℤ) (e : x ≡ pos m) (f : t ≡ pos time) (g : d ≡ due)
    (few : m ≤ MOST_MACHINES) (short : time ≤ MOST_JOBS * GREATEST) (date : LiesWithin (2 * GREATEST) due) where
  lateness : LiesWithin greatest_lateness (pos time -ℤ due)
  lateness = (omega (arith, ints, short, date.1), omega (arith, ints, short, date.0))

  scaled : LiesWithin (MOST_MACHINES * greatest_lateness) (pos m *ℤ (pos time -ℤ due))
  scaled = product_within m (pos time -ℤ due) MOST_MACHINES greatest_lateness (MOST_MACHINES * greatest_lateness) few lateness (omega arith)

  less : (held t -ℤ held d) ≡ (pos time -ℤ due)
  less = ap₂ (λ u v. u -ℤ v) (ap held f ∙ kept latest_deadline (pos time) (omega arith) (omega (arith, ints), omega (arith, ints, short)))
      (ap held g ∙ kept (2 * GREATEST) due (omega arith) date)

  scaled_is : (held x *ℤ held (held t -ℤ held d)) ≡ (pos m *ℤ (pos time -ℤ due))
  scaled_is = ap₂ (λ u v. u *ℤ v) (ap held e ∙ count_kept m few)
      (ap held less ∙ kept greatest_lateness (pos time -ℤ due) (omega arith) lateness)

  pub scaled_fits : FitsSigned w128 (held x *ℤ held (held t -ℤ held d))
  scaled_fits = subst (FitsSigned w128) (sym scaled_is)
      (fits (MOST_MACHINES * greatest_lateness) (pos m *ℤ (pos time -ℤ due)) (omega arith) scaled)

  pub scaled_held : held (held x *ℤ held (held t -ℤ held d)) ≡ (pos m *ℤ (pos time -ℤ due))
  scaled_held = ap held scaled_is ∙ kept (MOST_MACHINES * greatest_lateness) (pos m *ℤ (pos time -ℤ due)) (omega arith) scaled

  pub scaled_small : LiesWithin greatest_bound (held (held x *ℤ held (held t -ℤ held d)))
  scaled_small = subst (LiesWithin greatest_bound) (sym scaled_held) (omega (arith, ints, scaled.0), omega (arith, ints, scaled.1))
