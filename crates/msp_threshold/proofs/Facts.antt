-- What an instance of unit jobs by lateness has, and the instance squeezed to some moments.
use Rattle.std.proofs.Common.{◌≡◌, ℕ, ◌+◌, ◌*◌, ◌<◌, ◌≤◌, ltb, List, length, get_or, All, ℤ, pos, ◌+ℤ◌, ◌≤ℤ◌, FitsSigned, to_z, of_z, refl, sym, ap, ap₂, ◌∙◌, arith, AllPairs, Contains, ◌≢◌}
use Rattle.std.specs.Prelude.{int_le}
use Rattle.std.specs.Int.{w64, w128}
use Rattle.std.proofs.lemmas.Int.{ints, to_z-of_z}
use Rattle.msp_class.specs.declared.environments.EnvKind.TheVariants.{Identical}
use Rattle.std.proofs.lemmas.List.{length-map, get_or_default}
use Rattle.std.proofs.lemmas.List.Elements.{All-map}
use Rattle.std.proofs.lemmas.List.Sums.{count_by-le-length}
use Rattle.msp_class.specs.declared.sizes.TheConstants.{MOST_JOBS, GREATEST}
use Rattle.msp_class.proofs.IntegerRing.{pos-le, zero-le-pos}
use Rattle.msp_instance.specs.declared.Job.{Job}
use Rattle.msp_instance.specs.declared.Instance.{Instance}
use Rattle.msp_instance.specs.Instance.{no_need, job_at}
use Rattle.msp_instance.specs.Conditions.{LiesWithin, IsJobOf, Inner, InClass, text_limits, inner_limits}
use Rattle.msp_pieces.proofs.feasible.OfClass.{IsOfClass, IsOfClass-from}
use Rattle.msp_pieces.proofs.feasible.Frames.{job_at-map}
use Rattle.msp_pieces.proofs.bounds.Certified.{place_in, place_in-is}
use Rattle.msp_slots.proofs.UnitPieces.{HasUnitJobs, HasUnitJobs-from}
use Rattle.msp_threshold.specs.Squeezed.{lateness_class, greatest_bound, squeezed_release, squeezed_due, squeezed_job, squeezed_by}

abbrev pub IsLatenessShop : Instance → Type 0
IsLatenessShop i = IsOfClass i lateness_class

pub IsLatenessShop-from : (i : Instance) → i.class ≡ lateness_class → Inner i → IsLatenessShop i
IsLatenessShop-from i e h = IsOfClass-from i lateness_class e h

module _ (i : Instance) (t : IsLatenessShop i) where
  pub unit_jobs : HasUnitJobs i
  unit_jobs = HasUnitJobs-from i _ _ _ _ refl t

  pub due_small : All (λ j. LiesWithin (2 * GREATEST) j.due) i.jobs
  due_small k d l = (t.jobs k d l).due

  -- ---- squeezed
  module _ (kept : List ℕ) (bound : ℤ) where
    abbrev lower : Instance
    lower = squeezed_by kept bound i

    pub many : length lower.jobs ≡ length i.jobs
    many = length-map i.jobs (squeezed_job kept bound)

    pub lower_job : (k : ℕ) → k < length i.jobs → job_at lower k ≡ squeezed_job kept bound (job_at i k)
    lower_job k l = job_at-map i lower (squeezed_job kept bound) refl k l

    pub lower_release : (k : ℕ) → k < length i.jobs → (job_at lower k).release ≡ squeezed_release kept (job_at i k).release
    lower_release k l = ap (λ j. j.release) (lower_job k l)

    pub lower_due : (k : ℕ) → k < length i.jobs → (job_at lower k).due ≡ pos (squeezed_due kept ((job_at i k).due +ℤ bound))
    lower_due k l = ap (λ j. j.due) (lower_job k l)

    pub lower_units : HasUnitJobs lower
    lower_units = record {
      kind = refl;
      cut = refl;
      few = omega (arith, many, t.few);
      ones = λ j b. let l : j < length i.jobs = omega (arith, b, many) in ap (λ a. (get_or a.needs 0 no_need).time) (lower_job j l) ∙ unit_jobs.ones j l;
    }

    own : length kept ≤ MOST_JOBS → (a : Job) → IsJobOf (inner_limits Identical) (record i { class = lateness_class }) a → IsJobOf text_limits lower (squeezed_job kept bound a)
    own few a h = record {
      needs = record { shape = h.needs.shape; times = h.needs.times; some = h.needs.some };
      times = h.times;
      release = omega (arith, count_by-le-length (λ x. ltb x a.release) kept, few);
      due = (omega (arith, ints), pos-le (omega (arith, count_by-le-length (λ x. int_le (pos (x + 1)) (a.due +ℤ bound)) kept, few)));
      weight = h.weight;
      curve = h.curve;
    }

    pub lower_in_class : length kept ≤ MOST_JOBS → Inner i → InClass lower
    lower_in_class few inner = record {
      conditions = record {
        some = omega (arith, many, t.some);
        few = omega (arith, many, t.few);
        machines = (t.machine, t.machines, tt);
        speeds = t.speeds;
        multiple = t.multiple;
        jobs = All-map (IsJobOf text_limits lower) (squeezed_job kept bound) i.jobs (λ k d l. own few (get_or i.jobs k d) (t.jobs k d l));
        arcs = t.arcs;
        ends = λ k d l. let e = t.ends k d l in (omega (arith, many, e.0), omega (arith, many, e.1));
        once = inner.conditions.once;
        degree = λ j l. tt;
      };
      acyclic = let (order, listed, forward) = inner.acyclic in (order, record { whole = listed.whole ∙ sym many; each = λ j l. listed.each j (omega (arith, many, l)) }, forward);
    }

    -- the dates lie between 0 and the number of moments
    pub lower_small : length kept ≤ MOST_JOBS → All (λ j. (j.release ≤ MOST_JOBS) × (pos 0 ≤ℤ j.due) × (j.due ≤ℤ pos MOST_JOBS)) lower.jobs
    lower_small few = All-map (λ j. (j.release ≤ MOST_JOBS) × (pos 0 ≤ℤ j.due) × (j.due ≤ℤ pos MOST_JOBS)) (squeezed_job kept bound) i.jobs (λ k d l.
        let a = get_or i.jobs k d in (
          omega (arith, count_by-le-length (λ x. ltb x a.release) kept, few),
          zero-le-pos (squeezed_due kept (a.due +ℤ bound)),
          pos-le (omega (arith, count_by-le-length (λ x. int_le (pos (x + 1)) (a.due +ℤ bound)) kept, few)),
        ))

-- ---- where a number stands in a list
pub record IsAt (xs : List ℕ) (j : ℕ) : Type 0 where
  pub inside : place_in xs j < length xs
  pub is : get_or xs (place_in xs j) 0 ≡ j

pub IsAt-from : (xs : List ℕ) (j : ℕ) → AllPairs (λ x y. x ≢ y) xs → Contains xs j → IsAt xs j
IsAt-from xs j apart (p, b, e) =
    let here : get_or xs p 0 ≡ j = get_or_default xs p 0 j b ∙ e in
    let same : place_in xs j ≡ p = ap (place_in xs) (sym here) ∙ place_in-is xs p apart b in
    record { inside = omega (arith, same, b); is = ap (λ x. get_or xs x 0) same ∙ here }

-- ---- small numbers fit
pub fits : (n : ℕ) (x : ℤ) → n ≤ 10 * GREATEST → LiesWithin n x → FitsSigned w64 x
fits n x l h = omega (arith, ints, l, h.0, h.1)

pub fits_wide : (n : ℕ) (x : ℤ) → n ≤ 10 * GREATEST → LiesWithin n x → FitsSigned w128 x
fits_wide n x l h = omega (arith, ints, l, h.0, h.1)

-- ---- one job, as the code changes it
pub squeeze_is : (kept : List ℕ) (bound d : ℤ) (j : Job) (r : ℕ) (x : ℤ) → length kept ≤ MOST_JOBS → LiesWithin (2 * GREATEST) j.due → LiesWithin greatest_bound bound
    → r ≡ squeezed_release kept j.release → d ≡ pos (squeezed_due kept x) → x ≡ to_z w64 (of_z w64 (to_z w64 (of_z w64 j.due) +ℤ to_z w64 (of_z w64 bound)))
    → record j { release = r; due = to_z w64 (of_z w64 d) } ≡ squeezed_job kept bound j
squeeze_is kept bound d j r x few w b e f g = ap₂ (λ y z. record j { release = y; due = z }) e
    (to_z-of_z w64 d (omega (arith, ints, f, few, count_by-le-length (λ y. int_le (pos (y + 1)) x) kept)) ∙ f ∙ ap (λ y. pos (squeezed_due kept y)) (g ∙ sum))
  where
    sum : to_z w64 (of_z w64 (to_z w64 (of_z w64 j.due) +ℤ to_z w64 (of_z w64 bound))) ≡ j.due +ℤ bound
    sum = ap (λ z. to_z w64 (of_z w64 z)) (ap₂ (λ y z. y +ℤ z) (to_z-of_z w64 j.due (fits (2 * GREATEST) j.due (omega arith) w)) (to_z-of_z w64 bound (fits greatest_bound bound (omega arith) b)))
        ∙ to_z-of_z w64 (j.due +ℤ bound) (omega (arith, ints, w.0, w.1, b.0, b.1))
