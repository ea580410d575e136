-- The first plan: one segment in which all machines are free, up to the least end.
use Rattle.std.proofs.Common.{◌≡◌, ℕ, zero, suc, ◌*◌, ◌-◌, ◌^◌, ◌<◌, ◌≤◌, ◌⊎◌, inl, inr, List, [], ◌∷◌, ◌++◌, length, take, map, replicate, All, sum_by, refl, sym, ap, subst, ◌∙◌, arith}
use Rattle.std.proofs.Math.Nat.{le_trans, mul-le-mul_left, mul-le-mul_right}
use Rattle.std.proofs.lemmas.List.{get_or-replicate, length-replicate, take_all, take-take}
use Rattle.std.proofs.lemmas.List.Elements.{All-nil, All-cons}
use Rattle.std.proofs.lemmas.List.Sums.{sum_by-le, sum_by-take-le, get_or-le-sum_by}
use Rattle.msp_class.specs.declared.sizes.TheConstants.{MOST_MACHINES, GREATEST}
use Rattle.msp_class.specs.Sums.{total_below}
use Rattle.msp_class.proofs.Sums.{sum_by-cons, sum_by-OnceBelow, OnceBelow-from_permutation, OnceBelow-contains, total_below-same, total_below-scale, total_below-none}
use Rattle.msp_uniform.specs.declared.unit.TheConstants.{GREATEST_PRODUCT}
use Rattle.msp_uniform.specs.declared.segments.Segment.{Segment}
use Rattle.msp_uniform.specs.declared.task.Task.{Task}
use Rattle.msp_pieces.proofs.lists.Places.{sum_by-places}
use Rattle.msp_uniform.specs.Uniform.{gap, sum, IsByFalling}
use Rattle.msp_uniform.specs.Quotients.{IsGreatest}
use Rattle.msp_uniform.specs.Prefixes.{DoFit}
use Rattle.msp_uniform.specs.Segments.{at, job_on, place_at, IsSegment, IsAbsent, rate_at, amount}
use Rattle.msp_uniform.specs.Plans.{works, IsTask, IsAsked, IsFirstPlan, IsReached, greatest_work}
use Rattle.msp_uniform.proofs.PrefixFacts.{total_below-first}
use Rattle.msp_class.proofs.Cases.{same_or_not, less_or_not}
use Rattle.msp_uniform.proofs.LeastEnd.{order_within, order_distinct, order_length}

-- ---- sums over the first of a list
first_values : (f : ℕ → ℕ) (k : ℕ) (xs : List ℕ) → total_below k (λ i. at (map f xs) i) ≡ sum_by f (take k xs)
first_values f zero xs = refl
first_values f (suc k) [] = total_below-none (suc k) (λ i. at [] i) (λ i l. refl)
first_values f (suc k) (x ∷ xs) = omega (arith, total_below-first k (λ i. at (map f (x ∷ xs)) i), first_values f k xs, sum_by-cons f x (take k xs))

first_places : (f : ℕ → ℕ) (k : ℕ) (xs : List ℕ) → k ≤ length xs → total_below k (λ i. f (at xs i)) ≡ sum_by f (take k xs)
first_places f zero xs l = refl
first_places f (suc k) [] l = absurd (omega (arith, l))
first_places f (suc k) (x ∷ xs) l = omega (arith, total_below-first k (λ i. f (at (x ∷ xs) i)), first_places f k xs (omega (arith, l)), sum_by-cons f x (take k xs))

take-mono : (f : ℕ → ℕ) (a b : ℕ) (xs : List ℕ) → a ≤ b → sum_by f (take a xs) ≤ sum_by f (take b xs)
take-mono f a b xs l = subst (λ ys. sum_by f ys ≤ sum_by f (take b xs)) (take-take a b xs l) (sum_by-take-le f (take b xs) a)

module _ (t : Task) (k : IsTask t) (jobs machines : List ℕ) (a : IsAsked t jobs machines) where
  abbrev n : ℕ
  n = length t.times.items

  abbrev m : ℕ
  m = length t.speeds.items

  abbrev time : ℕ → ℕ
  time = at t.times.items

  abbrev speed : ℕ → ℕ
  speed = at t.speeds.items

  many_jobs : length jobs ≡ n
  many_jobs = order_length n time jobs a.jobs_by

  many_machines : length machines ≡ m
  many_machines = order_length m speed machines a.machines_by

  pub machines_few : length machines ≤ MOST_MACHINES
  machines_few = omega (arith, many_machines, k.few_machines)

  pub machines_small : All (λ x. x < 256) machines
  machines_small i d l = omega (arith, order_within m speed machines a.machines_by i d l, k.few_machines)

  job_in : All (λ x. x < n) jobs
  job_in = order_within n time jobs a.jobs_by

  work_small : t.work ≤ greatest_work
  work_small = elim a.greatest.reached [
    | inl (e, f) ↦ omega (arith, e, all_small)
    | inr (i, p, q, r, e, f) ↦ omega (arith, e, sum_by-take-le time jobs i, all_small)
  ]
    where
      all_small : sum_by time jobs ≤ greatest_work
      all_small = omega (arith, sum_by-le time GREATEST jobs (λ i d l. (k.times _ 0 (job_in i d l)).1), many_jobs, k.few_jobs)

  work_some : 1 ≤ t.work
  work_some = by t.work (sum_by time jobs) t.speed (sum_by speed machines)
      (let l : 0 < length jobs = omega (arith, many_jobs, a.some_jobs) in le_trans (k.times _ 0 (job_in 0 0 l)).0 (get_or-le-sum_by time jobs 0 0 l))
      a.greatest.some a.greatest.total
    where
      by : (w s v r : ℕ) → 1 ≤ s → 1 ≤ v → s * v ≤ w * r → 1 ≤ w
      by w s v r l p q = grind arith

  -- the first jobs need no more than the first machines can do
  fits : (i : ℕ) → i ≤ length machines → sum_by time (take i jobs) * t.speed ≤ t.work * sum_by speed (take i machines)
  fits i l = by (less_or_not i (length machines)) (less_or_not (length jobs) i)
    where
      by : (i < length machines) ⊎ (length machines ≤ i) → (length jobs < i) ⊎ (i ≤ length jobs) → sum_by time (take i jobs) * t.speed ≤ t.work * sum_by speed (take i machines)
      by (inl b) (inr c) = a.greatest.firsts i b c
      by (inl b) (inl c) =
          subst (λ js. sum_by time js * t.speed ≤ t.work * sum_by speed (take i machines)) (take_all (length jobs) jobs (omega arith) ∙ sym (take_all i jobs (omega (arith, c))))
          (le_trans (a.greatest.firsts (length jobs) (omega (arith, b, c)) (omega arith)) (mul-le-mul_left t.work (take-mono speed (length jobs) i machines (omega (arith, c)))))
      by (inr b) c =
          subst (λ ms. sum_by time (take i jobs) * t.speed ≤ t.work * sum_by speed ms) (sym (take_all i machines b))
          (le_trans (mul-le-mul_right t.speed (sum_by-take-le time jobs i)) a.greatest.total)

  module _ (x : Segment) (long : x.length ≡ t.work) (none : x.body.value.jobs ≡ replicate (length machines) n) (free : x.body.value.free ≡ machines) where
    nothing : (i : ℕ) → i < m → job_on x i ≡ n
    nothing i l = ap (λ js. at js i) none ∙ get_or-replicate (length machines) i n 0 (omega (arith, l, many_machines))

    place_is : (r : ℕ) → place_at x r ≡ at machines r
    place_is r = ap (λ ms. at ms r) free

    first_segment : IsSegment m n speed (length machines) x
    first_segment = record {
      lasts = omega (arith, long, work_some);
      all = ap length none ∙ length-replicate (length machines) n ∙ many_machines;
      jobs = λ i l. omega (arith, nothing i l);
      once = λ i j l b e. nothing i (omega (arith, l, b));
      places = ap length free;
      machines = λ r l. subst (λ p. p < m) (sym (place_is r)) (order_within m speed machines a.machines_by r 0 l);
      idle = λ r l. ap (job_on x) (place_is r) ∙ nothing (at machines r) (order_within m speed machines a.machines_by r 0 l);
      apart = λ q r l b e. order_distinct m speed machines a.machines_by q r 0 l b (sym (place_is q) ∙ e ∙ place_is r);
      falls = λ q r l b. elim (same_or_not q r) [
        | inl e ↦ subst (λ z. speed (place_at x r) ≤ speed (place_at x z)) (sym e) (omega arith)
        | inr d ↦ omega (arith, ap speed (place_is q), ap speed (place_is r), a.machines_by.falls q r 0 (omega (arith, l, d)) b)
      ];
    }

    holds : (r : ℕ) → amount (rate_at speed r) (x ∷ []) ≡ t.work * speed (at machines r)
    holds r = omega (arith, sum_by-cons (λ y. y.length * rate_at speed r y) x [], ap (λ l. l * rate_at speed r x) long, ap (λ p. t.work * speed p) (place_is r))

    all_hold : (i : ℕ) → i ≤ length machines → total_below i (λ r. amount (rate_at speed r) (x ∷ [])) ≡ t.work * sum_by speed (take i machines)
    all_hold i l = total_below-same i _ (λ r. t.work * speed (at machines r)) (λ r b. holds r)
        ∙ total_below-scale i t.work (λ r. speed (at machines r)) ∙ ap (λ s. t.work * s) (first_places speed i machines l)

    all_need : (i : ℕ) → total_below i (works time t.speed jobs) ≡ t.speed * sum_by time (take i jobs)
    all_need i = total_below-scale i t.speed (λ r. at (map time jobs) r) ∙ ap (λ s. t.speed * s) (first_values time i jobs)

    compared : (p q s r : ℕ) → p ≡ t.speed * s → q ≡ t.work * r → s * t.speed ≤ t.work * r → p ≤ q
    compared p q s r e f l = omega (arith, e, f, l)

    first_fit : DoFit (length machines) (λ r. amount (rate_at speed r) (x ∷ [])) (length jobs) (works time t.speed jobs)
    first_fit = record {
      firsts = λ i l. compared _ _ _ _ (all_need i) (all_hold i l) (fits i l);
      all = compared _ _ _ _ (all_need (length jobs)) (all_hold (length machines) (omega arith))
          (subst (λ js. sum_by time js * t.speed ≤ t.work * sum_by speed (take (length machines) machines)) (sym (take_all (length jobs) jobs (omega arith)))
          (subst (λ ms. sum_by time jobs * t.speed ≤ t.work * sum_by speed ms) (sym (take_all (length machines) machines (omega arith))) a.greatest.total));
    }

    reached : IsReached t jobs t.speed (length machines) (x ∷ [])
    reached = record {
      end = t.work;
      plan = record {
        each = All-cons (IsSegment m n speed (length machines)) x [] first_segment (All-nil (IsSegment m n speed (length machines)));
        whole = omega (arith, sum_by-cons (λ y. y.length * 1) x [], long);
        absent = λ i d l. All-cons (IsAbsent m _) x [] (λ q b e. absurd (omega (arith, nothing q b, e, job_in i d l))) (All-nil (IsAbsent m _));
        done = λ j l. inl (OnceBelow-contains (OnceBelow-from_permutation a.jobs_by.all) j l);
        fit = first_fit;
        falls = a.jobs_by.falls;
        apart = order_distinct n time jobs a.jobs_by;
        inside = job_in;
      };
      affordable = record {
        unit_small = subst (λ q. t.speed * gap t.speeds.items ^ (q - 1) * t.multiple ≤ GREATEST_PRODUCT) (sym many_machines) a.small_unit;
        end_small = omega (arith, work_small, a.greatest.some);
        some = a.some;
      };
      least = refl;
      some = a.greatest.some;
      places = omega (arith, many_machines, a.some_machines);
      few = omega (arith, many_machines);
      fewer = omega (arith, many_jobs);
    }

  pub IsReached-first : (unit h : ℕ) (xs : List Segment) → IsFirstPlan t machines unit h xs → IsReached t jobs unit h xs
  IsReached-first unit h xs p = subst (λ ys. IsReached t jobs unit h ys) (sym p.only)
      (subst (λ u. IsReached t jobs u h (p.x ∷ [])) (sym p.unit_is) (subst (λ q. IsReached t jobs t.speed q (p.x ∷ [])) (sym p.places) (reached p.x p.long p.jobs p.free)))

pub only_one : (xs ys : List Segment) (x : Segment) → xs ≡ ys ++ x ∷ [] → ys ≡ [] → xs ≡ x ∷ []
only_one xs ys x e f = e ∙ ap (λ l. l ++ x ∷ []) f

-- the speed below the greatest quotient is at most that of all machines
pub speed_most : (sp jobs machines : List ℕ) (time : ℕ → ℕ) (w v : ℕ) → IsByFalling (length sp) (at sp) machines → IsGreatest time (at sp) jobs machines w v → v ≤ sum sp
speed_most sp jobs machines time w v o g = elim g.reached [
  | inl (a, b) ↦ omega (arith, b, all)
  | inr (k, p, q, r, a, b) ↦ omega (arith, b, sum_by-take-le (at sp) machines k, all)
]
  where
    all : sum_by (at sp) machines ≡ sum sp
    all = sum_by-OnceBelow (at sp) (OnceBelow-from_permutation o.all) ∙ sym (sum_by-places (λ x. x) sp 0)
