-- Jobs that begin on one machine at moments of their own: their operations, each on the machine of its number and as many units of time
-- later, make a feasible schedule of a flow shop.
use Rattle.std.proofs.Common.{◌≡◌, ℕ, ◌+◌, ◌*◌, ◌/◌, ◌%◌, ◌<◌, ◌≤◌, ◌⊎◌, inl, inr, Bool, length, pos, ◌≤ℤ◌, refl, sym, ap, subst, arith}
use Rattle.std.proofs.lemmas.Nat.{mul-le}
use Rattle.std.proofs.lemmas.Bool.{cases_lt}
use Rattle.std.proofs.lemmas.Int.{ints}
use Rattle.msp_class.specs.declared.sizes.TheConstants.{MOST_JOBS, MOST_MACHINES, GREATEST}
use Rattle.msp_class.proofs.Quotients.{rest_small}
use Rattle.msp_instance.specs.declared.Instance.{Instance}
use Rattle.msp_pieces.specs.Cost.{end_of}
use Rattle.msp_pieces.specs.Feasible.{Feasible, MayRun}
use Rattle.msp_route.proofs.Turns.{turn_inside, later_rest}
use Rattle.msp_route.specs.Bounds.{IsAnswer, answer_unit}
use Rattle.msp_route.proofs.Placed.{Places, schedule_at, ArePlaced, placed_is_feasible, placed_is_answer, placed_ends}
use Rattle.msp_slots.proofs.Begins.{head_at}
use Rattle.msp_total.proofs.LineFacts.{IsLineShop, own, ones, operations, line_operations}

pub record AreLineBegins (i : Instance) (begin : ℕ → ℕ) : Type 0 where
  pub released : (j : ℕ) → j < length i.jobs → head_at i j ≤ begin j
  pub apart : (a b : ℕ) → a < length i.jobs → b < length i.jobs → begin a ≡ begin b → a ≡ b
  pub early : (j : ℕ) → j < length i.jobs → begin j ≤ 4 * GREATEST

-- m places for each job, one for each operation
abbrev pub lines_at : Instance → (ℕ → ℕ) → Places
lines_at i begin = record {
  count = length i.jobs * i.machines;
  job = λ x. x / i.machines;
  op = λ x. x % i.machines;
  machine = λ x. x % i.machines;
  from = λ x. begin (x / i.machines) + x % i.machines;
  to = λ x. begin (x / i.machines) + x % i.machines + 1;
}

module _ (i : Instance) (late : Bool) (h : IsLineShop i late) (begin : ℕ → ℕ) (own_begins : AreLineBegins i begin) where
  abbrev n : ℕ
  n = length i.jobs

  abbrev m : ℕ
  m = i.machines

  on : (x : ℕ) → x % m < m
  on x = rest_small m x h.machine

  job_inside : (x : ℕ) → x < n * m → x / m < n
  job_inside x b = turn_inside n m x b

  apart : (x y : ℕ) → x < y → y < n * m → x % m ≡ y % m → (begin (x / m) + x % m + 1 ≤ begin (y / m) + y % m) ⊎ (begin (y / m) + y % m + 1 ≤ begin (x / m) + x % m)
  apart x y l b e = by (cases_lt (begin (x / m)) (begin (y / m))) (cases_lt (begin (y / m)) (begin (x / m)))
    where
      never : x / m ≡ y / m → ⊥
      never same = omega (arith, later_rest m x y l same, e)

      by : (begin (x / m) < begin (y / m)) ⊎ (begin (y / m) ≤ begin (x / m)) → (begin (y / m) < begin (x / m)) ⊎ (begin (x / m) ≤ begin (y / m))
          → (begin (x / m) + x % m + 1 ≤ begin (y / m) + y % m) ⊎ (begin (y / m) + y % m + 1 ≤ begin (x / m) + x % m)
      by (inl g) o = inl (omega (arith, g, e))
      by (inr g) (inl o) = inr (omega (arith, o, e))
      by (inr g) (inr o) = absurd (never (own_begins.apart (x / m) (y / m) (job_inside x (omega (arith, l, b))) (job_inside y b) (omega (arith, o, g))))

  follows : (x y : ℕ) → x / m ≡ y / m → x % m < y % m → begin (x / m) + x % m + 1 ≤ begin (y / m) + y % m
  follows x y e l = omega (arith, ap begin e, l)

  placed : ArePlaced i m (lines_at i begin)
  placed = record {
    count = refl;
    few = omega (arith, mul-le n m MOST_JOBS MOST_MACHINES h.few h.machines);
    job_inside = job_inside;
    op_inside = λ x b. on x;
    operation = λ x b. operations i late h (x / m) (x % m) (job_inside x b) (on x);
    may = λ x b. subst (λ k. MayRun k i (x / m) (x % m) (x % m)) (sym h.kind) (sym (own i late h (x / m) (x % m) (job_inside x b) (on x)));
    once = λ x y l b e f. omega (arith, f, later_rest m x y l e);
    long = λ x b. omega (arith, ones i late h (x / m) (x % m) (job_inside x b) (on x));
    some = λ x b. omega (arith, ones i late h (x / m) (x % m) (job_inside x b) (on x));
    on_machine = apart;
    of_job = λ x y l b e. inl (follows x y e (later_rest m x y l e));
    routed = λ _ x y b c e l. follows x y e l;
    released = λ x b. omega (arith, own_begins.released (x / m) (job_inside x b));
    early = λ x b. omega (arith, own_begins.early (x / m) (job_inside x b), on x, h.machines);
  }

  pub lines_feasible : Feasible i (schedule_at (lines_at i begin))
  lines_feasible = placed_is_feasible i m (lines_at i begin) (line_operations i late h) placed

  pub lines_answer : IsAnswer i (schedule_at (lines_at i begin))
  lines_answer = placed_is_answer i m (lines_at i begin) (line_operations i late h) placed (subst (λ k. pos 1 ≤ℤ answer_unit k) (sym h.kind) (omega (arith, ints)))

  -- a job ends as many units of time after its begin as there are machines
  pub lines_end : (j : ℕ) → j < n → end_of (schedule_at (lines_at i begin)) j ≤ℤ pos (begin j + m)
  lines_end j l = placed_ends i m (lines_at i begin) (line_operations i late h) placed j (begin j + m) (λ x b e. omega (arith, ap begin e, on x))
