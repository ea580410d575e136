-- Steps of the loops over times, and over jobs and their columns.
use Rattle.std.proofs.Common.{◌≡◌, ℕ, ◌+◌, ◌*◌, ◌-◌, ◌/◌, ◌%◌, ◌<◌, ◌≤◌, Bool, true, false, eqb, List, [], ◌∷◌, ◌++◌, length, get_or, map, All, IsPermutation, refl, sym}
use Rattle.std.proofs.Common.{ap, subst, ◌∙◌, arith}
use Rattle.std.specs.Prelude.{slice_index_or}
use Rattle.std.specs.List.{range_with_len}
use Rattle.std.specs.List.Sorted.{IsNonDecreasingBy}
use Rattle.std.proofs.lemmas.Bool.{eqb-true, eqb-false}
use Rattle.std.proofs.lemmas.Nat.{mul-le}
use Rattle.std.proofs.lemmas.List.{get_or_default, get_or-append_right, get_or_append_left, length-append, length-map, get_or-map}
use Rattle.std.proofs.lemmas.List.Elements.{All-push}
use Rattle.std.proofs.lemmas.List.Sorted.{IsPermutation-map, All-permutation}
use Rattle.std.proofs.Math.Nat.{mul-le-mul_right, mod-lt}
use Rattle.msp_class.specs.declared.sizes.TheConstants.{MOST_JOBS, GREATEST, GREATEST_MULTIPLE}
use Rattle.msp_class.proofs.IntegerRing.{pos-le}
use Rattle.msp_instance.specs.declared.Job.{Job}
use Rattle.msp_instance.specs.declared.Need.{Need}
use Rattle.msp_instance.specs.declared.Instance.{Instance}
use Rattle.msp_instance.specs.Instance.{no_need, no_job, job_at, need_at}
use Rattle.msp_route.proofs.Turns.{turn_inside}
use Rattle.msp_assign.specs.Prices.{HasCosts, column_of}
use Rattle.msp_total.specs.declared.positions.Positions.{Positions}
use Rattle.msp_total.specs.declared.unrelated.Chosen.{Chosen}
use Rattle.msp_total.specs.Positions.{time_in, position_cost}
use Rattle.msp_total.specs.Columns.{HasTimes, HasShortTimes, IsByColumn}

-- ---- times
-- the times of one job more
pub times-next : (i : Instance) (jobs : List Job) (k : ℕ) (j : Job) (needs : List Need) (old new : List ℕ) → jobs ≡ i.jobs → k < length jobs
    → needs ≡ (get_or jobs k j).needs → length needs ≡ i.machines → new ≡ old ++ map (λ n. n.time) needs → HasTimes i k old → HasTimes i (k + 1) new
times-next i jobs k j needs old new e l is count all h = record {
  count = omega (arith, ap length all, length-append old (map (λ n. n.time) needs), h.count, length-map needs (λ n. n.time), count);
  each = λ a m b c. by a m b c (eqb a k) refl;
}
  where
    job_is : (get_or jobs k j).needs ≡ (get_or i.jobs k no_job).needs
    job_is = ap (λ (x : Job). x.needs) (get_or_default jobs k j no_job l ∙ ap (λ xs. get_or xs k no_job) e)

    by : (a m : ℕ) → a < k + 1 → m < i.machines → (b : Bool) → eqb a k ≡ b → time_in i.machines new a m ≡ (need_at i a m).time
    by a m b c true f =
        let same : a ≡ k = eqb-true a k f in
        let rest : a * i.machines + m - k * i.machines ≡ m = omega (arith, ap (λ x. x * i.machines) same) in
        ap (λ xs. get_or xs (a * i.machines + m) 0) all
        ∙ get_or-append_right old (map (λ n. n.time) needs) (k * i.machines) (a * i.machines + m) 0 h.count (omega (arith, ap (λ x. x * i.machines) same))
        ∙ ap (λ x. get_or (map (λ (n : Need). n.time) needs) x 0) rest
        ∙ get_or-map (λ (n : Need). n.time) needs m no_need 0 (omega (arith, c, count))
        ∙ ap (λ xs. (slice_index_or xs m no_need).time) (is ∙ job_is) ∙ ap (λ x. (need_at i x m).time) (sym same)
    by a m b c false f =
        let less : a < k = omega (arith, b, eqb-false a k f) in
        let rows : (a + 1) * i.machines ≤ k * i.machines = mul-le-mul_right i.machines (omega arith) in
        ap (λ xs. get_or xs (a * i.machines + m) 0) all
        ∙ get_or_append_left old (map (λ n. n.time) needs) 0 (a * i.machines + m) (omega (arith, h.count, rows, c))
        ∙ h.each a m less c

pub needs_count : (i : Instance) (jobs : List Job) (k : ℕ) (j : Job) (needs : List Need) → jobs ≡ i.jobs
    → k < length jobs → needs ≡ (get_or jobs k j).needs → ((a : ℕ) → a < length i.jobs → length (job_at i a).needs ≡ i.machines) → length needs ≡ i.machines
needs_count i jobs k j needs e l is h = ap length (is ∙ ap (λ (x : Job). x.needs) (get_or_default jobs k j no_job l ∙ ap (λ xs. get_or xs k no_job) e)) ∙ h k (omega (arith, l, ap length e))

-- ---- columns
-- the machine of a column
pub machine_inside : (each machines c : ℕ) → c < each * machines → c / each < machines
machine_inside each machines c l = turn_inside machines each c (omega (arith, l))

-- ---- costs of a table
pub costs_small : (p : Positions) → (1 ≤ p.jobs) × (p.jobs ≤ MOST_JOBS) → HasShortTimes p → HasCosts p.jobs (p.jobs * p.machines) (position_cost p.jobs p.machines p.times)
costs_small p h short r c l k =
    let bound = mul-le (c % p.jobs + 1) (time_in p.machines p.times r (c / p.jobs)) MOST_JOBS (GREATEST * GREATEST_MULTIPLE)
    (omega (arith, mod-lt c h.0, h.1)) (short r (c / p.jobs) l (machine_inside p.jobs p.machines c k)) in
    (pos-le (omega arith), pos-le (omega (arith, bound)))

-- ---- jobs and columns
abbrev pub HasColumn : List ℕ → Chosen → Type 0
HasColumn column c = c.column ≡ column_of column c.job

pub columns-next : (column : List ℕ) (new old : List Chosen) (x : Chosen) → new ≡ old ++ x ∷ [] → HasColumn column x → All (HasColumn column) old → All (HasColumn column) new
columns-next column new old x e is so_far = subst (All (HasColumn column)) (sym e) (All-push (HasColumn column) old x so_far is)

pub by_column : (column : List ℕ) (all sorted : List Chosen) → map (λ c. c.job) all ≡ range_with_len 0 (length column)
    → All (HasColumn column) all → IsPermutation all sorted → IsNonDecreasingBy (λ c. c.column) sorted → IsByColumn (length column) column sorted
by_column column all sorted e columns p up = record {
  all = subst (λ l. IsPermutation l (map (λ c. c.job) sorted)) e (IsPermutation-map (λ c. c.job) all sorted p);
  columns = All-permutation (HasColumn column) all sorted p columns;
  rising = λ a b d l k. up a b d (omega (arith, l)) k;
}
