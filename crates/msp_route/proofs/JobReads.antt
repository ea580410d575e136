-- Jobs read by their numbers: their times, where they run one after another, and the size of their costs.
use Rattle.std.proofs.Common.{◌≡◌, ℕ, ◌+◌, ◌*◌, ◌<◌, ◌≤◌, inr, List, [], length, get_or, take, sum_by, pos, All, sym, ap, ◌∙◌, subst, arith, slice_index_or}
use Rattle.std.proofs.lemmas.Int.{ints}
use Rattle.std.proofs.lemmas.List.{get_or_default}
use Rattle.msp_class.specs.declared.sizes.TheConstants.{GREATEST}
use Rattle.msp_class.proofs.Sums.{sum_by-take_more}
use Rattle.msp_instance.specs.declared.Job.{Job}
use Rattle.msp_instance.specs.declared.Instance.{Instance}
use Rattle.msp_instance.specs.Instance.{no_need, no_job, job_at}
use Rattle.msp_instance.specs.Conditions.{Inner}
use Rattle.msp_pieces.specs.declared.Schedule.{Schedule}
use Rattle.msp_pieces.specs.Within.{Within, HasSmallCost}
use Rattle.msp_pieces.specs.BackToBack.{time_at}
use Rattle.msp_pieces.proofs.costs.Small.{small_costs}

-- a job of the list, read by its number
pub read_job : (i : Instance) (jobs : List Job) (k : ℕ) (j : Job) → jobs ≡ i.jobs → k < length jobs → j ≡ get_or jobs k j → j ≡ job_at i k
read_job i jobs k j e l is = is ∙ get_or_default jobs k j no_job l ∙ ap (λ xs. get_or xs k no_job) e

-- the end after one more job
pub ends-next : (p : ℕ → ℕ) (order : List ℕ) (k j moment end : ℕ)
    → end ≡ moment + p j → k < length order → j ≡ get_or order k 0 → moment ≡ sum_by p (take k order) → end ≡ sum_by p (take (k + 1) order)
ends-next p order k j moment end is l at ends = omega (arith, ends, is, ap p at, sum_by-take_more p order k 0 l)

-- the time that was read of the job j
pub time_read : (i : Instance) (jobs : List Job) (j time : ℕ) (job : Job)
    → jobs ≡ i.jobs → j < length i.jobs → job ≡ get_or jobs j job → time ≡ (slice_index_or job.needs 0 no_need).time → time ≡ time_at i j
time_read i jobs j time job e l at is =
    let same : length jobs ≡ length i.jobs = ap length e in
    is ∙ ap (λ y. (slice_index_or y.needs 0 no_need).time) (read_job i jobs j job e (omega arith) at)

pub ends_early : (i : Instance) (j k moment time : ℕ) → All (λ y. (0 < length y.needs) × ((slice_index_or y.needs 0 no_need).time ≤ GREATEST)) i.jobs
    → j < length i.jobs → time ≡ time_at i j → moment ≤ GREATEST * k → moment + time ≤ GREATEST * (k + 1)
ends_early i j k moment time h l is early = omega (arith, (h j no_job l).1)

-- over the unit 1 the costs of its jobs are small
abbrev idle : Schedule
idle = record { unit = pos 1; pieces = [] }

idle_is_within : (i : Instance) → Within i idle
idle_is_within i = record {
  unit = (omega (arith, ints), omega (arith, ints));
  few = omega arith;
  moments = λ k d l. absurd (omega (arith, l));
  scaled = λ e. inr (omega (arith, ints));
}

pub small_job : (i : Instance) → Inner i → (jobs : List Job) (k : ℕ) (j : Job) → jobs ≡ i.jobs → j ≡ get_or jobs k j → k < length i.jobs → HasSmallCost (pos 1) j
small_job i inner jobs k j same is l = subst (HasSmallCost (pos 1)) (sym (is ∙ ap (λ xs. get_or xs k j) same)) (small_costs i idle inner (idle_is_within i) k j l)
