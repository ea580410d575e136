-- One step of the loop that lays jobs back to back, at the numbers as the code passes them.
use Rattle.std.proofs.Common.{◌≡◌, ℕ, ◌+◌, ◌*◌, ◌<◌, ◌≤◌, List, [], ◌∷◌, ◌++◌, length, get_or, take, sum_by, pos, ℤ, ◌≤ℤ◌, unsigned_abs, All, sym, ap, ◌∙◌, arith, slice_index_or}
use Rattle.std.proofs.lemmas.Int.{ints}
use Rattle.std.proofs.lemmas.List.{take_more}
use Rattle.std.proofs.lemmas.Nat.{mul-le}
use Rattle.msp_pieces.specs.BackToBack.{back_to_back, piece, time_at, schedule_in_order}
use Rattle.msp_pieces.proofs.lists.BackToBack.{back_to_back-append}
use Rattle.msp_instance.specs.declared.Job.{Job}
use Rattle.msp_instance.specs.declared.Instance.{Instance}
use Rattle.msp_instance.specs.Instance.{no_need, no_job}
use Rattle.msp_pieces.specs.declared.Piece.{Piece}
use Rattle.msp_class.specs.declared.sizes.TheConstants.{MOST_JOBS, GREATEST, GREATEST_UNIT}
use Rattle.msp_route.proofs.JobReads.{read_job}
use Rattle.msp_pieces.proofs.changes.LineUp.{back_to_back_agree}

-- the pieces so far, and the moment at which the last of them ends
pub laid-next : (p : ℕ → ℕ) (new old : List Piece) (order : List ℕ) (k j moment end : ℕ) (from to : ℤ) →
    new ≡ old ++ record { job = j; op = 0; machine = 0; from = from; to = to } ∷ [] → from ≡ pos moment → to ≡ pos end → end ≡ moment + p j → k < length order → j ≡ get_or order k 0 →
    moment ≡ sum_by p (take k order) → old ≡ back_to_back piece p 0 (take k order) → new ≡ back_to_back piece p 0 (take (k + 1) order)
laid-next p new old order k j moment end from to e f t is l at ends so_far =
    let one : take (k + 1) order ≡ take k order ++ j ∷ [] = take_more order k 0 l ∙ ap (λ x. take k order ++ x ∷ []) (sym at) in
    let sum : 0 + sum_by p (take k order) ≡ moment = omega (arith, ends) in
    e ∙ ap (λ x. old ++ record { job = j; op = 0; machine = 0; from = x; to = to } ∷ []) f
    ∙ ap (λ x. old ++ record { job = j; op = 0; machine = 0; from = pos moment; to = x } ∷ []) (t ∙ ap pos is)
    ∙ ap (λ l. l ++ piece j moment (moment + p j) ∷ []) so_far
    ∙ ap (λ n. back_to_back piece p 0 (take k order) ++ piece j n (n + p j) ∷ []) (sym sum)
    ∙ sym (back_to_back-append piece p 0 (take k order) (j ∷ []))
    ∙ ap (back_to_back piece p 0) (sym one)

-- how long the job j lasts over the unit, read of the job
pub length_read : (i : Instance) (unit : ℕ) (jobs : List Job) (j length_is : ℕ) (job : Job) → jobs ≡ i.jobs
    → j < length i.jobs → job ≡ get_or jobs j job → length_is ≡ unit * (slice_index_or job.needs 0 no_need).time → length_is ≡ unit * time_at i j
length_read i unit jobs j length_is job e l at is =
    let same : length jobs ≡ length i.jobs = ap length e in
    is ∙ ap (λ y. unit * (slice_index_or y.needs 0 no_need).time) (read_job i jobs j job e (omega arith) at)

abbrev pub greatest_length : ℕ
greatest_length = unsigned_abs GREATEST_UNIT * GREATEST

pub short_length : (i : Instance) (unit : ℕ) → pos unit ≤ℤ GREATEST_UNIT → (j : ℕ) → time_at i j ≤ GREATEST → unit * time_at i j ≤ greatest_length
short_length i unit h j t =
    let small : unit ≤ unsigned_abs GREATEST_UNIT = omega (arith, ints) in
    omega (arith, mul-le unit (time_at i j) (unsigned_abs GREATEST_UNIT) GREATEST small t)

-- the moment stays early
pub moment-next : (i : Instance) (unit k count moment length_is j : ℕ)
    → pos unit ≤ℤ GREATEST_UNIT → All (λ a. (0 < length a.needs) × ((slice_index_or a.needs 0 no_need).time ≤ GREATEST)) i.jobs → j < length i.jobs →
    length_is ≡ unit * time_at i j → moment ≤ greatest_length * k → k < count → count ≤ MOST_JOBS
    → (moment + length_is ≤ greatest_length * (k + 1)) × (moment + length_is ≤ MOST_JOBS * greatest_length)
moment-next i unit k count moment length_is j u needs l is early inside few = let short = short_length i unit u j (needs j no_job l).1 in (omega arith, omega arith)

-- over the unit 1 the pieces that last the times are the schedule's
pub as_schedule : (i : Instance) (made : List Piece) (order : List ℕ) → made ≡ back_to_back piece (λ j. 1 * time_at i j) 0 order → record { unit = pos 1; pieces = made } ≡ schedule_in_order i order
as_schedule i made order e =
    ap (λ ps. record { unit = pos 1; pieces = ps }) (e ∙ back_to_back_agree (λ j. 1 * time_at i j) (time_at i) 0 order (λ k d l. omega arith))
