-- Small instances and schedules that the definitions are tried on.
use Rattle.std.specs.Prelude.{◌≡◌, ℕ, Bool, true, false, List, [], ◌∷◌, pos, negsuc}
use Rattle.msp_class.specs.declared.class.Class.{Class}
use Rattle.msp_class.specs.declared.class.Env.{Env}
use Rattle.msp_class.specs.declared.class.Env.TheVariants.{One, P as Parallel, Q, F2, J2}
use Rattle.msp_class.specs.declared.class.Order.{Order}
use Rattle.msp_class.specs.declared.class.Order.TheVariants.{Free, Prec}
use Rattle.msp_class.specs.declared.class.Times.TheVariants.{General}
use Rattle.msp_class.specs.declared.class.Crit.{Crit}
use Rattle.msp_class.specs.declared.class.Crit.TheVariants.{Cmax, Lmax, Fmax, SumC, SumWC, SumU, SumWU, SumT, SumWT}
use Rattle.msp_instance.specs.declared.Need.{Need}
use Rattle.msp_instance.specs.declared.Job.{Job}
use Rattle.msp_instance.specs.declared.Instance.{Instance}
use Rattle.msp_instance.specs.Instance.{no_curve}
use Rattle.msp_pieces.specs.declared.Piece.{Piece}
use Rattle.msp_pieces.specs.declared.Schedule.{Schedule}
use Rattle.msp_pieces.specs.Cost.{cost_of}

abbrev pub class_of : Env → Bool → Order → Bool → Crit → Class
class_of env cut order heads crit = record { env = env; cut = cut; order = order; heads = heads; times = General; crit = crit }

abbrev pub need : ℕ → ℕ → Need
need machine time = record { machine = machine; time = time }

-- A job with a time and a weight.
abbrev pub job : ℕ → ℕ → Job
job time weight = record { release = 0; due = pos 0; weight = weight; needs = need 0 time ∷ []; curve = no_curve }

-- A piece of operation 0.
abbrev pub piece : ℕ → ℕ → ℕ → ℕ → Piece
piece j machine from to = record { job = j; op = 0; machine = machine; from = pos from; to = pos to }

abbrev pub schedule : List Piece → Schedule
schedule pieces = record { unit = pos 1; pieces = pieces }

-- Weighted completion times on one machine: jobs of 3, 1 and 2 with weights 1, 2 and 2, and the schedule by nonincreasing ratio.
abbrev pub weighted : Instance
weighted = record { class = class_of One false Free false SumWC; machines = 1; speeds = []; jobs = job 3 1 ∷ job 1 2 ∷ job 2 2 ∷ []; arcs = [] }

abbrev pub by_ratio : Schedule
by_ratio = schedule (piece 1 0 0 1 ∷ piece 2 0 1 3 ∷ piece 0 0 3 6 ∷ [])

-- The same with one condition broken: a piece that does not last, a job that is not there, two pieces at once, and half the work.
abbrev pub no_span : Schedule
no_span = schedule (piece 1 0 0 1 ∷ piece 2 0 1 3 ∷ piece 0 0 3 3 ∷ [])

abbrev pub no_place : Schedule
no_place = schedule (piece 1 0 0 1 ∷ piece 2 0 1 3 ∷ piece 3 0 3 6 ∷ [])

abbrev pub at_once : Schedule
at_once = schedule (piece 1 0 0 1 ∷ piece 2 0 0 2 ∷ piece 0 0 3 6 ∷ [])

abbrev pub half_done : Schedule
half_done = schedule (piece 1 0 0 1 ∷ piece 2 0 1 2 ∷ piece 0 0 3 6 ∷ [])

-- Two identical machines and jobs that may be cut, and a job that runs on both at once.
abbrev pub parallel : Instance
parallel = record { class = class_of Parallel true Free false Cmax; machines = 2; speeds = []; jobs = job 3 1 ∷ []; arcs = [] }

abbrev pub on_both : Schedule
on_both = schedule (piece 0 0 0 2 ∷ piece 0 1 1 2 ∷ [])

-- Three machines of different speeds.
abbrev pub three_speeds : Instance
three_speeds = record { class = class_of Q true Free false Cmax; machines = 3; speeds = 5 ∷ 3 ∷ 1 ∷ []; jobs = job 3 1 ∷ []; arcs = [] }

-- A job with a release date, before which it begins.
abbrev pub released : Instance
released = record { class = class_of One false Free true Cmax; machines = 1; speeds = []; jobs = record (job 1 1) { release = 2 } ∷ []; arcs = [] }

abbrev pub too_early : Schedule
too_early = schedule (piece 0 0 1 2 ∷ [])

-- A job that precedes another, in the wrong order.
abbrev pub ordered : Instance
ordered = record { class = class_of One false Prec false Cmax; machines = 1; speeds = []; jobs = job 1 1 ∷ job 1 1 ∷ []; arcs = record { before = 0; after = 1 } ∷ [] }

abbrev pub backward : Schedule
backward = schedule (piece 1 0 0 1 ∷ piece 0 0 1 2 ∷ [])

-- A flow shop of two machines, and a job that takes the second machine first.
abbrev pub flow : Instance
flow = record { class = class_of F2 false Free false Cmax; machines = 2; speeds = []; jobs = record (job 1 1) { needs = need 0 1 ∷ need 1 1 ∷ [] } ∷ []; arcs = [] }

abbrev pub second_first : Schedule
second_first = schedule (record (piece 0 1 0 1) { op = 1 } ∷ piece 0 0 1 2 ∷ [])

-- A job shop of two machines: a job that comes back to the first machine, and a job of the second machine alone.
abbrev pub back_again : Instance
back_again = record {
  class = class_of J2 false Free false Cmax;
  machines = 2;
  speeds = [];
  jobs = record (job 1 1) { needs = need 0 2 ∷ need 1 3 ∷ need 0 4 ∷ [] } ∷ record (job 1 1) { needs = need 1 5 ∷ [] } ∷ [];
  arcs = [];
}

-- Two jobs with due dates 1 and 9, weights 3 and 1, and curves t - 4 with a jump of 10 after 1, and 0: they end at 2 and 3.
abbrev pub two_jobs : Crit → Instance
two_jobs crit = record {
  class = class_of One false Free false crit;
  machines = 1;
  speeds = [];
  jobs = record (job 2 3) { due = pos 1; curve = record { slope = 1; base = negsuc 3; steps = record { above = 1; add = 10 } ∷ [] } } ∷ record (job 1 1) { due = pos 9 } ∷ [];
  arcs = [];
}

abbrev pub one_by_one : Schedule
one_by_one = schedule (piece 0 0 0 2 ∷ piece 1 0 2 3 ∷ [])

-- What that schedule costs by each criterion.
pub record Costs : Type 0 where
  pub cmax : cost_of (two_jobs Cmax) one_by_one ≡ pos 3
  pub lmax : cost_of (two_jobs Lmax) one_by_one ≡ pos 1
  pub fmax : cost_of (two_jobs Fmax) one_by_one ≡ pos 8
  pub sum_c : cost_of (two_jobs SumC) one_by_one ≡ pos 5
  pub sum_wc : cost_of (two_jobs SumWC) one_by_one ≡ pos 9
  pub sum_u : cost_of (two_jobs SumU) one_by_one ≡ pos 1
  pub sum_wu : cost_of (two_jobs SumWU) one_by_one ≡ pos 3
  pub sum_t : cost_of (two_jobs SumT) one_by_one ≡ pos 1
  pub sum_wt : cost_of (two_jobs SumWT) one_by_one ≡ pos 3
