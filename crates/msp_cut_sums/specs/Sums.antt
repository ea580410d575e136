-- The classes that the rules solve, and what their answers cost.
use Rattle.std.specs.Prelude.{◌≡◌, ℕ, ◌+◌, ◌*◌, ◌/◌, ◌<◌, ◌⊎◌, true, false, List, length, pos, slice_index_or, AllPairs, IsPermutation}
use Rattle.std.specs.List.{range_with_len}
use Rattle.msp_class.specs.declared.class.Class.{Class}
use Rattle.msp_class.specs.declared.class.Env.TheVariants.{P, O}
use Rattle.msp_class.specs.declared.class.Order.TheVariants.{Free}
use Rattle.msp_class.specs.declared.class.Times.TheVariants.{General, Unit as UnitTimes, Equal}
use Rattle.msp_class.specs.declared.class.Crit.TheVariants.{SumC, SumWC}
use Rattle.msp_class.specs.Sums.{total_below}
use Rattle.msp_instance.specs.declared.Instance.{Instance}
use Rattle.msp_instance.specs.Instance.{job_at, common_time}
use Rattle.msp_pieces.specs.declared.Frac.{Frac}
use Rattle.msp_pieces.specs.Fraction.{IsOver}
use Rattle.msp_pieces.specs.BackToBack.{time_at}

-- Identical machines, preemption, any times, and the sum of completion times: `P|pmtn|sumC`.
abbrev pub cut_sum_class : Class
cut_sum_class = record { env = P; cut = true; order = Free; heads = false; times = General; crit = SumC }

-- The same with jobs of one time, and weights: `P|pmtn,p=p|sumwC`.
abbrev pub cut_weights_class : Class
cut_weights_class = record { env = P; cut = true; order = Free; heads = false; times = Equal; crit = SumWC }

-- Open shops with operations of one unit of time, and weights: `O|p=1|sumwC`.
abbrev pub open_weights_class : Class
open_weights_class = record { env = O; cut = false; order = Free; heads = false; times = UnitTimes; crit = SumWC }

-- Open shops with preemption, operations of one time, and weights: `O|pmtn,p=p|sumwC`.
abbrev pub cut_open_weights_class : Class
cut_open_weights_class = record { env = O; cut = true; order = Free; heads = false; times = Equal; crit = SumWC }

-- The number at a place of a list, and 0 behind its end.
abbrev pub at : List ℕ → ℕ → ℕ
at xs k = slice_index_or xs k 0

-- All numbers below n, each once, by falling key, ties by number.
pub record IsByFalling (n : ℕ) (key : ℕ → ℕ) (order : List ℕ) : Type 0 where
  pub all : IsPermutation (range_with_len 0 n) order
  pub falls : AllPairs (λ a b. (key b < key a) ⊎ ((key b ≡ key a) × (a < b))) order

-- A sum in blocks of m places: what stands in the first block counts once, in the second one twice, and so on.
abbrev pub in_blocks : ℕ → ℕ → (ℕ → ℕ) → ℕ
in_blocks m n f = total_below n (λ k. (k / m + 1) * f k)

-- The cost is that sum of all times, the longest first, in blocks of as many as there are machines.
abbrev pub IsCutSumCost : Instance → Frac → Type 0
IsCutSumCost i cost = (order : List ℕ) × IsByFalling (length i.jobs) (time_at i) order
    × IsOver cost (pos (in_blocks i.machines (length i.jobs) (λ k. time_at i (at order k)))) (pos 1)

abbrev pub weight_at : Instance → ℕ → ℕ
weight_at i j = (job_at i j).weight

-- The cost is that sum of all weights, the greatest first, times a span.
abbrev pub IsCostOver : Instance → ℕ → Frac → Type 0
IsCostOver i span cost = (order : List ℕ) × IsByFalling (length i.jobs) (weight_at i) order
    × IsOver cost (pos (in_blocks i.machines (length i.jobs) (λ k. span * weight_at i (at order k)))) (pos 1)

-- On identical machines the span is the time that all jobs share, and in open shops that of all operations of a job.
abbrev pub IsWeightsCost : Instance → Frac → Type 0
IsWeightsCost i cost = IsCostOver i (common_time i) cost

abbrev pub IsOpenCost : Instance → Frac → Type 0
IsOpenCost i cost = IsCostOver i (i.machines * common_time i) cost
