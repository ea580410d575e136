-- The law of prices: what jobs on unrelated machines cost at least, by prices of the jobs and of their positions.
use Rattle.std.specs.Prelude.{◌≡◌, ℕ, ◌+◌, ◌*◌, ◌<◌, false, length, map, ℤ, pos, ◌+ℤ◌, ◌*ℤ◌, ◌≤ℤ◌}
use Rattle.std.specs.List.{range_with_len}
use Rattle.msp_class.specs.declared.environments.EnvKind.TheVariants.{Unrelated}
use Rattle.msp_class.specs.declared.class.Crit.TheVariants.{SumC}
use Rattle.msp_class.specs.Env.{kind_of}
use Rattle.msp_instance.specs.declared.Instance.{Instance}
use Rattle.msp_instance.specs.Instance.{need_at}
use Rattle.msp_pieces.specs.declared.Schedule.{Schedule}
use Rattle.msp_pieces.specs.Feasible.{Feasible, total}
use Rattle.msp_pieces.specs.Cost.{cost_of}

-- Prices of the jobs, and of the positions on each machine: `position m k` is the price of the position on machine m that k jobs follow.
-- A job there lengthens the sum of completion times by its time on the machine, once for itself and once for each job that follows. The
-- prices of a job and of a position together are at most that, and no position has a price above 0.
pub record ArePrices (i : Instance) (job : ℕ → ℤ) (position : ℕ → ℕ → ℤ) : Type 0 where
  pub low : (m k : ℕ) → m < i.machines → k < length i.jobs → position m k ≤ℤ pos 0
  pub fair : (j m k : ℕ) → j < length i.jobs → m < i.machines → k < length i.jobs → (job j +ℤ position m k) ≤ℤ pos ((k + 1) * (need_at i j m).time)

-- The prices of the jobs together, those of the positions of a machine, and all prices.
abbrev pub prices_of_jobs : Instance → (ℕ → ℤ) → ℤ
prices_of_jobs i job = total (map job (range_with_len 0 (length i.jobs)))

abbrev pub prices_on_machine : Instance → (ℕ → ℕ → ℤ) → ℕ → ℤ
prices_on_machine i position m = total (map (position m) (range_with_len 0 (length i.jobs)))

abbrev pub all_prices : Instance → (ℕ → ℤ) → (ℕ → ℕ → ℤ) → ℤ
all_prices i job position = prices_of_jobs i job +ℤ total (map (prices_on_machine i position) (range_with_len 0 i.machines))

-- The law of prices: where jobs run on unrelated machines and may not be cut, no feasible schedule over any unit has a smaller sum of
-- completion times than all prices together, times the unit.
abbrev pub LawOfPrices : Type 0
LawOfPrices = (i : Instance) (s : Schedule) (job : ℕ → ℤ) (position : ℕ → ℕ → ℤ) → kind_of i.class.env ≡ Unrelated → i.class.cut ≡ false → i.class.crit ≡ SumC
    → Feasible i s → ArePrices i job position → (s.unit *ℤ all_prices i job position) ≤ℤ cost_of i s
