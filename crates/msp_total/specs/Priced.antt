-- What the prices of the jobs and positions on unrelated machines show, and which assignment they are of.
use Rattle.std.specs.Prelude.{◌≡◌, ℕ, ◌+◌, ◌*◌, ◌/◌, ◌%◌, ◌<◌, ◌≤◌, ℤ, pos, length, ◌+ℤ◌, ◌*ℤ◌, unsigned_abs, Contains}
use Rattle.msp_instance.specs.declared.Instance.{Instance}
use Rattle.msp_instance.specs.Instance.{need_at}
use Rattle.msp_pieces.specs.declared.Schedule.{Schedule}
use Rattle.msp_pieces.specs.Cost.{cost_of, Best}
use Rattle.msp_pieces.specs.Prices.{ArePrices, all_prices}
use Rattle.msp_assign.specs.declared.assignment.Assignment.{Assignment}
use Rattle.msp_assign.specs.Prices.{IsAssigned, IsLeast, HasFreeColumn, column_of, price_at}

-- The price of the position on machine m that k jobs follow.
abbrev pub position_price : Instance → Assignment → ℕ → ℕ → ℤ
position_price i a m k = price_at a.column_price (m * length i.jobs + k)

-- The prices keep the law of prices, and all together are what each best schedule costs, times its unit.
pub record ArePricesOfBest (i : Instance) (a : Assignment) : Type 0 where
  pub rows : length a.row_price ≡ length i.jobs
  pub columns : length a.column_price ≡ length i.jobs * i.machines
  pub fit : ArePrices i (price_at a.row_price) (position_price i a)
  pub free : HasFreeColumn (length i.jobs * i.machines) a
  pub best : (s : Schedule) → Best i s → cost_of i s ≡ s.unit *ℤ all_prices i (price_at a.row_price) (position_price i a)

-- What the job costs at the position of the column: its time on the machine, once for itself and once for each job that follows it there.
abbrev pub cost_at : Instance → ℕ → ℕ → ℤ
cost_at i j c = pos ((c % length i.jobs + 1) * (need_at i j (c / length i.jobs)).time)

-- Each job has a position of its own, and its price and that of the position are together what it costs there. The price of a position that
-- no job has is 0. So no assignment of the jobs to positions costs less.
pub record TakePositions (i : Instance) (a : Assignment) : Type 0 where
  pub assigned : IsAssigned (length i.jobs) (length i.jobs * i.machines) a.column
  pub exact : (j : ℕ) → j < length i.jobs → price_at a.row_price j +ℤ price_at a.column_price (column_of a.column j) ≡ cost_at i j (column_of a.column j)
  pub unused : (m k : ℕ) → m < i.machines → k < length i.jobs → ¬ Contains a.column (m * length i.jobs + k) → position_price i a m k ≡ pos 0
  pub least : IsLeast (length i.jobs) (length i.jobs * i.machines) (cost_at i) a.column

-- No price is larger, in size, than the longest time, as many times as there are jobs.
pub record AreSmallPrices (i : Instance) (a : Assignment) (most : ℕ) : Type 0 where
  pub rows : (j : ℕ) → j < length i.jobs → unsigned_abs (price_at a.row_price j) ≤ length i.jobs * most
  pub columns : (c : ℕ) → c < length i.jobs * i.machines → unsigned_abs (price_at a.column_price c) ≤ length i.jobs * most

abbrev pub KeepsPricesSmall : Instance → Assignment → Type 0
KeepsPricesSmall i a = (most : ℕ) → ((j m : ℕ) → j < length i.jobs → m < i.machines → (need_at i j m).time ≤ most) → AreSmallPrices i a most
