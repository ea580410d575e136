-- How each row translates costs. The instance to which it leads is `lower_of`, in the specs of msp_carry.
use Rattle.std.specs.Prelude.{ℕ, ◌*◌, ◌%◌, ◌==◌, ◌||◌, List, ℤ, pos, map, fold, find, unwrap_or, if◌then◌else◌}
use Rattle.std.specs.List.{list_all, range_with_len}
use Rattle.msp_class.specs.declared.class.Crit.{Crit}
use Rattle.msp_class.specs.declared.class.Crit.TheVariants.{Cmax, Lmax, Fmax, SumC, SumWC, SumU, SumWU, SumT, SumWT}
use Rattle.msp_instance.specs.declared.Instance.{Instance}
use Rattle.msp_instance.specs.Instance.{common_time}
use Rattle.msp_pieces.specs.Cost.{greatest}
use Rattle.msp_route.specs.Law.{Rate}
use Rattle.msp_route.specs.Changes.{same_costs}

-- The least common multiple of numbers from 1 on: the first of 1, 2 and so on, up to their product, that each of them divides.
unfoldable pub least_common_multiple : List ℕ → ℕ
least_common_multiple xs = unwrap_or (find (λ n. list_all (λ x. n % x == 0) xs) (range_with_len 1 (fold ◌*◌ 1 xs))) 1

-- By how much costs grow where all times are multiplied by the factor: a number of late jobs stays.
abbrev pub cost_factor : Crit → ℕ → ℕ
cost_factor Cmax factor = factor
cost_factor Lmax factor = factor
cost_factor Fmax factor = factor
cost_factor SumC factor = factor
cost_factor SumWC factor = factor
cost_factor SumU factor = 1
cost_factor SumWU factor = 1
cost_factor SumT factor = factor
cost_factor SumWT factor = factor

-- Costs where all times are multiplied by the least common multiple of the speeds.
abbrev pub speed_rate : Instance → Rate
speed_rate i = record { factor = cost_factor i.class.crit (least_common_multiple i.speeds); addend = pos 0; scale = 1 }

-- The greatest due date.
abbrev pub greatest_due : Instance → ℤ
greatest_due i = greatest (map (λ j. j.due) i.jobs)

-- Costs below are greater by the addend.
abbrev pub raised_costs : ℤ → Rate
raised_costs addend = record { factor = 1; addend = addend; scale = 1 }

-- A cost below, multiplied by the common time, stands for the cost above.
abbrev pub by_common_time : Instance → Rate
by_common_time i = record { factor = 1; addend = pos 0; scale = common_time i }

-- The table: factor, addend and scale of each row. Costs stay but over the rows from uniform to unrelated machines, from due dates to
-- release dates, and from equal to unit times.
abbrev pub rate_of : ℕ → Instance → Rate
rate_of row i =
    if row == 26 || row == 27 then speed_rate i
    else if row == 48 then raised_costs (greatest_due i)
    else if row == 54 then by_common_time i
    else same_costs
