-- Chains of carrying rows, and the instances at their ends.
use Rattle.std.specs.Prelude.{ℕ, ◌≤◌, ◌==◌, nat_le, ◌&&◌, ◌||◌, List, [], ◌∷◌, length, if◌then◌else◌}
use Rattle.msp_class.specs.declared.class.Class.{Class}
use Rattle.msp_class.specs.declared.ranks.TheConstants.{CLASSES}
use Rattle.msp_instance.specs.declared.Instance.{Instance}
use Rattle.msp_table.specs.Rows.{carries}
use Rattle.msp_table.specs.Chains.{Leads}
use Rattle.msp_route.specs.Changes.{led}
use Rattle.msp_plain.specs.Changes.{led_by_curves}
use Rattle.msp_plain.specs.Equal.{led_to_unit}
use Rattle.msp_machines.specs.Machines.{led_at_equal_speeds, led_to_two_machines}
use Rattle.msp_machines.specs.Shops.{with_idle_machine, without_empty_operations}
use Rattle.msp_machines.specs.Unrelated.{led_to_each, led_by_speeds}
use Rattle.msp_turn.specs.Reversal.{led_turned, led_to_due_dates, led_to_release_dates}
use Rattle.msp_turn.specs.Exchanged.{exchanged}

-- The instance to which a carrying row leads. How costs are translated is `rate_of`, in the specs of msp_route.
unfoldable pub lower_of : ℕ → Instance → Instance
lower_of row i =
    if row == 9 then led_by_curves i
    else if row == 20 || row == 21 then led_at_equal_speeds row i
    else if row == 23 || row == 24 then led_to_each row i
    else if row == 26 || row == 27 then led_by_speeds row i
    else if nat_le 28 row && nat_le row 31 then with_idle_machine row i
    else if row == 34 then led_to_two_machines row i
    else if row == 39 || row == 40 then without_empty_operations row i
    else if row == 45 || row == 46 then led_turned row i
    else if row == 47 then led_to_due_dates i
    else if row == 48 then led_to_release_dates i
    else if row == 51 || row == 52 then exchanged row i
    else if row == 54 then led_to_unit i
    else led row i

-- The instance at the end of a chain.
abbrev pub carried : List ℕ → Instance → Instance
carried [] i = i
carried (row ∷ rows) i = carried rows (lower_of row i)

-- The rows are a chain of carrying rows from the class of the instance to the last class, of at most as many rows as there are classes.
pub record IsChainTo (i : Instance) (rows : List ℕ) (last : Class) : Type 0 where
  pub leads : Leads carries i.class rows last
  pub few : length rows ≤ CLASSES

-- The rows are such a chain to some class.
abbrev pub IsChain : Instance → List ℕ → Type 0
IsChain i rows = (last : Class) × IsChainTo i rows last
