-- The instance under another class, and costs that stay.
use Rattle.std.specs.Prelude.{ℕ, pos, unwrap_or}
use Rattle.msp_instance.specs.declared.Instance.{Instance}
use Rattle.msp_table.specs.Rows.{goes_of}
use Rattle.msp_route.specs.Law.{Rate}

-- The instance under the class to which the row leads.
abbrev pub led : ℕ → Instance → Instance
led row i = record i { class = unwrap_or (goes_of row i.class) i.class }

-- Costs stay.
abbrev pub same_costs : Rate
same_costs = record { factor = 1; addend = pos 0; scale = 1 }
