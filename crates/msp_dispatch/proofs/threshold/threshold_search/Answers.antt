-- The row leads to the class of weighted late jobs.
use Rattle.std.proofs.Common.{◌≡◌, Some, refl}
use Rattle.msp_table.specs.Rows.{goes_of, table}
use Rattle.msp_threshold.specs.Squeezed.{late_count_class}
use Rattle.msp_total.specs.Slots.{late_jobs_class}
use Rattle.msp_dispatch.proofs.threshold.threshold_search.Goals as goal

leads_there : goes_of 14 late_count_class ≡ Some late_jobs_class
unfolding goes_of table
leads_there = refl

pub invariant_of-result : goal.invariant_of-result
invariant_of-result c = record { leads = leads_there }
