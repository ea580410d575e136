-- The row leads to the class of Smith's rule.
use Rattle.std.proofs.Common.{◌≡◌, false, Some, refl, ap, ◌∙◌}
use Rattle.msp_class.specs.declared.class.Class.{Class}
use Rattle.msp_class.specs.declared.class.Env.TheVariants.{One}
use Rattle.msp_class.specs.declared.class.Order.TheVariants.{Free}
use Rattle.msp_class.specs.declared.class.Times.TheVariants.{Equal}
use Rattle.msp_class.specs.declared.class.Crit.TheVariants.{SumWC}
use Rattle.msp_table.specs.Rows.{goes_of, table}
use Rattle.msp_single.specs.Smith.{smith_class}
use Rattle.msp_tests.proofs.composed.smith_at_equal_times.Goals as goal

abbrev equal_times : Class
equal_times = record { env = One; cut = false; order = Free; heads = false; times = Equal; crit = SumWC }

leads_there : goes_of 53 equal_times ≡ Some smith_class
unfolding goes_of table
leads_there = refl

pub invariant_of-result : goal.invariant_of-result
invariant_of-result c = record { leads = ap (goes_of 53) c.equal_times.ensures ∙ leads_there }
