-- What the optimality criterion reads of a job, and how it joins the jobs.
use Rattle.std.specs.Prelude.{Bool, true, false}
use Rattle.msp_class.specs.declared.class.Crit.{Crit}
use Rattle.msp_class.specs.declared.class.Crit.TheVariants.{Cmax, Lmax, Fmax, SumC, SumWC, SumU, SumWU, SumT, SumWT}

-- whether the criterion uses due dates
abbrev pub uses_due : Crit → Bool
uses_due Cmax = false
uses_due Lmax = true
uses_due Fmax = false
uses_due SumC = false
uses_due SumWC = false
uses_due SumU = true
uses_due SumWU = true
uses_due SumT = true
uses_due SumWT = true

-- whether it uses weights
abbrev pub uses_weight : Crit → Bool
uses_weight Cmax = false
uses_weight Lmax = false
uses_weight Fmax = false
uses_weight SumC = false
uses_weight SumWC = true
uses_weight SumU = false
uses_weight SumWU = true
uses_weight SumT = false
uses_weight SumWT = true

-- whether it uses cost curves
abbrev pub uses_curve : Crit → Bool
uses_curve Cmax = false
uses_curve Lmax = false
uses_curve Fmax = true
uses_curve SumC = false
uses_curve SumWC = false
uses_curve SumU = false
uses_curve SumWU = false
uses_curve SumT = false
uses_curve SumWT = false

-- whether it is the greatest cost of a job, or else the sum of the jobs' costs
abbrev pub is_greatest : Crit → Bool
is_greatest Cmax = true
is_greatest Lmax = true
is_greatest Fmax = true
is_greatest SumC = false
is_greatest SumWC = false
is_greatest SumU = false
is_greatest SumWU = false
is_greatest SumT = false
is_greatest SumWT = false
