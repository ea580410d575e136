use Rattle.msp_schedule.proofs.judging.FirstBreaks.{not_feasible}
use Rattle.msp_schedule.proofs.judging.OneBreak.{one_break}
use Rattle.msp_schedule.proofs.judging.SomeBreak.{some_break}
use Rattle.msp_schedule.proofs.laws.law_of_first_break.Goals as goal

pub returns : goal.returns
returns c = record { one = one_break; some = λ i s unit natural. (not_feasible i s, some_break i s unit natural) }
