use Rattle.std.proofs.Common.{rules}
use Rattle.msp_uniform.proofs.uniform_cut.schedule_of.Goals as goal

pub returns : goal.returns
returns c = (c.in_ok-filled.filled.unit, c.in_ok-filled.filled.segments.items, c.in_ok-filled.ensures, search rules, search rules)
