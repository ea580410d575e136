-- One more need has the time 1.
use Rattle.std.proofs.Common.{rules, refl}
use Rattle.msp_instance.specs.Instance.{no_need}
use Rattle.msp_route.proofs.InPlace.{changed_next}
use Rattle.msp_plain.specs.Equal.{unit_need}
use Rattle.msp_plain.proofs.equal.set_times.Goals as goal

pub loop-need-preserved : goal.loop-need-preserved
loop-need-preserved c = changed_next unit_need c.args.needs.now c.loop-need.needs c.loop-need.need-index no_need _ (search rules) c.loop-need.invariant refl
