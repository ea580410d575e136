-- The machines are uniform.
use Rattle.msp_machines.specs.laws.Stretched.{led_26}
use Rattle.msp_machines.proofs.unrelated.Row26Reduction.down.Goals as goal

pub led_by_speeds-requires-clause-uniform : goal.led_by_speeds-requires-clause-uniform
led_by_speeds-requires-clause-uniform c = (led_26 c.args.inst.now c.requires.inner c.requires.applies).from
