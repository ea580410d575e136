-- The machines are uniform.
use Rattle.msp_machines.specs.laws.Stretched.{led_27}
use Rattle.msp_machines.proofs.unrelated.Row27Reduction.down.Goals as goal

pub led_by_speeds-requires-clause-uniform : goal.led_by_speeds-requires-clause-uniform
led_by_speeds-requires-clause-uniform c = (led_27 c.args.inst.now c.requires.inner c.requires.applies).from
