use Rattle.msp_cert.proofs.BlockFacts.{no_time}
use Rattle.msp_cert.proofs.block.time_of.Goals as goal

pub returns-in-None : goal.returns-in-None
returns-in-None c = no_time c.args.inst.now c.args.job c.in-None.ensures
