use Rattle.msp_cert.proofs.BlockFacts.{no_release}
use Rattle.msp_cert.proofs.block.release_of.Goals as goal

pub returns-in-None : goal.returns-in-None
returns-in-None c = no_release c.args.inst.now c.args.job c.in-None.ensures
