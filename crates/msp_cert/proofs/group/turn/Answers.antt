use Rattle.msp_cert.proofs.Apart.{turned}
use Rattle.msp_cert.proofs.group.turn.Goals as goal

pub returns-clause-falls : goal.returns-clause-falls
returns-clause-falls c = turned _ _ c.reverse.ensures.items c.requires
