use Rattle.msp_levels.proofs.JobLevels.{no_level}
use Rattle.msp_levels.proofs.level.no_levels.Goals as goal

pub returns : goal.returns
returns c k = no_level k
