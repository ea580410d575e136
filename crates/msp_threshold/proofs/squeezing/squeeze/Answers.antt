use Rattle.std.proofs.Common.{refl}
use Rattle.msp_threshold.proofs.Facts.{squeeze_is}
use Rattle.msp_threshold.proofs.squeezing.squeeze.Goals as goal

pub returns : goal.returns
returns c = squeeze_is c.args.kept.now c.args.bound c.moments_until-job.result
    c.args.job.now c.moments_before-job.result _ c.requires.few c.requires.due c.requires.bound c.moments_before-job.ensures c.moments_until-job.ensures refl
