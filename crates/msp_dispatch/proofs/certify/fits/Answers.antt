use Rattle.std.proofs.Common.{◌≢◌, refl}
use Rattle.msp_instance.specs.declared.Instance.{Instance}
use Rattle.msp_instance.proofs.Limits.{Inner-from_class}
use Rattle.msp_dispatch.specs.declared.certify.Maker.{Maker}
use Rattle.msp_dispatch.specs.declared.certify.Maker.TheVariants as maker
use Rattle.msp_dispatch.specs.Shown.{FitsMaker}
use Rattle.msp_dispatch.proofs.certify.fits.Goals as goal

pub fits-requires-clause-inner : goal.fits-requires-clause-inner
fits-requires-clause-inner c = Inner-from_class c.args.inst.now c.requires.inside

-- an instance fits each solver without a limit of its own
fits_any : (m : Maker) (i : Instance) → m ≢ maker.UniformCut → FitsMaker m i
fits_any maker.UniformCut i other = absurd (other refl)
fits_any _ i other = tt

pub returns-in_default : goal.returns-in_default
returns-in_default c = (λ _. fits_any c.args.maker c.args.inst.now c.in_default.not-UniformCut, λ _. refl)
