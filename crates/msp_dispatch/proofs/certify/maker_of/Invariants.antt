use Rattle.std.proofs.Common.{◌≢◌, ℕ, ◌<◌, get_or}
use Rattle.msp_dispatch.specs.declared.certify.Maker.TheVariants as maker
use Rattle.msp_dispatch.specs.Shown.{class_of}
use Rattle.msp_dispatch.proofs.certify.maker_of.Given as goal

abbrev pub invariant-loop-maker : goal.invariant-loop-maker
invariant-loop-maker l = (k : ℕ) → k < l.maker-index → class_of (get_or l.maker-items k maker.Wrap) ≢ l.class
