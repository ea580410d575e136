use Rattle.std.proofs.Common.{◌≢◌, sym, ◌∙◌, get_or, arith}
use Rattle.msp_dispatch.specs.declared.certify.Maker.TheVariants as maker
use Rattle.msp_dispatch.specs.Shown.{class_of}
use Rattle.msp_dispatch.proofs.Picks.{places_next, not_there}
use Rattle.msp_dispatch.proofs.evidence.Certified.{makers, not_made}
use Rattle.msp_dispatch.proofs.certify.maker_of.Goals as goal

pub returns-clause-none : goal.returns-clause-none
returns-clause-none c = not_made c.args.class (λ k l. c.loop-maker.invariant k (omega (arith, c.loop-maker-test.false)))

pub loop-maker-preserved : goal.loop-maker-preserved
loop-maker-preserved c =
    places_next (λ k. class_of (get_or makers k maker.Wrap) ≢ c.args.class) c.loop-maker.maker-index c.loop-maker.invariant
    (λ e. not_there c.is_same.result _ c.if-is_same.false c.is_same.ensures (sym e ∙ sym c.class_of.ensures))
