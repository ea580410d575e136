-- The goals of `all` that are proved by lemmas.
use Rattle.std.proofs.Common.{refl, ap, sym, subst₂, arith}
use Rattle.msp_closure.proofs.OutlookLemmas.{IsStart, IsStart-start, IsStart-next, IsWalk-start}
use Rattle.msp_closure.proofs.outlook.Met.all.Goals as goal

pub loop-c-init : goal.loop-c-init
loop-c-init c = subst₂ (λ xs ls. IsStart c.args.classes.now xs c.in_ok-new.field-0 ls 0) (sym c.new.ensures.items) (sym c.new-3.ensures.items)
    (IsStart-start c.args.classes.now c.in_ok-new.field-0 c.in_ok-new.ensures.each)

pub loop-c-preserved : goal.loop-c-preserved
loop-c-preserved c = IsStart-next c.args.classes.now _ _ _ _ _ _ c.loop-c.c-index _ _ (omega arith) refl c.in_ok-meet.ensures.grows
    c.in_ok-meet.ensures.flagged (ap (λ v. v.items) c.in_ok-meet.ensures.links) c.loop-c.invariant

pub returns : goal.returns
returns c usable = IsWalk-start usable c.args.classes.now _ _ _ c.loop-c.c-index c.loop-c-test.false c.loop-c.invariant
