use Rattle.std.proofs.Common.{length, subst, arith, refl, All, Contains}
use Rattle.std.proofs.lemmas.List.{take_all}
use Rattle.msp_instance.specs.Listing.{IsMet}
use Rattle.msp_instance.proofs.SearchLemmas.{IsMeeting-start, IsMeeting-more}
use Rattle.msp_instance.proofs.sequence.meet.Goals as goal

pub loop-a-init : goal.loop-a-init
loop-a-init c = IsMeeting-start (length c.args.seen.now) c.args.seen.now c.args.found.now.items refl c.requires.listing

pub loop-a-preserved : goal.loop-a-preserved
loop-a-preserved c =
    IsMeeting-more (length c.args.seen.now) c.args.leaving.now c.loop-a.a-index _ c.args.found.now.items c.loop-a.seen c.loop-a.found.items _ _ c.loop-a-test.true
    (c.requires.ends c.loop-a.a-index _ c.loop-a-test.true) c.in_ok-note.ensures.seen c.in_ok-note.ensures.found c.loop-a.invariant

pub returns-clause-met : goal.returns-clause-met
returns-clause-met c = subst (All (λ a. Contains c.loop-a.found.items a.after)) (take_all c.loop-a.a-index c.args.leaving.now (omega arith)) c.loop-a.invariant.met

pub returns-clause-only : goal.returns-clause-only
returns-clause-only c = subst (λ l. All (IsMet c.args.found.now.items l) c.loop-a.found.items) (take_all c.loop-a.a-index c.args.leaving.now (omega arith)) c.loop-a.invariant.only
