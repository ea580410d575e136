-- The goals of `follow` that are proved by lemmas.
use Rattle.std.proofs.Common.{false, arith}
use Rattle.msp_closure.specs.Tables.{allows}
use Rattle.msp_closure.proofs.RelationLemmas.{room_falls}
use Rattle.msp_closure.proofs.ReachLemmas.{IsPassed-start, IsPassed-next, IsReach-closed}
use Rattle.msp_closure.proofs.reach_bits.follow.Goals as goal

pub passes-init : goal.passes-init
passes-init c = IsPassed-start (allows c.args.rows) c.args.relation.now c.in_ok-last.last c.in_ok-fresh.fresh c.requires.sound
    c.requires.itself (λ x. c.in_ok-last.ensures.each x false) (λ x. c.in_ok-fresh.ensures.each x false)

pub passes-preserved : goal.passes-preserved
passes-preserved c = IsPassed-next (allows c.args.rows) c.passes.relation c.pass.new.relation c.passes.last c.passes.fresh c.pass.new.fresh
    c.in_ok-fresh-2.fresh c.passes.invariant c.pass.ensures.grows c.pass.ensures.closed (λ x. c.in_ok-fresh-2.ensures.each x false)

pub passes-smaller : goal.passes-smaller
passes-smaller c = omega (arith, room_falls c.pass.ensures.rises c.passes-test.true)

pub returns : goal.returns
returns c = IsReach-closed (allows c.args.rows) c.passes.relation c.pass.new.relation c.passes.last c.pass.new.fresh c.passes.invariant.itself
    c.passes.invariant.sound c.pass.ensures.grows c.pass.ensures.closed (c.pass.ensures.quiet c.passes-test.false)
