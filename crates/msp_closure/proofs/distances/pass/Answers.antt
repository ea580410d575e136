-- The goals of `pass` that are proved by lemmas.
use Rattle.std.proofs.Common.{◌<◌, ◌+◌, arith}
use Rattle.msp_closure.specs.declared.distances.TheConstants.{FAR}
use Rattle.msp_closure.proofs.AdvanceLemmas.{Passes-start, Passes-same, Passes-more, Advances-passed}
use Rattle.msp_closure.proofs.distances.pass.Goals as goal
use Rattle.msp_closure.proofs.distances.pass.Goals.{then-visit, else-visit}

pub loop-link-init : goal.loop-link-init
loop-link-init c usable starts are = Passes-start usable c.args.links.now c.args.table.now c.args.level

pub loop-link-preserved : goal.loop-link-preserved
loop-link-preserved c usable starts are =
    let small : c.args.level + 1 < FAR = omega (arith, c.requires.level) in
    let passes = c.loop-link.invariant usable starts are in
    elim c.if-visit.branch [
      | then-visit w ↦ rw (c.visit.ensures.written w.if-visit.true, w.changed-is)
          (Passes-more usable c.args.links.now c.args.table.now c.loop-link.table c.args.level c.loop-link.link-index c.loop-link.changed _ small
          c.loop-link-test.true starts are passes c.visit.ensures.len (c.visit.ensures.far w.if-visit.true) (c.visit.ensures.led w.if-visit.true))
      | else-visit w ↦ rw (c.visit.ensures.same w.if-visit.false, w.changed-is)
          (Passes-same usable c.args.links.now c.args.table.now c.loop-link.table c.args.level c.loop-link.link-index c.loop-link.changed _ small
          c.loop-link-test.true starts are passes (c.visit.ensures.missed w.if-visit.false))
    ]

pub returns : goal.returns
returns c usable starts are = Advances-passed usable starts c.args.links.now c.args.table.now c.loop-link.table c.args.level c.loop-link.link-index c.loop-link.changed
    c.loop-link-test.false are (c.loop-link.invariant usable starts are)
