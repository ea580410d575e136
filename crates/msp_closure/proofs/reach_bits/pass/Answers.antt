-- The goals of `pass` that are proved by lemmas.
use Rattle.std.proofs.Common.{◌≡◌, ◌+◌, Bool, subst, arith}
use Rattle.msp_class.specs.declared.ranks.TheConstants.{CLASSES}
use Rattle.msp_class.specs.Rank.{rank_of}
use Rattle.msp_closure.specs.Tables.{allows}
use Rattle.msp_closure.specs.Relation.{Rises}
use Rattle.msp_closure.proofs.ReachLemmas.{Passed-start, Passed-more, Passed-same, Passed-closed}
use Rattle.msp_closure.proofs.reach_bits.pass.Goals as goal
use Rattle.msp_closure.proofs.reach_bits.pass.Goals.{then-join_class, else-join_class}

pub loop-n-init : goal.loop-n-init
loop-n-init c = Passed-start (allows c.args.rows) c.args.relation.now c.args.last.now c.args.fresh.now c.requires.unflagged c.requires.closed

pub loop-n-preserved : goal.loop-n-preserved
loop-n-preserved c =
    let P : Bool → Type 0 = Rises c.loop-n.relation c.join_class.new.relation in
    let at : rank_of c.class_at-c.result + c.loop-n.n + 1 ≡ CLASSES = omega (arith, c.class_at-c.ensures, c.loop-n-test.true) in
    elim c.if-join_class.branch [
      | then-join_class w ↦ rw (w.changed-is, w.fresh-is, w.set.ensures.written)
          (Passed-more (allows c.args.rows) c.args.relation.now c.loop-n.relation c.join_class.new.relation c.args.last.now c.loop-n.fresh
          c.loop-n.changed c.loop-n.n c.class_at-c.result at w.set.ensures.len c.join_class.ensures.grows
          (subst P w.if-join_class.true c.join_class.ensures.rises) c.join_class.ensures.includes c.loop-n.invariant)
      | else-join_class w ↦ rw (w.changed-is, w.fresh-is)
          (Passed-same (allows c.args.rows) c.args.relation.now c.loop-n.relation c.join_class.new.relation c.args.last.now c.loop-n.fresh
          c.loop-n.changed c.loop-n.n c.class_at-c.result at c.join_class.ensures.grows
          (subst P w.if-join_class.false c.join_class.ensures.rises) c.join_class.ensures.includes c.loop-n.invariant)
    ]

pub returns-clause-closed : goal.returns-clause-closed
returns-clause-closed c = Passed-closed c.loop-n.n c.loop-n-test.false c.loop-n.invariant
