-- The goals of `join_class` that are proved by lemmas.
use Rattle.std.proofs.Common.{ℕ, Bool, subst, arith}
use Rattle.msp_closure.specs.Tables.{allows}
use Rattle.msp_closure.specs.Relation.{Rises, IncludesFlagged}
use Rattle.msp_closure.proofs.StepLemmas.{step_of-numbered}
use Rattle.msp_closure.proofs.RelationLemmas.{Rises-none, Rises-more, Rises-same}
use Rattle.msp_closure.proofs.ReachLemmas.{GrowsAt-none, GrowsAt-then, IncludesBefore-next}
use Rattle.msp_closure.proofs.reach_bits.join_class.Goals as goal
use Rattle.msp_closure.proofs.reach_bits.join_class.Goals.{then-join_row, else-join_row}

pub loop-k-init : goal.loop-k-init
loop-k-init c = (
  GrowsAt-none (allows c.args.rows) c.args.relation.now c.args.c,
  Rises-none c.args.relation.now,
  λ k below x steps.
      let numbered = step_of-numbered (allows c.args.rows) k c.args.c x steps in absurd (omega (arith, numbered.0)),
)

pub loop-k-preserved : goal.loop-k-preserved
loop-k-preserved c =
    let P : Bool → Type 0 = Rises c.loop-k.relation c.join_row.new.relation in
    let includes = let Q : ℕ → Type 0 = IncludesFlagged (allows c.args.rows) c.args.last.now c.join_row.new.relation c.args.c in
    subst Q c.row_at.ensures c.join_row.ensures.includes in (
      GrowsAt-then c.loop-k.invariant.0 c.join_row.ensures.grows,
      elim c.if-join_row.branch [
        | then-join_row w ↦ rw w.changed-is (Rises-more c.loop-k.invariant.1 (subst P w.if-join_row.true c.join_row.ensures.rises))
        | else-join_row w ↦ rw w.changed-is (Rises-same c.loop-k.invariant.1 (subst P w.if-join_row.false c.join_row.ensures.rises))
      ],
      IncludesBefore-next (allows c.args.rows) c.args.last.now c.loop-k.relation c.join_row.new.relation c.args.c c.loop-k.k
          c.join_row.ensures.grows includes c.loop-k.invariant.2,
    )

pub returns-clause-includes : goal.returns-clause-includes
returns-clause-includes c = λ k x steps.
    let numbered = step_of-numbered (allows c.args.rows) k c.args.c x steps in
    c.loop-k.invariant.2 k (omega (arith, numbered.1)) x steps
