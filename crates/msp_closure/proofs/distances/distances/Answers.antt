-- The goals of `distances` that are proved by lemmas.
use Rattle.std.proofs.Common.{◌<◌, ◌+◌, sym, subst, arith}
use Rattle.msp_closure.specs.declared.distances.TheConstants.{FAR}
use Rattle.msp_closure.specs.Tables.{allows}
use Rattle.msp_closure.specs.Links.{AreLinks}
use Rattle.msp_closure.proofs.LinkLemmas.{AreInside-links}
use Rattle.msp_closure.proofs.AdvanceLemmas.{IsLevel-start, IsLevel-next, AreDistances-quiet, far_count-most, far_falls}
use Rattle.msp_closure.proofs.distances.distances.Goals as goal

pub passes-init : goal.passes-init
passes-init c = (
  IsLevel-start (allows c.args.outlook.now.rows) c.args.outlook.now.starts.items c.args.wanted.now c.in_ok-table.table c.in_ok-table.ensures.zero
      c.in_ok-table.ensures.far,
  omega (arith, far_count-most c.in_ok-table.table c.in_ok-table.ensures.len),
)

pub pass-requires-clause-inside : goal.pass-requires-clause-inside
pass-requires-clause-inside c =
    AreInside-links (allows c.args.outlook.now.rows) c.args.outlook.now.starts.items c.deref.result.now
    (subst (AreLinks (allows c.args.outlook.now.rows) c.args.outlook.now.starts.items) (sym c.deref.ensures.value) c.requires.are_links)

pub passes-preserved : goal.passes-preserved
passes-preserved c =
    let small : c.passes.level + 1 < FAR = omega arith in
    let advances = c.pass.ensures (allows c.args.outlook.now.rows) c.args.outlook.now.starts.items
    (subst (AreLinks (allows c.args.outlook.now.rows) c.args.outlook.now.starts.items) (sym c.deref.ensures.value) c.requires.are_links) in (
      IsLevel-next (allows c.args.outlook.now.rows) c.args.outlook.now.starts.items c.args.wanted.now c.passes.table c.pass.new.table c.passes.level
          c.pass.result small c.passes.invariant.0 advances,
      omega (arith, c.passes.invariant.1, far_falls advances c.passes-test.true),
    )

pub returns : goal.returns
returns c =
    let small : c.passes.level + 1 < FAR = omega arith in
    let advances = c.pass.ensures (allows c.args.outlook.now.rows) c.args.outlook.now.starts.items
    (subst (AreLinks (allows c.args.outlook.now.rows) c.args.outlook.now.starts.items) (sym c.deref.ensures.value) c.requires.are_links) in
    AreDistances-quiet (allows c.args.outlook.now.rows) c.args.outlook.now.starts.items c.args.wanted.now c.passes.table c.pass.new.table c.passes.level
    c.pass.result small c.passes.invariant.0 advances c.passes-test.false (omega (arith, c.passes.invariant.1))
