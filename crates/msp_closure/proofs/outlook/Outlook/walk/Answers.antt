-- The goals of `walk` that are proved by lemmas.
use Rattle.std.proofs.Common.{◌<◌, List, length, subst, arith}
use Rattle.msp_class.specs.declared.class.Class.{Class}
use Rattle.msp_closure.specs.Outlook.{Steps, IsWalk}
use Rattle.msp_closure.specs.Tables.{allows}
use Rattle.msp_closure.proofs.OutlookLemmas.{IsWalk-next, IsOutlook-walked, walk_smaller}
use Rattle.msp_closure.proofs.outlook.Outlook.walk.Goals as goal

pub walk-init : goal.walk-init
walk-init c =
    let P : List Class → Type 0 =
    λ xs. IsWalk (allows c.args.rows) xs c.in_ok-met.met.classes.items c.in_ok-met.met.flags c.in_ok-met.met.links.items 0 in
    (subst P c.deref.ensures.value (c.in_ok-met.ensures (allows c.args.rows)), omega arith)

pub walk-preserved : goal.walk-preserved
walk-preserved c =
    let inside : c.walk.done < length c.walk.met.classes.items = omega (arith, c.walk-test.true, c.len.ensures) in (
      IsWalk-next (allows c.args.rows) c.args.starts.items c.walk.met.classes.items _ c.walk.met.flags _ c.walk.met.links.items _ c.walk.done
          c.index-class.result.now inside c.index-class.ensures c.walk.invariant.0 c.in_ok-follow.ensures.grows c.in_ok-follow.ensures.followed
          c.in_ok-follow.ensures.links,
      (walk_smaller (Steps (allows c.args.rows) c.index-class.result.now) _ _ _ _ c.walk.done inside c.in_ok-follow.ensures.grows).1,
    )

pub walk-smaller : goal.walk-smaller
walk-smaller c =
    let inside : c.walk.done < length c.walk.met.classes.items = omega (arith, c.walk-test.true, c.len.ensures) in
    (walk_smaller (Steps (allows c.args.rows) c.index-class.result.now) _ _ _ _ c.walk.done inside c.in_ok-follow.ensures.grows).0

pub returns-clause-outlook : goal.returns-clause-outlook
returns-clause-outlook c = IsOutlook-walked (allows c.args.rows) c.args.starts.items c.walk.met.classes.items c.walk.met.flags c.walk.met.links.items
    c.walk.done (omega (arith, c.walk-test.false, c.len.ensures)) c.walk.invariant.0
