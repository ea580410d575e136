-- The goals of `leading` that are proved by lemmas.
use Rattle.std.proofs.Common.{sym, subst}
use Rattle.std.specs.Bool.{Decides}
use Rattle.std.specs.Prelude.{Contains}
use Rattle.std.proofs.lemmas.Bool.Decides.{Decides-at}
use Rattle.msp_closure.specs.Entries.{LeadsToOne}
use Rattle.msp_closure.specs.Tables.{allows, is_flagged}
use Rattle.msp_closure.proofs.WayLemmas.{near_decides}
use Rattle.msp_closure.proofs.reached.leading.Goals as goal

pub returns : goal.returns
returns c x =
    let has : Contains c.in_ok-outlook.outlook.starts.items x =
    subst (λ v. Contains v.items x) (sym c.in_ok-outlook.ensures.starts) (c.in_ok-classes.ensures x) in
    subst (λ rows. Decides (is_flagged c.in_ok-flags.flags x) (LeadsToOne (allows rows) c.args.wanted.now x)) c.in_ok-outlook.ensures.rows
    (Decides-at _ _ (c.in_ok-flags.ensures x)
    (near_decides (allows c.in_ok-outlook.outlook.rows) c.in_ok-outlook.outlook.starts.items c.args.wanted.now c.in_ok-distances.distances
    c.in_ok-distances.ensures x has))
