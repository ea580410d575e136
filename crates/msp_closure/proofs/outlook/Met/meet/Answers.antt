-- The goals of `meet` that are proved by lemmas.
use Rattle.std.proofs.Common.{◌≡◌, true, false, ap, ◌∙◌}
use Rattle.msp_closure.specs.Tables.{is_flagged}
use Rattle.msp_closure.proofs.OutlookLemmas.{grows_one}
use Rattle.msp_closure.proofs.TableLemmas.{is_flagged-set_same}
use Rattle.msp_closure.proofs.outlook.Met.meet.Goals as goal

pub returns-clause-grows : goal.returns-clause-grows
returns-clause-grows c =
    let new : is_flagged c.args.self.now.flags c.args.class ≡ false = c.at.ensures.value false ∙ c.if-at.false in
    grows_one c.args.class c.args.self.now.flags c.at.ensures.len new _ _ _ c.set.ensures.written c.in_ok-push.ensures.items

pub returns-clause-flagged : goal.returns-clause-flagged
returns-clause-flagged c =
    ap (λ t. is_flagged t c.args.class) c.set.ensures.written ∙ is_flagged-set_same c.args.self.now.flags c.args.class true c.at.ensures.len
