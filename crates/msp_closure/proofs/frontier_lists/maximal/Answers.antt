-- The goals of `maximal` that are proved by lemmas.
use Rattle.std.proofs.Common.{◌≡◌, true, sym, ◌∙◌}
use Rattle.std.proofs.lemmas.Result.{IfOk-weaker}
use Rattle.msp_class.specs.declared.class.Class.{Class}
use Rattle.msp_closure.specs.Tables.{is_flagged}
use Rattle.msp_closure.specs.Frontier.{IsMaximal, ListsInOrder, HasMark}
use Rattle.msp_closure.specs.Standing.{has_standing}
use Rattle.msp_closure.proofs.FrontierLemmas.{ListsInOrder-maximal}
use Rattle.msp_closure.proofs.frontier_lists.maximal.Goals as goal

pub returns : goal.returns
returns c =
    let P : Class → Type 0 = HasMark (has_standing c.args.standing) c.args.labels.now in
    IfOk-weaker c.in_order.result (ListsInOrder (λ x. is_flagged c.keep_maximal.new.left x ≡ true)) (ListsInOrder (IsMaximal P))
    (λ classes. ListsInOrder-maximal P c.in_ok-set.set c.keep_maximal.new.left classes
    (λ x. (λ flagged. sym (c.in_ok-set.ensures x) ∙ flagged, λ has. c.in_ok-set.ensures x ∙ has)) c.keep_maximal.ensures)
    c.in_order.ensures
