-- The goals of `minimal` that are proved by lemmas.
use Rattle.std.proofs.Common.{◌≡◌, true, sym, ◌∙◌}
use Rattle.std.proofs.lemmas.Result.{IfOk-weaker}
use Rattle.msp_class.specs.declared.class.Class.{Class}
use Rattle.msp_closure.specs.Tables.{is_flagged}
use Rattle.msp_closure.specs.Frontier.{IsMinimal, ListsInOrder, HasMark}
use Rattle.msp_closure.specs.Standing.{has_standing}
use Rattle.msp_closure.proofs.FrontierLemmas.{ListsInOrder-minimal}
use Rattle.msp_closure.proofs.frontier_lists.minimal.Goals as goal

pub returns : goal.returns
returns c =
    let P : Class → Type 0 = HasMark (has_standing c.args.standing) c.args.labels.now in
    IfOk-weaker c.in_order.result (ListsInOrder (λ x. is_flagged c.keep_minimal.new.left x ≡ true)) (ListsInOrder (IsMinimal P))
    (λ classes. ListsInOrder-minimal P c.in_ok-set.set c.keep_minimal.new.left classes
    (λ x. (λ flagged. sym (c.in_ok-set.ensures x) ∙ flagged, λ has. c.in_ok-set.ensures x ∙ has)) c.keep_minimal.ensures)
    c.in_order.ensures
