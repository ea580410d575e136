use Rattle.std.proofs.Common.{length, map, All, sym, ap, ap₂, subst, ◌∙◌, ◌≤◌, ◌<◌, arith}
use Rattle.std.proofs.lemmas.Result.{IfOk-weaker}
use Rattle.std.proofs.lemmas.List.{length-map}
use Rattle.std.proofs.lemmas.List.Elements.{All-map}
use Rattle.msp_class.specs.declared.sizes.TheConstants.{GREATEST}
use Rattle.msp_pieces.specs.BackToBack.{time_at}
use Rattle.msp_pieces.proofs.feasible.OfClass.{IsOfClass-from}
use Rattle.msp_cut_sums.specs.Sums.{cut_sum_class}
use Rattle.msp_cut_sums.specs.Schedules.{AreEnds}
use Rattle.msp_cut_sums.specs.Pieces.{stacked}
use Rattle.msp_cut_sums.proofs.Falling.{order_once, order_many}
use Rattle.msp_cut_sums.proofs.Instances.{sum_times}
use Rattle.msp_cut_sums.proofs.stacks.pieces_by_time.Goals as goal

pub times_in-requires : goal.times_in-requires
times_in-requires c =
    subst (All (λ j. j < length c.args.inst.now.jobs)) (sym c.as_slice.ensures.value) (order_once _ _ _ c.in_ok-order.ensures).within

pub ends_of-requires-clause-few : goal.ends_of-requires-clause-few
ends_of-requires-clause-few c =
    let h = IsOfClass-from _ cut_sum_class c.requires.class c.requires.inner in
    let many = ap length (c.as_slice-2.ensures.value ∙ c.in_ok-times.ensures) ∙ length-map c.as_slice.result.now (time_at c.args.inst.now) in
    omega (arith, many, ap length c.as_slice.ensures.value, order_many _ _ _ c.in_ok-order.ensures, h.few)

pub ends_of-requires-clause-short : goal.ends_of-requires-clause-short
ends_of-requires-clause-short c =
    let i = c.args.inst.now in
    let h = IsOfClass-from i cut_sum_class c.requires.class c.requires.inner in
    let within = (order_once _ _ _ c.in_ok-order.ensures).within in
    subst (All (λ t. t ≤ GREATEST)) (sym (c.as_slice-2.ensures.value ∙ c.in_ok-times.ensures ∙ ap (map (time_at i)) c.as_slice.ensures.value))
    (All-map (λ t. t ≤ GREATEST) (time_at i) c.in_ok-order.order.items (λ k d l. (sum_times i h _ (within k d l)).1))

pub stacked_pieces-requires-clause-few : goal.stacked_pieces-requires-clause-few
stacked_pieces-requires-clause-few c =
    let h = IsOfClass-from _ cut_sum_class c.requires.class c.requires.inner in
    omega (arith, ap length c.as_slice-3.ensures.value, order_many _ _ _ c.in_ok-order.ensures, h.few)

pub stacked_pieces-requires-clause-many : goal.stacked_pieces-requires-clause-many
stacked_pieces-requires-clause-many c =
    ap length c.as_slice-4.ensures.value ∙ c.in_ok-ends.ensures.ends.many ∙ ap length (c.as_slice-2.ensures.value ∙ c.in_ok-times.ensures)
    ∙ length-map c.as_slice.result.now (time_at c.args.inst.now) ∙ ap length (c.as_slice.ensures.value ∙ sym c.as_slice-3.ensures.value)

pub returns : goal.returns
returns c =
    let i = c.args.inst.now in
    let times = c.as_slice-2.ensures.value ∙ c.in_ok-times.ensures ∙ ap (map (time_at i)) c.as_slice.ensures.value in
    IfOk-weaker c.stacked_pieces.result _ _ (λ pieces e. (
      c.in_ok-order.order.items,
      c.in_ok-ends.ends.items,
      c.in_ok-order.ensures,
      subst (λ ts. AreEnds i.machines ts c.in_ok-ends.ends.items) times c.in_ok-ends.ensures.ends,
      c.in_ok-ends.ensures.early,
      e ∙ ap₂ (λ o x. stacked i.machines o x) c.as_slice-3.ensures.value c.as_slice-4.ensures.value,
    )) c.stacked_pieces.ensures
