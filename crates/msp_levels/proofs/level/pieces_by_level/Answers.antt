-- The jobs run by falling level, ties by number.
use Rattle.std.proofs.Common.{refl, subst, slice_index, IsPermutation}
use Rattle.std.specs.List.{range_with_len}
use Rattle.std.proofs.lemmas.Result.{IfOk-weaker}
use Rattle.msp_slots.specs.ListSchedule.{IsListSchedule}
use Rattle.msp_levels.specs.Steps.{AreByLevel}
use Rattle.msp_levels.proofs.level.pieces_by_level.Goals as goal

pub pieces_in_order-requires-clause-all : goal.pieces_in_order-requires-clause-all
pieces_in_order-requires-clause-all c = subst (λ n. IsPermutation (range_with_len 0 n) c.in_ok-order.order.items) c.len.ensures c.in_ok-order.ensures.all

pub returns : goal.returns
returns c = IfOk-weaker c.pieces_in_order.result (IsListSchedule c.args.inst.now c.in_ok-order.order.items) (AreByLevel c.args.inst.now)
    (λ pieces h. record {
      level = slice_index c.in_ok-levels.levels;
      order = c.in_ok-order.order.items;
      levels = c.in_ok-levels.ensures.levels;
      by_level = record { all = subst (λ n. IsPermutation (range_with_len 0 n) c.in_ok-order.order.items) c.len.ensures c.in_ok-order.ensures.all; falls = c.in_ok-order.ensures.falling };
      unit = refl;
      runs = h;
    })
    c.pieces_in_order.ensures
