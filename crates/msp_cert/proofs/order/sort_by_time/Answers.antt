use Rattle.std.proofs.Common.{ℕ, rules}
use Rattle.std.proofs.lemmas.Fn.{always_returns_same}
use Rattle.msp_instance.specs.Instance.{need_at}
use Rattle.msp_cert.proofs.LengthOrder.{longer, longer-order, longer_sorted, still_distinct}
use Rattle.msp_cert.proofs.order.sort_by_time.Goals as goal

pub returns-clause-falls : goal.returns-clause-falls
returns-clause-falls c =
    let time : ℕ → ℕ = λ j. (need_at c.args.inst.now j 0).time in
    longer_sorted time _ (still_distinct _ _ c.sort_unstable_by.ensures.permutation c.requires)
    (c.sort_unstable_by.ensures.sorted (longer time) (longer-order time) (always_returns_same _ _ _ (λ a r g h. search rules)))
