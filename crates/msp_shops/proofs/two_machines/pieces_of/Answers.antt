use Rattle.std.proofs.Common.{ap}
use Rattle.msp_shops.proofs.Answered.{AreLaid-made}
use Rattle.msp_shops.proofs.two_machines.pieces_of.Goals as goal

pub returns : goal.returns
returns c =
    AreLaid-made _ _ _ _ _ _ _ _ _ _ _ c.new-pieces.ensures c.stage.ensures c.stage-2.ensures c.stage-3.ensures c.stage-4.ensures
    (ap (λ n. record { first = 0; second = n }) c.first_total.ensures.value) (ap (λ n. record { first = 0; second = n }) c.first_total-2.ensures.value)
    (_, c.in_ok-pass.ensures) (_, c.in_ok-pass-2.ensures)
