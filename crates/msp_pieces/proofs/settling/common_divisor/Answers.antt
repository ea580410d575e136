use Rattle.std.proofs.Common.{subst, ◌∙◌, pos}
use Rattle.std.proofs.lemmas.List.{take_all}
use Rattle.msp_pieces.specs.Divisor.{IsCommonDivisor}
use Rattle.msp_pieces.proofs.changes.SettledSchedules.{IsCommonDivisor-none, IsCommonDivisor-step}
use Rattle.msp_pieces.proofs.settling.common_divisor.Goals as goal

pub loop-piece-init : goal.loop-piece-init
loop-piece-init c = IsCommonDivisor-none _ _ c.size_of_unit-divisor.ensures

pub loop-piece-preserved : goal.loop-piece-preserved
loop-piece-preserved c = IsCommonDivisor-step _ c.as_slice-pieces.result.now c.loop-piece.piece-index (record { job = 0; op = 0; machine = 0; from = pos 0; to = pos 0 })
    _ _ c.loop-piece-test.true (c.divisor_with-divisor.ensures c.args.s.now.unit) c.loop-piece.invariant

pub returns : goal.returns
returns c = subst (λ qs. IsCommonDivisor c.args.s.now.unit qs c.loop-piece.divisor)
    (take_all c.loop-piece.piece-index c.as_slice-pieces.result.now c.loop-piece-test.false ∙ c.as_slice-pieces.ensures) c.loop-piece.invariant
