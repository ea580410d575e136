use Rattle.std.proofs.Common.{◌≡◌, pos, sym, subst, subst₂, arith}
use Rattle.msp_shops.specs.Sliced.{laid, Joins}
use Rattle.msp_shops.specs.Joined.{AreJoined}
use Rattle.msp_shops.proofs.Joining.{Joins-empty, Joins-row, AreInRows-empty, AreJoined-from_rows}
use Rattle.msp_shops.proofs.slices.lay_slices.Goals as goal

pub loop-machine-init : goal.loop-machine-init
loop-machine-init c = record { joins = Joins-empty _ c.new.ensures.items; rows = AreInRows-empty 0 (pos 0) _ c.new.ensures.items }

pub loop-machine-preserved : goal.loop-machine-preserved
loop-machine-preserved c = record {
  joins = Joins-row c.args.columns c.loop-machine.machine c.args.slices.now _ _ c.loop-machine.invariant.joins c.in_ok-put_machine.ensures.joins;
  rows = c.in_ok-put_machine.ensures.rows;
}

pub returns-clause-joined : goal.returns-clause-joined
returns-clause-joined c = subst AreJoined (sym c.from_vec.ensures) (AreJoined-from_rows c.loop-machine.machine (pos 0) c.loop-machine.row.pieces.items c.loop-machine.invariant.rows)

pub returns-clause-joins : goal.returns-clause-joins
returns-clause-joins c =
    let all : c.loop-machine.machine ≡ c.args.rows = omega (arith, c.loop-machine-test.false, c.loop-machine.auto.machine-end) in
    subst₂ (λ n ps. Joins (laid c.args.columns c.args.slices.now n) ps) all (sym c.from_vec.ensures) c.loop-machine.invariant.joins
