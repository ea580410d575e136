use Rattle.std.proofs.Common.{refl, subst, sym}
use Rattle.msp_shops.specs.Sliced.{AreTimes}
use Rattle.msp_shops.proofs.OpenCutFacts.{IsTimeMatrix-made}
use Rattle.msp_shops.proofs.open_cut.time_matrix.Goals as goal

pub returns : goal.returns
returns c = IsTimeMatrix-made c.args.inst.now c.requires.class c.requires.inner _ refl c.len.ensures
    (subst (AreTimes c.args.inst.now c.args.inst.now.machines) (sym c.from_vec.ensures) c.in_ok-cells.ensures)
