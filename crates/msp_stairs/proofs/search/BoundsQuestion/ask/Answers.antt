use Rattle.std.proofs.Common.{to_z, of_z, subst}
use Rattle.std.specs.Prelude.{◌↔◌, IsTrue}
use Rattle.std.specs.Int.{w128}
use Rattle.std.proofs.lemmas.Int.{to_z-of_z}
use Rattle.msp_stairs.specs.Bounds.{CanMeet}
use Rattle.msp_stairs.proofs.Bounds.{asked}
use Rattle.msp_stairs.proofs.search.BoundsQuestion.ask.Goals as goal

pub returns : goal.returns
returns c =
    subst (λ b. IsTrue c.is_some.result ↔ CanMeet c.args.self.now.inst.now b) (to_z-of_z w128 c.args.bound c.ranges.bound)
    (asked c.args.self.now.inst.now c.args.self.now.order.now c.requires.asked (to_z w128 (of_z w128 c.args.bound)) c.in_ok-pieces.pieces c.in_ok-pieces.ensures c.is_some.result c.is_some.ensures)
