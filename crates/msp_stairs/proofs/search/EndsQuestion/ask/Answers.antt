use Rattle.std.proofs.Common.{to_z, of_z, sym, subst, subst₂}
use Rattle.std.specs.Prelude.{◌↔◌, IsTrue}
use Rattle.std.specs.Int.{w128}
use Rattle.std.proofs.lemmas.Int.{to_z-of_z}
use Rattle.msp_instance.specs.Conditions.{LiesWithin}
use Rattle.msp_stairs.specs.Bounds.{greatest_bound, CanEnd}
use Rattle.msp_stairs.proofs.Bounds.{asked_end, bound_kept}
use Rattle.msp_stairs.proofs.search.EndsQuestion.ask.Goals as goal

pub climbed-requires-clause-ready : goal.climbed-requires-clause-ready
climbed-requires-clause-ready c = c.requires.asked.ready

pub climbed-requires-clause-late : goal.climbed-requires-clause-late
climbed-requires-clause-late c = subst (LiesWithin greatest_bound) (sym (bound_kept c.args.self.now.late c.requires.asked.small)) c.requires.asked.small

pub returns : goal.returns
returns c =
    subst₂ (λ late end. IsTrue c.is_some.result ↔ CanEnd c.args.self.now.inst.now late end) (bound_kept c.args.self.now.late c.requires.asked.small) (to_z-of_z w128 c.args.bound c.ranges.bound)
    (asked_end c.args.self.now.inst.now c.args.self.now.order.now c.requires.asked.ready (to_z w128 (of_z w128 c.args.self.now.late)) (to_z w128 (of_z w128 c.args.bound))
    c.in_ok-laid.laid c.in_ok-laid.ensures c.is_some.result c.is_some.ensures)
