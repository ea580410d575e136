use Rattle.std.proofs.Common.{to_z, of_z, subst}
use Rattle.std.specs.Prelude.{◌↔◌, IsTrue}
use Rattle.std.specs.Int.{w128}
use Rattle.std.proofs.lemmas.Int.{to_z-of_z}
use Rattle.msp_due.specs.Steps.{CanPlace}
use Rattle.msp_due.proofs.Best.{answers_place, jobs_inside}
use Rattle.msp_due.proofs.search.BoundsQuestion.ask.Goals as goal

pub in_time-requires : goal.in_time-requires
in_time-requires c =
    let made = c.in_ok-in_slots.in_slots in
    record {
      inside = jobs_inside c.args.self.now.inst.now c.requires.asked.class c.requires.asked.inner (to_z w128 (of_z w128 c.args.bound))
          made.slots.items made.pieces c.in_ok-in_slots.ensures c.as_slice.result.now c.as_slice-2.result.now c.as_slice.ensures c.as_slice-2.ensures.value;
    }

pub returns : goal.returns
returns c =
    let made = c.in_ok-in_slots.in_slots in
    subst (λ b. IsTrue c.in_time.result ↔ CanPlace c.args.self.now.inst.now b) (to_z-of_z w128 c.args.bound c.ranges.bound)
    (answers_place c.args.self.now.inst.now c.requires.asked.class c.requires.asked.inner (to_z w128 (of_z w128 c.args.bound))
    made.slots.items made.pieces c.in_ok-in_slots.ensures c.as_slice.result.now c.as_slice-2.result.now c.as_slice.ensures c.as_slice-2.ensures.value c.in_time.result c.in_time.ensures)
