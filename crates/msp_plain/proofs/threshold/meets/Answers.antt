-- Every piece is in time exactly where the bound is met.
use Rattle.std.proofs.Common.{◌<◌, length, get_or, All, sym, subst, subst₂}
use Rattle.std.specs.Int.{w64}
use Rattle.std.proofs.lemmas.Int.{to_z-of_z}
use Rattle.std.specs.Prelude.{◌↔◌}
use Rattle.msp_instance.specs.Conditions.{LiesWithin}
use Rattle.msp_plain.specs.laws.Curves.{dates_within}
use Rattle.msp_plain.specs.laws.Raised.{meets_pieces}
use Rattle.msp_plain.specs.Threshold.{IsInTime}
use Rattle.msp_plain.specs.Threshold.{Meets}
use Rattle.msp_plain.proofs.threshold.meets.Goals as goal
use Rattle.msp_route.specs.Sizes.{greatest_row_date}

pub all_in_time-requires-clause-jobs : goal.all_in_time-requires-clause-jobs
all_in_time-requires-clause-jobs c = λ k d l. subst (λ js. (get_or c.args.s.now.pieces k d).job < length js) (sym c.as_slice.ensures) (c.requires.feasible.place k d l).job

pub all_in_time-requires-clause-due : goal.all_in_time-requires-clause-due
all_in_time-requires-clause-due c = subst (All (λ j. LiesWithin greatest_row_date j.due)) (sym c.as_slice.ensures) (dates_within c.args.inst.now c.requires.inner c.requires.lateness)

pieces : (c : goal.After-all_in_time) → All (IsInTime c.args.inst.now.jobs c.args.s.now.unit c.args.bound) c.args.s.now.pieces ↔ Meets c.args.inst.now c.args.s.now c.args.bound
pieces c = meets_pieces c.args.inst.now c.args.bound c.args.s.now c.requires.inner c.requires.feasible c.requires.lateness

pub returns : goal.returns
returns c =
    let bound_is = to_z-of_z w64 c.args.bound c.ranges.bound in (
      (λ h. (pieces c).0 (subst₂ (λ js b. All (IsInTime js c.args.s.now.unit b) c.args.s.now.pieces) c.as_slice.ensures bound_is (c.all_in_time.ensures.0 h))),
      (λ h. c.all_in_time.ensures.1 (subst₂ (λ js b. All (IsInTime js c.args.s.now.unit b) c.args.s.now.pieces) (sym c.as_slice.ensures) (sym bound_is) ((pieces c).1 h))),
    )
