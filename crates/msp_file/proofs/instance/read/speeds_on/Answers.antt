-- The goals of `speeds_on` that are proved by lemmas.
use Rattle.std.proofs.Common.{subst, sym}
use Rattle.msp_instance.specs.Conditions.{HasSmallMultiple}
use Rattle.msp_file.proofs.instances.Deciding.{small_there, small_none}
use Rattle.msp_file.proofs.instances.Readings.{speeds_refused, speeds_stopped, speeds_done}
use Rattle.msp_file.proofs.instance.read.speeds_on.Goals as goal

pub returns-then-not-has_small_multiple-clause-moves : goal.returns-then-not-has_small_multiple-clause-moves
returns-then-not-has_small_multiple-clause-moves c = speeds_refused _ _ _ _ _ c.in_ok-speeds.ensures.moves
    (small_none _ (λ small. let found = c.has_small_multiple.ensures.1 (subst HasSmallMultiple (sym c.as_slice.ensures) small) in let none = c.if-not-has_small_multiple.true in absurd cc))

pub returns-in-Ok-clause-moves : goal.returns-in-Ok-clause-moves
returns-in-Ok-clause-moves c =
    let small = small_there _ (subst HasSmallMultiple c.as_slice.ensures (c.has_small_multiple.ensures.0 c.if-not-has_small_multiple.false)) in
    speeds_done _ _ _ _ _ _ _ _ c.in_ok-speeds.ensures.moves small c.in-Ok.ensures.moves c.filed_of.ensures

pub returns-in-Err-clause-moves : goal.returns-in-Err-clause-moves
returns-in-Err-clause-moves c =
    let small = small_there _ (subst HasSmallMultiple c.as_slice.ensures (c.has_small_multiple.ensures.0 c.if-not-has_small_multiple.false)) in
    speeds_stopped _ _ _ _ _ c.in-Err.fault c.in_ok-speeds.ensures.moves small c.in-Err.ensures.moves
