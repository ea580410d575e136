use Rattle.msp_schedule.specs.Lanes.{lane_of}
use Rattle.msp_schedule.proofs.judging.OverlapFacts.{known_stays, new_is_better, new_is_first}
use Rattle.msp_schedule.proofs.overlaps.earlier.Goals as goal

pub returns-in-Some : goal.returns-in-Some
returns-in-Some c = known_stays (lane_of c.args.lane) c.args.pieces.now c.args.best c.args.second _ _ c.in-Some.is c.requires.best (λ p. let no = c.if-not-precedes.ensures.1 p in absurd (cc))

pub returns-in_default : goal.returns-in_default
returns-in_default c = new_is_better (lane_of c.args.lane)
    c.args.pieces.now c.args.best c.args.first c.args.second _ _ c.in-Some.is c.requires.best c.requires.overlap (c.if-not-precedes.ensures.0 (search))

pub returns-in_default-2 : goal.returns-in_default-2
returns-in_default-2 c = new_is_first (lane_of c.args.lane) c.args.pieces.now c.args.best c.args.first c.args.second c.in_default.is c.requires.best c.requires.overlap
