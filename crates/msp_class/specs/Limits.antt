-- The limits of classes, lists, instances and schedules, by their numbers.
use Rattle.std.specs.Prelude.{◌≡◌, ◌^◌, pos}
use Rattle.msp_class.specs.declared.sizes.TheConstants.{MOST_JOBS, MOST_MACHINES, MOST_ARCS, MOST_OPERATIONS, MOST_SHORT_OPERATIONS, MOST_STEPS, MOST_PIECES}
use Rattle.msp_class.specs.declared.sizes.TheConstants.{GREATEST, GREATEST_SPEED, GREATEST_MULTIPLE, GREATEST_EQUAL_TIME, GREATEST_UNIT}
use Rattle.msp_class.specs.declared.list.TheConstants.{PLACES}
use Rattle.msp_class.specs.declared.ranks.TheConstants.{CLASSES}

pub record AreLimits : Type 0 where
  pub classes : CLASSES ≡ 9720
  pub places : PLACES ≡ 2 ^ 32
  pub jobs : MOST_JOBS ≡ 400
  pub machines : MOST_MACHINES ≡ 32
  pub arcs : MOST_ARCS ≡ 20000
  pub operations : MOST_OPERATIONS ≡ 32
  pub short_operations : MOST_SHORT_OPERATIONS ≡ 2
  pub steps : MOST_STEPS ≡ 16
  pub pieces : MOST_PIECES ≡ 500000
  pub number : GREATEST ≡ 10 ^ 9
  pub speed : GREATEST_SPEED ≡ 10 ^ 6
  pub multiple : GREATEST_MULTIPLE ≡ 2 ^ 30
  pub equal_time : GREATEST_EQUAL_TIME ≡ 10 ^ 6
  pub unit : GREATEST_UNIT ≡ pos (10 ^ 13)
