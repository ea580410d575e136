-- The parts of a class's name, and their replacement.
use Rattle.std.specs.Prelude.{◌==◌, Bool, true, List, [], ◌∷◌, ◌&&◌}
use Rattle.msp_class.specs.declared.class.Class.{Class}
use Rattle.msp_class.specs.declared.class.Env.{Env}
use Rattle.msp_class.specs.declared.class.Order.{Order}
use Rattle.msp_class.specs.declared.class.Times.{Times}
use Rattle.msp_class.specs.declared.class.Crit.{Crit}
use Rattle.msp_class.specs.Rank.{env_number, flag_number, order_number, times_number, crit_number}

-- a part of a class's name, with its value
pub data Part : Type 0 where
  EnvIs : Env → Part
  CutIs : Bool → Part
  OrderIs : Order → Part
  HeadsIs : Bool → Part
  TimesIs : Times → Part
  CritIs : Crit → Part

-- whether a class has a part
abbrev pub has : Class → Part → Bool
has c (EnvIs e) = env_number c.env == env_number e
has c (CutIs b) = flag_number c.cut == flag_number b
has c (OrderIs o) = order_number c.order == order_number o
has c (HeadsIs b) = flag_number c.heads == flag_number b
has c (TimesIs t) = times_number c.times == times_number t
has c (CritIs k) = crit_number c.crit == crit_number k

-- whether a class has all parts of a list
abbrev pub has_all : Class → List Part → Bool
has_all c [] = true
has_all c (p ∷ ps) = has c p && has_all c ps

-- the class with one part replaced
abbrev pub with_part : Part → Class → Class
with_part (EnvIs e) c = record c { env = e }
with_part (CutIs b) c = record c { cut = b }
with_part (OrderIs o) c = record c { order = o }
with_part (HeadsIs b) c = record c { heads = b }
with_part (TimesIs t) c = record c { times = t }
with_part (CritIs k) c = record c { crit = k }

-- the class with all parts of a list in place of its own
abbrev pub with_all : List Part → Class → Class
with_all [] c = c
with_all (p ∷ ps) c = with_all ps (with_part p c)
