-- The numbers of the classes.
use Rattle.std.specs.Prelude.{ℕ, ◌+◌, ◌*◌, Bool, true, false}
use Rattle.msp_class.specs.declared.class.Class.{Class}
use Rattle.msp_class.specs.declared.class.Env.{Env}
use Rattle.msp_class.specs.declared.class.Env.TheVariants.{One, P2, P3, P, Q2, Q, R2, R, O2, O3, O, F2, F3, F, J2Short, JShort, J2, J}
use Rattle.msp_class.specs.declared.class.Order.{Order}
use Rattle.msp_class.specs.declared.class.Order.TheVariants.{Free, Chains, Intree, Outtree, Prec}
use Rattle.msp_class.specs.declared.class.Times.{Times}
use Rattle.msp_class.specs.declared.class.Times.TheVariants.{General, Unit as UnitTimes, Equal}
use Rattle.msp_class.specs.declared.class.Crit.{Crit}
use Rattle.msp_class.specs.declared.class.Crit.TheVariants.{Cmax, Lmax, Fmax, SumC, SumWC, SumU, SumWU, SumT, SumWT}

-- the environments in order
abbrev pub env_number : Env → ℕ
env_number One = 0
env_number P2 = 1
env_number P3 = 2
env_number P = 3
env_number Q2 = 4
env_number Q = 5
env_number R2 = 6
env_number R = 7
env_number O2 = 8
env_number O3 = 9
env_number O = 10
env_number F2 = 11
env_number F3 = 12
env_number F = 13
env_number J2Short = 14
env_number JShort = 15
env_number J2 = 16
env_number J = 17

-- 1 for a part that is there: preemption, release dates
abbrev pub flag_number : Bool → ℕ
flag_number false = 0
flag_number true = 1

-- the kinds of precedence constraints in order
abbrev pub order_number : Order → ℕ
order_number Free = 0
order_number Chains = 1
order_number Intree = 2
order_number Outtree = 3
order_number Prec = 4

-- the kinds of processing times in order
abbrev pub times_number : Times → ℕ
times_number General = 0
times_number UnitTimes = 1
times_number Equal = 2

-- the criteria in order
abbrev pub crit_number : Crit → ℕ
crit_number Cmax = 0
crit_number Lmax = 1
crit_number Fmax = 2
crit_number SumC = 3
crit_number SumWC = 4
crit_number SumU = 5
crit_number SumWU = 6
crit_number SumT = 7
crit_number SumWT = 8

-- the number of a class, from 0: the numbers of its parts are its digits, the environment's the highest
unfoldable pub rank_of : Class → ℕ
rank_of c =
    ((((env_number c.env * 2 + flag_number c.cut) * 5 + order_number c.order) * 2 + flag_number c.heads) * 3
    + times_number c.times) * 9 + crit_number c.crit
