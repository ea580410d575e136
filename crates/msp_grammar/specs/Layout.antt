-- Which lines and keys the texts of a class have.
use Rattle.std.specs.Prelude.{Bool, true, false, ◌&&◌}
use Rattle.msp_class.specs.declared.environments.EnvKind.{EnvKind}
use Rattle.msp_class.specs.declared.environments.EnvKind.TheVariants.{Identical, Uniform, Unrelated, OpenShop, FlowShop, JobShop}
use Rattle.msp_class.specs.Env.{kind_of}
use Rattle.msp_class.specs.declared.class.Class.{Class}
use Rattle.msp_class.specs.declared.class.Times.{Times}
use Rattle.msp_class.specs.declared.class.Times.TheVariants.{General, Unit as UnitTimes, Equal}
use Rattle.msp_class.specs.declared.class.Order.{Order}
use Rattle.msp_class.specs.declared.class.Order.TheVariants.{Free}

-- Whether each job's times are written.
abbrev pub has_times : Times → Bool
has_times General = true
has_times UnitTimes = false
has_times Equal = false

-- Whether there is a line with the time that all operations share.
abbrev pub has_time_line : Times → Bool
has_time_line General = false
has_time_line UnitTimes = false
has_time_line Equal = true

-- Whether a job has one time, one for each machine, or a route.
abbrev pub has_one_time : EnvKind → Bool
has_one_time Identical = true
has_one_time Uniform = true
has_one_time _ = false

abbrev pub has_machine_times : EnvKind → Bool
has_machine_times Unrelated = true
has_machine_times OpenShop = true
has_machine_times FlowShop = true
has_machine_times _ = false

abbrev pub has_route : EnvKind → Bool
has_route JobShop = true
has_route _ = false

-- Whether the machines have speeds.
abbrev pub has_speeds : EnvKind → Bool
has_speeds Uniform = true
has_speeds _ = false

-- Whether there may be arcs.
abbrev pub has_order : Order → Bool
has_order Free = false
has_order _ = true

-- Whether the line of a job has the key of its time, and whether a line with its times follows.
abbrev pub has_time_key : Class → Bool
has_time_key c = has_times c.times && has_one_time (kind_of c.env)

abbrev pub has_times_line : Class → Bool
has_times_line c = has_times c.times && has_machine_times (kind_of c.env)
