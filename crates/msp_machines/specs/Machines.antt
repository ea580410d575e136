-- The instances to which rows lead that change the machines and leave the jobs as they are.
use Rattle.std.specs.Prelude.{ℕ, List, replicate}
use Rattle.msp_instance.specs.declared.Instance.{Instance}
use Rattle.msp_route.specs.Changes.{led}

-- A speed of 1 for each machine.
abbrev pub equal_speeds : ℕ → List ℕ
equal_speeds machines = replicate machines 1

-- The instance to which the row leads, with machines of equal speeds.
abbrev pub led_at_equal_speeds : ℕ → Instance → Instance
led_at_equal_speeds row i = record (led row i) { speeds = equal_speeds i.machines }

-- The instance to which the row leads, with a second machine, on which no job has an operation.
abbrev pub led_to_two_machines : ℕ → Instance → Instance
led_to_two_machines row i = record (led row i) { machines = 2 }
