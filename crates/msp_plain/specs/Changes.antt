-- The changes of data that rows make, and those of the threshold rows.
use Rattle.std.specs.Prelude.{[], ℤ, pos, neg_ℤ, ◌+ℤ◌, map}
use Rattle.msp_class.specs.declared.class.Crit.{Crit}
use Rattle.msp_instance.specs.declared.Job.{Job}
use Rattle.msp_instance.specs.declared.Instance.{Instance}
use Rattle.msp_route.specs.Changes.{led}

-- The job whose curve is its lateness, of slope 1 and base -d and without steps. The due date is put back to 0.
abbrev pub by_curve : Job → Job
by_curve j = record j { due = pos 0; curve = record { slope = 1; base = neg_ℤ j.due; steps = [] } }

-- The instance to which row 9 leads: the lateness of each job is its curve.
abbrev pub led_by_curves : Instance → Instance
led_by_curves i = record (led 9 i) { jobs = map by_curve i.jobs }

-- The job with its due date raised by the bound.
abbrev pub raised : ℤ → Job → Job
raised bound j = record j { due = j.due +ℤ bound }

-- The instance of another criterion, with all due dates raised by the bound.
abbrev pub shift_of : ℤ → Crit → Instance → Instance
shift_of bound crit i = record i { class = record i.class { crit = crit }; jobs = map (raised bound) i.jobs }
