-- Instances in which times and weights are exchanged.
use Rattle.std.specs.Prelude.{◌≡◌, ℕ, ◌≤◌, [], ◌∷◌, length, map, slice_index_or}
use Rattle.msp_class.specs.declared.sizes.TheConstants.{GREATEST}
use Rattle.msp_instance.specs.declared.Job.{Job}
use Rattle.msp_instance.specs.declared.Instance.{Instance}
use Rattle.msp_instance.specs.Instance.{no_need}
use Rattle.msp_turn.specs.Reversal.{led_turned}

-- One need, on machine 0, with a time that may be a weight, and a weight that may be a time.
pub record IsExchangeable (a : Job) : Type 0 where
  pub single : length a.needs ≡ 1
  pub machine : (slice_index_or a.needs 0 no_need).machine ≡ 0
  pub time : (1 ≤ (slice_index_or a.needs 0 no_need).time) × ((slice_index_or a.needs 0 no_need).time ≤ GREATEST)
  pub weight : (1 ≤ a.weight) × (a.weight ≤ GREATEST)

-- The job of one operation, with its time and its weight exchanged.
abbrev pub exchanged_job : Job → Job
exchanged_job j = record j { weight = (slice_index_or j.needs 0 no_need).time; needs = record { machine = 0; time = j.weight } ∷ [] }

-- The instance to which rows 51 and 52 lead: every arc turned, and time and weight of each job exchanged.
abbrev pub exchanged : ℕ → Instance → Instance
exchanged row i = record (led_turned row i) { jobs = map exchanged_job i.jobs }
