-- Jobs that run one after another.
use Rattle.std.specs.Prelude.{ℕ, ◌<◌, ◌≤◌, List, length, slice_index_or, All}
use Rattle.msp_class.specs.declared.sizes.TheConstants.{MOST_JOBS, GREATEST}
use Rattle.msp_instance.specs.declared.Instance.{Instance}
use Rattle.msp_instance.specs.Instance.{no_need}

-- Few jobs, each of which is one of the instance, and lasts a short time.
pub record AreShortJobs (i : Instance) (order : List ℕ) : Type 0 where
  pub few : length order ≤ MOST_JOBS
  pub jobs : All (λ j. j < length i.jobs) order
  pub needs : All (λ j. (0 < length j.needs) × ((slice_index_or j.needs 0 no_need).time ≤ GREATEST)) i.jobs
