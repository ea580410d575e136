-- The statuses of the faults of a file of results, and the list of all classes.
use Rattle.std.specs.Prelude.{◌≡◌, ℕ, List, length, ◌<◌, slice_index_or}
use Rattle.msp_class.specs.declared.class.Class.{Class}
use Rattle.msp_class.specs.declared.ranks.TheConstants.{CLASSES}
use Rattle.msp_class.specs.Rank.{rank_of}
use Rattle.msp_results.specs.declared.fault.ResultFault.{ResultFault}
use Rattle.msp_results.specs.declared.fault.ResultFault.TheVariants.{Long, Many, Memory}

-- A fault of the results is bad input, but for the two limits. Out of memory is no fault of theirs.
abbrev pub results_status : ResultFault → ℕ
results_status (Long at) = 4
results_status Many = 4
results_status Memory = 9
results_status _ = 3

-- The list has all classes, in order of rank.
pub record AreAllClasses (classes : List Class) : Type 0 where
  pub all : length classes ≡ CLASSES
  pub ranks : (n : ℕ) (d : Class) → n < length classes → rank_of (slice_index_or classes n d) ≡ n
