-- What an instance of the rule's class has.
use Rattle.std.proofs.Common.{◌≡◌, ℕ}
use Rattle.msp_instance.specs.declared.Instance.{Instance}
use Rattle.msp_instance.specs.Conditions.{Inner}
use Rattle.msp_pieces.proofs.feasible.OfClass.{IsOfClass, IsOfClass-from}
use Rattle.msp_pieces.specs.Levels.{AreLevels}
use Rattle.msp_levels.specs.Levels.{levels_class}
use Rattle.msp_levels.proofs.Progress.{IsForest}

abbrev pub IsUnitForest : Instance → Type 0
IsUnitForest i = IsOfClass i levels_class

pub IsUnitForest-from : (i : Instance) → i.class ≡ levels_class → Inner i → IsUnitForest i
IsUnitForest-from i e h = IsOfClass-from i levels_class e h

pub IsForest-from : (i : Instance) (level : ℕ → ℕ) → IsUnitForest i → AreLevels i level → IsForest i level
IsForest-from i level t levels = record { few = t.degree; ends = t.ends; levels = levels; some = t.machine }
