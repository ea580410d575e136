-- The limits of names, by their numbers.
use Rattle.std.specs.Prelude.{◌≡◌}
use Rattle.msp_name.specs.declared.fault.TheConstants.{FAULT_ROOM, LONGEST_FAULT}
use Rattle.msp_name.specs.declared.text.TheConstants.{LONGEST_CLASS_NAME, NAME_ROOM}

-- The text of a name keeps 40 bytes, and that of a fault 64. A name has at most 32, and the text of a fault of a name at most 31.
abbrev pub AreLimits : Type 0
AreLimits = (NAME_ROOM ≡ 40) × (FAULT_ROOM ≡ 64) × (LONGEST_CLASS_NAME ≡ 32) × (LONGEST_FAULT ≡ 31)
