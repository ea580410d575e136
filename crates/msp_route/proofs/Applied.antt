-- What holds of a class to which a row applies: it has the parts on the row's left and meets its further condition.
use Rattle.std.proofs.Common.{◌≡◌, Bool, true, false, Some, None, IsSome, if◌then◌else◌, refl}
use Rattle.std.specs.Prelude.{◌&&◌}
use Rattle.msp_class.specs.declared.class.Class.{Class}

-- the row has any parts
pub parts_and_condition : (parts given : Bool) (c : Class) → IsSome (if parts && given then Some c else None) → (parts ≡ true) × (given ≡ true) × ((if parts && given then Some c else None) ≡ Some c)
parts_and_condition true true c h = (refl, refl, refl)
parts_and_condition true false c h = absurd (cc)
parts_and_condition false given c h = absurd (cc)

-- the row has one part
pub part_and_condition : (part given : Bool) (c : Class)
    → IsSome (if part && true && given then Some c else None) → (part ≡ true) × (given ≡ true) × ((if part && true && given then Some c else None) ≡ Some c)
part_and_condition true true c h = (refl, refl, refl)
part_and_condition true false c h = absurd (cc)
part_and_condition false given c h = absurd (cc)

-- the row has one part and no condition
pub part_alone : (part : Bool) (c : Class) → IsSome (if part && true && true then Some c else None) → (part ≡ true) × ((if part && true && true then Some c else None) ≡ Some c)
part_alone part c h = let (p, given, g) = part_and_condition part true c h in (p, g)
