-- A law of instances.
use Rattle.msp_instance.specs.declared.Instance.{Instance}
use Rattle.msp_instance.specs.Conditions.{InClass, Inner}

-- An instance that belongs to its class within the limits of texts does so within those that carried instances keep.
abbrev pub LawOfInner : Type 0
LawOfInner = (i : Instance) → InClass i → Inner i
