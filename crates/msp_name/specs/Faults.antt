-- The texts of the faults.
use Rattle.std.specs.Prelude.{ℕ, List, ◌++◌, codes, decimal}
use Rattle.msp_name.specs.declared.fault.NameFault.{NameFault}
use Rattle.msp_name.specs.declared.fault.NameFault.TheVariants.{Bars, Environment, Item, Twice, Clash, Criterion}

abbrev pub fault_text : NameFault → List ℕ
fault_text Bars = codes "not two bars"
fault_text (Environment at) = codes "environment at " ++ decimal at
fault_text (Item at) = codes "item at " ++ decimal at
fault_text (Twice at) = codes "item again at " ++ decimal at
fault_text (Clash at) = codes "item does not fit at " ++ decimal at
fault_text (Criterion at) = codes "criterion at " ++ decimal at
