-- Lines that several reports have.
use Rattle.std.specs.Prelude.{ℕ, List, ◌++◌, codes, decimal}
use Rattle.msp_class.specs.declared.class.Class.{Class}
use Rattle.msp_name.specs.Names.{name_of}
use Rattle.msp_pieces.specs.declared.Frac.{Frac}
use Rattle.msp_grammar.specs.ScheduleText.{fraction_text}

-- the line of a class
unfoldable pub class_line : Class → List ℕ
class_line c = codes "class " ++ name_of c ++ codes "\n"

-- the line of a number, behind its word
unfoldable pub number_line : List ℕ → ℕ → List ℕ
number_line word n = word ++ decimal n ++ codes "\n"

-- the line of a cost
unfoldable pub cost_line : Frac → List ℕ
cost_line cost = codes "cost " ++ fraction_text cost ++ codes "\n"
