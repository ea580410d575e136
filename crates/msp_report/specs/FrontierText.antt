-- The text of the report of `frontier`.
use Rattle.std.specs.Prelude.{ℕ, List, ◌++◌, length, Option, codes, decimal}
use Rattle.std.specs.List.{flat_map}
use Rattle.msp_class.specs.declared.class.Class.{Class}
use Rattle.msp_name.specs.Names.{name_of}
use Rattle.msp_table.specs.declared.row.Chain.{Chain}
use Rattle.msp_closure.specs.declared.frontier_lists.FrontierLists.{FrontierLists}
use Rattle.msp_report.specs.ChainText.{clash_part, end_line}

unfoldable pub name_line : Class → List ℕ
name_line c = name_of c ++ codes "\n"

abbrev pub name_lines : List Class → List ℕ
name_lines classes = flat_map name_line classes

-- how many classes a list has, behind its heading, and their names
abbrev pub list_lines : List ℕ → List Class → List ℕ
list_lines heading classes = heading ++ codes " " ++ decimal (length classes) ++ codes "\n" ++ name_lines classes

-- the easy and the hard classes at which what is known ends
unfoldable pub decided_lists : FrontierLists → List ℕ
decided_lists frontier = list_lines (codes "maximal easy") frontier.easy ++ list_lines (codes "minimal hard") frontier.hard

-- the open classes at which what is not known begins
unfoldable pub open_lists : FrontierLists → List ℕ
open_lists frontier = list_lines (codes "minimal open") frontier.low ++ list_lines (codes "maximal open") frontier.high

-- the report of `frontier`: the four lists, then the chains that show a contradiction
abbrev pub frontier_report : FrontierLists → Option Chain → Option Chain → List ℕ
frontier_report frontier clash strong_clash =
    decided_lists frontier ++ open_lists frontier ++ clash_part clash strong_clash ++ end_line
