-- The texts of the faults.
use Rattle.std.specs.Prelude.{ℕ, Option, Some, List, [], ◌++◌, codes, decimal}
use Rattle.msp_instance.specs.declared.membership.ClassFault.{ClassFault}
use Rattle.msp_instance.specs.declared.membership.ClassFault.TheVariants as class_fault
use Rattle.msp_grammar.specs.declared.lines.fault.What.{What}
use Rattle.msp_grammar.specs.declared.lines.fault.What.TheVariants as what
use Rattle.msp_grammar.specs.declared.lines.fault.FileFault.{FileFault}
use Rattle.msp_grammar.specs.declared.lines.fault.FileFault.TheVariants as fault

-- The word for a quantity.
abbrev pub quantity_text : What → List ℕ
quantity_text what.Jobs = codes "jobs"
quantity_text what.Arcs = codes "arcs"
quantity_text what.Name = codes "name"
quantity_text what.Machines = codes "machines"
quantity_text what.Speed = codes "speed"
quantity_text what.Multiple = codes "multiple"
quantity_text what.Time = codes "time"
quantity_text what.Release = codes "release"
quantity_text what.Due = codes "due"
quantity_text what.Weight = codes "weight"
quantity_text what.Slope = codes "slope"
quantity_text what.Base = codes "base"
quantity_text what.Above = codes "above"
quantity_text what.Add = codes "add"
quantity_text what.Steps = codes "steps"
quantity_text what.Route = codes "route"
quantity_text what.Place = codes "place"
quantity_text what.Unit = codes "unit"
quantity_text what.Moment = codes "moment"
quantity_text what.Cost = codes "cost"
quantity_text what.Pieces = codes "pieces"
quantity_text what.Level = codes "level"
quantity_text what.Head = codes "head"
quantity_text what.Price = codes "price"
quantity_text what.Lines = codes "lines"

-- The most bytes of the word for a quantity.
abbrev pub longest_quantity : ℕ
longest_quantity = 8

-- The most bytes in front of what is said of a line: `line `, a number of 10 digits and `: `.
abbrev pub longest_line_head : ℕ
longest_line_head = 17

-- The line of a fault, and what it is.
abbrev pub at_line : ℕ → List ℕ → List ℕ
at_line at text = codes "line " ++ decimal at ++ codes ": " ++ text

-- The condition of the class that is broken: an instance that was read from a text can break only these three.
abbrev pub broken_text : ClassFault → Option (List ℕ) → List ℕ
broken_text class_fault.Jobs name = codes "no jobs"
broken_text (class_fault.Need job) (Some name) = codes "job " ++ name ++ codes ": needs"
broken_text (class_fault.Degree job) (Some name) = codes "job " ++ name ++ codes ": degree"
broken_text _ _ = []

-- The text of the note for each fault.
abbrev pub file_text : FileFault → List ℕ
file_text (fault.Head at) = at_line at (codes "head")
file_text (fault.Missing at) = at_line at (codes "missing")
file_text (fault.Cut at) = at_line at (codes "cut")
file_text (fault.Line at) = at_line at (codes "not expected here")
file_text (fault.Count at) = at_line at (codes "count of fields")
file_text (fault.Key at) = at_line at (codes "key")
file_text (fault.Name at) = at_line at (codes "name")
file_text (fault.Number at) = at_line at (codes "number")
file_text (fault.Limit at quantity) = at_line at (codes "limit of " ++ quantity_text quantity)
file_text (fault.Again at) = at_line at (codes "name again")
file_text (fault.ArcAgain at) = at_line at (codes "arc again")
file_text (fault.Unknown at) = at_line at (codes "unknown name")
file_text (fault.After at) = at_line at (codes "after the end")
file_text (fault.Class broken name) = broken_text broken name
file_text (fault.Cycle job name) = codes "cycle at " ++ name
file_text fault.Memory = codes "out of memory"
