-- The report of `check`.
use Rattle.std.specs.Prelude.{◌≡◌, ℕ, ◌+◌, Bool, IsTrue, ◌↔◌, List, ◌++◌, length, Option, Some, None, codes, decimal, if◌then◌else◌}
use Rattle.msp_instance.specs.declared.Instance.{Instance}
use Rattle.msp_pieces.specs.declared.Frac.{Frac}
use Rattle.msp_pieces.specs.declared.Schedule.{Schedule}
use Rattle.msp_schedule.specs.declared.breaks.Break.{Break}
use Rattle.msp_schedule.specs.declared.breaks.Break.TheVariants.{Span, Place, Machine, Job, Release, Arc, Route, Work}
use Rattle.msp_pieces.specs.Cost.{cost_of}
use Rattle.msp_pieces.specs.Fraction.{IsOver, IsSameFraction, IsLowest}
use Rattle.msp_grammar.specs.ScheduleText.{line_feed, space, name_at, fraction_text}
use Rattle.msp_grammar.specs.declared.filed.Filed.{Filed}
use Rattle.msp_grammar.specs.declared.filed.Stated.{Stated}
use Rattle.msp_report.specs.Lines.{class_line, number_line}

-- the class, and how many jobs and pieces there are
unfoldable pub count_lines : Instance → Schedule → List ℕ
count_lines i s =
    class_line i.class ++ number_line (codes "jobs ") (length i.jobs) ++ number_line (codes "pieces ") (length s.pieces)

-- where a condition is broken: pieces, operations and arcs are counted from 1, and a job has its name
abbrev pub numbers_text : ℕ → ℕ → List ℕ
numbers_text first second = decimal (first + 1) ++ space ++ decimal (second + 1)

abbrev pub operation_text : List (List ℕ) → ℕ → ℕ → List ℕ
operation_text names job op = name_at names job ++ space ++ decimal (op + 1)

unfoldable pub break_text : List (List ℕ) → Break → List ℕ
break_text names (Span piece) = codes "span " ++ decimal (piece + 1)
break_text names (Place piece) = codes "place " ++ decimal (piece + 1)
break_text names (Machine first second) = codes "machine " ++ numbers_text first second
break_text names (Job first second) = codes "job " ++ numbers_text first second
break_text names (Release piece) = codes "release " ++ decimal (piece + 1)
break_text names (Arc at) = codes "arc " ++ decimal (at + 1)
break_text names (Route job op) = codes "route " ++ operation_text names job op
break_text names (Work job op) = codes "work " ++ operation_text names job op

-- the lines on a schedule that is not feasible: the first condition that it breaks
unfoldable pub broken_lines : List (List ℕ) → Break → List ℕ
broken_lines names broken = codes "feasible no\nbreak " ++ break_text names broken ++ line_feed

abbrev pub yes_or_no : Bool → List ℕ
yes_or_no agrees = if agrees then codes "yes" else codes "no"

-- the lines on a feasible schedule: its cost, the stated one, and whether they agree
unfoldable pub cost_lines : Frac → Frac → Bool → List ℕ
cost_lines cost stated agrees =
    codes "feasible yes\ncost "
    ++ fraction_text cost
    ++ codes "\nstated "
    ++ fraction_text stated
    ++ codes "\nagree "
    ++ yes_or_no agrees
    ++ line_feed

-- The stated cost is that of the schedule.
abbrev pub StatesItsCost : Instance → Stated → Type 0
StatesItsCost i s = IsOver s.cost (cost_of i s.schedule) s.schedule.unit

-- The lines say what the schedule costs and what is stated, both in lowest terms, and whether this is the same.
pub record AreCostLines (i : Instance) (s : Stated) (lines : List ℕ) : Type 0 where
  pub cost : Frac
  pub stated : Frac
  pub agrees : Bool
  pub cost_is : IsOver cost (cost_of i s.schedule) s.schedule.unit
  pub cost_lowest : IsLowest cost
  pub stated_is : IsSameFraction s.cost stated
  pub stated_lowest : IsLowest stated
  pub agree : IsTrue agrees ↔ StatesItsCost i s
  pub printed : lines ≡ cost_lines cost stated agrees

-- The lines on a schedule, of which this is the first break, or that has none.
abbrev pub AreCheckLines : Filed → Stated → Option Break → List ℕ → Type 0
AreCheckLines filed s None lines = AreCostLines filed.instance s lines
AreCheckLines filed s (Some broken) lines = lines ≡ broken_lines filed.names broken

-- The text is the report of `check`.
pub record IsCheckText (filed : Filed) (s : Stated) (broken : Option Break) (text : List ℕ) : Type 0 where
  pub lines : List ℕ
  pub judged : AreCheckLines filed s broken lines
  pub printed : text ≡ count_lines filed.instance s.schedule ++ lines ++ codes "end\n"
