-- The report of `solve`.
use Rattle.std.specs.Prelude.{ℕ, List, ◌++◌, codes}
use Rattle.msp_route.specs.declared.answer.Answer.{Answer}
use Rattle.msp_route.specs.declared.answer.SolverName.{SolverName}
use Rattle.msp_route.specs.declared.answer.SolverName.TheVariants as solver
use Rattle.msp_grammar.specs.ScheduleText.{schedule_text}
use Rattle.msp_report.specs.ChainText.{chain_lines}

abbrev pub solver_word : SolverName → List ℕ
solver_word solver.Smith = codes "smith"
solver_word solver.Lawler = codes "lawler"
solver_word solver.Moore = codes "moore"
solver_word solver.Horn = codes "horn"
solver_word solver.Blocks = codes "blocks"
solver_word solver.UnitBlocks = codes "unit-blocks"
solver_word solver.Shortest = codes "shortest"
solver_word solver.Wrap = codes "wrap"
solver_word solver.Levels = codes "levels"
solver_word solver.Uniform = codes "uniform"
solver_word solver.Unrelated = codes "unrelated"
solver_word solver.SlotsLate = codes "slots-late"
solver_word solver.SlotsCount = codes "slots-count"
solver_word solver.Johnson = codes "johnson"
solver_word solver.Jackson = codes "jackson"
solver_word solver.Open2 = codes "open2"
solver_word solver.OpenCut = codes "open-cut"
solver_word solver.UniformCut = codes "uniform-cut"
solver_word solver.Lexical = codes "lexical"
solver_word solver.LateTable = codes "late-table"
solver_word solver.Search = codes "search"
solver_word solver.TreeDue = codes "tree-due"
solver_word solver.PairDue = codes "pair-due"
solver_word solver.Stairs = codes "stairs"
solver_word solver.CutSum = codes "cut-sum"
solver_word solver.CutWeights = codes "cut-weights"
solver_word solver.OpenWeights = codes "open-weights"
solver_word solver.CutOpenWeights = codes "cut-open-weights"
solver_word solver.PlacesMost = codes "places-most"
solver_word solver.PlacesLate = codes "places-late"
solver_word solver.PlacesCount = codes "places-count"
solver_word solver.LevelsSum = codes "levels-sum"
solver_word solver.EqualHeads = codes "equal-heads"
solver_word solver.JacksonCut = codes "jackson-cut"
solver_word solver.LinesLate = codes "lines-late"
solver_word solver.LinesCount = codes "lines-count"

-- the line of the solver
unfoldable pub solver_line : SolverName → List ℕ
solver_line s = codes "solver " ++ solver_word s ++ codes "\n"

-- the report of `solve`: the chain to the class that is solved, its solver, and the text of the schedule
unfoldable pub solve_report : List (List ℕ) → Answer → List ℕ
solve_report names a =
    chain_lines a.chain ++ solver_line a.solver ++ schedule_text names a.solution.schedule a.solution.cost
