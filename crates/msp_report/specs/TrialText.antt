-- The report of `trial`.
use Rattle.std.specs.Prelude.{ℕ, List, ◌++◌, length, codes}
use Rattle.msp_instance.specs.declared.Instance.{Instance}
use Rattle.msp_route.specs.declared.answer.Answer.{Answer}
use Rattle.msp_report.specs.ChainText.{end_line}
use Rattle.msp_report.specs.Lines.{class_line, number_line, cost_line}
use Rattle.msp_report.specs.SolveText.{solver_line}

-- what was made: an instance of a class, with so many jobs, from a seed
unfoldable pub made_lines : Instance → ℕ → List ℕ
made_lines i seed =
    class_line i.class ++ number_line (codes "jobs ") (length i.jobs) ++ number_line (codes "seed ") seed

-- how it was solved: the solver, the length of the chain to the class that it solves, and how many pieces the schedule has
unfoldable pub solved_lines : Answer → List ℕ
solved_lines a =
    solver_line a.solver
    ++ number_line (codes "rows ") (length a.chain.rows)
    ++ number_line (codes "pieces ") (length a.solution.schedule.pieces)

-- the report of `trial`: the instance, how it was solved, and the cost
unfoldable pub trial_report : Instance → ℕ → Answer → List ℕ
trial_report i seed a = made_lines i seed ++ solved_lines a ++ cost_line a.solution.cost ++ end_line
