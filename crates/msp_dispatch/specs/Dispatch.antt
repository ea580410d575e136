-- What is answered to an instance that is to be solved.
use Rattle.std.specs.Prelude.{◌≡◌, ⊤, ℕ, List, [], ◌∷◌, Contains, Option, Some, None}
use Rattle.msp_class.specs.declared.class.Class.{Class}
use Rattle.msp_instance.specs.declared.Instance.{Instance}
use Rattle.msp_pieces.specs.declared.Solution.{Solution}
use Rattle.msp_pieces.specs.Cost.{IsBest}
use Rattle.msp_pieces.specs.Fraction.{IsLowest}
use Rattle.msp_pieces.specs.Settled.{IsSettled}
use Rattle.msp_pieces.specs.Within.{Within}
use Rattle.msp_table.specs.Rows.{carries}
use Rattle.msp_table.specs.Chains.{Reaches, IsNearest}
use Rattle.msp_closure.specs.Entries.{IsFirst}
use Rattle.msp_carry.specs.Carried.{carried}
use Rattle.msp_route.specs.declared.answer.Answer.{Answer}
use Rattle.msp_route.specs.declared.answer.SolverName.{SolverName}
use Rattle.msp_dispatch.specs.declared.Cannot.{Cannot}
use Rattle.msp_dispatch.specs.declared.Cannot.TheVariants.{NoSolver, NotSolved, NoRoute, Unfit, Memory}
use Rattle.msp_dispatch.specs.Solved.{solves, solved_list, solved_classes, Fits}

-- The class at which an instance of a class is solved: the one that is asked for, or else the first of the list to which carrying rows lead.
abbrev pub IsTarget : Class → Option Class → Class → Type 0
IsTarget from None target = IsFirst (Reaches carries from) solved_classes target
IsTarget from (Some at) target = (target ≡ at) × Contains solved_classes at × Reaches carries from at

-- The solution is best, and in the form of a report.
pub record IsReported (i : Instance) (s : Solution) : Type 0 where
  pub best : IsBest i s
  pub within : Within i s.schedule
  pub settled : IsSettled s.schedule
  pub lowest : IsLowest s.cost

-- The answer to an instance: the target, its solver, the nearest chain of carrying rows to it, along which the instance is carried to one that
-- fits the solver, and the solution.
pub record IsAnswered (i : Instance) (at : Option Class) (a : Answer) : Type 0 where
  pub target : IsTarget i.class at a.target
  pub solver : Contains solved_list (solves a.target a.solver)
  pub from : a.chain.from ≡ i.class
  pub nearest : IsNearest carries (a.target ∷ []) i.class a.chain.rows
  pub fits : Fits a.solver (carried a.chain.rows i)
  pub solution : IsReported i a.solution

-- Why there is no class at which instances of a class are solved.
abbrev pub HasNoTarget : Class → Option Class → Cannot → Type 0
HasNoTarget from None (NoSolver c) = (c ≡ from) × ((target : Class) → Contains solved_classes target → ¬ Reaches carries from target)
HasNoTarget from None (NotSolved c) = ⊥
HasNoTarget from None (NoRoute a b) = ⊥
HasNoTarget from (Some at) (NoSolver c) = ⊥
HasNoTarget from (Some at) (NotSolved c) = (c ≡ at) × (¬ Contains solved_classes at)
HasNoTarget from (Some at) (NoRoute a b) = (a ≡ from) × (b ≡ at) × Contains solved_classes at × (¬ Reaches carries from at)
HasNoTarget from at (Unfit c) = ⊥
HasNoTarget from at Memory = ⊤

-- The class is the one at which the instance is solved, and the nearest chain carries it there to one that does not fit the solver.
pub record IsUnfit (i : Instance) (at : Option Class) (class : Class) : Type 0 where
  pub solver : SolverName
  pub rows : List ℕ
  pub target : IsTarget i.class at class
  pub listed : Contains solved_list (solves class solver)
  pub nearest : IsNearest carries (class ∷ []) i.class rows
  pub unfit : ¬ Fits solver (carried rows i)

-- Why an instance is not solved.
abbrev pub IsFault : Instance → Option Class → Cannot → Type 0
IsFault i at (Unfit c) = IsUnfit i at c
IsFault i at cannot = HasNoTarget i.class at cannot
