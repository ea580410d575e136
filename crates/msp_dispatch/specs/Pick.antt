-- What is picked before an instance is solved. No public contract cites this file.
use Rattle.std.specs.Prelude.{◌≡◌, ⊤, ℕ, ◌≤◌, List, [], ◌∷◌, length, slice_get, IsSomeAnd, Contains, Option, Some, find}
use Rattle.std.specs.Option.{option_map}
use denote.Enum.Bare.{sameb}
use Rattle.msp_class.specs.declared.class.Class.{Class}
use Rattle.msp_class.specs.declared.ranks.TheConstants.{CLASSES}
use Rattle.msp_instance.specs.declared.Instance.{Instance}
use Rattle.msp_table.specs.Rows.{carries}
use Rattle.msp_table.specs.Chains.{IsNearest}
use Rattle.msp_carry.specs.Carried.{carried, IsChainTo}
use Rattle.msp_route.specs.declared.answer.SolverName.{SolverName}
use Rattle.msp_route.specs.contracts.answer.SolverName.{the_type}
use Rattle.msp_dispatch.specs.declared.Cannot.{Cannot}
use Rattle.msp_dispatch.specs.declared.Cannot.TheVariants.{Unfit, Memory}
use Rattle.msp_dispatch.specs.declared.pick.Pick.{Pick}
use Rattle.msp_dispatch.specs.declared.solved_list.SolvedClass.{SolvedClass}
use Rattle.msp_dispatch.specs.Solved.{solved_list, Fits}
use Rattle.msp_dispatch.specs.Dispatch.{IsTarget}

-- The class that the solver of a name solves: the one beside it in the list.
unfoldable pub class_of : SolverName → Option Class
class_of name = option_map (λ e. e.class) (find (λ e. sameb the_type e.solver name) solved_list)

-- An entry of the list stands at the place.
abbrev pub StandsAt : ℕ → SolvedClass → Type 0
StandsAt place entry = slice_get solved_list place ≡ Some entry

-- The pick is an entry of the list, with the nearest chain to its class.
pub record IsRoute (from : Class) (p : Pick) : Type 0 where
  pub listed : Contains solved_list p.entry
  pub solver : class_of p.entry.solver ≡ Some p.entry.class
  pub start : p.chain.from ≡ from
  pub nearest : IsNearest carries (p.entry.class ∷ []) from p.chain.rows
  pub few : length p.chain.rows ≤ CLASSES

-- The pick leads to the class at which an instance is solved.
pub record IsPick (from : Class) (at : Option Class) (p : Pick) : Type 0 where
  pub target : IsTarget from at p.entry.class
  pub route : IsRoute from p

-- The rows lead to the class that the solver of the name solves.
abbrev pub IsLedTo : Instance → List ℕ → SolverName → Type 0
IsLedTo i rows name = IsSomeAnd (class_of name) (λ c. IsChainTo i rows c)

-- Why an instance with a pick is not solved: carried along the chain it does not fit the solver, or the memory is used up.
abbrev pub IsStopped : Instance → Pick → Cannot → Type 0
IsStopped i p (Unfit c) = (c ≡ p.entry.class) × (¬ Fits p.entry.solver (carried p.chain.rows i))
IsStopped i p Memory = ⊤
IsStopped i p _ = ⊥
