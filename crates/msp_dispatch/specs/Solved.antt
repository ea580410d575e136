-- The classes that are solved, each with its solver, in the order in which they are tried, and which instances fit a solver.
use Rattle.std.specs.Prelude.{⊤, ◌≤◌, List, [], ◌∷◌, map}
use Rattle.msp_class.specs.declared.class.Class.{Class}
use Rattle.msp_instance.specs.declared.Instance.{Instance}
use Rattle.msp_route.specs.declared.answer.SolverName.{SolverName}
use Rattle.msp_route.specs.declared.answer.SolverName.TheVariants as solver
use Rattle.msp_single.specs.Smith.{smith_class}
use Rattle.msp_single.specs.Lawler.{lawler_class}
use Rattle.msp_single.specs.Moore.{moore_class}
use Rattle.msp_trees.specs.Horn.{horn_class}
use Rattle.msp_blocks.specs.Blocks.{blocks_class, unit_blocks_class}
use Rattle.msp_srpt.specs.Shortest.{shortest_class}
use Rattle.msp_wrap.specs.Wrap.{wrap_class}
use Rattle.msp_levels.specs.Levels.{levels_class}
use Rattle.msp_total.specs.Classes.{uniform_class, unrelated_class}
use Rattle.msp_total.specs.Slots.{tardiness_class, late_jobs_class}
use Rattle.msp_shops.specs.Classes.{johnson_class, jackson_class, jackson_cut_class}
use Rattle.msp_shops.specs.Open.{open_class}
use Rattle.msp_shops.specs.OpenCut.{open_cut_class}
use Rattle.msp_uniform.specs.Uniform.{cut_class, HasSmallUnit}
use Rattle.msp_lexical.specs.Lexical.{lexical_class}
use Rattle.msp_due.specs.Due.{tree_class, pair_class}
use Rattle.msp_cut_sums.specs.Sums.{cut_sum_class, cut_weights_class, open_weights_class, cut_open_weights_class}
use Rattle.msp_stairs.specs.Stairs.{stairs_class}
use Rattle.msp_places.specs.Classes.{places_most_class, places_late_class, places_count_class}
use Rattle.msp_levels.specs.Sums.{levels_sum_class}
use Rattle.msp_srpt.specs.EqualHeads.{equal_heads_class}
use Rattle.msp_total.specs.Classes.{lines_late_class, lines_count_class}
use Rattle.msp_threshold.specs.Squeezed.{lateness_class}
use Rattle.msp_weighted.specs.Late.{late_class, total_time}
use Rattle.msp_weighted.specs.declared.late_table.TheConstants.{GREATEST_TOTAL}
use Rattle.msp_dispatch.specs.declared.solved_list.SolvedClass.{SolvedClass}

abbrev pub solves : Class → SolverName → SolvedClass
solves c s = record { class = c; solver = s }

abbrev pub solved_list : List SolvedClass
solved_list =
    solves smith_class solver.Smith ∷
    solves lawler_class solver.Lawler ∷
    solves moore_class solver.Moore ∷
    solves horn_class solver.Horn ∷
    solves blocks_class solver.Blocks ∷
    solves unit_blocks_class solver.UnitBlocks ∷
    solves shortest_class solver.Shortest ∷
    solves wrap_class solver.Wrap ∷
    solves levels_class solver.Levels ∷
    solves uniform_class solver.Uniform ∷
    solves unrelated_class solver.Unrelated ∷
    solves tardiness_class solver.SlotsLate ∷
    solves late_jobs_class solver.SlotsCount ∷
    solves johnson_class solver.Johnson ∷
    solves jackson_class solver.Jackson ∷
    solves open_class solver.Open2 ∷
    solves open_cut_class solver.OpenCut ∷
    solves cut_class solver.UniformCut ∷
    solves lexical_class solver.Lexical ∷
    solves late_class solver.LateTable ∷
    solves lateness_class solver.Search ∷
    solves tree_class solver.TreeDue ∷
    solves pair_class solver.PairDue ∷
    solves stairs_class solver.Stairs ∷
    solves cut_sum_class solver.CutSum ∷
    solves cut_weights_class solver.CutWeights ∷
    solves open_weights_class solver.OpenWeights ∷
    solves cut_open_weights_class solver.CutOpenWeights ∷
    solves places_most_class solver.PlacesMost ∷
    solves places_late_class solver.PlacesLate ∷
    solves places_count_class solver.PlacesCount ∷
    solves levels_sum_class solver.LevelsSum ∷
    solves equal_heads_class solver.EqualHeads ∷
    solves jackson_cut_class solver.JacksonCut ∷
    solves lines_late_class solver.LinesLate ∷
    solves lines_count_class solver.LinesCount ∷
    []

abbrev pub solved_classes : List Class
solved_classes = map (λ s. s.class) solved_list

-- The solver of the name can solve the instance. Only two have a limit of their own: one on the unit of time that it may need, the other on
-- the size of its table.
abbrev pub Fits : SolverName → Instance → Type 0
Fits solver.UniformCut i = HasSmallUnit i
Fits solver.LateTable i = total_time i ≤ GREATEST_TOTAL
Fits _ i = ⊤
