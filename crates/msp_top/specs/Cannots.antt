-- The status and the text of the note for each way in which an instance is not solved, or gets no certificate.
use Rattle.std.specs.Prelude.{ℕ, List, ◌++◌, codes}
use Rattle.msp_name.specs.Names.{name_of}
use Rattle.msp_dispatch.specs.declared.Cannot.{Cannot}
use Rattle.msp_dispatch.specs.declared.Cannot.TheVariants.{NoSolver, NotSolved, NoRoute, Unfit, Memory}
use Rattle.msp_dispatch.specs.declared.Uncertified.{Uncertified}
use Rattle.msp_dispatch.specs.declared.Uncertified.TheVariants as uncertified

-- The status where no solver is found for the class of an instance, where the class that is named cannot be taken, and where the instance
-- breaks the limit of the solver.
abbrev pub cannot_status : Cannot → ℕ
cannot_status (NoSolver class) = 5
cannot_status (NotSolved class) = 6
cannot_status (NoRoute from to) = 6
cannot_status (Unfit class) = 4
cannot_status Memory = 9

abbrev pub cannot_text : Cannot → List ℕ
cannot_text (NoSolver class) = codes "no solver for " ++ name_of class
cannot_text (NotSolved class) = name_of class ++ codes " is not solved"
cannot_text (NoRoute from to) = codes "no chain to " ++ name_of to
cannot_text (Unfit class) = codes "limit of the solver for " ++ name_of class
cannot_text Memory = codes "out of memory"

-- The status where no best cost of the class of an instance is certified, and where the instance breaks the limit of the solver.
abbrev pub uncertified_status : Uncertified → ℕ
uncertified_status (uncertified.NoCertificate class) = 5
uncertified_status (uncertified.Unfit class) = 4
uncertified_status uncertified.Memory = 9

abbrev pub uncertified_text : Uncertified → List ℕ
uncertified_text (uncertified.NoCertificate class) = codes "no certificate for " ++ name_of class
uncertified_text (uncertified.Unfit class) = cannot_text (Unfit class)
uncertified_text uncertified.Memory = codes "out of memory"
