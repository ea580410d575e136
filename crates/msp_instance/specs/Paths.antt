-- Paths of arcs, and why the jobs of an instance have no order in which every arc goes forward.
use Rattle.std.specs.Prelude.{ℕ, ◌<◌, Bool, List, length, Contains, ⊤, IsTrue, ◌↔◌}
use Rattle.msp_instance.specs.declared.Arc.{Arc}
use Rattle.msp_instance.specs.declared.Instance.{Instance}
use Rattle.msp_instance.specs.declared.path_bits.Paths.{Paths}
use Rattle.msp_instance.specs.declared.sequence.OrderFault.{OrderFault}
use Rattle.msp_instance.specs.declared.sequence.OrderFault.TheVariants.{Cycle, Memory}
use Rattle.msp_instance.specs.Conditions.{IsAcyclic}
use Rattle.msp_instance.specs.Bits.{has_bit}

-- An arc goes from one job to another.
abbrev pub HasStep : List Arc → ℕ → ℕ → Type 0
HasStep arcs j k = Contains arcs (record { before = j; after = k })

-- A path of at least one arc leads from one job to another.
pub data HasPath (arcs : List Arc) : ℕ → ℕ → Type 0 where
  one : {j k : ℕ} → HasStep arcs j k → HasPath arcs j k
  more : {j k l : ℕ} → HasStep arcs j k → HasPath arcs k l → HasPath arcs j l

-- Whether the first job has the bit of the second.
abbrev pub leads : Paths → ℕ → ℕ → Bool
leads p = has_bit p.words p.width

-- They say of each two jobs whether a path of at least one arc leads from the first to the second.
abbrev pub ShowsPaths : Instance → Paths → Type 0
ShowsPaths i p = (j k : ℕ) → j < length i.jobs → k < length i.jobs → IsTrue (leads p j k) ↔ HasPath i.arcs j k

-- The least of n jobs from which a path leads to itself.
pub record IsLeastOnCycle (n : ℕ) (arcs : List Arc) (j : ℕ) : Type 0 where
  pub inside : j < n
  pub cycle : HasPath arcs j j
  pub least : (k : ℕ) → k < j → ¬ HasPath arcs k k

-- What an order fault says. Out of memory says nothing.
abbrev pub IsOrderFault : Instance → OrderFault → Type 0
IsOrderFault i (Cycle j) = (¬ IsAcyclic i) × IsLeastOnCycle (length i.jobs) i.arcs j
IsOrderFault i Memory = ⊤
