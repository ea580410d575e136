-- Which classes get a certificate of the best cost, and what is answered there.
use Rattle.std.specs.Prelude.{◌≡◌, ⊤, ℕ, ◌^◌, ◌≤◌, List, [], ◌∷◌, Some, ℤ, pos, ◌≤ℤ◌, All, Contains}
use Rattle.msp_class.specs.declared.sizes.TheConstants.{MOST_JOBS, GREATEST_UNIT}
use Rattle.msp_class.specs.declared.class.Class.{Class}
use Rattle.msp_instance.specs.declared.Instance.{Instance}
use Rattle.msp_instance.specs.Conditions.{LiesWithin}
use Rattle.msp_pieces.specs.declared.Frac.{Frac}
use Rattle.msp_pieces.specs.Segments.{AreSegments, segments_bound}
use Rattle.msp_pieces.specs.Blocks.{IsBlock, IsBlockValue}
use Rattle.msp_assign.specs.declared.assignment.Assignment.{Assignment}
use Rattle.msp_route.specs.declared.answer.SolverName.TheVariants.{UniformCut}
use Rattle.msp_blocks.specs.Blocks.{blocks_class, greatest_head, IsBestCost}
use Rattle.msp_wrap.specs.Wrap.{wrap_class}
use Rattle.msp_levels.specs.Levels.{levels_class}
use Rattle.msp_total.specs.Classes.{unrelated_class}
use Rattle.msp_total.specs.Priced.{ArePricesOfBest, TakePositions, KeepsPricesSmall}
use Rattle.msp_shops.specs.Open.{open_class}
use Rattle.msp_shops.specs.OpenCut.{open_cut_class}
use Rattle.msp_uniform.specs.Uniform.{cut_class}
use Rattle.msp_lexical.specs.Lexical.{lexical_class, IsLeastCost}
use Rattle.msp_cert.specs.declared.Proof.{Proof}
use Rattle.msp_cert.specs.declared.Proof.TheVariants.{Group, Machine, Line, Levels, Segments, Block, Prices}
use Rattle.msp_cert.specs.declared.Certificate.{Certificate}
use Rattle.msp_cert.specs.declared.Certified.{Certified}
use Rattle.msp_cert.specs.Certificates.{KeepsLimits}
use Rattle.msp_cert.specs.Search.{HasValue, IsFound}
use Rattle.msp_dispatch.specs.declared.Uncertified.{Uncertified}
use Rattle.msp_dispatch.specs.declared.Uncertified.TheVariants.{NoCertificate, Unfit, Memory}
use Rattle.msp_dispatch.specs.Solved.{Fits}
use Rattle.msp_dispatch.specs.Dispatch.{IsReported}

-- The classes of which every best cost has a certificate: `P|pmtn|Cmax`, `Q|pmtn|Cmax`, `O|pmtn|Cmax`, `O2||Cmax`, `P|intree,p=1|Cmax`,
-- `P2|prec,p=1|Cmax`, `R||sumC` and `1|pmtn,prec,r|fmax`.
abbrev pub certified_classes : List Class
certified_classes = wrap_class ∷ cut_class ∷ open_cut_class ∷ open_class ∷ levels_class ∷ lexical_class ∷ unrelated_class ∷ blocks_class ∷ []

-- The first five, where the proof of the cost is found among those that are tried.
abbrev pub searched_classes : List Class
searched_classes = wrap_class ∷ cut_class ∷ open_cut_class ∷ open_class ∷ levels_class ∷ []

abbrev pub HasCertificate : Class → Type 0
HasCertificate class = Contains certified_classes class

-- The instance does not fail to fit the solver of its class. Of the classes above only one has a solver that not every instance fits.
abbrev pub FitsWhereWanted : Instance → Type 0
FitsWhereWanted i = i.class ≡ cut_class → Fits UniformCut i

-- Levels and a tail are at most MOST_JOBS in a text.
abbrev pub HasLowLevels : Proof → Type 0
HasLowLevels (Group jobs) = ⊤
HasLowLevels (Machine machine) = ⊤
HasLowLevels (Line job) = ⊤
HasLowLevels (Levels level tail) = All (λ l. l ≤ MOST_JOBS) level × (tail ≤ MOST_JOBS)
HasLowLevels (Segments lists) = ⊤
HasLowLevels (Block head jobs) = ⊤
HasLowLevels (Prices row column) = ⊤

-- The certificate keeps the limits of certificate texts: its bound is at most 10^24 in size over 1 to GREATEST_UNIT, and its proof has at most
-- MOST_ENTRIES entries, none of them too great.
pub record KeepsTextLimits (c : Certificate) : Type 0 where
  pub num : LiesWithin (10 ^ 24) c.bound.num
  pub den : (pos 1 ≤ℤ c.bound.den) × (c.bound.den ≤ℤ GREATEST_UNIT)
  pub proof : KeepsLimits c.proof
  pub levels : HasLowLevels c.proof

-- The proof of a best cost that a class gets: what `find` gives for the cost in the first five classes; segments as `segments` gives them,
-- prices as `prices` does, of a least assignment and with some column price 0, and a block as `binding` does in the others.
pub data IsProofOf (i : Instance) (cost : Frac) : Proof → Type 0 where
  found : (proof : Proof) → Contains searched_classes i.class → IsFound i cost (Some proof) → IsProofOf i cost proof
  segmented : (lists : List (List ℕ)) → i.class ≡ lexical_class → AreSegments i lists → IsLeastCost i (segments_bound i lists) → IsProofOf i cost (Segments lists)
  priced : (a : Assignment) → i.class ≡ unrelated_class → ArePricesOfBest i a → TakePositions i a → KeepsPricesSmall i a → IsProofOf i cost (Prices a.row_price a.column_price)
  bounded : (head jobs : List ℕ) (value : ℤ) → i.class ≡ blocks_class
      → IsBlock i head jobs → IsBlockValue i head jobs value → IsBestCost i value → All (λ h. h ≤ greatest_head) head → IsProofOf i cost (Block head jobs)

-- The answer to an instance of one of the classes: a best solution in the form of a report, and a certificate whose bound is its cost, and
-- whose evidence holds with just that value, by the proof that the class gets.
pub record IsCertified (i : Instance) (c : Certified) : Type 0 where
  pub listed : HasCertificate i.class
  pub fits : FitsWhereWanted i
  pub class : c.class ≡ i.class
  pub solution : IsReported i c.solution
  pub bound : c.certificate.bound ≡ c.solution.cost
  pub value : HasValue i c.certificate.bound c.certificate.proof
  pub proof : IsProofOf i c.certificate.bound c.certificate.proof
  pub limits : KeepsTextLimits c.certificate

-- Why an instance gets no certificate: its class is none of those above, or it does not fit the solver of preemptive jobs on uniform
-- machines, or the memory is used up.
abbrev pub IsUncertified : Instance → Uncertified → Type 0
IsUncertified i (NoCertificate c) = (c ≡ i.class) × (¬ HasCertificate i.class)
IsUncertified i (Unfit c) = (c ≡ i.class) × (i.class ≡ cut_class) × (¬ Fits UniformCut i)
IsUncertified i Memory = ⊤
