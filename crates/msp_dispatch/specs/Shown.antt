-- What proofs show, class by class. No public contract cites this file.
use Rattle.std.specs.Prelude.{⊤, ℕ, ◌^◌, ◌≤◌, List, Contains, pos}
use Rattle.msp_class.specs.declared.class.Class.{Class}
use Rattle.msp_instance.specs.declared.Instance.{Instance}
use Rattle.msp_pieces.specs.declared.Frac.{Frac}
use Rattle.msp_pieces.specs.Fraction.{IsOver}
use Rattle.msp_blocks.specs.Blocks.{blocks_class}
use Rattle.msp_wrap.specs.Wrap.{wrap_class}
use Rattle.msp_levels.specs.Levels.{levels_class}
use Rattle.msp_total.specs.Classes.{unrelated_class}
use Rattle.msp_shops.specs.Open.{open_class}
use Rattle.msp_shops.specs.OpenCut.{open_cut_class}
use Rattle.msp_uniform.specs.Uniform.{cut_class, HasSmallUnit}
use Rattle.msp_lexical.specs.Lexical.{lexical_class}
use Rattle.msp_cert.specs.declared.Proof.{Proof}
use Rattle.msp_cert.specs.Certificates.{HoldsFor, IsValue}
use Rattle.msp_cert.specs.Search.{HasValue, AreLongestFirst, AreAllLevels, tried}
use Rattle.msp_dispatch.specs.declared.certify.Maker.{Maker}
use Rattle.msp_dispatch.specs.declared.certify.Maker.TheVariants as maker
use Rattle.msp_dispatch.specs.Certify.{HasCertificate, FitsWhereWanted, IsProofOf, KeepsTextLimits}

-- The class that is certified by the solver.
abbrev pub class_of : Maker → Class
class_of maker.Wrap = wrap_class
class_of maker.UniformCut = cut_class
class_of maker.OpenCut = open_cut_class
class_of maker.Open2 = open_class
class_of maker.Levels = levels_class
class_of maker.Lexical = lexical_class
class_of maker.Unrelated = unrelated_class
class_of maker.Blocks = blocks_class

-- The instance fits the solver.
abbrev pub FitsMaker : Maker → Instance → Type 0
FitsMaker maker.UniformCut i = HasSmallUnit i
FitsMaker _ i = ⊤

-- The instance is of one of the classes, and fits the solver of its class.
pub record IsCertifiable (i : Instance) : Type 0 where
  pub listed : HasCertificate i.class
  pub fits : FitsWhereWanted i

-- The value of the proof is the cost, it is the one that the class gets, and a certificate of both keeps the limits of texts.
pub record Certifies (i : Instance) (cost : Frac) (proof : Proof) : Type 0 where
  pub value : HasValue i cost proof
  pub own : IsProofOf i cost proof
  pub limits : KeepsTextLimits (record { bound = cost; proof = proof })

-- One of the proofs that are tried shows the number over the unit, which are small, and the cost is that fraction.
pub record IsTriedValue (i : Instance) (cost : Frac) : Type 0 where
  pub value : ℕ
  pub unit : ℕ
  pub over : IsOver cost (pos value) (pos unit)
  pub some : 1 ≤ unit
  pub value_small : value ≤ 10 ^ 15
  pub unit_small : unit ≤ 10 ^ 9
  pub proof : (longest level : List ℕ) → AreLongestFirst i longest → AreAllLevels i level
      → (p : Proof) × Contains (tried i longest level) p × HoldsFor i p × IsValue i p (pos value) unit
