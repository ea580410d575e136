-- What is found among the proofs that are tried keeps the limits of texts, and where the cost is one of their values, something is found.
use Rattle.std.proofs.Common.{None, pos, arith}
use Rattle.std.proofs.lemmas.List.Elements.{All-contains}
use Rattle.msp_instance.specs.declared.Instance.{Instance}
use Rattle.msp_instance.specs.Conditions.{InClass}
use Rattle.msp_pieces.specs.declared.Frac.{Frac}
use Rattle.msp_cert.specs.declared.Proof.{Proof}
use Rattle.msp_cert.specs.declared.Proof.TheVariants.{Group, Machine, Line, Levels, Segments}
use Rattle.msp_cert.specs.Certificates.{KeepsLimits}
use Rattle.msp_cert.specs.Search.{HasValue, tried, IsFound}
use Rattle.msp_cert.proofs.Found.{KeepsWithin}
use Rattle.msp_dispatch.specs.Shown.{IsTriedValue}
use Rattle.msp_dispatch.specs.Certify.{HasLowLevels}

-- the proof keeps the limits of texts
pub record IsShort (p : Proof) : Type 0 where
  pub limits : KeepsLimits p
  pub levels : HasLowLevels p

pub IsShort-within : (i : Instance) (p : Proof) → InClass i → KeepsWithin i p → IsShort p
IsShort-within i (Group jobs) c h = record { limits = record { few = omega (arith, h.0, c.conditions.few); small = tt }; levels = tt }
IsShort-within i (Machine machine) c h = record { limits = record { few = omega arith; small = tt }; levels = tt }
IsShort-within i (Line job) c h = record { limits = record { few = omega arith; small = tt }; levels = tt }
IsShort-within i (Levels level tail) c h = record {
  limits = record { few = omega (arith, h.0, c.conditions.few); small = tt };
  levels = (λ k d l. omega (arith, h.1 k d l, c.conditions.few), omega (arith, h.2, c.conditions.few));
}
IsShort-within i (Segments lists) c h = absurd h
IsShort-within i _ c h = absurd h

pub found_some : (i : Instance) (cost : Frac) → IsTriedValue i cost → IsFound i cost None → ⊥
found_some i cost t h =
    let (p, among, holds, value) = t.proof h.longest h.level h.jobs h.levels in
    All-contains (λ p. ¬ HasValue i cost p) (tried i h.longest h.level) p h.first among (record { holds = holds; num = pos t.value; den = t.unit; value = value; same = t.over })
