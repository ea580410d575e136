-- What certified solutions are made of: the report of a solver's answer, its class, and the proof of its cost.
use Rattle.std.proofs.Common.{◌≡◌, ◌≢◌, ℕ, ◌<◌, ◌≤◌, inl, List, [], ◌∷◌, get_or, Contains, Some, ℤ, pos, ◌≤ℤ◌, unsigned_abs, refl, sym, ap, ◌∙◌, subst, arith}
use Rattle.std.proofs.lemmas.Int.{ints}
use Rattle.std.proofs.lemmas.List.{get_or-map}
use Rattle.msp_class.specs.declared.class.Class.{Class}
use Rattle.msp_class.specs.declared.environments.EnvKind.{EnvKind}
use Rattle.msp_class.specs.declared.environments.EnvKind.TheVariants.{Unrelated, OpenShop}
use Rattle.msp_class.specs.declared.sizes.TheConstants.{GREATEST_UNIT}
use Rattle.msp_class.specs.Env.{kind_of}
use Rattle.msp_instance.specs.declared.Instance.{Instance}
use Rattle.msp_instance.specs.Conditions.{InClass}
use Rattle.msp_instance.proofs.Limits.{Inner-from_class}
use Rattle.msp_pieces.specs.declared.Frac.{Frac}
use Rattle.msp_pieces.specs.declared.Schedule.{Schedule}
use Rattle.msp_pieces.specs.declared.Solution.{Solution}
use Rattle.msp_pieces.specs.Feasible.{Feasible}
use Rattle.msp_pieces.specs.Fraction.{IsLowest, IsSameFraction, IsComparable}
use Rattle.msp_pieces.specs.Within.{Within}
use Rattle.msp_route.specs.Bounds.{IsAnswer, answer_unit}
use Rattle.msp_cert.specs.declared.Proof.{Proof}
use Rattle.msp_cert.specs.Search.{IsFound}
use Rattle.msp_cert.proofs.Found.{found_within, found_holds}
use Rattle.msp_dispatch.specs.declared.certify.Maker.{Maker}
use Rattle.msp_dispatch.specs.declared.certify.Maker.TheVariants as maker
use Rattle.msp_dispatch.specs.Dispatch.{IsReported}
use Rattle.msp_dispatch.specs.Certify.{HasCertificate, FitsWhereWanted, IsProofOf, found, searched_classes}
use Rattle.msp_dispatch.specs.Shown.{class_of, FitsMaker, IsCertifiable, Certifies, IsTriedValue}
use Rattle.msp_dispatch.proofs.evidence.Fractions.{IsNatural-lowest, whole_lowest, same_over}
use Rattle.msp_dispatch.proofs.evidence.Found.{IsShort-within}
use Rattle.msp_dispatch.proofs.evidence.Others.{IsWholeValue}

-- ---- a solver's answer is within the bounds of the calls
unit_small : (k : EnvKind) (u : ℤ) → u ≤ℤ answer_unit k → u ≤ℤ GREATEST_UNIT
unit_small Unrelated u h = omega (arith, ints, h)
unit_small OpenShop u h = omega (arith, ints, h)
unit_small _ u h = h

pub Within-answer : (i : Instance) (s : Schedule) → InClass i → Feasible i s → IsAnswer i s → Within i s
Within-answer i s c f a = record {
  unit = (f.unit, unit_small (kind_of i.class.env) s.unit a.unit);
  few = a.few;
  moments = λ k d l. let p = f.span k d l in let q = a.ends k d l in (
    (omega (arith, ints, p), omega (arith, ints, p, q)),
    (omega (arith, ints, p), omega (arith, ints, q)),
  );
  scaled = λ _. inl c;
}

-- ---- classes
abbrev pub makers : List Maker
makers = maker.Wrap ∷ maker.UniformCut ∷ maker.OpenCut ∷ maker.Open2 ∷ maker.Levels ∷ maker.Lexical ∷ maker.Unrelated ∷ maker.Blocks ∷ []

pub not_made : (c : Class) → ((k : ℕ) → k < 8 → class_of (get_or makers k maker.Wrap) ≢ c) → ¬ HasCertificate c
not_made c h (k, l, at) = h k l (sym (get_or-map class_of makers k maker.Wrap c l) ∙ at)

listed : (m : Maker) → HasCertificate (class_of m)
listed maker.Wrap = (0, omega arith, refl)
listed maker.UniformCut = (1, omega arith, refl)
listed maker.OpenCut = (2, omega arith, refl)
listed maker.Open2 = (3, omega arith, refl)
listed maker.Levels = (4, omega arith, refl)
listed maker.Lexical = (5, omega arith, refl)
listed maker.Unrelated = (6, omega arith, refl)
listed maker.Blocks = (7, omega arith, refl)

fits_by : (m : Maker) (i : Instance) → i.class ≡ class_of m → FitsMaker m i → FitsWhereWanted i
fits_by maker.UniformCut i e h = λ _. h
fits_by _ i e h = λ f. let x = ap (λ (c : Class). c.env) (sym e ∙ f) in absurd cc

pub IsCertifiable-made : (i : Instance) (m : Maker) → i.class ≡ class_of m → FitsMaker m i → IsCertifiable i
IsCertifiable-made i m e h = record { listed = subst HasCertificate (sym e) (listed m); fits = fits_by m i e h }

pub ruleset maker_rules = (Inner-from_class, IsCertifiable-made)

pub searched_class : (c d : Class) → c ≡ d → Contains searched_classes d → Contains searched_classes c
searched_class c d e h = subst (Contains searched_classes) (sym e) h

-- ---- the proof of the cost
pub IsTriedValue-same : (i : Instance) (a b : Frac) → IsSameFraction a b → IsTriedValue i a → IsTriedValue i b
IsTriedValue-same i a b same t = record {
  value = t.value;
  unit = t.unit;
  over = same_over a b (pos t.value) (pos t.unit) same t.over;
  some = t.some;
  value_small = t.value_small;
  unit_small = t.unit_small;
  proof = t.proof;
}

pub IsComparable-tried : (i : Instance) (cost : Frac) → IsLowest cost → IsTriedValue i cost → IsComparable cost
IsComparable-tried i cost low t =
    let n = IsNatural-lowest cost t.value t.unit t.some t.over low in
    record { num = omega (arith, ap unsigned_abs n.num, n.num_small, t.value_small); den = omega (arith, ap unsigned_abs n.den, n.den_small, t.unit_small) }

pub Certifies-found : (i : Instance) (cost : Frac) (p : Proof) → InClass i → Contains searched_classes i.class → IsLowest cost → IsTriedValue i cost → IsFound i cost (Some p) → Certifies i cost p
Certifies-found i cost p c first low t h =
    let n = IsNatural-lowest cost t.value t.unit t.some t.over low in
    let short = IsShort-within i p c (found_within i cost p c h) in
    record {
      value = found_holds i cost p h;
      own = found p first h;
      limits = record {
        num = (omega (arith, ints, n.num, n.num_small, t.value_small), omega (arith, ints, n.num, n.num_small, t.value_small));
        den = (cost.positive, omega (arith, ints, n.den, n.den_small, t.unit_small));
        proof = short.limits;
        levels = short.levels;
      };
    }

pub Certifies-whole : (i : Instance) (s : Solution) (p : Proof) → IsReported i s → IsWholeValue i s p → IsProofOf i s.cost p → Certifies i s.cost p
Certifies-whole i s p r w is =
    let (num, den) = whole_lowest s.cost w.value w.cost r.lowest in
    record {
      value = record { holds = w.holds; num = w.value; den = 1; value = w.is; same = w.cost };
      own = is;
      limits = record {
        num = (let l = w.small.0 in omega (arith, ints, num), let l = w.small.1 in omega (arith, ints, num));
        den = (s.cost.positive, omega (arith, ints, den));
        proof = w.short.limits;
        levels = w.short.levels;
      };
    }
