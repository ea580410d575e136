-- In open shops the load of a machine or the length of a job shows the best cost.
use Rattle.std.proofs.Common.{◌≡◌, ℕ, ◌^◌, ◌<◌, ◌≤◌, inl, inr, List, length, Contains, pos, refl, ap, subst, arith}
use Rattle.std.specs.Prelude.{⊤, MatchOption}
use Rattle.msp_class.specs.Env.{is_shop, fixed_machines}
use Rattle.msp_instance.specs.declared.Instance.{Instance}
use Rattle.msp_instance.specs.Conditions.{InClass}
use Rattle.msp_pieces.specs.declared.Frac.{Frac}
use Rattle.msp_pieces.specs.Fraction.{IsOver}
use Rattle.msp_pieces.specs.Loads.{machine_load, job_length}
use Rattle.msp_cert.specs.declared.Proof.{Proof}
use Rattle.msp_cert.specs.declared.Proof.TheVariants.{Machine, Line}
use Rattle.msp_cert.specs.Certificates.{IsShop, HoldsFor, IsValue}
use Rattle.msp_cert.specs.Search.{tried}
use Rattle.msp_shops.specs.Open.{open_class, IsOpenCost}
use Rattle.msp_shops.specs.OpenCut.{open_cut_class, IsOpenCutCost}
use Rattle.msp_dispatch.specs.Shown.{IsTriedValue}
use Rattle.msp_dispatch.proofs.evidence.Sizes.{load_short, length_short}
use Rattle.msp_dispatch.proofs.evidence.Tried.{tried-machine, tried-line}

module _ (i : Instance) (c : InClass i) (shop : IsShop i) (cost : Frac) (end : ℕ) (over : IsOver cost (pos end) (pos 1)) where
  of_proof : (p : Proof) → end ≤ 10 ^ 15 → ((longest level : List ℕ) → Contains (tried i longest level) p)
      → HoldsFor i p → IsValue i p (pos end) 1 → IsTriedValue i cost
  of_proof p short among holds is = record {
    value = end;
    unit = 1;
    over = over;
    some = omega arith;
    value_small = short;
    unit_small = omega arith;
    proof = λ longest level _ _. (p, among longest level, holds, is);
  }

  IsTriedValue-machine : (m : ℕ) → m < i.machines → end ≡ machine_load i m → IsTriedValue i cost
  IsTriedValue-machine m l e =
      of_proof (Machine m) (omega (arith, e, load_short i c m)) (λ longest level. tried-machine i longest level m l) (shop, l) (ap pos e, refl)

  IsTriedValue-line : (j : ℕ) → j < length i.jobs → end ≡ job_length i j → IsTriedValue i cost
  IsTriedValue-line j l e =
      of_proof (Line j) (omega (arith, e, length_short i c j l)) (λ longest level. tried-line i longest level j l) (shop, l) (ap pos e, refl)

pub IsTriedValue-open_cut : (i : Instance) (cost : Frac) → InClass i → i.class ≡ open_cut_class → IsOpenCutCost i cost → IsTriedValue i cost
IsTriedValue-open_cut i cost c class (end, greatest, over) = elim greatest.reached [
  | inl (m, l, e) ↦ IsTriedValue-machine i c shop cost end over m l e
  | inr (j, l, e) ↦ IsTriedValue-line i c shop cost end over j l e
]
  where
    shop : IsShop i
    shop = record { makespan = ap (λ x. x.crit) class; shop = ap (λ x. is_shop x.env) class }

pub IsTriedValue-open : (i : Instance) (cost : Frac) → InClass i → i.class ≡ open_class → IsOpenCost i cost → IsTriedValue i cost
IsTriedValue-open i cost c class (end, greatest, over) = elim greatest.reached [
  | inl e ↦ IsTriedValue-machine i c shop cost end over 0 (omega (arith, two)) e
  | inr (inl e) ↦ IsTriedValue-machine i c shop cost end over 1 (omega (arith, two)) e
  | inr (inr (j, l, e)) ↦ IsTriedValue-line i c shop cost end over j l e
]
  where
    shop : IsShop i
    shop = record { makespan = ap (λ x. x.crit) class; shop = ap (λ x. is_shop x.env) class }

    two : i.machines ≡ 2
    two = subst (λ e. MatchOption (fixed_machines e) ⊤ (λ m. i.machines ≡ m)) (ap (λ x. x.env) class) c.conditions.machines.2
