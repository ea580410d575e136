-- What an instance of Lawler's class has.
use Rattle.std.proofs.Common.{◌≡◌, true, ap}
use Rattle.msp_class.specs.Crit.{is_greatest}
use Rattle.msp_instance.specs.declared.Instance.{Instance}
use Rattle.msp_instance.specs.Conditions.{Inner}
use Rattle.msp_single.specs.Lawler.{lawler_class}
use Rattle.msp_route.proofs.PlainJobs.{IsPlain, IsPlain-from}

pub record IsLawlerInstance (i : Instance) : Type 0 where
  pub greatest : is_greatest i.class.crit ≡ true
  pub plain : IsPlain i
  pub inner : Inner i

pub IsLawlerInstance-from_class : (i : Instance) → i.class ≡ lawler_class → Inner i → IsLawlerInstance i
IsLawlerInstance-from_class i e h = record {
  greatest = ap (λ c. is_greatest c.crit) e;
  plain = IsPlain-from i (ap (λ c. c.env) e) (ap (λ c. c.times) e) (ap (λ c. c.heads) e) h;
  inner = h;
}
