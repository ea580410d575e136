-- What an instance of the class of equal times has.
use Rattle.std.proofs.Common.{◌≡◌, ℕ, ◌<◌, length, ap, arith}
use Rattle.msp_instance.specs.declared.Instance.{Instance}
use Rattle.msp_instance.specs.Instance.{no_job, no_need, common_time}
use Rattle.msp_instance.specs.Conditions.{Inner}
use Rattle.msp_pieces.specs.BackToBack.{time_at}
use Rattle.msp_pieces.proofs.feasible.OfClass.{IsOfClass, IsOfClass-from}
use Rattle.msp_pieces.proofs.feasible.OneEach.{IsUncut, IsUncut-identical}
use Rattle.msp_route.proofs.OneInstances.{IsOneInstance, IsOneInstance-from}
use Rattle.msp_srpt.specs.EqualHeads.{equal_heads_class}

pub record IsEqualInstance (i : Instance) : Type 0 where
  pub one : IsOneInstance i
  pub of : IsOfClass i equal_heads_class
  pub same : (j : ℕ) → j < length i.jobs → time_at i j ≡ common_time i

pub IsEqualInstance-from_class : (i : Instance) → i.class ≡ equal_heads_class → Inner i → IsEqualInstance i
IsEqualInstance-from_class i e h =
    let one = IsOneInstance-from i (ap (λ c. c.env) e) h in
    let of = IsOfClass-from i equal_heads_class e h in
    record { one = one; of = of; same = λ j l. (of.jobs j no_job l).times 0 no_need (omega (arith, (one.needs j no_job l).0)) }

pub uncut : (i : Instance) → IsEqualInstance i → IsUncut i
uncut i h = IsUncut-identical i h.one.machine.kind h.of.cut h.one.few
