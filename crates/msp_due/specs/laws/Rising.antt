-- What meets a bound meets each greater one.
use Rattle.std.proofs.Common.{ℤ, ◌≤ℤ◌}
use Rattle.msp_class.proofs.IntegerRing.{≤ℤ_trans}
use Rattle.msp_instance.specs.declared.Instance.{Instance}
use Rattle.msp_due.specs.Steps.{CanPlace}

pub CanPlace-rises : (i : Instance) (b c : ℤ) → b ≤ℤ c → CanPlace i b → CanPlace i c
CanPlace-rises i b c h (place, places, met) = (place, places, λ j l. ≤ℤ_trans (met j l) h)
