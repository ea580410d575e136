-- What meets a bound meets each greater one.
use Rattle.std.proofs.Common.{ℤ, ◌≤ℤ◌, subst₂, arith}
use Rattle.std.proofs.lemmas.Int.{ints}
use Rattle.msp_class.proofs.IntegerRing.{*ℤ_comm, *ℤ-mono_nonneg, ≤ℤ_trans}
use Rattle.msp_instance.specs.declared.Instance.{Instance}
use Rattle.msp_threshold.specs.Squeezed.{CanMeet}

pub CanMeet-rises : (i : Instance) (b c : ℤ) → b ≤ℤ c → CanMeet i b → CanMeet i c
CanMeet-rises i b c h (s, f, m) = (s, f, ≤ℤ_trans m (subst₂ (λ x y. x ≤ℤ y) (*ℤ_comm s.unit b) (*ℤ_comm s.unit c) (*ℤ-mono_nonneg s.unit (omega (arith, ints, f.unit)) h)))
