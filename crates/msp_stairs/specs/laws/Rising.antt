-- What meets a bound meets each greater one, and what ends by a moment ends by each later one.
use Rattle.std.proofs.Common.{ℤ, pos, nat_abs, ◌*ℤ◌, ◌≤ℤ◌, sym, subst, arith}
use Rattle.std.proofs.lemmas.Int.{ints}
use Rattle.msp_class.proofs.IntegerRing.{≤ℤ_trans, natural, *ℤ-mono_right}
use Rattle.msp_instance.specs.declared.Instance.{Instance}
use Rattle.msp_stairs.specs.Bounds.{CanMeet, CanEnd}

greater : (u b c : ℤ) → pos 1 ≤ℤ u → b ≤ℤ c → (b *ℤ u) ≤ℤ (c *ℤ u)
greater u b c some h = subst (λ u. (b *ℤ u) ≤ℤ (c *ℤ u)) (sym (natural u (omega (arith, ints, some)))) (*ℤ-mono_right (nat_abs u) h)

pub CanMeet-rises : (i : Instance) (b c : ℤ) → b ≤ℤ c → CanMeet i b → CanMeet i c
CanMeet-rises i b c h (s, f, met) = (s, f, ≤ℤ_trans met (greater s.unit b c f.unit h))

pub CanEnd-rises : (i : Instance) (late b c : ℤ) → b ≤ℤ c → CanEnd i late b → CanEnd i late c
CanEnd-rises i late b c h (s, f, met, ends) = (s, f, met, ≤ℤ_trans ends (greater s.unit b c f.unit h))
