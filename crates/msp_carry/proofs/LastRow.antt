-- The last row of the table.
use Rattle.std.proofs.Common.{◌≡◌, ℕ, ◌↔◌, sym, subst}
use Rattle.msp_instance.specs.declared.Instance.{Instance}
use Rattle.msp_plain.specs.Equal.{led_to_unit}
use Rattle.msp_carry.specs.Carried.{lower_of}

pub last_row : (P : ℕ → Instance → Type 0) (row : ℕ) (i : Instance) → row ≡ 54 → P row (lower_of row i) ↔ P 54 (led_to_unit i)
unfolding lower_of
last_row P row i e = (subst (λ r. P r (lower_of r i)) e, subst (λ r. P r (lower_of r i)) (sym e))
