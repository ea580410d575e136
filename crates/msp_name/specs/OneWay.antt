-- What it means that texts are read in one way.
use Rattle.std.specs.Prelude.{◌≡◌, ◌⊎◌}

-- Each text has a value or a first fault, and not both. It has no other value, and no other first fault.
pub record AreReadOneWay {T V F : Type 0} (IsValue : T → V → Type 0) (IsFault : T → F → Type 0) : Type 0 where
  pub some : (t : T) → ((v : V) × IsValue t v) ⊎ ((e : F) × IsFault t e)
  pub not_both : (t : T) (v : V) (e : F) → IsValue t v → ¬ IsFault t e
  pub one_value : (t : T) (v w : V) → IsValue t v → IsValue t w → v ≡ w
  pub one_fault : (t : T) (e f : F) → IsFault t e → IsFault t f → e ≡ f
