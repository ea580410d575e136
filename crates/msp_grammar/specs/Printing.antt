-- Fields as they are printed one after the other: each behind a space. No public contract cites this file.
use Rattle.std.specs.Prelude.{ℕ, List, ◌∷◌}
use Rattle.std.specs.List.{flat_map}
use Rattle.msp_text.specs.Bytes.{space_byte}

abbrev pub spaced : List (List ℕ) → List ℕ
spaced fields = flat_map (λ w. space_byte ∷ w) fields
