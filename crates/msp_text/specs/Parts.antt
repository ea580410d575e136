-- The texts of pieces, one after another.
use Rattle.std.specs.Prelude.{ℕ, List, decimal}
use Rattle.std.specs.Fmt.{signed_decimal}
use Rattle.std.specs.List.{flat_map}
use Rattle.msp_text.specs.declared.parts.Part.{Part}
use Rattle.msp_text.specs.declared.parts.Part.TheVariants.{Text, Number, Integer}

-- The bytes of a text, or the digits of a number.
abbrev pub part_text : Part → List ℕ
part_text (Text bytes) = bytes.now
part_text (Number number) = decimal number
part_text (Integer number) = signed_decimal number

abbrev pub parts_text : List Part → List ℕ
parts_text parts = flat_map part_text parts
