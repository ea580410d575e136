-- What is read in parts. No public contract cites this file.
use Rattle.std.specs.Prelude.{ℕ, if◌then◌else◌, List, [], ◌∷◌, ◌++◌, Option, Some, None, bytes_eq}
use Rattle.msp_cert_text.specs.declared.kinds.Kind.{Kind}
use Rattle.msp_cert_text.specs.declared.kinds.Kind.TheVariants as kind
use Rattle.msp_cert_text.specs.declared.segments.Segments.{Segments}
use Rattle.msp_cert_text.specs.CertificateText.{kind_word}

-- The lists that came to an end, and the last one.
abbrev pub lists_of : Segments → List (List ℕ)
lists_of s = s.done ++ s.last ∷ []

-- The kind of a word, of the last three.
abbrev pub later_kind_in : List ℕ → Option Kind
later_kind_in w =
    if bytes_eq w (kind_word kind.Segments) then Some kind.Segments
    else if bytes_eq w (kind_word kind.Block) then Some kind.Block
    else if bytes_eq w (kind_word kind.Prices) then Some kind.Prices
    else None
