-- What the functions that read say: that they read as the definitions do, unless memory runs out.
use Rattle.std.specs.Prelude.{◌≡◌, ℕ, ℤ, ◌^◌, ◌==◌, Bool, true, false, List, [], ◌∷◌, Result, Ok, Err}
use Rattle.std.specs.List.{slice_split}
use Rattle.msp_grammar.specs.declared.lines.fault.FileFault.{FileFault}
use Rattle.msp_grammar.specs.declared.lines.fault.FileFault.TheVariants.{Memory}
use Rattle.msp_grammar.specs.lines.Answers.{Fails}
use Rattle.msp_pieces.specs.declared.Frac.{Frac}
use Rattle.msp_text.specs.declared.number.Spelled.{Spelled}
use Rattle.msp_text.specs.Bytes.{space_byte}
use Rattle.msp_text.specs.Numbers.{capped}
use Rattle.msp_grammar.specs.declared.lines.place.Lines.{Lines}
use Rattle.msp_grammar.specs.lines.Reading.{Place, LineRead, more_read, end_read}

-- By `Gives` a function reads what reading gives. The same of a function that leaves the place after what it read.
abbrev pub Moves : {X Y : Type 0} → (X → Y) → Result X FileFault → Place → Result (Y × Place) FileFault → Type 0
Moves view (Ok x) after read = read ≡ Ok (view x, after)
Moves view (Err e) after read = Fails e read

-- What reading gives is what it gives from the result on.
abbrev pub Leads : {X Y : Type 0} → (X → Result Y FileFault) → Result X FileFault → Result Y FileFault → Type 0
Leads next (Ok x) read = read ≡ next x
Leads next (Err e) read = Fails e read

-- A number as it is read in 128 bits.
abbrev pub spelled_as : Result ℤ FileFault → Result Spelled FileFault
spelled_as (Ok number) = Ok (capped number)
spelled_as (Err e) = Err e

-- A fraction by its numerator and its denominator.
abbrev pub parts_of : Frac → ℤ × ℤ
parts_of x = (x.num, x.den)

abbrev pub place_of : Lines → Place
place_of lines = record { at = lines.at; rest = lines.rest.now }

-- A slice has fewer items.
abbrev pub slice_limit : ℕ
slice_limit = 2 ^ 63

-- The parts of a text from the separator before them on.
abbrev pub parts_after : ℕ → List ℕ → List (List ℕ)
parts_after separator [] = []
parts_after separator (first ∷ bytes) = slice_split (λ byte. byte == separator) bytes

-- The fields of a line from the space before them on.
abbrev pub fields_after : List ℕ → List (List ℕ)
fields_after bytes = parts_after space_byte bytes

-- What a line was that is one more or the end, and what one after the head or a job was.
abbrev pub AfterLine : {A : Type 0} → (A → Place → Result (LineRead A) FileFault) → Result Bool FileFault → A → Place → A → Place → Type 0
AfterLine step (Ok true) d p e q = step d p ≡ Ok (more_read e q)
AfterLine step (Ok false) d p e q = step d p ≡ Ok (end_read e q)
AfterLine step (Err fault) d p e q = Fails fault (step d p)
