-- What functions that read answer.
use Rattle.std.specs.Prelude.{◌≡◌, Result, Ok, Err}
use Rattle.msp_grammar.specs.declared.lines.fault.FileFault.{FileFault}
use Rattle.msp_grammar.specs.declared.lines.fault.FileFault.TheVariants.{Memory}

-- Where memory runs out, nothing is said. Another fault is the one that is due.
abbrev pub Fails : {Y : Type 0} → FileFault → Result Y FileFault → Type 0
Fails Memory due = Unit {0}
Fails e due = due ≡ Err e

-- The result, seen by view, is what is due, or memory runs out.
abbrev pub Gives : {X Y : Type 0} → (X → Y) → Result X FileFault → Result Y FileFault → Type 0
Gives view (Ok x) due = due ≡ Ok (view x)
Gives view (Err e) due = Fails e due

-- What was read, seen by view.
abbrev pub seen : {X Y : Type 0} → (X → Y) → Result X FileFault → Result Y FileFault
seen view (Ok x) = Ok (view x)
seen view (Err e) = Err e
