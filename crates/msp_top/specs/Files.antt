-- The status of an input that is no instance text.
use Rattle.std.specs.Prelude.{ℕ}
use Rattle.msp_grammar.specs.declared.lines.fault.FileFault.{FileFault}
use Rattle.msp_grammar.specs.declared.lines.fault.FileFault.TheVariants as fault

-- A passed limit has a status of its own, and every other fault is bad input. Out of memory is no fault of the text.
abbrev pub file_status : FileFault → ℕ
file_status (fault.Limit at quantity) = 4
file_status fault.Memory = 9
file_status _ = 3
