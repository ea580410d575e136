-- How whole reads and whole writes end.
use Rattle.std.specs.Prelude.{◌≡◌, ℕ, ◌+◌, ◌<◌, ◌≤◌, List, Result, OnOk, OnErr, length, take}
use Rattle.msp_io.specs.declared.whole.Taken.{Taken}
use Rattle.msp_io.specs.declared.whole.Taken.TheVariants.{ReadFault, TooLong, Memory}
use Rattle.msp_io.specs.declared.whole.WriteFault.{WriteFault}

-- How a whole read stopped that did not come to the end, by what was taken: one byte past the limit at `TooLong`, and otherwise at most
-- the limit; at `ReadFault` a read failed, and otherwise none did.
abbrev pub IsStop : (List ℕ → Type 0) → (List ℕ → Type 0) → Taken → ℕ → List ℕ → Type 0
IsStop gave broke TooLong limit taken = gave taken × (length taken ≡ limit + 1)
IsStop gave broke ReadFault limit taken = broke taken × (length taken ≤ limit)
IsStop gave broke Memory limit taken = gave taken × (length taken ≤ limit)

-- How a whole write ended: all of the bytes were taken, or only a front of them, and then a write failed.
pub record Puts (took broke : List ℕ → Type 0) (bytes : List ℕ) (result : Result (Unit {0}) WriteFault) : Type 0 where
  pub all : OnOk result (took bytes)
  pub stopped : OnErr result ((count : ℕ) × (count < length bytes) × broke (take count bytes))
