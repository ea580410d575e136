-- What holds in the loop of `put_all`.
use Rattle.std.proofs.Common.{◌≡◌, ◌++◌, length, take}
use Rattle.msp_text.specs.Parts.{parts_text}
use Rattle.msp_text.proofs.parts.put_all.Given as goal

abbrev pub invariant-loop-part : goal.invariant-loop-part
invariant-loop-part l = (l.out.items ≡ l.initial.out.items ++ parts_text (take l.part-index l.parts)) × (l.length ≡ length l.initial.out.items)
