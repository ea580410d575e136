use Rattle.std.proofs.Common.{◌≡◌, ◌+◌, ◌<◌, length}
use Rattle.msp_class.specs.declared.list.TheConstants.{PLACES}
use Rattle.msp_name.specs.Names.{comma}
use Rattle.msp_name.specs.Reading.{items_read, parts}
use Rattle.msp_name.proofs.reader.add_items.Given as goal

-- what is left gives the answer of the whole
abbrev pub invariant-words : goal.invariant-words
invariant-words l = (items_read l.at l.class (parts comma l.rest) ≡ items_read l.fn.at l.fn.class (parts comma l.fn.text)) × (l.at + length l.rest < PLACES)

abbrev pub decreases-words : goal.decreases-words
decreases-words l = length l.rest
