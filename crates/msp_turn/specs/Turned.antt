-- Arcs that have their ends exchanged.
use Rattle.std.specs.Prelude.{List, map}
use Rattle.msp_instance.specs.declared.Arc.{Arc}

-- The arc the other way round.
abbrev pub turned_arc : Arc → Arc
turned_arc a = record { before = a.after; after = a.before }

abbrev pub turned_arcs : List Arc → List Arc
turned_arcs arcs = map turned_arc arcs
