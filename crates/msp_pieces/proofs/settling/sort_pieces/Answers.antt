use Rattle.std.proofs.Common.{rules}
use Rattle.std.proofs.lemmas.List.Sorted.{answers_always}
use Rattle.msp_pieces.proofs.changes.SettledSchedules.{piece_less, piece_less-order, pieces_sorted}
use Rattle.msp_pieces.proofs.settling.sort_pieces.Goals as goal

pub returns-clause-sorted : goal.returns-clause-sorted
returns-clause-sorted c = pieces_sorted _ (c.sort_unstable_by.ensures.sorted piece_less piece_less-order (answers_always _ _ _ (λ f a r g h. search rules)))
