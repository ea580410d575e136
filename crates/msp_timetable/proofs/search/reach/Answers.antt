use Rattle.std.proofs.Common.{rules, ◌≡◌, ◌<◌, subst, sym, ap, ◌∙◌, ◌++◌, ◌∷◌, [], ℕ, List, length, get_or}
use Rattle.std.proofs.lemmas.List.{get_or_default}
use Rattle.msp_assign.specs.Passing.{at}
use Rattle.std.proofs.lemmas.Bool.{false≢true}
use Rattle.msp_timetable.specs.Square.{stock}
use Rattle.msp_timetable.proofs.Lists.{none_held}
use Rattle.msp_timetable.proofs.Growth.{reads, IsFound-new, IsSearch-new, IsSearch-same}
use Rattle.msp_timetable.proofs.search.reach.Goals as goal

-- a row that is read from a list is one of the rows
row_read : {n r k : ℕ} (rows : List ℕ) → k < length rows → r ≡ get_or rows k r → at rows k < n → r < n
row_read {n} {r} {k} rows inside is small = subst (λ x. x < n) (sym (is ∙ get_or_default rows k r 0 inside)) small

pub has_stock-requires-clause-row : goal.has_stock-requires-clause-row
has_stock-requires-clause-row c = row_read _ c.requires.here c.index-else-index-square.ensures (c.requires.search.growing.rows _ c.requires.here)

pub has_stock-requires-2-clause-row : goal.has_stock-requires-2-clause-row
has_stock-requires-2-clause-row c =
    row_read _ (subst (λ n. c.args.column < n) (sym c.requires.owners.size) c.requires.column) c.index-row.ensures (c.requires.owners.each _ c.requires.column).0

pub returns-then-not-has_stock-2-clause-found : goal.returns-then-not-has_stock-2-clause-found
returns-then-not-has_stock-2-clause-found c = λ _.
    let (unreached, holds, owner) = reads (stock c.args.square.now) _ _ _ _ _ _ _ _ c.requires.search.growing.size c.requires.here c.requires.owners.size c.requires.column
    c.index.ensures c.if-index-square.false c.index-else-index-square.ensures (search rules) c.index-row.ensures in
    IsFound-new _ _ _ _ c.requires.permuted c.requires.owners _ _ _ _ _ c.requires.search c.requires.here c.requires.column unreached holds
    (subst (λ x. stock c.args.square.now x c.args.column ≡ 0) owner (none_held (λ q. false≢true (c.if-not-has_stock-2.ensures.1 q))))

pub returns-clause-search : goal.returns-clause-search
returns-clause-search c = λ _.
    let (unreached, holds, owner) = reads (stock c.args.square.now) _ _ _ _ _ _ _ _ c.requires.search.growing.size c.requires.here c.requires.owners.size c.requires.column
    c.index.ensures c.if-index-square.false c.index-else-index-square.ensures (search rules) c.index-row.ensures in
    IsSearch-same (IsSearch-new _ _ _ _ c.requires.permuted c.requires.owners _ _ _ _ _ c.requires.search c.requires.here c.requires.column unreached holds
    (subst (λ x. 0 < stock c.args.square.now x c.args.column) owner (search rules))) (ap (λ x. c.args.search.now.tree.items ++ x ∷ []) (sym owner) ∙ sym c.in_ok-push.ensures.items)
