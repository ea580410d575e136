use Rattle.std.proofs.Common.{rules, ◌+ℤ◌, ◌∙◌, arith, ap}
use Rattle.std.specs.Int.{w128}
use Rattle.std.proofs.lemmas.Int.{to_z-of_z}
use Rattle.msp_shops.proofs.Joining.{column_is, Joins-none, Joins-put, AreInRows-put}
use Rattle.msp_shops.proofs.slices.put_piece.Goals as goal

pub returns-then-job-columns-clause-joins : goal.returns-then-job-columns-clause-joins
returns-then-job-columns-clause-joins c =
    Joins-none c.args.columns _ c.args.machine c.args.row.now.moment c.args.slice.now c.args.row.now.pieces.items (column_is _ c.args.machine c.args.slice.now c.as_slice.ensures) c.if-job-columns.true

pub returns-clause-joins : goal.returns-clause-joins
returns-clause-joins c =
    Joins-put c.args.columns _ c.args.machine c.args.row.now.moment _ _ _ c.args.slice.now c.args.row.now.pieces.items _ _ (column_is _ c.args.machine c.args.slice.now c.as_slice.ensures)
    (omega (arith, c.if-job-columns.false)) c.in_ok-from.ensures.begun
    (to_z-of_z w128 _ (search rules)) (to_z-of_z w128 _ (search rules) ∙ c.end_of.ensures ∙ ap (λ t. t +ℤ c.args.slice.now.length) c.begin_of.ensures.moment) c.in_ok-push.ensures.items

pub returns-clause-rows : goal.returns-clause-rows
returns-clause-rows c =
    AreInRows-put _ c.args.machine c.args.row.now.moment _ _ _ c.args.slice.now.length c.args.row.now.pieces.items _ _ c.requires.lasts c.in_ok-from.ensures.begun
    (to_z-of_z w128 _ (search rules)) (to_z-of_z w128 _ (search rules) ∙ c.end_of.ensures ∙ ap (λ t. t +ℤ c.args.slice.now.length) c.begin_of.ensures.moment) c.in_ok-push.ensures.items c.requires.rows
