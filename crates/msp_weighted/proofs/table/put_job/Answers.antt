use Rattle.std.proofs.Common.{ℤ, ◌+◌, ◌-◌, ◌*◌, ◌/◌, length, rules, subst, arith}
use Rattle.std.proofs.lemmas.Int.{to_z-of_z}
use Rattle.std.specs.Int.{w64}
use Rattle.msp_weighted.specs.Values.{IsPut}
use Rattle.msp_weighted.proofs.RowFacts.{row-start, row-next, row-end}
use Rattle.msp_weighted.proofs.table.put_job.Goals as goal

pub loop-end-init : goal.loop-end-init
loop-end-init c = record {
  row = row-start _ _ _ _ _ _ _ _ c.moments_by-end.ensures.inside c.moments_by-end.ensures.early c.moments_by-end.ensures.late c.requires.clear;
  reached = c.requires.reached;
  room = c.requires.blocks;
}

pub put_block-requires-clause-small : goal.put_block-requires-clause-small
put_block-requires-clause-small c = λ t l. omega (arith, c.loop-end.invariant.row.kept t l, c.requires.small t (omega (arith, l, c.loop-end.invariant.row.inside)))

pub loop-end-preserved : goal.loop-end-preserved
loop-end-preserved c = record {
  row = row-next c.args.entry _ _ ((c.loop-end.end - 1 - c.args.entry.time) / 64 * 64 + c.args.entry.time)
      c.loop-end.end _ _ _ _ _ _ (omega arith) (omega (arith, c.loop-end-test.true)) c.requires.time c.loop-end.invariant.row c.put_block.ensures.put;
  reached = λ t l none. c.put_block.ensures.reached t (omega (arith, l, c.loop-end.auto.values)) none;
  room = omega (arith, c.loop-end.invariant.room, c.put_block.auto.reached);
}

pub returns-clause-put : goal.returns-clause-put
returns-clause-put c =
    let P : ℤ → Type 0 = λ due. IsPut c.args.entry.time c.args.entry.weight due c.args.entry.row (length c.args.values.now) c.args.values.now c.args.flags.now c.loop-end.values c.loop-end.flags in
    subst P (to_z-of_z w64 _ (search rules)) (row-end _ _ _ _ _ _ _ c.loop-end.end _ _ c.loop-end-test.false c.loop-end.invariant.row)
