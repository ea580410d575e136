use Rattle.std.proofs.Common.{◌++◌}
use Rattle.msp_cert.specs.Search.{machines, lines, tails}
use Rattle.msp_cert.proofs.search.other_with.Goals as goal

pub returns : goal.returns
returns c =
    let i = c.args.inst.now in
    let (level, levels, with_tail) = c.in_ok-levels.ensures in (
      level,
      levels,
      c.earlier-2.ensures i c.args.cost.now (machines i) (lines i ++ tails i level)
          c.machine_with-machine.ensures (c.earlier.ensures i c.args.cost.now (lines i) (tails i level) c.line_with-line.ensures with_tail),
    )
