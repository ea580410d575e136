use Rattle.std.proofs.Common.{rules, sym, ◌∙◌}
use Rattle.msp_total.specs.laws.Lines.{position_cost_at}
use Rattle.msp_total.proofs.positions.PositionsLines.on_line.Goals as goal

pub returns : goal.returns
returns c =
    let at = position_cost_at c.args.self.now.jobs c.args.self.now.machines c.args.self.now.times c.args.row c.args.line c.args.place c.requires.place in
    search rules ∙ sym at
