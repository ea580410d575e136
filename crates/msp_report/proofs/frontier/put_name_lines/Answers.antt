-- The goals of `put_name_lines` that are proved by lemmas.
use Rattle.std.proofs.Common.{refl}
use Rattle.msp_report.specs.FrontierText.{name_line, name_lines}
use Rattle.msp_report.proofs.PutLemmas.{lines_more, all_put}
use Rattle.msp_report.proofs.frontier.put_name_lines.Goals as goal

pub loop-c-preserved : goal.loop-c-preserved
unfolding name_line
loop-c-preserved c = lines_more name_line _ c.loop-c.out.items _ c.args.classes.now c.loop-c.c-index _ _ c.loop-c-test.true refl
    c.in_ok-put_name_line.ensures c.loop-c.invariant

pub returns : goal.returns
returns c = all_put name_lines _ c.loop-c.out.items c.args.classes.now c.loop-c.c-index refl c.loop-c-test.false c.loop-c.invariant
