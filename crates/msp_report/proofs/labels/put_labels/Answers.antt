-- The goals of `put_labels` that are proved by lemmas.
use Rattle.std.proofs.Common.{refl}
use Rattle.msp_report.specs.LabelsText.{label_line, label_lines}
use Rattle.msp_report.proofs.PutLemmas.{lines_more, all_put}
use Rattle.msp_report.proofs.labels.put_labels.Goals as goal

pub loop-c-preserved : goal.loop-c-preserved
loop-c-preserved c = lines_more (label_line c.args.labels.now) _ c.loop-c.out.items _ c.args.classes.now c.loop-c.c-index _ _ c.loop-c-test.true refl
    c.in_ok-put_label.ensures c.loop-c.invariant

pub returns : goal.returns
returns c = all_put (label_lines c.args.labels.now) _ c.loop-c.out.items c.args.classes.now c.loop-c.c-index refl c.loop-c-test.false c.loop-c.invariant
