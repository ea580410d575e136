-- The goals of `close` that are proved by lemmas.
use Rattle.msp_closure.specs.Tables.{is_flagged}
use Rattle.msp_closure.proofs.LabelLemmas.{AreLabels-from}
use Rattle.msp_closure.proofs.labels.close.Goals as goal

pub returns : goal.returns
returns c =
    AreLabels-from c.args.entries.now
    (λ x. (
      is_flagged c.in_ok-to_easy.to_easy x,
      is_flagged c.in_ok-to_pseudo.to_pseudo x,
      is_flagged c.in_ok-from_hard.from_hard x,
      is_flagged c.in_ok-from_strong.from_strong x,
    ))
    c.in_ok-marks.marks
    (λ x. record {
      easy = c.in_ok-to_easy.ensures x;
      pseudo = c.in_ok-to_pseudo.ensures x;
      hard = c.in_ok-from_hard.ensures x;
      strong = c.in_ok-from_strong.ensures x;
    })
    c.in_ok-marks.ensures.len c.in_ok-marks.ensures.each
