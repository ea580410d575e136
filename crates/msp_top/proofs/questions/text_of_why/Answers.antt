-- The goals of `text_of_why` that are proved by lemmas.
use Rattle.msp_top.proofs.QuestionAnswers.{why_right}
use Rattle.msp_top.proofs.questions.text_of_why.Goals as goal

pub returns : goal.returns
returns c = why_right _ c.args.class c.args.entries.now c.in_ok-easy.easy c.in_ok-pseudo.pseudo c.in_ok-hard.hard c.in_ok-strong.strong c.why_text.result
    c.in_ok-easy.ensures.way c.in_ok-pseudo.ensures.way c.in_ok-hard.ensures.way c.in_ok-strong.ensures.way c.why_text.ensures
