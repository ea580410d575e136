-- The goals of `text_of_frontier` that are proved by lemmas.
use Rattle.msp_top.proofs.QuestionAnswers.{frontier_right}
use Rattle.msp_top.proofs.questions.text_of_frontier.Goals as goal

pub returns : goal.returns
returns c = frontier_right _ c.args.entries.now c.in_ok-lists.lists c.args.clashes.now.clash c.args.clashes.now.strong_clash c.frontier_text.result
    (c.in_ok-lists.ensures.known c.args.entries.now c.in_ok-labels.ensures) c.requires c.frontier_text.ensures
