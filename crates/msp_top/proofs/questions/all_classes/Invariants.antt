-- What the loop of `all_classes` keeps.
use Rattle.msp_top.proofs.QuestionAnswers.{HasClasses}
use Rattle.msp_top.proofs.questions.all_classes.Given as goal

abbrev pub invariant-loop-n : goal.invariant-loop-n
invariant-loop-n l = HasClasses l.classes l.n
