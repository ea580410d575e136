-- The goals of `frontier` that are proved by lemmas.
use Rattle.msp_closure.proofs.StandingLemmas.{known_easy, known_hard, known_low, known_high}
use Rattle.msp_closure.proofs.frontier_lists.frontier.Goals as goal

pub returns-clause-known : goal.returns-clause-known
returns-clause-known c = λ es are. record {
  easy = known_easy es c.args.labels.now are c.in_ok-lists.lists.easy c.in_ok-lists.ensures.easy;
  hard = known_hard es c.args.labels.now are c.in_ok-lists.lists.hard c.in_ok-lists.ensures.hard;
  low = known_low es c.args.labels.now are c.in_ok-lists.lists.low c.in_ok-lists.ensures.low;
  high = known_high es c.args.labels.now are c.in_ok-lists.lists.high c.in_ok-lists.ensures.high;
}
