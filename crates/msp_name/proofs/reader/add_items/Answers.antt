use Rattle.std.proofs.Common.{◌∙◌, arith}
use Rattle.msp_name.proofs.ItemSteps.{items_read-rest}
use Rattle.msp_name.proofs.reader.add_items.Goals as goal

pub words-preserved : goal.words-preserved
words-preserved c = (
  items_read-rest c.words.at c.words.class c.in_ok-class.class c.words.rest.now c.in-Some.word.now c.in-Some.more.now c.in-Some.ensures.0 c.in_ok-class.ensures
      ∙ c.words.invariant.0,
  omega (arith, c.words.invariant.1, c.in-Some.ensures.1),
)
