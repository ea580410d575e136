-- The goal of `put_items` that is proved by a lemma.
use Rattle.msp_name.specs.Names.{item_texts_of}
use Rattle.msp_name.proofs.PrintLemmas.{items_put}
use Rattle.msp_name.proofs.text.put_items.Goals as goal

pub returns-clause-items : goal.returns-clause-items
unfolding item_texts_of
returns-clause-items c =
    items_put _ _ _ _ _ _ _ _ _ _ _ _ _ _ _ _ _ _ _ _ _ _ _ _ _
    c.put_item-again.ensures.text
    c.put_item-again.ensures.again
    c.is_ordered.ensures
    c.order_word.ensures.text
    c.put_item-again-2.ensures.text
    c.put_item-again-2.ensures.again
    c.put_item-again-3.ensures.text
    c.put_item-again-3.ensures.again
    c.is_timed.ensures
    c.times_word.ensures.text
    c.put_item-again-4.ensures.text
    c.put_item-again-4.ensures.again
    c.has_item.ensures
    c.put_item.ensures.text
