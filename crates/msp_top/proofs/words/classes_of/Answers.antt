-- The goals of `classes_of` that are proved by lemmas.
use Rattle.std.proofs.Common.{string_bytes}
use Rattle.msp_top.proofs.NameWords.{not_all_names, classes_more}
use Rattle.msp_top.proofs.words.classes_of.Goals as goal

pub unreachable-requires : goal.unreachable-requires
unreachable-requires c = not_all_names string_bytes c.args.names.now
    c.loop-k.k c.index-names-k.result _ c.loop-k-test.true c.index-names-k.is c.as_str.ensures.value c.in-Err.ensures.read.1 c.requires.0 c.requires.1

pub loop-k-preserved : goal.loop-k-preserved
loop-k-preserved c =
    classes_more string_bytes c.args.names.now c.loop-k.k c.index-names-k.result _ c.in-Ok.class
    c.loop-k.classes _ c.loop-k-test.true c.index-names-k.is c.as_str.ensures.value c.in-Ok.ensures.read c.in_ok-put-in-Ok.ensures.put c.loop-k.invariant
