use Rattle.std.proofs.Common.{arith}
use Rattle.std.proofs.lemmas.Bool.Decides.{nat_tests}
use Rattle.std.proofs.lemmas.List.{length-set, length_push, get_or-set_same, get_or-set_other, get_or_append_left, get_or_push}
use Rattle.msp_lexical.proofs.Counts.{AreLinks-none}
use Rattle.msp_lexical.proofs.links.links_of.Goals as goal

pub loop-place-init : goal.loop-place-init
loop-place-init c = AreLinks-none c.args.arcs.now c.in_ok-earlier.earlier.items c.in_ok-earlier.ensures.items

pub loop-place-preserved : goal.loop-place-preserved
loop-place-preserved c = grind (arith, nat_tests, length-set, length_push, get_or-set_same, get_or-set_other, get_or_append_left, get_or_push)
