-- The goals of `take_timed` that are proved by lemmas.
use Rattle.std.proofs.Common.{◌<◌, ◌∷◌, ap, ◌∙◌, length, rules}
use Rattle.msp_file.proofs.instances.Pairs.{timed_next}
use Rattle.msp_file.proofs.instance.operations.take_timed.Goals as goal

pub returns-clause-leads : goal.returns-clause-leads
returns-clause-leads c =
    let some : 0 < length c.next_field.result.1.now = search rules in
    let both = c.next_field.ensures.whole c.requires ∙ ap (λ ws. c.next_field.result.0.now ∷ ws) (c.next_field-2.ensures.whole some) in
    timed_next _ _ _ _ _ _ _ _ _ _ both c.in_ok-machine.ensures c.in_ok-time.ensures.value c.in_ok-push_need.ensures
