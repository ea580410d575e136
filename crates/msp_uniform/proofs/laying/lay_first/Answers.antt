use Rattle.std.proofs.Common.{[], ◌++◌, ◌∙◌, refl, ap, sym, arith}
use Rattle.std.specs.Option.{option_to_list}
use Rattle.msp_uniform.proofs.LayingFacts.{IsOneLaid-whole, gains_first, IsFirstLaid-made}
use Rattle.msp_uniform.proofs.laying.lay_first.Goals as goal

pub returns-then-whole-left : goal.returns-then-whole-left
returns-then-whole-left c = IsFirstLaid-made _ _ _ _ _ _ _ _ _ _ []
    (IsOneLaid-whole _ _ _ _ _ _ _ _ _ c.gain_of-gain.ensures.value _ _ (omega (arith, c.if-whole-left.true)) c.taken.ensures c.in_ok-push_back.ensures.items) (omega arith) c.requires.gains refl

pub lay_one-requires-clause-gains : goal.lay_one-requires-clause-gains
lay_one-requires-clause-gains c = gains_first _ _ c.args.segment _ c.requires.gains

pub returns-in-None : goal.returns-in-None
returns-in-None c = IsFirstLaid-made _ _ _ _ _ _ _ _ _ _ _ c.in_ok-laid.ensures.laid c.in_ok-laid.ensures.few c.requires.gains (sym (ap (λ o. option_to_list o ++ c.args.late.now.items) c.in-None.is))

pub returns-in_ok-push_front-in-Some : goal.returns-in_ok-push_front-in-Some
returns-in_ok-push_front-in-Some c = IsFirstLaid-made _ _ _ _ _ _ _ _ _ _ _ c.in_ok-laid.ensures.laid c.in_ok-laid.ensures.few c.requires.gains
    (c.in_ok-push_front-in-Some.ensures.items ∙ sym (ap (λ o. option_to_list o ++ c.args.late.now.items) c.in-Some.is))
