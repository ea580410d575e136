use Rattle.std.proofs.Common.{◌++◌, ◌∙◌, ap, sym, append-nil}
use Rattle.std.specs.Option.{option_to_list}
use Rattle.msp_uniform.proofs.LayingFacts.{IsOneLaid-behind}
use Rattle.msp_uniform.proofs.laying.lay_both.Goals as goal

pub returns-in-None : goal.returns-in-None
returns-in-None c = IsOneLaid-behind _ _ _ _ _ _ _ _ _ _ c.in_ok-laid.ensures.laid c.args.parts.now.second.items _
    (sym (ap (λ o. c.args.parts.now.second.items ++ option_to_list o) c.in-None.is ∙ append-nil c.args.parts.now.second.items))

pub returns-in_ok-push_back-in-Some : goal.returns-in_ok-push_back-in-Some
returns-in_ok-push_back-in-Some c = IsOneLaid-behind _ _ _ _ _ _ _ _ _ _ c.in_ok-laid.ensures.laid c.args.parts.now.second.items _
    (c.in_ok-push_back-in-Some.ensures.items ∙ sym (ap (λ o. c.args.parts.now.second.items ++ option_to_list o) c.in-Some.is))
