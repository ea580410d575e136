use Rattle.msp_uniform.proofs.laying.put_taken.Goals as goal

pub returns-clause-some : goal.returns-clause-some
returns-clause-some c l = (_, c.in_ok-taken_of.ensures, c.in_ok-push_back.ensures.items)
