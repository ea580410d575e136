use Rattle.msp_cert.proofs.judge.is_shown.Goals as goal

pub returns : goal.returns
returns c = c.shows.ensures c.args.inst.now c.args.proof.now c.in_ok-worth.ensures.worth
