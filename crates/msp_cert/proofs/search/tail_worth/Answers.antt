use Rattle.std.proofs.Common.{arith}
use Rattle.msp_cert.proofs.Tails.{tail_is_worth}
use Rattle.msp_cert.proofs.search.tail_worth.Goals as goal

pub returns-clause-worth : goal.returns-clause-worth
returns-clause-worth c = λ level h e. tail_is_worth c.args.inst.now level c.requires.class h c.args.tail c.args.high c.bound_of.result c.over.result c.requires.units e
    (omega arith) c.bound_of.ensures c.over.ensures.num c.over.ensures.den
