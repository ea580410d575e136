use Rattle.msp_instance.proofs.BitLemmas.{read_some, no_bit}
use Rattle.msp_instance.proofs.path_bits.Paths.leads.Goals as goal

pub returns-in-Some : goal.returns-in-Some
returns-in-Some c = read_some c.args.self.now.words c.args.self.now.width c.args.from c.args.to c.place.result c.in-Some.word.now c.place.ensures c.in-Some.ensures

pub returns-in-None : goal.returns-in-None
returns-in-None c = no_bit c.args.self.now.words c.args.self.now.width c.args.from c.args.to c.place.result c.place.ensures c.in-None.ensures
